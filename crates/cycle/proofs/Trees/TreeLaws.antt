-- The tree in closed form: what stands above a place, how wide a level is, which places a bucket groups, and which data
-- buckets lie under it.
-- Assumes nothing.
use mathlib.Core.Path.{◌≡◌, refl, sym, ap, subst, ◌∙◌}
use mathlib.Core.Logic.{⊎_elim}
use Prim.Native.Nat.{ℕ, zero, suc, ◌+◌, ◌-◌, ◌*◌, ◌/◌, ◌^◌, ◌≤◌, ◌<◌, min}
use native.Mathlib.Nat.{zero-add, suc-add, pow-zero, pow-succ', suc-mul, mul-one, mul_assoc, one-le-pow, div-one, div-div-eq-div-mul, le-div_iff_mul-le, div-lt_iff_lt-mul, div-mul-le_self, lt-div-mul-add, mul-div_cancel, mul-le-mul_right, le-mul_of_pos_right, lt_of_mul-lt-mul_right, zero-div, le_antisymm, le_trans, div-eq_of_lt-le}
use native.Mathlib.Numerals.{add-one}
use native.Mathlib.Omega.{arith}
use mathlib.Core.List.{◌∷◌, Memᴰ}
use lib.Pow.{pow-add}
use lib.ListN.{length}
use Rattle.columns.specs.Lists.{last_or, range, up}
use Rattle.cycle.specs.Tree.{Plan, grouped, width, children, above, under, data_under}
use Rattle.cycle.proofs.Basics.Ranges.{le_or_lt, length_range, range_empty, range_cons, range_cut, in_range, last_range, joined_ranges}

-- ---- above

pub above_div : (n h j : ℕ) → above n h j ≡ j / n ^ h
above_div n zero j = rw pow-zero (sym (div-one j))
above_div n (suc h) j = above_div n h (j / n) ∙ div-div-eq-div-mul j n (n ^ h) ∙ ap (λ x. j / x) (sym (pow-succ' n h))

pub above_add : (n a b j : ℕ) → above n (a + b) j ≡ above n b (above n a j)
above_add n zero b j = rw zero-add
above_add n (suc a) b j = rw suc-add (above_add n a b (j / n))

-- the bucket above, one level higher
pub above_suc : (n h j : ℕ) → above n (suc h) j ≡ above n h j / n
above_suc n h j = ap (λ x. above n x j) (sym (add-one h)) ∙ above_add n h 1 j

pub above_zero : (n h : ℕ) → above n h 0 ≡ 0
above_zero n h = above_div n h 0 ∙ zero-div (n ^ h)

module _ (n h : ℕ) (pos : 0 < n) where
  pub above_le : (c q : ℕ) → c ≤ above n h q → c * n ^ h ≤ q
  above_le c q l = (le-div_iff_mul-le (one-le-pow h n pos)).0 (rw above_div at l)

  pub le_above : (c q : ℕ) → c * n ^ h ≤ q → c ≤ above n h q
  le_above c q l = rw above_div ((le-div_iff_mul-le (one-le-pow h n pos)).1 l)

  pub above_lt : (c q : ℕ) → above n h q < c → q < c * n ^ h
  above_lt c q l = (div-lt_iff_lt-mul (one-le-pow h n pos)).0 (rw above_div at l)

  pub lt_above : (c q : ℕ) → q < c * n ^ h → above n h q < c
  lt_above c q l = rw above_div ((div-lt_iff_lt-mul (one-le-pow h n pos)).1 l)

  pub above_mono : (a b : ℕ) → a ≤ b → above n h a ≤ above n h b
  above_mono a b l = le_above (above n h a) b (le_trans (above_le (above n h a) a (omega arith)) l)

  -- the first place under c
  pub above_first : (c : ℕ) → above n h (c * n ^ h) ≡ c
  above_first c = above_div n h (c * n ^ h) ∙ mul-div_cancel c (one-le-pow h n pos)

-- ---- rounding up

module _ (a b c : ℕ) (pos : 0 < b) where
  pub lt_up : c * b < a → c < up a b
  unfolding up
  lt_up h = (le-div_iff_mul-le {x = suc c} pos).1 (omega arith)

  pub up_lt : c < up a b → c * b < a
  unfolding up
  up_lt h = let g : suc c * b ≤ a + (b - 1) = (le-div_iff_mul-le {x = suc c} pos).0 h in omega arith

  -- the least that covers a
  pub up_least : a ≤ c * b → up a b ≤ c
  up_least h = ⊎_elim (λ (l : up a b ≤ c). l) (λ (l : c < up a b). let g = up_lt l in absurd (omega arith)) (le_or_lt (up a b) c)

-- what fits into a is not above it
pub le_up : (a b c : ℕ) → 0 < b → c * b ≤ a → c ≤ up a b
unfolding up
le_up a b c pos h = (le-div_iff_mul-le {x = c} pos).1 (omega arith)

pub up_covers : (a b : ℕ) → 0 < b → a ≤ up a b * b
up_covers a b pos =
    ⊎_elim
    (λ (l : a ≤ up a b * b). l)
    (λ (l : up a b * b < a). let g = lt_up a b (up a b) pos l in absurd (omega arith))
    (le_or_lt a (up a b * b))

-- rounding up adds nothing
pub up_at_most : (c p : ℕ) → 1 ≤ p → up c p ≤ c
up_at_most c p h = up_least c p c h (le-mul_of_pos_right c h)

-- two numbers with the same numbers below them
pub same_below : (a b : ℕ) → ((c : ℕ) → c < a → c < b) → ((c : ℕ) → c < b → c < a) → a ≡ b
same_below a b f g = le_antisymm (half a b f) (half b a g)
  where
    half : (x y : ℕ) → ((c : ℕ) → c < x → c < y) → x ≤ y
    half x y u = ⊎_elim (λ (l : x ≤ y). l) (λ (l : y < x). let z = u y l in absurd (omega arith)) (le_or_lt x y)

-- ---- widths

module _ (n d : ℕ) (pos : 0 < n) where
  pub lt_grouped : (h c : ℕ) → c * n ^ h < d → c < grouped n d h
  lt_grouped zero c l = rw (pow-zero, mul-one) at l
  lt_grouped (suc h) c l =
      lt_up (grouped n d h) n c pos (lt_grouped h (c * n) (rw mul_assoc (rw pow-succ' at l)))

  pub grouped_lt : (h c : ℕ) → c < grouped n d h → c * n ^ h < d
  grouped_lt zero c l = rw (pow-zero, mul-one) l
  grouped_lt (suc h) c l = rw (pow-succ', ← mul_assoc) (grouped_lt h (c * n) (up_lt (grouped n d h) n c pos l))

  pub grouped_up : (h : ℕ) → grouped n d h ≡ up d (n ^ h)
  grouped_up h =
      let p : 0 < n ^ h = one-le-pow h n pos in
      same_below (grouped n d h) (up d (n ^ h))
      (λ c l. lt_up d (n ^ h) c p (grouped_lt h c l))
      (λ c l. lt_grouped h c (up_lt d (n ^ h) c p l))

-- ends past a covered end
pub min_covered : (d w x m : ℕ) → d ≤ w * m → min d (min x w * m) ≡ min d (x * m)
min_covered d w x m h =
    ⊎_elim
    (λ (l : x ≤ w). let e : min x w ≡ x = omega arith in rw e)
    (λ (l : w < x).
    let e : min x w ≡ w = omega arith in
    let g : w * m ≤ x * m = mul-le-mul_right m (omega arith) in
    rw e (omega arith))
    (le_or_lt x w)

pub covered_row :
    (d a n w m : ℕ) → d ≤ w * m →
    range (min d (a * m)) (min d ((a + (min (a + n) w - a)) * m)) ≡ range (a * m) (min d ((a + n) * m))
covered_row d a n w m h =
    ⊎_elim
    (λ (l : a ≤ w).
    let e : a + (min (a + n) w - a) ≡ min (a + n) w = omega arith in
    rw (e, min_covered d w (a + n) m h) (sym (range_cut d (a * m) ((a + n) * m))))
    (λ (l : w < a).
    let e : a + (min (a + n) w - a) ≡ a = omega arith in
    let g : w * m ≤ a * m = mul-le-mul_right m (omega arith) in
    rw e
    (range_empty (min d (a * m)) (min d (a * m)) (omega arith)
    ∙ sym (range_empty (a * m) (min d ((a + n) * m)) (omega arith))))
    (le_or_lt a w)

module _ (t : Plan) (pos : 0 < t.n) where
  pub lt_width : (i c : ℕ) → c * t.n ^ (t.k + 1 - i) < t.d → c < width t i
  unfolding width
  lt_width i c = lt_grouped t.n t.d pos (t.k + 1 - i) c

  pub width_lt : (i c : ℕ) → c < width t i → c * t.n ^ (t.k + 1 - i) < t.d
  unfolding width
  width_lt i c = grouped_lt t.n t.d pos (t.k + 1 - i) c

  pub width_up : (i : ℕ) → width t i ≡ up t.d (t.n ^ (t.k + 1 - i))
  unfolding width
  width_up i = grouped_up t.n t.d pos (t.k + 1 - i)

  pub width_covers : (i : ℕ) → t.d ≤ width t i * t.n ^ (t.k + 1 - i)
  width_covers i = rw width_up (up_covers t.d (t.n ^ (t.k + 1 - i)) (one-le-pow (t.k + 1 - i) t.n pos))

  -- one root
  pub width_root : t.d ≤ t.n ^ t.k → width t 1 ≤ 1
  width_root h =
      let e : t.k + 1 - 1 ≡ t.k = omega arith in
      let p : 0 < t.n ^ t.k = one-le-pow t.k t.n pos in
      rw (width_up, e) (up_least t.d (t.n ^ t.k) 1 p (omega arith))

  -- the root is above every bucket
  pub width_rooted : t.d ≤ t.n ^ t.k → (i j : ℕ) → 1 ≤ i → i ≤ t.k + 1 → j < width t i → above t.n (i - 1) j ≡ 0
  width_rooted h i j low high l =
      let up : ℕ = i - 1 in
      let down : ℕ = t.k + 1 - i in
      let s : j * t.n ^ down < t.d = width_lt i j l in
      let e : t.k ≡ up + down = omega arith in
      let all : t.n ^ t.k ≡ t.n ^ up * t.n ^ down = ap (λ x. t.n ^ x) e ∙ pow-add t.n up down in
      let small : j < t.n ^ up = lt_of_mul-lt-mul_right (t.n ^ down) (omega arith) in
      let none : above t.n up j < 1 = lt_above t.n up pos 1 j (omega arith) in
      omega arith

  -- ---- children

  pub children_bounds :
      (i j c : ℕ) → c / t.n ≡ j → c < width t (suc i) → (j * t.n ≤ c) × (c < min (j * t.n + t.n) (width t (suc i)))
  children_bounds i j c e l =
      let low : c / t.n * t.n ≤ c = div-mul-le_self c t.n in
      let high : c < c / t.n * t.n + t.n = lt-div-mul-add pos in
      let low' : j * t.n ≤ c = rw e at low in
      let high' : c < j * t.n + t.n = rw e at high in
      (low', omega arith)

  pub bounds_child : (j c : ℕ) → j * t.n ≤ c → c < j * t.n + t.n → c / t.n ≡ j
  bounds_child j c low high = div-eq_of_lt-le t.n low (rw add-one (omega arith))

  pub in_children : {c : ℕ} (i j : ℕ) → Memᴰ c (children t i j) → (c / t.n ≡ j) × (c < width t (suc i))
  unfolding children
  in_children {c} i j m =
      let b = in_range (j * t.n) (min (j * t.n + t.n) (width t (suc i))) m in
      (bounds_child j c b.0 (omega arith), omega arith)

  -- how many: they are numbered from j * n on
  pub length_children : (i j : ℕ) → length (children t i j) ≡ min (j * t.n + t.n) (width t (suc i)) - j * t.n
  unfolding children
  length_children i j = length_range (j * t.n) (min (j * t.n + t.n) (width t (suc i)))

  -- ---- the data under a bucket

  pub under_range :
      (h i j : ℕ) → i + h ≡ t.k + 1 → (h ≡ 0 → j < t.d) → under t h i j ≡ range (j * t.n ^ h) (min t.d (suc j * t.n ^ h))
  unfolding children
  under_range zero i j e g =
      let l : j < t.d = g refl in
      let s : min t.d (suc j) ≡ suc j = omega arith in
      rw (pow-zero, mul-one, mul-one, s) (sym (range_cons j (suc j) (omega arith) ∙ ap (λ x. j ∷ x) (range_empty (suc j) (suc j) (omega arith))))
  under_range (suc h) i j e g =
      let m : ℕ = t.n ^ h in
      let a : ℕ = j * t.n in
      let w : ℕ = width t (suc i) in
      let height : t.k + 1 - suc i ≡ h = omega arith in
      let covers : t.d ≤ w * m = subst (λ x. t.d ≤ w * t.n ^ x) height (width_covers (suc i)) in
      let each : (x : ℕ) → a ≤ x → x < a + (min (a + t.n) w - a) → under t h (suc i) x ≡ range (x * m) (min t.d (suc x * m)) =
      λ x u v.
      under_range h (suc i) x (omega arith)
      (λ z.
      let l : x * t.n ^ (t.k + 1 - suc i) < t.d = width_lt (suc i) x (omega arith) in
      rw (height, z, pow-zero, mul-one) at l) in
      let row = joined_ranges (λ c. under t h (suc i) c) m t.d a (min (a + t.n) w - a) each in
      let start : j * t.n ^ suc h ≡ a * m = rw pow-succ' (sym (mul_assoc j t.n m)) in
      let end : suc j * t.n ^ suc h ≡ (a + t.n) * m = rw pow-succ' (sym (mul_assoc (suc j) t.n m) ∙ ap (λ x. x * m) (suc-mul j t.n)) in
      rw (start, end) (row ∙ covered_row t.d a t.n w m covers)

  pub data_under_range :
      (i j : ℕ) → i ≤ t.k →
      data_under t i j ≡ range (j * t.n ^ (t.k + 1 - i)) (min t.d ((j + 1) * t.n ^ (t.k + 1 - i)))
  unfolding data_under
  data_under_range i j h =
      under_range (t.k + 1 - i) i j (omega arith) (λ z. absurd (omega arith))
      ∙ ap (λ x. range (j * t.n ^ (t.k + 1 - i)) (min t.d (x * t.n ^ (t.k + 1 - i)))) (sym (add-one j))

  pub last_data_under :
      (z i j : ℕ) → i ≤ t.k → j < width t i → last_or z (data_under t i j) ≡ min t.d ((j + 1) * t.n ^ (t.k + 1 - i)) - 1
  last_data_under z i j h l =
      let m : ℕ = t.n ^ (t.k + 1 - i) in
      let p : 0 < m = one-le-pow (t.k + 1 - i) t.n pos in
      let s : j * m < t.d = width_lt i j l in
      let e : (j + 1) * m ≡ j * m + m = rw (add-one j) (suc-mul j m) in
      rw (data_under_range i j h) (last_range z (j * m) (min t.d ((j + 1) * m)) (omega arith))
