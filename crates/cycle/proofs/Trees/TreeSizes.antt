-- How many index buckets the subtrees of neighbours have: a row for each height, and two closed forms, where all are full and
-- where the last one is the last of its height.
-- Assumes nothing.
use mathlib.Core.Path.{◌≡◌, refl, sym, ap, ap₂, ◌∙◌}
use mathlib.Core.Logic.{⊎_elim}
use Prim.Native.Nat.{ℕ, zero, suc, ◌+◌, ◌-◌, ◌*◌, ◌^◌, ◌≤◌, ◌<◌, min}
use native.Mathlib.Nat.{mul-zero, one-mul, mul-one, mul_comm, mul_assoc, suc-mul, add-mul, mul-add, add_comm, mul-le-mul_left, mul-le-mul_right, pow-zero, pow-succ', one-le-pow}
use native.Mathlib.Numerals.{one-add}
use native.Mathlib.Omega.{arith}
use lib.Pow.{pow-add}
use lib.ListN.{length, length-append}
use Rattle.columns.specs.Lists.{joined, span, range, up}
use Rattle.cycle.specs.Tree.{Plan, grouped, width, children}
use Rattle.cycle.specs.Layouts.{subtree}
use Rattle.cycle.specs.Judging.{full_size, tree_at}
use Rattle.cycle.proofs.Basics.Ranges.{le_or_lt}
use Rattle.cycle.proofs.Trees.TreeLaws.{lt_up, up_least, up_covers, lt_grouped, grouped_lt, grouped_up}

-- ---- rows

-- the index buckets under the places from a up to b of height h, themselves included: a row for each height
abbrev pub rows : ℕ → ℕ → ℕ → ℕ → ℕ → ℕ
rows n d zero a b = 0
rows n d (suc h) a b = (b - a) + rows n d h (a * n) (min (b * n) (grouped n d h))

pub rows_none : (n d h a b : ℕ) → b ≤ a → rows n d h a b ≡ 0
rows_none n d zero a b l = refl
rows_none n d (suc h) a b l =
    let e : b - a ≡ 0 = omega arith in
    let g : b * n ≤ a * n = mul-le-mul_right n l in
    rw (e, rows_none n d h (a * n) (min (b * n) (grouped n d h)) (omega arith))

-- two neighbouring stretches
pub rows_append : (n d h a b c : ℕ) → a ≤ b → b ≤ c → rows n d h a c ≡ rows n d h a b + rows n d h b c
rows_append n d zero a b c l m = refl
rows_append n d (suc h) a b c l m =
    let w : ℕ = grouped n d h in
    let u : a * n ≤ b * n = mul-le-mul_right n l in
    let v : b * n ≤ c * n = mul-le-mul_right n m in
    ⊎_elim
    (λ (s : b * n ≤ w).
    let e : min (b * n) w ≡ b * n = omega arith in
    let r = rows_append n d h (a * n) (b * n) (min (c * n) w) u (omega arith) in
    rw (e, r) (omega arith))
    (λ (s : w < b * n).
    let e : min (b * n) w ≡ w = omega arith in
    let f : min (c * n) w ≡ w = omega arith in
    let r = rows_none n d h (b * n) w (omega arith) in
    rw (e, f, r) (omega arith))
    (le_or_lt (b * n) w)

-- ---- subtrees

module _ (t : Plan) where
  length_joined_subtrees :
      (h i a c : ℕ) → ((j : ℕ) → length (subtree t h i j) ≡ rows t.n t.d h j (suc j)) →
      length (joined (subtree t h i) (span a c)) ≡ rows t.n t.d h a (a + c)
  length_joined_subtrees h i a zero each = sym (rows_none t.n t.d h a (a + 0) (omega arith))
  length_joined_subtrees h i a (suc c) each =
      let e : a + suc c ≡ suc a + c = omega arith in
      length-append (subtree t h i a) (joined (subtree t h i) (span (suc a) c))
      ∙ ap₂ (λ x y. x + y) (each a) (length_joined_subtrees h i (suc a) c each)
      ∙ sym (rows_append t.n t.d h a (suc a) (suc a + c) (omega arith) (omega arith))
      ∙ ap (rows t.n t.d h a) (sym e)

  -- heights and levels: i + h = k + 1
  pub length_subtree : (h i j : ℕ) → i + h ≡ t.k + 1 → length (subtree t h i j) ≡ rows t.n t.d h j (suc j)
  unfolding children width
  length_subtree zero i j e = refl
  length_subtree (suc h) i j e =
      let n : ℕ = t.n in
      let height : t.k + 1 - suc i ≡ h = omega arith in
      let w : ℕ = grouped n t.d h in
      let below : length (joined (subtree t h (suc i)) (range (j * n) (min (j * n + n) w))) ≡ rows n t.d h (j * n) (j * n + (min (j * n + n) w - j * n)) =
      length_joined_subtrees h (suc i) (j * n) (min (j * n + n) w - j * n) (λ x. length_subtree h (suc i) x (omega arith)) in
      let one : suc j - j ≡ 1 = omega arith in
      let next : suc j * n ≡ j * n + n = suc-mul j n in
      rw (height, one, next)
      (ap suc
      (below
      ∙ ⊎_elim
      (λ (l : j * n ≤ w).
      let same : j * n + (min (j * n + n) w - j * n) ≡ min (j * n + n) w = omega arith in ap (rows n t.d h (j * n)) same)
      (λ (l : w < j * n).
      rows_none n t.d h (j * n) (j * n + (min (j * n + n) w - j * n)) (omega arith)
      ∙ sym (rows_none n t.d h (j * n) (min (j * n + n) w) (omega arith)))
      (le_or_lt (j * n) w))
      ∙ sym (one-add (rows n t.d h (j * n) (min (j * n + n) w))))

  pub length_tree : (e j : ℕ) → e ≤ t.k → length (tree_at t e j) ≡ rows t.n t.d e j (suc j)
  unfolding tree_at
  length_tree e j h = length_subtree e (t.k + 1 - e) j (omega arith)

-- ---- closed forms

-- the lowest c of the rows under place j of height e, the last of its height
abbrev pub last_rows : ℕ → ℕ → ℕ → ℕ → ℕ → ℕ
last_rows n d e j zero = 0
last_rows n d e j (suc c) = last_rows n d e j c + (up d (n ^ suc c) - j * n ^ (e - suc c))

module _ (n d : ℕ) (pos : 0 < n) where
  times_full : (x h : ℕ) → x * (full_size n h * n + 1) ≡ x + x * n * full_size n h
  times_full x h =
      mul-add x (full_size n h * n) 1
      ∙ ap₂ (λ y z. y + z) (ap (λ y. x * y) (mul_comm (full_size n h) n) ∙ sym (mul_assoc x n (full_size n h))) (mul-one x)
      ∙ add_comm (x * n * full_size n h) x

  -- all full
  pub rows_full : (h a b : ℕ) → a ≤ b → b * n ^ h ≤ d → rows n d h a b ≡ (b - a) * full_size n h
  rows_full zero a b l full = sym (mul-zero (b - a))
  rows_full (suc h) a b l full =
      let full' : b * n * n ^ h ≤ d = rw mul_assoc (rw pow-succ' at full) in
      let inside : b * n ≤ grouped n d h =
      ⊎_elim
      (λ (s : b * n ≤ grouped n d h). s)
      (λ (s : grouped n d h < b * n).
      let g : suc (grouped n d h) * n ^ h ≤ b * n * n ^ h = mul-le-mul_right (n ^ h) s in
      let p : 0 < n ^ h = one-le-pow h n pos in
      let u = lt_grouped n d pos h (grouped n d h) (omega arith) in
      absurd (omega arith))
      (le_or_lt (b * n) (grouped n d h)) in
      let e : min (b * n) (grouped n d h) ≡ b * n = omega arith in
      let r = rows_full h (a * n) (b * n) (mul-le-mul_right n l) full' in
      let x : ℕ = b - a in
      let split : b ≡ a + x = omega arith in
      let wide : b * n ≡ a * n + x * n = ap (λ y. y * n) split ∙ add-mul a x n in
      let diff : b * n - a * n ≡ x * n = omega arith in
      rw (e, r, diff) (sym (times_full x h))

  -- never more than full
  pub rows_small : (h a b : ℕ) → a ≤ b → rows n d h a b ≤ (b - a) * full_size n h
  rows_small zero a b l = omega arith
  rows_small (suc h) a b l =
      let x : ℕ = b - a in
      let y : ℕ = min (b * n) (grouped n d h) in
      let split : b ≡ a + x = omega arith in
      let wide : b * n ≡ a * n + x * n = ap (λ z. z * n) split ∙ add-mul a x n in
      let big : x * (full_size n h * n + 1) ≡ x + x * n * full_size n h = times_full x h in
      ⊎_elim
      (λ (s : a * n ≤ y).
      let r = rows_small h (a * n) y s in
      let g : (y - a * n) * full_size n h ≤ x * n * full_size n h = mul-le-mul_right (full_size n h) (omega arith) in
      omega arith)
      (λ (s : y < a * n). let r = rows_none n d h (a * n) y (omega arith) in omega arith)
      (le_or_lt (a * n) y)

  -- up to the last one of the height
  pub rows_last : (h a : ℕ) → rows n d (suc h) a (grouped n d (suc h)) ≡ (grouped n d (suc h) - a) + rows n d h (a * n) (grouped n d h)
  rows_last h a =
      let c : grouped n d h ≤ grouped n d (suc h) * n = up_covers (grouped n d h) n pos in
      let e : min (grouped n d (suc h) * n) (grouped n d h) ≡ grouped n d h = omega arith in
      rw e

  pub last_rows_are : (e j c : ℕ) → c ≤ e → rows n d c (j * n ^ (e - c)) (grouped n d c) ≡ last_rows n d e j c
  last_rows_are e j zero h = refl
  last_rows_are e j (suc c) h =
      let m : e - c ≡ suc (e - suc c) = omega arith in
      let next : n ^ (e - suc c) * n ≡ n ^ (e - c) =
      mul_comm (n ^ (e - suc c)) n ∙ sym (pow-succ' n (e - suc c)) ∙ ap (λ x. n ^ x) (sym m) in
      let power : j * n ^ (e - suc c) * n ≡ j * n ^ (e - c) = mul_assoc j (n ^ (e - suc c)) n ∙ ap (λ x. j * x) next in
      let r = last_rows_are e j c (omega arith) in
      rows_last c (j * n ^ (e - suc c))
      ∙ rw (power, r, grouped_up n d pos (suc c)) (omega arith)

module _ (t : Plan) (pos : 0 < t.n) (e j : ℕ) (h : e ≤ t.k) where
  pub tree_full : suc j * t.n ^ e ≤ t.d → length (tree_at t e j) ≡ full_size t.n e
  tree_full full =
      let one : suc j - j ≡ 1 = omega arith in
      length_tree t e j h ∙ rows_full t.n t.d pos e j (suc j) (omega arith) full ∙ rw one (one-mul (full_size t.n e))

  pub tree_small : length (tree_at t e j) ≤ full_size t.n e
  tree_small =
      let one : suc j - j ≡ 1 = omega arith in
      let r = rows_small t.n t.d pos e j (suc j) (omega arith) in
      rw (length_tree t e j h) (rw (one, one-mul) at r)

  pub tree_last : j * t.n ^ e < t.d → t.d ≤ suc j * t.n ^ e → length (tree_at t e j) ≡ last_rows t.n t.d e j e
  tree_last some last =
      let low = lt_grouped t.n t.d pos e j some in
      let high : grouped t.n t.d e ≤ suc j =
      rw (grouped_up t.n t.d pos e) (up_least t.d (t.n ^ e) (suc j) (one-le-pow e t.n pos) last) in
      let end : suc j ≡ grouped t.n t.d e = omega arith in
      let none : e - e ≡ 0 = omega arith in
      let here : j * t.n ^ (e - e) ≡ j = rw (none, pow-zero) (mul-one j) in
      length_tree t e j h
      ∙ ap (rows t.n t.d e j) end
      ∙ ap (λ x. rows t.n t.d e x (grouped t.n t.d e)) (sym here)
      ∙ last_rows_are t.n t.d pos e j e (omega arith)

  -- the empty list has a root without entries
  pub tree_empty : t.d ≡ 0 → 1 ≤ e → length (tree_at t e j) ≡ 1
  tree_empty none low =
      let up : e ≡ suc (e - 1) = omega arith in
      let w : ℕ = grouped t.n t.d (e - 1) in
      let empty : w ≡ 0 =
      ⊎_elim
      (λ (l : w ≤ 0). omega arith)
      (λ (l : 0 < w). let u = grouped_lt t.n t.d pos (e - 1) 0 l in absurd (omega arith))
      (le_or_lt w 0) in
      let one : suc j - j ≡ 1 = omega arith in
      length_tree t e j h
      ∙ ap (λ x. rows t.n t.d x j (suc j)) up
      ∙ rw (one, rows_none t.n t.d (e - 1) (j * t.n) (min (suc j * t.n) w) (omega arith))

-- a row is no wider than the data, and begins within it
pub row_fits : (n d e j c : ℕ) → 0 < n → c ≤ e → j * n ^ e < d → (j * n ^ (e - c) < up d (n ^ c)) × (up d (n ^ c) ≤ d)
row_fits n d e j c pos h some =
    let p : 0 < n ^ c = one-le-pow c n pos in
    let split : e ≡ (e - c) + c = omega arith in
    let start : j * n ^ (e - c) * n ^ c ≡ j * n ^ e =
    mul_assoc j (n ^ (e - c)) (n ^ c) ∙ ap (λ x. j * x) (sym (pow-add n (e - c) c) ∙ ap (λ x. n ^ x) (sym split)) in
    let much : d * 1 ≤ d * n ^ c = mul-le-mul_left d p in
    (lt_up d (n ^ c) (j * n ^ (e - c)) p (omega arith), up_least d (n ^ c) d p (omega arith))
