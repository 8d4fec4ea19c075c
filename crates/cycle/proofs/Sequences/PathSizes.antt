-- Layout 1's paths in numbers: where a path begins, by dividing; and how many path buckets are sent before a segment, one of a
-- level for each bucket begun on the level below.
-- Assumes nothing.
use mathlib.Core.Path.{◌≡◌, refl, sym, ap, ◌∙◌}
use mathlib.Core.Logic.{◌⊎◌, inl, inr, ⊎_elim}
use mathlib.Core.Bool.{Bool, true, false}
use Prim.Native.Nat.{ℕ, zero, suc, ◌+◌, ◌-◌, ◌*◌, ◌/◌, ◌%◌, ◌^◌, ◌≤◌, ◌<◌}
use native.Mathlib.Nat.{zero-add, zero-mul, mul_assoc, suc-mul, pow-zero, mul-one, pow-succ', one-le-pow, mul-le-mul_left, mul-suc, div-add-mod', mod-lt, div-lt_iff_lt-mul, div-eq_of_lt-le, eq-zero-or-pos, le_antisymm}
use native.Mathlib.Omega.{arith}
use mathlib.Core.List.{[], ◌∷◌, ◌++◌, append-nil}
use lib.Dec.{eqb}
use lib.ListN.{length, length-append, length-map}
use borrow.Author.Tests.{eq-eqb, ne_eqb}
use Rattle.columns.specs.Lists.{pick, joined, range, up}
use Rattle.columns.proofs.Joined.{joined_append}
use Rattle.cycle.specs.Tree.{Plan, above}
use Rattle.cycle.specs.Layouts.{slot, lowest, path_top, path}
use Rattle.cycle.proofs.Basics.Ranges.{length_range, range_snoc}
use Rattle.cycle.proofs.Trees.TreeLaws.{above_suc, le_above, lt_above, lt_up, up_lt, up_least, up_covers}

-- ---- rounding up, exactly

pub up_is : (a n c : ℕ) → 0 < n → c * n < a → a ≤ suc c * n → up a n ≡ suc c
up_is a n c pos low high = le_antisymm (up_least a n (suc c) pos high) (lt_up a n c pos low)

pub up_none : (n : ℕ) → 0 < n → up 0 n ≡ 0
up_none n pos = let h = up_least 0 n 0 pos (omega arith) in omega arith

-- the last of the parts, each m long, that cover a
pub record LastPart (a m c : ℕ) : Type 0 where
  pub some : 1 ≤ c
  pub few : c ≤ a
  pub starts : (c - 1) * m < a
  pub covers : a ≤ suc (c - 1) * m

pub last_part : (a m : ℕ) → 0 < a → 0 < m → LastPart a m (up a m)
last_part a m some pos =
    let c : ℕ = up a m in
    let low : 0 < c = lt_up a m 0 pos (omega arith) in
    let e : c ≡ suc (c - 1) = omega arith in
    let much : a * 1 ≤ a * m = mul-le-mul_left a pos in
    record {
      some = low;
      few = up_least a m a pos (omega arith);
      starts = up_lt a m (c - 1) pos (omega arith);
      covers = rw (← e) (up_covers a m pos);
    }

-- ---- where a path begins

-- the level where the path before place p of level i + 1 begins, of those from i up to the root
abbrev pub top_of : ℕ → ℕ → ℕ → ℕ
top_of n zero p = 1
top_of n (suc i) p = pick (eqb (p % n) 0) (top_of n i (p / n)) (suc i)

module _ (n : ℕ) (pos : 0 < n) where
  -- a place that is the first child of its bucket comes after another bucket's
  pub first_child : (p : ℕ) → 0 < p → p % n ≡ 0 → (p - 1) / n < p / n
  first_child p some e = (div-lt_iff_lt-mul pos).1 (omega (arith, div-add-mod' p n))

  pub later_child : (p : ℕ) → (p % n ≡ 0 → ⊥) → (p - 1) / n ≡ p / n
  later_child p f =
      let whole : p / n * n + p % n ≡ p = div-add-mod' p n in
      let small : p % n < n = mod-lt p pos in
      let some : 0 < p % n = ⊎_elim (λ (z : p % n ≡ 0). absurd (f z)) (λ (l : 0 < p % n). l) (eq-zero-or-pos (p % n)) in
      div-eq_of_lt-le {k = p / n} n (omega arith) (omega arith)

  pub lowest_top :
      (r b i : ℕ) → i ≤ r → 0 < b → above n (r - i) b * n ^ (r - i) ≡ b → lowest n r b i ≡ top_of n i (above n (r - i) b)
  lowest_top r b zero h some e = refl
  lowest_top r b (suc i) h some e = by_test (λ f. lowest_top r b i (omega arith) some f) (eq-zero-or-pos (p % n))
    where
      s : ℕ
      s = r - suc i

      p : ℕ
      p = above n s b

      height : r - i ≡ suc s
      height = omega arith

      parent : above n (r - i) b ≡ p / n
      parent = ap (λ x. above n x b) height ∙ above_suc n s b

      some_p : 0 < p
      some_p =
          ⊎_elim
          (λ (z : p ≡ 0). let none : p * n ^ s ≡ 0 = ap (λ x. x * n ^ s) z ∙ zero-mul (n ^ s) in absurd (omega (arith, e)))
          (λ (l : 0 < p). l)
          (eq-zero-or-pos p)

      before : above n s (b - 1) ≡ p - 1
      before =
          let m : 0 < n ^ s = one-le-pow s n pos in
          let whole : p * n ^ s ≡ b = e in
          let split : p ≡ suc (p - 1) = omega (arith, some_p) in
          let apart : p * n ^ s ≡ (p - 1) * n ^ s + n ^ s = ap (λ x. x * n ^ s) split ∙ suc-mul (p - 1) (n ^ s) in
          let low = le_above n s pos (p - 1) (b - 1) (omega arith) in
          let high = lt_above n s pos p (b - 1) (omega arith) in
          omega arith

      parent_before : above n (r - i) (b - 1) ≡ (p - 1) / n
      parent_before = ap (λ x. above n x (b - 1)) height ∙ above_suc n s (b - 1) ∙ ap (λ x. x / n) before

      by_test :
          (above n (r - i) b * n ^ (r - i) ≡ b → lowest n r b i ≡ top_of n i (above n (r - i) b)) → (p % n ≡ 0) ⊎ (0 < p % n) →
          lowest n r b (suc i) ≡ top_of n (suc i) p
      by_test rec (inl z) =
          let first = first_child p some_p z in
          let apart : eqb (above n (r - i) (b - 1)) (above n (r - i) b) ≡ false =
          rw (parent, parent_before) (ne_eqb ((p - 1) / n) (p / n) (λ f. omega arith)) in
          let whole : p / n * n ≡ p = let d = div-add-mod' p n in omega arith in
          let all : above n (r - i) b * n ^ (r - i) ≡ b =
          rw (parent, height, pow-succ', ← mul_assoc, whole) e in
          rw (apart, eq-eqb (p % n) 0 z) (rec all ∙ ap (top_of n i) parent)
      by_test rec (inr l) =
          let same : eqb (above n (r - i) (b - 1)) (above n (r - i) b) ≡ true =
          rw (parent, parent_before) (eq-eqb ((p - 1) / n) (p / n) (later_child p (λ z. omega arith))) in
          rw (same, ne_eqb (p % n) 0 (λ z. omega arith))

  pub path_top_divides : (r b : ℕ) → 0 < b → path_top n r b ≡ top_of n r b
  path_top_divides r zero some = absurd (omega arith)
  path_top_divides r (suc b) some =
      let none : r - r ≡ 0 = omega arith in
      let whole : above n (r - r) (suc b) * n ^ (r - r) ≡ suc b = rw (none, pow-zero) (mul-one (suc b)) in
      lowest_top r (suc b) r (omega arith) some whole ∙ ap (λ x. top_of n r (above n x (suc b))) none

  -- ---- how many path buckets

  pub top_high : (i p : ℕ) → top_of n i p ≤ i + 1
  top_high zero p = omega arith
  top_high (suc i) p = by_test (eqb (p % n) 0) (top_high i (p / n))
    where
      by_test : (e : Bool) → top_of n i (p / n) ≤ i + 1 → pick e (top_of n i (p / n)) (suc i) ≤ suc i + 1
      by_test true h = omega arith
      by_test false h = omega arith

-- of b buckets, those begun on each of r levels, b's own the lowest
abbrev pub climbs : ℕ → ℕ → ℕ → ℕ
climbs n zero b = 0
climbs n (suc r) b = b + climbs n r (up b n)

module _ (n : ℕ) (pos : 0 < n) where
  pub climbs_none : (r : ℕ) → climbs n r 0 ≡ 0
  climbs_none zero = refl
  climbs_none (suc r) = rw (zero-add, up_none n pos) (climbs_none r)

  pub climbs_one : (r : ℕ) → climbs n r 1 ≡ r
  climbs_one zero = refl
  climbs_one (suc r) =
      let e : up 1 n ≡ 1 = up_is 1 n 0 pos (omega arith) (omega arith) in
      rw (e, climbs_one r) (omega arith)

  pub climbs_small : (r b c : ℕ) → b ≤ c → climbs n r b ≤ c * r
  climbs_small zero b c h = omega arith
  climbs_small (suc r) b c h =
      let u : up b n ≤ b = up_least b n b pos (let m : b * 1 ≤ b * n = mul-le-mul_left b pos in omega arith) in
      let rec = climbs_small r (up b n) c (omega arith) in
      let e : c * suc r ≡ c * r + c = mul-suc c r in
      omega arith

  climbs_later : (r b : ℕ) → 0 < b → climbs n r (suc b) ≡ climbs n r b + (r + 1 - top_of n r b)
  climbs_later zero b some = refl
  climbs_later (suc r) b some = by_test (λ u. climbs_later r (b / n) u) (eq-zero-or-pos (b % n))
    where
      whole : b / n * n + b % n ≡ b
      whole = div-add-mod' b n

      small : b % n < n
      small = mod-lt b pos

      high : top_of n r (b / n) ≤ r + 1
      high = top_high n pos r (b / n)

      next : up (suc b) n ≡ suc (b / n)
      next = up_is (suc b) n (b / n) pos (omega (arith, whole)) (omega (arith, whole, small))

      by_test :
          (0 < b / n → climbs n r (suc (b / n)) ≡ climbs n r (b / n) + (r + 1 - top_of n r (b / n))) → (b % n ≡ 0) ⊎ (0 < b % n) →
          climbs n (suc r) (suc b) ≡ climbs n (suc r) b + (suc r + 1 - top_of n (suc r) b)
      by_test rec (inl z) =
          let q : ℕ = b / n in
          let some_q : 0 < q =
          ⊎_elim
          (λ (y : q ≡ 0). let none : q * n ≡ 0 = ap (λ x. x * n) y ∙ zero-mul n in absurd (omega (arith, whole)))
          (λ (l : 0 < q). l)
          (eq-zero-or-pos q) in
          let split : q ≡ suc (q - 1) = omega arith in
          let apart : q * n ≡ (q - 1) * n + n = ap (λ x. x * n) split ∙ suc-mul (q - 1) n in
          let same : up b n ≡ q = up_is b n (q - 1) pos (omega (arith, whole)) (omega (arith, whole)) ∙ sym split in
          let r' = rec some_q in
          rw (next, same, eq-eqb (b % n) 0 z) (omega (arith, high))
      by_test rec (inr l) =
          let same : up b n ≡ suc (b / n) = up_is b n (b / n) pos (omega (arith, whole)) (omega (arith, whole, small)) in
          rw (next, same, ne_eqb (b % n) 0 (λ z. omega arith)) (omega arith)

  pub climbs_next : (r b : ℕ) → climbs n r (suc b) ≡ climbs n r b + (r + 1 - path_top n r b)
  climbs_next r b =
      ⊎_elim
      (λ (z : b ≡ 0). rw (z, climbs_one r, climbs_none r) (omega arith))
      (λ (l : 0 < b). climbs_later r b l ∙ ap (λ x. climbs n r b + (r + 1 - x)) (sym (path_top_divides n pos r b l)))
      (eq-zero-or-pos b)

pub length_path : (t : Plan) (b : ℕ) → length (path t b) ≡ t.copies + 1 - path_top t.n t.copies b
unfolding path
length_path t b =
    let top : ℕ = path_top t.n t.copies b in
    length-map (range top (t.copies + 1)) (λ i. slot i (above t.n (t.copies + 1 - i) b)) ∙ length_range top (t.copies + 1)

pub length_paths : (t : Plan) → 0 < t.n → (b : ℕ) → length (joined (path t) (range 0 b)) ≡ climbs t.n t.copies b
length_paths t pos zero = sym (climbs_none t.n pos t.copies)
length_paths t pos (suc b) =
    let rec = length_paths t pos b in
    ap (λ xs. length (joined (path t) xs)) (range_snoc 0 b (omega arith))
    ∙ ap length (joined_append (path t) (range 0 b) (b ∷ []))
    ∙ length-append (joined (path t) (range 0 b)) (path t b ++ [])
    ∙ rw (append-nil (path t b), rec, length_path t b) (sym (climbs_next t.n pos t.copies b))
