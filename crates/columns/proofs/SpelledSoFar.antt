-- Columns read from the left: those before column i are worth x.
-- Assumes nothing.
use Rattle.std.proofs.Common.{◌≡◌, ℕ, suc, ◌+◌, ◌-◌, ◌*◌, ◌^◌, ◌<◌, ◌≤◌, true, leb, List, length, get_or, drop, sym, refl, ap, ◌∙◌, add-one, arith, lit<, drop_of_length-le, drop-cons, leb-true}
use native.Mathlib.Nat.{pow-succ', pow-le-pow_right}
use Rattle.columns.specs.Lists.{every}
use Rattle.columns.specs.PrintedNumbers.{value, digit}
use Rattle.columns.proofs.Strict.{both}
use Rattle.columns.proofs.Joined.{every_at}

-- the columns left add to x what all of them spell; a column is worth less than 16
pub record Spelled (s : List ℕ) (x i : ℕ) : Type 0 where
  pub within : i ≤ length s
  pub small : x + 2 ≤ 2 * 10 ^ i
  pub is : value 0 s ≡ value x (drop i s)

pub none_spelled : (s : List ℕ) → Spelled s 0 0
none_spelled s = record { within = omega arith; small = omega arith; is = refl }

pub all_spelled : (s : List ℕ) (x i : ℕ) → Spelled s x i → length s ≤ i → x ≡ value 0 s
all_spelled s x i o h = sym (o.is ∙ rw (drop_of_length-le s h))

-- the next column, which is worth d
module _ (s : List ℕ) (x i d : ℕ) (o : Spelled s x i) (h : i < length s) (few : d < 16) where
  small_next : x * 10 + d + 2 ≤ 2 * 10 ^ (i + 1)
  small_next =
      let ten : 10 ^ (i + 1) ≡ 10 * 10 ^ i = rw (add-one i) (pow-succ' 10 i) in
      omega (arith, o.small)

  -- ten columns fit
  pub fits : length s ≤ 10 → x * 10 + d < 2 ^ 64
  fits most =
      let p = pow-le-pow_right {n = 10} (lit< tt) {i = i + 1} {j = 10} (omega arith) in
      omega (arith, small_next, p)

  pub next_spelled : d ≡ get_or s i 0 - 48 → Spelled s (x * 10 + d) (i + 1)
  next_spelled worth =
      record {
        within = omega arith;
        small = small_next;
        is = o.is ∙ rw (drop-cons s i 0 h, add-one i) (ap (λ (e : ℕ). value (x * 10 + e) (drop (suc i) s)) (sym worth));
      }

-- a digit of columns that are all digits
pub digit_at : (s : List ℕ) (i : ℕ) → every digit s ≡ true → i < length s → (48 ≤ get_or s i 0) × (get_or s i 0 ≤ 57)
digit_at s i e h =
    let told = both (leb 48 (get_or s i 0)) (leb (get_or s i 0) 57) (every_at digit 0 s i e h) in
    (leb-true 48 (get_or s i 0) told.0, leb-true (get_or s i 0) 57 told.1)
