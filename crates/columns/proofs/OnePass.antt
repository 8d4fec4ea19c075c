-- What a strict reading of a number asks of each column, from left to right: blanks, but not in the last column, then
-- digits, of which the first is no 0 unless it is the last column.
-- Assumes nothing.
use Rattle.std.proofs.Common.{◌≡◌, ℕ, zero, suc, ◌+◌, ◌-◌, ◌*◌, ◌/◌, ◌%◌, ◌^◌, ◌<◌, ◌≤◌, Bool, true, false, ◌&&◌, eqb, ltb, leb, List, [], ◌∷◌, length, refl, ap, ◌∙◌, mul-le-mul_right, mod-lt, mul_assoc, add-mul, div-one, arith, lit<, ltb-false, ltb-true, le-ltb, lt-ltb, eq-eqb, ne_eqb, leb-false, leb-true}
use Rattle.std.specs.Prelude.{None, Some}
use native.Mathlib.Numerals.{lt_of_le_of_ne}
use native.Mathlib.Nat.{pow-succ'}
use lib.Arith.{digits_div, digits_lt}
use borrow.Author.Tests.{lt-leb}
use Rattle.columns.specs.Lists.{pick, same, strict, every}
use Rattle.columns.specs.PrintedNumbers.{column, print, value, digit, read_number}
use Rattle.columns.proofs.Strict.{both, and_false, same_eq}
use Rattle.columns.proofs.Printed.{ten_pos, value_columns}

-- a value read behind acc is acc moved on by the columns, and the columns' own value
pub value_behind : (acc : ℕ) (s : List ℕ) → value acc s ≡ acc * 10 ^ length s + value 0 s
value_behind acc [] = omega arith
value_behind acc (c ∷ s) =
    value_behind (acc * 10 + (c - 48)) s
    ∙ rw (
      pow-succ' 10 (length s),
      add-mul (acc * 10) (c - 48) (10 ^ length s),
      mul_assoc acc 10 (10 ^ length s),
    )
    (omega (arith, value_behind (0 * 10 + (c - 48)) s, zero_front))
  where
    zero_front : (0 * 10 + (c - 48)) * 10 ^ length s ≡ (c - 48) * 10 ^ length s
    zero_front = let e : 0 * 10 + (c - 48) ≡ c - 48 = omega arith in rw e

-- digits alone spell less than the columns hold
pub digits_small : (s : List ℕ) → every digit s ≡ true → value 0 s < 10 ^ length s
digits_small [] h = lit< tt
digits_small (c ∷ s) h =
    let told = both (digit c) (every digit s) h in
    let tests = both (leb 48 c) (leb c 57) told.0 in
    let low : 0 + (c - 48) < 10 = omega (arith, leb-true 48 c tests.0, leb-true c 57 tests.1) in
    rw (value_behind (0 + (c - 48)) s, pow-succ' 10 (length s)) (digits_lt low (digits_small s told.1))

-- a column that the number reaches holds its digit
pub column_reached : (w x : ℕ) → 10 ^ w ≤ x → column w x ≡ 48 + x / 10 ^ w % 10
column_reached zero x h = rw div-one
column_reached (suc w) x h = rw (le-ltb x (10 ^ suc w) h)

-- a column is the digit that it adds exactly if it is a digit
digit_again : (acc c : ℕ) → eqb c (48 + (acc * 10 + (c - 48)) % 10) ≡ digit c
digit_again acc c = go (leb 48 c) (leb c 57) refl refl
  where
    go : (p q : Bool) → leb 48 c ≡ p → leb c 57 ≡ q → eqb c (48 + (acc * 10 + (c - 48)) % 10) ≡ p && q
    go true true e f = eq-eqb c _ (omega (arith, leb-true 48 c e, leb-true c 57 f))
    go true false e f = ne_eqb c _ (λ h. omega (arith, leb-false c 57 f))
    go false true e f = ne_eqb c _ (λ h. omega (arith, leb-false 48 c e))
    go false false e f = ne_eqb c _ (λ h. omega (arith, leb-false 48 c e))

-- the column before the rest s, where the number reaches it and the rest is digits
column_before : (acc c : ℕ) (s : List ℕ) → 0 < acc * 10 + (c - 48) → every digit s ≡ true
    → eqb c (column (length s) (value (acc * 10 + (c - 48)) s)) ≡ digit c
column_before acc c s h e =
    let a = acc * 10 + (c - 48) in
    let t = 10 ^ length s in
    let reached : t ≤ a * t + value 0 s = omega (arith, mul-le-mul_right t h) in
    rw (value_behind a s, column_reached (length s) (a * t + value 0 s) reached, digits_div a (digits_small s e)) (digit_again acc c)

-- a column and the digits behind it
turn : (acc c : ℕ) (s : List ℕ) → 0 < acc * 10 + (c - 48)
    → same s (print (length s) (value (acc * 10 + (c - 48)) s)) ≡ every digit s
    → same (c ∷ s) (print (suc (length s)) (value (acc * 10 + (c - 48)) s)) ≡ every digit (c ∷ s)
turn acc c s h rest = rw rest (go (every digit s) refl)
  where
    go : (t : Bool) → every digit s ≡ t → eqb c (column (length s) (value (acc * 10 + (c - 48)) s)) && t ≡ digit c && t
    go true e = rw (column_before acc c s h e)
    go false e = rw (and_false (eqb c (column (length s) (value (acc * 10 + (c - 48)) s))), and_false (digit c))

-- behind a first digit that is no 0, each column must be a digit
pub digits_behind : (acc : ℕ) (s : List ℕ) → 0 < acc → same s (print (length s) (value acc s)) ≡ every digit s
digits_behind acc [] h = refl
digits_behind acc (c ∷ s) h =
    let more : 0 < acc * 10 + (c - 48) = omega arith in
    turn acc c s more (digits_behind (acc * 10 + (c - 48)) s more)

-- columns that are the print of their value hold it
whole_value : (s : List ℕ) → same s (print (length s) (value 0 s)) ≡ true → value 0 s < 10 ^ length s
whole_value s h =
    let v = value 0 s in
    let cut : v ≡ 0 * 10 ^ length s + v % 10 ^ length s =
    ap (value 0) (same_eq s (print (length s) v) h) ∙ value_columns 0 (length s) v in
    omega (arith, mod-lt v (ten_pos (length s)))

-- the column before columns that are the print of their value is blank
blank_before : (b d : ℕ) (s : List ℕ)
    → eqb b (column (suc (length s)) (value 0 (d ∷ s))) && same (d ∷ s) (print (suc (length s)) (value 0 (d ∷ s)))
    ≡ eqb b 32 && same (d ∷ s) (print (suc (length s)) (value 0 (d ∷ s)))
blank_before b d s = go (same (d ∷ s) (print (suc (length s)) (value 0 (d ∷ s)))) refl
  where
    go : (t : Bool) → same (d ∷ s) (print (suc (length s)) (value 0 (d ∷ s))) ≡ t
        → eqb b (column (suc (length s)) (value 0 (d ∷ s))) && t ≡ eqb b 32 && t
    go true e = rw (lt-ltb (value 0 (d ∷ s)) (10 ^ suc (length s)) (whole_value (d ∷ s) e))
    go false e = rw (and_false (eqb b (column (suc (length s)) (value 0 (d ∷ s)))), and_false (eqb b 32))

-- a blank that is not the last column is passed over
pub read_blank : (s : List ℕ) → 0 < length s → read_number (32 ∷ s) ≡ read_number s
unfolding read_number strict
read_blank [] h = absurd (omega arith)
read_blank (d ∷ s) h = rw (blank_before 32 d s)

-- a 0 in front of another column
pub read_zero : (s : List ℕ) → 0 < length s → read_number (48 ∷ s) ≡ None
unfolding read_number strict
read_zero [] h = absurd (omega arith)
read_zero (d ∷ s) h = rw (blank_before 48 d s)

-- a column that is neither blank nor a digit
column_never : (c w x : ℕ) → c < 48 → (c ≡ 32 → ⊥) → eqb c (column w x) ≡ false
column_never c zero x h n = ne_eqb c (48 + x % 10) (λ e. omega arith)
column_never c (suc w) x h n = go (ltb x (10 ^ suc w))
  where
    go : (t : Bool) → eqb c (pick t 32 (48 + x / 10 ^ suc w % 10)) ≡ false
    go true = ne_eqb c 32 n
    go false = ne_eqb c (48 + x / 10 ^ suc w % 10) (λ e. omega arith)

-- from the first column that is neither blank nor a 0 in front of another, each column must be a digit
pub read_digits_lem : (c : ℕ) (s : List ℕ) → (0 < length s → c ≡ 32 → ⊥) → (0 < length s → c ≡ 48 → ⊥)
    → read_number (c ∷ s) ≡ pick (every digit (c ∷ s)) (Some (value 0 (c ∷ s))) None
unfolding read_number strict
read_digits_lem c [] blank nought = rw (digit_again 0 c)
read_digits_lem c (d ∷ s) blank nought = go (ltb 48 c) refl
  where
    go : (t : Bool) → ltb 48 c ≡ t → read_number (c ∷ d ∷ s) ≡ pick (every digit (c ∷ d ∷ s)) (Some (value 0 (c ∷ d ∷ s))) None
    go true e =
        let more : 0 < 0 * 10 + (c - 48) = omega (arith, ltb-true 48 c e) in
        rw (turn 0 c (d ∷ s) more (digits_behind (0 * 10 + (c - 48)) (d ∷ s) more))
    go false e =
        let low : c < 48 = lt_of_le_of_ne (ltb-false 48 c e) (nought (omega arith)) in
        rw (
          column_never c (suc (length s)) (value 0 (c ∷ d ∷ s)) low (blank (omega arith)),
          lt-leb 48 c low,
        )
