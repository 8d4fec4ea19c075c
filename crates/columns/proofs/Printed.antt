-- The laws of printed numbers: width, value, and that reading undoes printing and printing undoes reading.
-- Assumes nothing.
use Rattle.std.proofs.Common.{◌≡◌, ℕ, zero, suc, ◌+◌, ◌-◌, ◌*◌, ◌/◌, ◌%◌, ◌^◌, ◌<◌, ◌≤◌, Bool, true, false, eqb, ltb, List, length, refl, ap, ◌∙◌, mod-lt, mod-eq_of_lt, mul_assoc, add-mul, div-one, arith, lit<, length-append, ltb-true, ne_eqb}
use Rattle.std.specs.Prelude.{Some}
use native.Mathlib.Nat.{pow-succ', one-le-pow, mod-one, div-eq_of_lt}
use lib.Arith.{mod-mul}
use lib.ListN.{length-replicate}
use Rattle.columns.specs.Lists.{pick, same, padded}
use Rattle.columns.specs.PrintedNumbers.{column, print, blanks, value, read_number}
use Rattle.columns.proofs.Strict.{and_false, strict_back, strict_only}

pub length_print : (w x : ℕ) → length (print w x) ≡ w
length_print zero x = refl
length_print (suc w) x = ap suc (length_print w x)

pub ten_pos : (w : ℕ) → 0 < 10 ^ w
ten_pos w = one-le-pow w 10 (lit< tt)

-- what a column adds to the value: the digit of that place
pub column_digit : (w x : ℕ) → column w x - 48 ≡ x / 10 ^ w % 10
column_digit zero x = rw div-one (omega arith)
column_digit (suc w) x = go (ltb x (10 ^ suc w)) refl
  where
    go : (t : Bool) → ltb x (10 ^ suc w) ≡ t → pick t 32 (48 + x / 10 ^ suc w % 10) - 48 ≡ x / 10 ^ suc w % 10
    go true e = rw (div-eq_of_lt (ltb-true x (10 ^ suc w) e))
    go false e = omega arith

-- the columns of a print spell the number, cut to the columns there are
pub value_columns : (acc w x : ℕ) → value acc (print w x) ≡ acc * 10 ^ w + x % 10 ^ w
value_columns acc zero x = rw (mod-one x) (omega arith)
value_columns acc (suc w) x =
    ap (λ (d : ℕ). value (acc * 10 + d) (print w x)) (column_digit w x)
    ∙ value_columns (acc * 10 + x / 10 ^ w % 10) w x
    ∙ rw (
      pow-succ' 10 w,
      mod-mul x {m = 10} {c = 10 ^ w} (lit< tt) (ten_pos w),
      add-mul (acc * 10) (x / 10 ^ w % 10) (10 ^ w),
      mul_assoc acc 10 (10 ^ w),
    )
    (omega arith)

pub value_print : (w x : ℕ) → x < 10 ^ w → value 0 (print w x) ≡ x
value_print w x h = rw (value_columns 0 w x, mod-eq_of_lt h) (omega arith)

pub read_of_print : (w x : ℕ) → x < 10 ^ w → read_number (print w x) ≡ Some x
unfolding read_number
read_of_print w x h =
    rw length_print (strict_back (value 0) (λ y. true) (print w) x refl (value_print w x h))

pub print_of_read : (s : List ℕ) {x : ℕ} → read_number s ≡ Some x → (s ≡ print (length s) x) × (x < 10 ^ length s)
unfolding read_number
print_of_read s {x} h =
    let told = strict_only (value 0) (λ y. true) (print (length s)) s h in
    let cut : x ≡ 0 * 10 ^ length s + x % 10 ^ length s =
    told.2 ∙ ap (value 0) told.0 ∙ value_columns 0 (length s) x in
    (told.0, omega (arith, mod-lt x (ten_pos (length s))))

-- a printed number is not blank
pub print_not_blank : (w x : ℕ) → same (print (suc w) x) (blanks (suc w)) ≡ false
unfolding blanks
print_not_blank zero x = rw (ne_eqb (48 + x % 10) 32 (λ e. omega arith))
print_not_blank (suc w) x = rw (print_not_blank w x) (and_false (eqb (column (suc w) x) 32))

pub length_padded : (w : ℕ) (s : List ℕ) → length s ≤ w → length (padded w s) ≡ w
unfolding padded
length_padded w s h = simp (length-append, length-replicate) (omega arith)
