-- What the tests of a column answer where its place is told by a number.
-- Assumes nothing.
use Rattle.std.proofs.Common.{◌≡◌, ℕ, Bool, true, false, not, ◌&&◌, ◌||◌, eqb, refl, arith, eqb-true}
use Rattle.columns.specs.Lists.{pick}
use Rattle.columns.specs.PrintedNumbers.{digit}
use Rattle.columns.specs.declared.Place.TheVariants.{First, Between, Last}
use Rattle.columns.specs.Inner.Places.{place_of, leading, column_printed, column_digits}
use Rattle.columns.proofs.Strict.{and_true, and_false, or_false, or_comm}

pub leading_by_number : (k before : ℕ) → leading (place_of k) before ≡ ((eqb before 32 || eqb k 1) && not (eqb k 2))
leading_by_number k before = go (eqb k 1) (eqb k 2) refl refl
  where
    go : (p q : Bool) → eqb k 1 ≡ p → eqb k 2 ≡ q
        → leading (pick p First (pick q Last Between)) before ≡ ((eqb before 32 || p) && not q)
    go true true e f = absurd (omega (arith, eqb-true k 1 e, eqb-true k 2 f))
    go true false e f = rw (and_true (eqb before 32 || true), or_comm (eqb before 32) true)
    go false true e f = rw (and_false (eqb before 32 || false))
    go false false e f = rw (and_true (eqb before 32 || false), or_false (eqb before 32))

pub printed_by_number : (k before c : ℕ) → column_printed (place_of k) before c
    ≡ pick ((eqb before 32 || eqb k 1) && not (eqb k 2)) (eqb c 32 || (digit c && not (eqb c 48))) (digit c)
unfolding column_printed
printed_by_number k before c = rw (leading_by_number k before)

pub digits_by_number : (k before c : ℕ) → column_digits (place_of k) before c
    ≡ (digit c || (eqb c 32 && ((eqb before 32 || eqb k 1) && not (eqb k 2))))
unfolding column_digits
digits_by_number k before c = rw (leading_by_number k before)
