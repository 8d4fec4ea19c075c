-- Assumes nothing.
use Rattle.std.proofs.Common.{◌≡◌, ℕ, ◌-◌, not, ◌&&◌, ◌||◌, eqb, List, length, take, drop, get_or, sym, ap, ◌∙◌, arith, take_all}
use Rattle.std.specs.Prelude.{None, Some}
use Rattle.columns.specs.Lists.{pick, every}
use Rattle.columns.specs.Inner.Starts.{IsUsed}
use Rattle.columns.specs.PrintedNumbers.{value, digit, read_number}
use Rattle.columns.proofs.Put.{to_the_end}
use Rattle.columns.proofs.LeadingBlanks.{read_used}
use Rattle.columns.proofs.read_digits.Goals as goal

-- the w columns that s has, lent as `&s[..w]`, and those behind the first
told : (s : List ℕ) (w : ℕ) → IsUsed s → length s ≡ w
    → pick ((digit (get_or (take w s) 0 0) && (eqb w 1 || not (eqb (get_or (take w s) 0 0) 48))) && every digit (take (length (take w s) - 1) (drop 1 (take w s)))) (Some (value 0 (take w s))) None ≡ read_number s
told s w u e = rw (take_all w s (omega arith), to_the_end s 1 (omega (arith, u.some))) (sym (read_used s w u e))

pub returns-then-not-begins_number : goal.returns-then-not-begins_number
returns-then-not-begins_number g c =
    let is = told _ _ c.requires.used c.requires.width in
    rw (← c.begins_number.ensures, c.if-not-begins_number.true) at is

pub returns-then-not-all_digits : goal.returns-then-not-all_digits
returns-then-not-all_digits g c =
    let is = told _ _ c.requires.used c.requires.width in
    rw (← c.begins_number.ensures, c.if-not-begins_number.false, ← c.all_digits.ensures, c.if-not-all_digits.true) at is

pub returns : goal.returns
returns g c =
    let is = told _ _ c.requires.used c.requires.width in
    ap Some c.spelled.ensures
    ∙ (rw (← c.begins_number.ensures, c.if-not-begins_number.false, ← c.all_digits.ensures, c.if-not-all_digits.false) at is)
