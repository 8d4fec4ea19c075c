-- What is found of a list and a given line before figures are looked at.
-- Assumes nothing.
use Rattle.std.specs.Prelude.{◌≡◌, ℕ, Bool, true, List}
use Rattle.std.specs.Prelude.{None, Some, Result, Ok, Err}
use Rattle.buckets.specs.Inner.Columns.{PlainList}
use Rattle.cycle.specs.Refusals.{Condition, first_refusal}
use Rattle.cycle.specs.declared.Refusal.{Refusal}

-- what conditions come to: the first that holds, or none of them, and where the flag says so no number of the list has a leading
-- zero
abbrev pub Told : List Condition → List ℕ → Result Bool Refusal → Type 0
Told cs list (Ok plain) = (first_refusal cs ≡ None) × (plain ≡ true → PlainList list)
Told cs list (Err r) = first_refusal cs ≡ Some r
