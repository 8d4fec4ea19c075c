-- Assumes nothing.
use Rattle.columns.proofs.SpelledSoFar.{Spelled}
use Rattle.columns.proofs.spelled.Given as goal

abbrev pub invariant-loop-c : goal.invariant-loop-c
invariant-loop-c l = Spelled l.part l.x l.c-index
