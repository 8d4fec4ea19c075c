-- Assumes nothing.
use Rattle.columns.proofs.Lenient.{Blanked}
use Rattle.columns.proofs.blank_zeros.Given as goal

abbrev pub invariant-loop-i : goal.invariant-loop-i
invariant-loop-i l = Blanked l.fn.part l.part l.i
