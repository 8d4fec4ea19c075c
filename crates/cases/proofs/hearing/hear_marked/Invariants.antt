-- The measure is what is left of the body.
use Rattle.std.proofs.Common.{length}
use Rattle.cases.proofs.hearing.hear_marked.Given as goal

abbrev pub decreases-loop-letter : goal.decreases-loop-letter
decreases-loop-letter g l = length l.rest
