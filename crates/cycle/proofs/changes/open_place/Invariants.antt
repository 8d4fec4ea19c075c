-- The bytes from i on are moved.
use Rattle.buckets.specs.Lengths.{line_length}
use Rattle.cycle.proofs.Changing.Moves.{Opened}
use Rattle.cycle.proofs.changes.open_place.Given as goal

abbrev pub invariant-loop-i : goal.invariant-loop-i
invariant-loop-i l = Opened l.fn.list line_length l.at l.end l.list l.i
