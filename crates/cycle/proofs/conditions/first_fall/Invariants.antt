-- The lines that are left, from the tag before them on, tell the place.
use Rattle.std.proofs.Common.{◌≡◌}
use Rattle.buckets.specs.ListLine.{list_lines, fall_from}
use Rattle.buckets.specs.Lengths.{line_length}
use Rattle.cycle.proofs.conditions.first_fall.Given as goal

abbrev pub invariant-loop-i : goal.invariant-loop-i
invariant-loop-i l =
    (l.i-iterator.iter.size ≡ line_length)
    × (fall_from 0 0 (list_lines l.list) ≡ fall_from l.i-iterator.count l.last (list_lines l.i-iterator.iter.rest.now))
