-- The first i lines stand at the front, and the rest is blank.
use Rattle.std.proofs.Common.{◌≡◌}
use Rattle.columns.specs.Lists.{padded}
use Rattle.buckets.specs.ListLine.{list_lines}
use Rattle.buckets.specs.Lengths.{lines_width}
use Rattle.buckets.proofs.Fronts.{lines_to}
use Rattle.buckets.proofs.writer.write_lines.Given as goal

abbrev pub invariant-loop-i : goal.invariant-loop-i
invariant-loop-i l = l.part ≡ padded lines_width (lines_to (list_lines l.lines) l.i)
