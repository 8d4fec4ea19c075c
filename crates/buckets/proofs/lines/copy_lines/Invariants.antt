-- The first i lines are copied.
use Rattle.std.proofs.Common.{◌≡◌, drop}
use Rattle.columns.specs.Lists.{put}
use Rattle.buckets.specs.ListLine.{ended_lines}
use Rattle.buckets.proofs.lines.copy_lines.Given as goal

abbrev pub invariant-loop-i : goal.invariant-loop-i
invariant-loop-i l = l.out ≡ put l.fn.out l.to (ended_lines l.i (drop l.from l.text))
