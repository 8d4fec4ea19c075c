-- The first i pairs stand at the front, and the rest is blank.
use Rattle.std.proofs.Common.{◌≡◌, take}
use Rattle.columns.specs.Lists.{joined, padded}
use Rattle.buckets.specs.Bucket.{print_pair}
use Rattle.buckets.specs.Lengths.{pairs_width}
use Rattle.buckets.proofs.writer.write_pairs.Given as goal

abbrev pub invariant-loop-i : goal.invariant-loop-i
invariant-loop-i l = l.part ≡ padded pairs_width (joined print_pair (take l.i l.pairs))
