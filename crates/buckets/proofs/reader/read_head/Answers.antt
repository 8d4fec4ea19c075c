-- The position is at most the largest.
use Rattle.std.proofs.Common.{sym}
use Rattle.buckets.specs.Lengths.{buckets_most}
use Rattle.buckets.proofs.Bounds.{number_most}
use Rattle.buckets.proofs.reader.read_head.Goals as goal

pub overflow_sub-position : goal.overflow_sub-position
overflow_sub-position c = number_most 0 buckets_most _ c.in_ok-position.position (sym c.in_ok-position.ensures)
