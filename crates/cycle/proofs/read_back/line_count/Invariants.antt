-- The buckets that are left are still to be counted.
use Rattle.std.proofs.Common.{◌≡◌, ◌+◌, ◌*◌, ◌/◌, ◌≤◌, length}
use Rattle.columns.specs.Lists.{parts}
use Rattle.buckets.specs.Lengths.{bucket_length}
use Rattle.cycle.specs.Inner.Comparing.{counted_from, counted}
use Rattle.cycle.proofs.read_back.line_count.Given as goal

abbrev pub invariant-loop-bucket : goal.invariant-loop-bucket
invariant-loop-bucket l = record {
  size : l.bucket-iterator.size ≡ bucket_length;
  few : bucket_length * l.d + length l.bucket-iterator.rest.now ≤ length l.image;
  left :
      counted l.p l.image ≡
      counted_from l.p l.d l.last (parts (length l.bucket-iterator.rest.now / bucket_length) bucket_length l.bucket-iterator.rest.now);
}
