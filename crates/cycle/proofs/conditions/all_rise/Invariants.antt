-- All lines read, without leading zeros where the flag says so, and no tag falls, if this holds of the lines that are left, from the
-- tag before them on.
use Rattle.std.proofs.Common.{◌≡◌, true, length}
use Rattle.buckets.specs.ListLine.{cut_lines, list_lines, misprint_from, fall_from}
use Rattle.buckets.specs.Lengths.{line_length}
use Rattle.cycle.proofs.Building.Refusals.{all_plain}
use Rattle.cycle.proofs.conditions.all_rise.Given as goal

abbrev pub invariant-loop-line : goal.invariant-loop-line
invariant-loop-line l = record {
  size : l.line-iterator.size ≡ line_length;
  read : misprint_from 0 (cut_lines l.list) ≡ misprint_from (length l.yielded) (cut_lines l.line-iterator.rest.now);
  rise : fall_from 0 0 (list_lines l.list) ≡ fall_from (length l.yielded) l.last (list_lines l.line-iterator.rest.now);
  no_zeros : l.plain ≡ true → all_plain (cut_lines l.list) ≡ all_plain (cut_lines l.line-iterator.rest.now);
}
