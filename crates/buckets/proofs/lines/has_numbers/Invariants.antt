-- The columns passed and the columns left tell the answer.
use Rattle.std.proofs.Common.{◌≡◌, ◌&&◌, drop, length}
use Rattle.columns.specs.Inner.Places.{column_digits, columns_by}
use Rattle.buckets.specs.Inner.Columns.{line_places}
use Rattle.buckets.proofs.lines.has_numbers.Given as goal

abbrev pub invariant-loop-c : goal.invariant-loop-c
invariant-loop-c l =
    columns_by column_digits line_places 32 l.part
    ≡ (l.still && columns_by column_digits (drop (length l.yielded) line_places) l.before (drop (length l.yielded) l.part))
