-- The columns passed and the columns left tell the answer.
use Rattle.std.proofs.Common.{◌≡◌, ◌&&◌, drop}
use Rattle.columns.specs.Inner.Places.{column_printed, columns_by}
use Rattle.buckets.specs.Inner.Columns.{rest_places}
use Rattle.buckets.proofs.lines.rest_printed.Given as goal

abbrev pub invariant-loop-i : goal.invariant-loop-i
invariant-loop-i l =
    columns_by column_printed rest_places 32 l.part
    ≡ (l.still && columns_by column_printed (drop l.i rest_places) l.before (drop l.i l.part))
