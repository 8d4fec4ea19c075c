-- One more column, or none is left.
use Rattle.std.proofs.Common.{refl, arith}
use Rattle.columns.specs.Inner.Places.{column_printed}
use Rattle.buckets.specs.Inner.Columns.{rest_places}
use Rattle.buckets.proofs.ColumnByColumn.{one_more, all_passed}
use Rattle.buckets.proofs.lines.rest_printed.Goals as goal

pub loop-i-preserved : goal.loop-i-preserved
loop-i-preserved c =
    one_more column_printed rest_places c.args.part.now c.loop-i.i c.loop-i.before c.loop-i.still c.loop-i.invariant
    c.loop-i-test.true (omega (arith, c.requires)) _ _ _ _ _ refl refl refl c.still_printed-still.ensures

pub returns : goal.returns
returns c =
    all_passed column_printed rest_places c.args.part.now c.loop-i.i c.loop-i.before c.loop-i.still c.loop-i.invariant c.loop-i-test.false
