-- Assumes nothing.
use Rattle.std.proofs.Common.{◌%◌, get_or, arith}
use Rattle.columns.proofs.Lenient.{column_worth}
use Rattle.columns.proofs.SpelledSoFar.{next_spelled}
use Rattle.columns.proofs.lenient_number.Goals as goal

pub loop-c-preserved : goal.loop-c-preserved
loop-c-preserved c =
    rw (c.ten_to.ensures, c.from.ensures)
    (next_spelled c.args.part.now c.loop-c.x c.loop-c.c-index (get_or c.args.part.now c.loop-c.c-index 0 % 16) c.loop-c.invariant (omega arith) (omega arith) (column_worth c.args.part.now c.loop-c.c-index c.requires.1 (omega arith)))
