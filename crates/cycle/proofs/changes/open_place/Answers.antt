-- No byte is moved yet, one more is, all are.
use Rattle.std.proofs.Common.{◌-◌, arith}
use Rattle.buckets.specs.Lengths.{line_length}
use Rattle.cycle.proofs.Changing.Moves.{opened_none, opened_more, opened_all}
use Rattle.cycle.proofs.changes.open_place.Goals as goal

pub loop-i-init : goal.loop-i-init
loop-i-init c = opened_none c.args.list.now line_length c.args.at c.args.end c.requires.0

pub loop-i-preserved : goal.loop-i-preserved
loop-i-preserved c =
    opened_more c.args.list.now line_length c.args.at c.args.end c.loop-i.list c.loop-i.i (c.loop-i.i - 1)
    c.requires.1 c.loop-i.invariant c.loop-i-test.true (omega (arith, c.loop-i-test.true))

pub returns : goal.returns
returns c = opened_all c.args.list.now line_length c.args.at c.args.end c.loop-i.list c.loop-i.i c.loop-i.invariant c.loop-i-test.false
