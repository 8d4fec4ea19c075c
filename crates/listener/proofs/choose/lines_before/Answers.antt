-- The line at i is of our tag, or not.
use Rattle.std.proofs.Common.{arith}
use Rattle.listener.proofs.Steps.HeldLists.{before_hit, before_miss, before_end}
use Rattle.listener.proofs.choose.lines_before.Goals as goal

pub returns-then-own-tag : goal.returns-then-own-tag
returns-then-own-tag c =
    let so = c.loop-i.invariant in
    omega (arith, so, before_hit c.args.tag c.args.tags.now c.loop-i.i c.loop-i-test.true c.if-own-tag.true)

pub loop-i-preserved : goal.loop-i-preserved
loop-i-preserved c =
    let so = c.loop-i.invariant in
    omega (arith, so, before_miss c.args.tag c.args.tags.now c.loop-i.i c.loop-i-test.true c.if-own-tag.false)

pub returns : goal.returns
returns c =
    let so = c.loop-i.invariant in
    omega (arith, so, before_end c.args.tag c.args.tags.now c.loop-i.i c.loop-i-test.false)
