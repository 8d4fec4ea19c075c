-- The line at hand is of our tag, or not.
use Rattle.std.proofs.Common.{arith}
use Rattle.listener.proofs.Steps.HeldLists.{matching_hit, matching_miss, matching_end}
use Rattle.listener.proofs.choose.lines_matching.Goals as goal
use Rattle.listener.proofs.choose.lines_matching.Goals.{then-own-tag, else-own-tag}

pub loop-own-preserved : goal.loop-own-preserved
loop-own-preserved c =
    elim c.if-own-tag.branch [
      | then-own-tag w ↦
          (omega arith, omega (arith, matching_hit c.args.tag c.args.tags.now c.loop-own.own-index c.loop-own-test.true w.if-own-tag.true))
      | else-own-tag w ↦
          (omega arith, omega (arith, matching_miss c.args.tag c.args.tags.now c.loop-own.own-index c.loop-own-test.true w.if-own-tag.false))
    ]

pub returns : goal.returns
returns c = omega (arith, matching_end c.args.tag c.args.tags.now c.loop-own.own-index c.loop-own-test.false)
