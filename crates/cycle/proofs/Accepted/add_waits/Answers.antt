-- A line with another tag ends the tag before it; the last tag ends with the list.
use Rattle.std.proofs.Common.{arith}
use Rattle.cycle.proofs.Waiting.ListPass.{list_starts, waits_asked, waits_small, list_same, list_next, all_passed, list_ends}
use Rattle.cycle.proofs.Accepted.add_waits.Goals as goal
use Rattle.cycle.proofs.Accepted.add_waits.Goals.{then-other, else-other}

pub loop-i-init : goal.loop-i-init
loop-i-init c = list_starts c.args.self.now.sending c.requires c.tag_of-tag.result c.tag_of-tag.ensures

pub waits_between-sum-requires : goal.waits_between-sum-requires
waits_between-sum-requires c = waits_asked c.args.self.now.sending c.loop-i.invariant

pub overflow_add-sum : goal.overflow_add-sum
overflow_add-sum c =
    let sending = c.args.self.now.sending in
    let so = c.loop-i.invariant in
    let small = waits_small sending so c.waits_between-sum.result c.waits_between-sum.ensures in
    omega (arith, so, sending.ready.shaped.lines_high)

pub loop-i-preserved : goal.loop-i-preserved
loop-i-preserved c =
    let sending = c.args.self.now.sending in
    let so = c.loop-i.invariant in
    let next = c.tag_of-next in
    elim c.if-other.branch [
      | then-other w ↦
          rw (w.tag-is, w.first-is, w.tags-is, w.sum-is)
          (list_next sending so c.loop-i-test.true next.result next.ensures w.if-other.true w.waits_between-sum.result
          w.waits_between-sum.ensures)
      | else-other w ↦
          rw (w.tag-is, w.first-is, w.tags-is, w.sum-is)
          (list_same sending so c.loop-i-test.true next.result next.ensures w.if-other.false)
    ]

pub waits_between-sum-requires-2 : goal.waits_between-sum-requires-2
waits_between-sum-requires-2 c =
    let sending = c.args.self.now.sending in
    waits_asked sending (all_passed sending c.loop-i.invariant c.loop-i-test.false)

pub overflow_add-sum-2 : goal.overflow_add-sum-2
overflow_add-sum-2 c =
    let sending = c.args.self.now.sending in
    let so = all_passed sending c.loop-i.invariant c.loop-i-test.false in
    let small = waits_small sending so c.waits_between-sum-2.result c.waits_between-sum-2.ensures in
    omega (arith, so, sending.ready.shaped.lines_high)

pub returns : goal.returns
returns c =
    let sending = c.args.self.now.sending in
    let so = all_passed sending c.loop-i.invariant c.loop-i-test.false in
    list_ends sending so (omega arith) c.waits_between-sum-2.result c.waits_between-sum-2.ensures
