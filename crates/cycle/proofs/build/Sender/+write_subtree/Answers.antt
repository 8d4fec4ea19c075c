-- A subtree is its bucket and then each child's subtree, one behind the other.
use Rattle.std.proofs.Common.{ap, ◌∙◌, arith}
use Rattle.cycle.specs.Inner.Held.{plan_in, written}
use Rattle.cycle.specs.declared.Source.TheVariants.{List as InList}
use Rattle.cycle.proofs.Segmenting.Subtrees.{own_there, alone, first_fits, none_behind, child_place, child_fits, next_behind, all_behind}
use Rattle.cycle.proofs.Building.Writings.{begins, next_written, all_written}
use Rattle.cycle.proofs.build.Sender.+write_subtree.Goals as goal

pub overflow_add-next : goal.overflow_add-next
overflow_add-next t c = let w = c.args.self.now in omega (arith, own_there w.sending.ready w.part.placed c.requires.1)

pub returns-then-e-eq1 : goal.returns-then-e-eq1
returns-then-e-eq1 t c =
    let a = c.args in
    let w = a.self.now in
    let end = alone w.sending.ready w.part.placed c.requires.1 c.if-e-eq1.true in
    (end, c.write_tree_bucket-count.ensures.1 ∙ ap (written (plan_in w.part.cycle.now.f InList w.list.now) a.image.now a.x) end)

pub overflow_mul-first : goal.overflow_mul-first
overflow_mul-first t c = let w = c.args.self.now in first_fits w.sending.ready w.part.placed c.requires.1

pub loop-i-init : goal.loop-i-init
loop-i-init t c =
    let w = c.args.self.now in
    let call = c.write_tree_bucket-count in
    (none_behind w.sending.ready w.part.placed c.requires.1 call.ensures.0, begins w c.requires.1 call.new.image (omega arith))

pub overflow_add-first : goal.overflow_add-first
overflow_add-first t c =
    let w = c.args.self.now in
    child_fits w.sending.ready w.part.placed c.requires.1 c.write_tree_bucket-count.ensures.0 c.loop-i.invariant.0 c.if-e-eq1.false
    c.loop-i-test.true

pub write_subtree-next-requires : goal.write_subtree-next-requires
write_subtree-next-requires t c =
    let w = c.args.self.now in
    let p = c.requires.1 in
    let call = c.write_tree_bucket-count in
    let more = c.if-e-eq1.false in (
      omega (arith, p.low),
      (omega arith, child_place w.sending.ready w.part.placed p call.ensures.0 c.loop-i.invariant.0 more c.loop-i-test.true),
    )

pub loop-i-preserved : goal.loop-i-preserved
loop-i-preserved t c =
    let w = c.args.self.now in
    let call = c.write_tree_bucket-count in
    let h = c.loop-i-test.true in
    let next = c.write_subtree-next in (
      next_behind w.sending.ready w.part.placed c.requires.1 call.ensures.0 c.loop-i.invariant.0 h next.ensures.0,
      next_written w c.requires.1 call.new.image (omega arith) c.if-e-eq1.false call.ensures.0 c.loop-i.invariant.0 c.loop-i.invariant.1 h
          next.result next.ensures.0 next.ensures.1,
    )

pub returns : goal.returns
returns t c =
    let w = c.args.self.now in
    let call = c.write_tree_bucket-count in (
      all_behind w.sending.ready w.part.placed c.requires.1 call.ensures.0 c.loop-i.invariant.0 c.loop-i-test.false,
      all_written w c.requires.1 call.new.image (omega arith) c.if-e-eq1.false call.ensures.0 c.loop-i.invariant.0 c.loop-i.invariant.1
          c.loop-i-test.false c.args.image.now c.requires.0 call.ensures.1,
    )
