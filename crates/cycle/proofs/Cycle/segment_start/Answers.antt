-- In layout 1 the segments have `span` data buckets; in layout 2 the code divides a product for the part.
use Rattle.std.proofs.Common.{[], sym, ap, subst, ◌∙◌, ◌/◌, ◌<◌, arith}
use Rattle.cycle.specs.Tree.{layout_number}
use Rattle.cycle.specs.Inner.Held.{plan_of, segment_count}
use Rattle.cycle.proofs.Basics.LayoutKinds.{not_one}
use Rattle.cycle.proofs.Trees.Readiness.{data_high, block, block_trees}
use Rattle.cycle.proofs.Segmenting.HeldBlocks.{block_at}
use Rattle.cycle.proofs.Reach.DataHeld.{data_in_block, data_in_part}
use Rattle.cycle.proofs.Waiting.SegmentStarts.{start_in_block}
use Rattle.cycle.proofs.Cycle.segment_start.Goals as goal

pub nonzero_div-q : goal.nonzero_div-q
nonzero_div-q c =
    let f = c.args.self.now.f in
    let r = c.args.self.now.ready in
    let one = ap layout_number c.in-Distributed.is in
    rw (block_trees f r.shaped r.trees one).span (block f r.shaped one r.copies_fit_lem).power_low

pub distributed_start-requires : goal.distributed_start-requires
distributed_start-requires c =
    let f = c.args.self.now.f in
    let r = c.args.self.now.ready in
    let one = ap layout_number c.in-Distributed.is in (
      one,
      subst (λ x. c.args.q / x < segment_count (plan_of f [])) (sym (block_trees f r.shaped r.trees one).span)
          (data_in_block f c.args.q r c.requires one).among,
    )

pub returns-in-Distributed : goal.returns-in-Distributed
returns-in-Distributed c =
    let f = c.args.self.now.f in
    let r = c.args.self.now.ready in
    let one = ap layout_number c.in-Distributed.is in
    c.distributed_start.ensures
    ∙ ap (λ x. block_at f (c.args.q / x)) (block_trees f r.shaped r.trees one).span
    ∙ sym (start_in_block f c.args.q r c.requires one)

pub overflow_add-q : goal.overflow_add-q
overflow_add-q c = omega (arith, data_high c.args.self.now.f c.args.self.now.ready.shaped)

pub whole_start-requires : goal.whole_start-requires
whole_start-requires c =
    let other = not_one c.in-OneM.is in
    (ap layout_number c.in-OneM.is, (data_in_part c.args.self.now.f c.args.q c.args.self.now.ready c.requires other).among)
