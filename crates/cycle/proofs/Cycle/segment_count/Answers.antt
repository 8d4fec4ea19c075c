-- Layout 1 has a segment for each `span` data buckets, and one without any; layout 2 has one for each copy.
use Rattle.std.proofs.Common.{◌≡◌, [], sym, ap, ◌∙◌, ◌-◌, ◌^◌, max, arith}
use Rattle.columns.specs.Lists.{up}
use Rattle.cycle.specs.Tree.{layout_number}
use Rattle.cycle.specs.Inner.Held.{plan_of}
use Rattle.cycle.proofs.Segmenting.SegmentSizes.{count_blocks}
use Rattle.cycle.proofs.Trees.Readiness.{block, block_trees}
use Rattle.cycle.proofs.Cycle.segment_count.Goals as goal

pub up-requires : goal.up-requires
up-requires c =
    let r = c.args.self.now.ready in
    let one = ap layout_number c.in-Distributed.is in
    let b = block c.args.self.now.f r.shaped one r.copies_fit_lem in
    rw (block_trees c.args.self.now.f r.shaped r.trees one).span (b.power_low, omega (arith, b.power_high, b.some))

pub returns-in-Distributed : goal.returns-in-Distributed
unfolding plan_of
returns-in-Distributed c =
    let f = c.args.self.now.f in
    let r = c.args.self.now.ready in
    let one = ap layout_number c.in-Distributed.is in
    let b = block f r.shaped one r.copies_fit_lem in
    let counted : c.up.result ≡ up f.d (f.n ^ (f.k - f.copies)) = c.up.ensures ∙ ap (up f.d) (block_trees f r.shaped r.trees one).span in
    let some : c.max.result ≡ max 1 (up f.d (f.n ^ (f.k - f.copies))) = omega (arith, c.max.ensures, counted) in
    some ∙ sym (count_blocks (plan_of f []) b.pos b.fits one)
