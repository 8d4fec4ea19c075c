-- A segment is written over the buckets before it, and the last one ends the cycle.
use Rattle.std.proofs.Common.{List, ap, ap₂, ◌∙◌, arith}
use Rattle.buckets.specs.declared.Line.{Line}
use Rattle.cycle.specs.Inner.Held.{plan_in, written}
use Rattle.cycle.specs.declared.Source.TheVariants.{List as InList}
use Rattle.cycle.proofs.Segmenting.SegmentLoops.{through_none, through_next, through_all}
use Rattle.cycle.proofs.Building.Writings.{seats, begun, grown}
use Rattle.cycle.proofs.Accepted.write_cycle.Goals as goal

pub loop-i-init : goal.loop-i-init
loop-i-init c =
    let a = c.args.self.now in
    through_none (begun a.cycle.f a.list.now a.sending c.args.image.now c.requires 0)

pub loop-i-preserved : goal.loop-i-preserved
loop-i-preserved c =
    let a = c.args.self.now in
    let w = c.sender.result in
    let s = w.part.s in
    let same = c.sender.ensures in
    let placed = λ (ls : List Line). rw same.0 at (w.part.placed ls) in
    let sits = seats w in
    let size = ap (λ f. f.size) same.0 in
    let wrote =
    c.write_segment.ensures ∙ ap₂ (λ f list. written (plan_in f InList list) c.loop-i.image s.start s.end) same.0 same.1 in
    through_next c.loop-i.invariant c.loop-i-test.true (placed, same.2)
    (λ here. grown a.cycle.f a.list.now a.sending c.args.image.now c.requires 0 c.loop-i.image _ s.start s.end
    (omega arith) (omega (arith, sits)) (omega (arith, sits)) here wrote)

pub returns : goal.returns
returns c = through_all c.loop-i.invariant c.args.self.now.cycle.ready c.segment_count-i-end.ensures c.loop-i-test.false
