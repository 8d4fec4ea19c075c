-- A segment's lines follow those of the segments before it, and behind the last one stands the whole list.
use Rattle.std.proofs.Common.{◌≡◌, [], sym, ap, ◌∙◌, ◌*◌, min}
use Rattle.columns.specs.Lists.{put}
use Rattle.columns.proofs.Put.{put_nil}
use Rattle.buckets.specs.Lengths.{line_length}
use Rattle.cycle.specs.declared.read_back.Held.{Held}
use Rattle.cycle.specs.Inner.Comparing.{list_text, Holding, Comparing}
use Rattle.cycle.proofs.Segmenting.SegmentLoops.{through_none, through_next, through_all}
use Rattle.cycle.proofs.ReadingBack.Comparisons.{moved}
use Rattle.cycle.proofs.ReadingBack.ListWritten.{text_none_sent, text_all_sent, segment_more}
use Rattle.cycle.proofs.read_back.Held.write_list.Goals as goal

holding : (v : Held) → Holding v.cycle.f v.image.now
holding v = record { ready = v.cycle.ready; long = v.long }

pub loop-i-init : goal.loop-i-init
loop-i-init c =
    let v = c.args.self.now in
    through_none (sym (ap (put c.args.out.now 0) (text_none_sent v.cycle.f v.image.now (holding v)) ∙ put_nil c.args.out.now 0))

pub loop-i-preserved : goal.loop-i-preserved
loop-i-preserved c =
    let v = c.args.self.now in
    let of = c.comparer.result in
    let s = of.part.s in
    let same = c.comparer.ensures in
    let w : Comparing v.cycle.f v.image.now s = moved same.0 same.1 (λ g a. Comparing g a s) of.comparing in
    through_next c.loop-i.invariant c.loop-i-test.true (w.placed, same.2)
    (λ here. segment_more v.cycle.f v.image.now (holding v) c.args.out.now c.loop-i.out _ s (w.placed []) c.requires here
    (moved same.0 same.1
    (λ g a.
    c.write_lines.new.out
    ≡ put c.loop-i.out (line_length * (s.first * g.p)) (list_text g a (s.first * g.p) (min g.lines (s.last * g.p))))
    c.write_lines.ensures))

pub returns : goal.returns
returns c =
    let v = c.args.self.now in
    through_all c.loop-i.invariant v.cycle.ready c.segment_count-i-end.ensures c.loop-i-test.false
    ∙ ap (put c.args.out.now 0) (text_all_sent v.cycle.f v.image.now (holding v))
