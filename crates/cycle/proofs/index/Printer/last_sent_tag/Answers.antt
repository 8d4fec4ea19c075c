-- The data buckets before the last are full.
use Rattle.std.proofs.Common.{◌≡◌, ◌<◌, List, [], Some, sym, ap, ◌∙◌, arith}
use Rattle.buckets.specs.declared.Line.{Line}
use Rattle.cycle.specs.declared.Figures.{Figures}
use Rattle.cycle.specs.declared.Segment.{Segment}
use Rattle.cycle.specs.Inner.Held.{plan_of, HoldsSegment}
use Rattle.cycle.proofs.Lines.FollowOns.{full_lines, last_sent_lem}
use Rattle.cycle.proofs.index.Printer.last_sent_tag.Goals as goal

sent_within : (f : Figures) (s : Segment) → ((ls : List Line) → HoldsSegment (plan_of f ls) s) → (s.first ≡ 0 → ⊥) → s.first < f.d
unfolding plan_of
sent_within f s placed some = omega (arith, (placed []).first_in, some)

within : (c : goal.Else-sent-eq0) → c.args.self.now.part.now.s.first < c.args.self.now.part.now.cycle.now.f.d
within c = let part = c.args.self.now.part.now in sent_within part.cycle.now.f part.s part.placed c.if-sent-eq0.false

pub overflow_mul-sent : goal.overflow_mul-sent
overflow_mul-sent c =
    let part = c.args.self.now.part.now in
    let shaped = part.cycle.now.ready.shaped in
    omega (arith, full_lines part.cycle.now.f shaped part.s.first (within c), shaped.lines_high)

pub tag_of-requires : goal.tag_of-requires
tag_of-requires c =
    let part = c.args.self.now.part.now in
    omega (arith, full_lines part.cycle.now.f part.cycle.now.ready.shaped part.s.first (within c))

pub returns : goal.returns
returns c =
    let part = c.args.self.now.part.now in
    ap Some c.tag_of.ensures
    ∙ sym
    (last_sent_lem part.cycle.now.f part.cycle.now.ready c.args.self.now.source c.args.self.now.text.now part.s.first
    (omega (arith, c.if-sent-eq0.false)) (sent_within part.cycle.now.f part.s part.placed c.if-sent-eq0.false))
