-- A line's tag is less than the one before, or it is not; at the end none fell.
use Rattle.std.proofs.Common.{Some, sym, ap, ap₂, ◌∙◌, arith}
use Rattle.buckets.specs.ListLine.{list_lines, fall_from}
use Rattle.cycle.proofs.Lines.LineByLine.{lines_none}
use Rattle.cycle.proofs.Building.Refusals.{tag_rises, tag_falls_here}
use Rattle.cycle.proofs.conditions.first_fall.Goals as goal

pub loop-i-init : goal.loop-i-init
loop-i-init c =
    let it = c.into_iter-i-iterator.ensures.into_iter_gives in
    let lines = c.enumerate-i-items.ensures.source in
    let count = ap (λ (k : _). k.count) it ∙ c.enumerate-i-items.ensures.count in
    let rest = ap (λ (k : _). k.iter.rest.now) it ∙ ap (λ (k : _). k.rest.now) lines ∙ c.chunks_exact.ensures.rest in (
      ap (λ (k : _). k.iter.size) it ∙ ap (λ (k : _). k.size) lines ∙ c.chunks_exact.ensures.size,
      sym (ap₂ (λ i t. fall_from i 0 (list_lines t)) count rest),
    )

pub returns-then-tag-last : goal.returns-then-tag-last
returns-then-tag-last c =
    let l = c.loop-i in
    let steps = c.in-Some.ensures.steps in
    let rest = c.next.new.self.iter.rest.now in
    let wide = steps.0.1.1 ∙ l.invariant.0 in
    ap Some steps.1
    ∙ sym
    (l.invariant.1 ∙ ap (λ t. fall_from l.i-iterator.count l.last (list_lines t)) steps.0.1.0
    ∙ tag_falls_here c.in-Some.line.now rest wide l.i-iterator.count l.last c.spelled_tag-tag.result c.spelled_tag-tag.ensures c.if-tag-last.true)

pub loop-i-preserved : goal.loop-i-preserved
loop-i-preserved c =
    let l = c.loop-i in
    let steps = c.in-Some.ensures.steps in
    let rest = c.next.new.self.iter.rest.now in
    let wide = steps.0.1.1 ∙ l.invariant.0 in (
      steps.0.0 ∙ l.invariant.0,
      l.invariant.1
          ∙ ap (λ t. fall_from l.i-iterator.count l.last (list_lines t)) steps.0.1.0
          ∙ tag_rises c.in-Some.line.now rest wide l.i-iterator.count l.last c.spelled_tag-tag.result c.spelled_tag-tag.ensures c.if-tag-last.false
          ∙ ap (λ i. fall_from i c.spelled_tag-tag.result (list_lines rest)) (sym steps.2),
    )

pub returns : goal.returns
returns c =
    let l = c.loop-i in
    let short = c.in-None.ensures.steps.0.1.0 in
    sym
    (l.invariant.1
    ∙ ap (fall_from l.i-iterator.count l.last)
    (lines_none l.i-iterator.iter.rest.now (omega (arith, short, l.invariant.0))))
