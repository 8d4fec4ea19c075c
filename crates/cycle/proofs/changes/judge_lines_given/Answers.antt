-- The given line is misprinted, or the list's own lines decide.
use Rattle.std.specs.Prelude.{unwrap_or}
use Rattle.std.proofs.Common.{◌/◌, [], ◌∷◌, Some, length, sym, ap, ◌∙◌}
use Rattle.buckets.specs.declared.Line.{Line}
use Rattle.buckets.specs.ListLine.{read_line}
use Rattle.buckets.specs.Lengths.{line_length}
use Rattle.buckets.proofs.Chained.{mapped_none, mapped_some}
use Rattle.cycle.specs.Refusals.{refusal}
use Rattle.cycle.specs.Building.{line_misprinted, tag_falls}
use Rattle.cycle.specs.Changes.{line_conditions}
use Rattle.cycle.specs.declared.Reason.TheVariants.{LineMisprinted}
use Rattle.cycle.proofs.Changing.GivenJudging.{given_misprinted_lem, given_printed, told_by}
use Rattle.cycle.proofs.changes.judge_lines_given.Goals as goal

-- no line of the list is misprinted, so the given one is the first
pub returns-then-all_rise : goal.returns-then-all_rise
returns-then-all_rise c =
    let lines = length c.args.list.now / line_length in
    given_misprinted_lem c.args.list.now lines c.args.given.now
    (mapped_none (λ (l : Line). l.tag) (read_line c.args.given.now) c.line_tag.ensures c.if-is_none.ensures)
    ∙ ap (λ o. Some (refusal LineMisprinted (unwrap_or o lines))) ((c.all_rise.ensures c.if-all_rise.true).0)

pub returns-then-is_none : goal.returns-then-is_none
returns-then-is_none c =
    let lines = length c.args.list.now / line_length in
    given_misprinted_lem c.args.list.now lines c.args.given.now
    (mapped_none (λ (l : Line). l.tag) (read_line c.args.given.now) c.line_tag.ensures c.if-is_none.ensures)
    ∙ sym (ap (λ k. Some (refusal LineMisprinted k)) (c.unwrap_or-place.ensures ∙ ap (λ o. unwrap_or o lines) c.first_misprint.ensures))

pub returns : goal.returns
returns c =
    let lines = length c.args.list.now / line_length in
    told_by (line_conditions c.args.list.now lines c.args.given.now)
    (line_misprinted c.args.list.now ∷ tag_falls c.args.list.now ∷ []) c.args.list.now c.judge_lines.result
    (given_printed c.args.list.now lines c.args.given.now
    (mapped_some (λ (l : Line). l.tag) (read_line c.args.given.now) c.line_tag.ensures c.if-is_none.ensures))
    c.judge_lines.ensures
