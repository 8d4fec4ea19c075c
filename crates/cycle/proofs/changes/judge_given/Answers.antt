-- 1 and 2 in their order, and then the lines decide.
use Rattle.std.proofs.Common.{◌≡◌, ℕ, ◌*◌, ◌/◌, ◌%◌, List, true, Some, length, sym, ap, ◌∙◌, arith}
use Rattle.buckets.specs.Lengths.{line_length}
use Rattle.cycle.specs.Refusals.{first_refusal}
use Rattle.cycle.specs.Changes.{list_in, places_for, line_conditions, given_conditions}
use Rattle.cycle.proofs.Changing.GivenJudging.{places_fit, length_in, settings_refused, too_many_lines_lem, no_places, given_length_out_lem, lines_decide, told_by}
use Rattle.cycle.proofs.changes.judge_given.Goals as goal

pub returns-then-not-settings_fit : goal.returns-then-not-settings_fit
returns-then-not-settings_fit c =
    settings_refused c.args.settings c.args.buffer.now c.args.lines c.args.given.now (sym c.settings_fit.ensures ∙ c.if-not-settings_fit.true)
    ∙ ap Some (sym c.from.ensures)

pub returns-then-lines-gt-LINES_MOST : goal.returns-then-lines-gt-LINES_MOST
returns-then-lines-gt-LINES_MOST c =
    too_many_lines_lem c.args.settings c.args.buffer.now c.args.lines c.args.given.now
    (sym c.settings_fit.ensures ∙ c.if-not-settings_fit.false) c.if-lines-gt-LINES_MOST.true
    ∙ ap Some (sym c.from-then-lines-gt-LINES_MOST.ensures)

pub returns-then-not-places_for : goal.returns-then-not-places_for
returns-then-not-places_for c =
    no_places c.args.settings c.args.buffer.now c.args.lines c.args.given.now
    (sym c.settings_fit.ensures ∙ c.if-not-settings_fit.false) c.if-lines-gt-LINES_MOST.false
    (sym c.places_for.ensures ∙ c.if-not-places_for.true)
    ∙ ap Some (sym c.from-then-not-places_for.ensures)

pub returns-then-given-ne-LENGTH : goal.returns-then-given-ne-LENGTH
returns-then-given-ne-LENGTH c =
    given_length_out_lem c.args.settings c.args.buffer.now c.args.lines c.args.given.now
    (sym c.settings_fit.ensures ∙ c.if-not-settings_fit.false) c.if-lines-gt-LINES_MOST.false
    (sym c.places_for.ensures ∙ c.if-not-places_for.false) c.if-given-ne-LENGTH.true
    ∙ ap Some (sym c.from-then-given-ne-LENGTH.ensures)

-- so many whole lines
long :
    (buffer : List ℕ) (lines : ℕ) → places_for buffer lines ≡ true →
    (length (list_in buffer lines) ≡ line_length * lines) × (length (list_in buffer lines) % line_length ≡ 0)
    × (length (list_in buffer lines) / line_length ≡ lines)
long buffer lines places =
    let is = length_in buffer lines (places_fit buffer lines places) in
    (is, omega (arith, is), omega (arith, is))

pub slice_bounds-judge_lines_given-end : goal.slice_bounds-judge_lines_given-end
unfolding list_in
slice_bounds-judge_lines_given-end c = sym (long c.args.buffer.now c.args.lines (sym c.places_for.ensures ∙ c.if-not-places_for.false)).0

pub judge_lines_given-requires : goal.judge_lines_given-requires
unfolding list_in
judge_lines_given-requires c = (long c.args.buffer.now c.args.lines (sym c.places_for.ensures ∙ c.if-not-places_for.false)).1

pub returns : goal.returns
unfolding list_in
returns c =
    let list = list_in c.args.buffer.now c.args.lines in
    let places = sym c.places_for.ensures ∙ c.if-not-places_for.false in
    told_by (given_conditions c.args.settings c.args.buffer.now c.args.lines c.args.given.now)
    (line_conditions list (length list / line_length) c.args.given.now) list c.judge_lines_given.result
    (lines_decide c.args.settings c.args.buffer.now c.args.lines c.args.given.now
    (sym c.settings_fit.ensures ∙ c.if-not-settings_fit.false) c.if-lines-gt-LINES_MOST.false places c.if-given-ne-LENGTH.false
    ∙ ap (λ n. first_refusal (line_conditions list n c.args.given.now)) (sym (long c.args.buffer.now c.args.lines places).2))
    c.judge_lines_given.ensures
