-- 1 to 4 in their order, and then the figures of the list's length are judged as the list is, and those that pass can be sent with it.
use Rattle.std.proofs.Common.{◌≡◌, ℕ, ◌%◌, ◌/◌, ◌≤◌, [], ◌∷◌, List, true, None, Err, length, sym, ap, ◌∙◌, refl}
use Rattle.std.specs.Prelude.{Result}
use Rattle.std.proofs.lemmas.Result.{err_from_is_err_and}
use Rattle.buckets.specs.Lengths.{line_length, lines_most}
use Rattle.cycle.specs.Cycle.{cycle_size}
use Rattle.cycle.specs.Refusals.{first_refusal, outcome}
use Rattle.cycle.specs.Building.{settings_fit, line_misprinted, tag_falls}
use Rattle.cycle.specs.Judging.{judge, plan_conditions}
use Rattle.cycle.specs.declared.Settings.{Settings}
use Rattle.cycle.specs.declared.Figures.{Figures}
use Rattle.cycle.specs.declared.Refusal.{Refusal}
use Rattle.cycle.specs.Inner.Held.{plan_of, sized}
use Rattle.cycle.specs.Inner.Settings.{Figured}
use Rattle.cycle.proofs.Building.Accepted
use Rattle.cycle.proofs.Building.Answering.{refused_1, refused_2, lines_refused, judges_refusal, no_multiple, too_long, lines_fit, lines_judged, sending_judged}
use Rattle.cycle.proofs.conditions.judge_list.Goals as goal

pub returns-then-not-settings_fit : goal.returns-then-not-settings_fit
returns-then-not-settings_fit c =
    judges_refusal c.args.settings c.args.list.now c.args.room _
    (refused_1 c.args.settings c.args.list.now c.args.room (sym c.settings_fit.ensures ∙ c.if-not-settings_fit.true))
    ∙ ap Err (sym c.from.ensures)

pub returns-then-length-ne0 : goal.returns-then-length-ne0
returns-then-length-ne0 c =
    judges_refusal c.args.settings c.args.list.now c.args.room _
    (refused_2 c.args.settings c.args.list.now c.args.room (sym c.settings_fit.ensures ∙ c.if-not-settings_fit.false)
    (no_multiple (length c.args.list.now) c.if-length-ne0.true))
    ∙ ap Err (sym c.from-then-length-ne0.ensures)

pub returns-then-too_many : goal.returns-then-too_many
returns-then-too_many c =
    judges_refusal c.args.settings c.args.list.now c.args.room _
    (refused_2 c.args.settings c.args.list.now c.args.room (sym c.settings_fit.ensures ∙ c.if-not-settings_fit.false)
    (too_long (length c.args.list.now) c.if-length-ne0.false c.if-too_many.true))
    ∙ ap Err (sym c.from-then-too_many.ensures)

pub returns-in_err-plain : goal.returns-in_err-plain
returns-in_err-plain c =
    let told = err_from_is_err_and c.from_residual.result c.from_residual.ensures.1 in
    rw (told.1, told.2)
    (judges_refusal c.args.settings c.args.list.now c.args.room _
    (lines_refused c.args.settings c.args.list.now c.args.room (sym c.settings_fit.ensures ∙ c.if-not-settings_fit.false)
    (lines_fit (length c.args.list.now) c.if-length-ne0.false c.if-too_many.false) _ c.in_err-plain.ensures))

pub figures_of-requires : goal.figures_of-requires
figures_of-requires c =
    (Accepted.settings_fit_lem c.args.settings (sym c.settings_fit.ensures ∙ c.if-not-settings_fit.false), c.if-too_many.false)

-- the figures of the list's length, judged as the list is
module _ (s : Settings) (list : List ℕ) (room : ℕ) (f : Figures) (one : settings_fit s ≡ true) (whole : length list % line_length ≡ 0)
    (few : length list / line_length ≤ lines_most) (lines : first_refusal (line_misprinted list ∷ tag_falls list ∷ []) ≡ None)
    (given : Figured s f × (f.lines ≡ length list / line_length)) where
  judged :
      (r : Result Figures Refusal) → r ≡ outcome (first_refusal (plan_conditions (plan_of f []) room)) (sized f (cycle_size (plan_of f []))) →
      judge s list room ≡ r
  judged r e = sym (e ∙ lines_judged s list room f one (lines_fit (length list) whole few) lines given.0 given.1)

pub returns-in_err-f : goal.returns-in_err-f
returns-in_err-f c =
    let told = err_from_is_err_and c.from_residual-in_err-f.result c.from_residual-in_err-f.ensures.1 in
    rw (told.1, told.2)
    (judged c.args.settings c.args.list.now c.args.room c.figures_of.result (sym c.settings_fit.ensures ∙ c.if-not-settings_fit.false)
    c.if-length-ne0.false c.if-too_many.false c.in_ok-plain.ensures.0 c.figures_of.ensures _ c.in_err-f.ensures)

pub invariant_of-result : goal.invariant_of-result
invariant_of-result c =
    let answer =
    judged c.args.settings c.args.list.now c.args.room c.figures_of.result (sym c.settings_fit.ensures ∙ c.if-not-settings_fit.false)
    c.if-length-ne0.false c.if-too_many.false c.in_ok-plain.ensures.0 c.figures_of.ensures _ c.in_ok-f.ensures in
    record { ready = (sending_judged c.args.settings c.args.list.now c.args.room c.in_ok-f.f answer).0.ready }

pub invariant_of-result-2 : goal.invariant_of-result-2
invariant_of-result-2 c =
    let answer =
    judged c.args.settings c.args.list.now c.args.room c.figures_of.result (sym c.settings_fit.ensures ∙ c.if-not-settings_fit.false)
    c.if-length-ne0.false c.if-too_many.false c.in_ok-plain.ensures.0 c.figures_of.ensures _ c.in_ok-f.ensures in
    record {
      sending = (sending_judged c.args.settings c.args.list.now c.args.room c.in_ok-f.f answer).0;
      no_zeros = c.in_ok-plain.ensures.1;
    }

pub returns : goal.returns
returns c = (
  judged c.args.settings c.args.list.now c.args.room c.figures_of.result (sym c.settings_fit.ensures ∙ c.if-not-settings_fit.false)
      c.if-length-ne0.false c.if-too_many.false c.in_ok-plain.ensures.0 c.figures_of.ensures _ c.in_ok-f.ensures,
  refl,
)
