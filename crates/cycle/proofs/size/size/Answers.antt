-- 1 and 2 in their order, and then the figures of the number of lines are judged.
use Rattle.std.proofs.Common.{[], Ok, Err, sym, ap, ◌∙◌}
use Rattle.std.proofs.lemmas.Result.{err_from_is_err_and}
use Rattle.cycle.proofs.Building.Accepted
use Rattle.cycle.proofs.Building.Sizing.{refused_1, refused_2, sizes_refusal, judged_refused, judged_size}
use Rattle.cycle.proofs.Building.PlanFigures.{plan_for_lem}
use Rattle.cycle.proofs.size.size.Goals as goal

pub returns-then-not-settings_fit : goal.returns-then-not-settings_fit
returns-then-not-settings_fit c =
    ap Err c.from.ensures
    ∙ sizes_refusal c.args.settings c.args.lines c.args.c _
    (refused_1 c.args.settings c.args.lines (sym c.settings_fit.ensures ∙ c.if-not-settings_fit.true))

pub returns-then-lines-gt-LINES_MOST : goal.returns-then-lines-gt-LINES_MOST
returns-then-lines-gt-LINES_MOST c =
    ap Err c.from-then-lines-gt-LINES_MOST.ensures
    ∙ sizes_refusal c.args.settings c.args.lines c.args.c _
    (refused_2 c.args.settings c.args.lines (sym c.settings_fit.ensures ∙ c.if-not-settings_fit.false) c.if-lines-gt-LINES_MOST.true)

pub figures_of-requires : goal.figures_of-requires
figures_of-requires c =
    (Accepted.settings_fit_lem c.args.settings (sym c.settings_fit.ensures ∙ c.if-not-settings_fit.false), c.if-lines-gt-LINES_MOST.false)

pub returns-in_err-f : goal.returns-in_err-f
returns-in_err-f c =
    let told = err_from_is_err_and c.from_residual.result c.from_residual.ensures.1 in
    let figured = c.figures_of.ensures in
    told.1 ∙ ap Err told.2
    ∙ judged_refused c.figures_of.result figured.0.shaped c.args.settings c.args.lines
    (plan_for_lem c.args.settings c.figures_of.result c.args.lines [] figured.0 (sym figured.1))
    (sym c.settings_fit.ensures ∙ c.if-not-settings_fit.false) c.if-lines-gt-LINES_MOST.false c.args.c _
    (sym c.judge_figures.ensures ∙ c.in_err-f.was)

pub dimensions_of-requires : goal.dimensions_of-requires
dimensions_of-requires c =
    let figured = c.figures_of.ensures in
    let m =
    (judged_size c.figures_of.result figured.0.shaped c.args.settings c.args.lines
    (plan_for_lem c.args.settings c.figures_of.result c.args.lines [] figured.0 (sym figured.1))
    (sym c.settings_fit.ensures ∙ c.if-not-settings_fit.false) c.if-lines-gt-LINES_MOST.false c.args.c _
    (sym c.judge_figures.ensures ∙ c.in_ok-f.was)).0 in
    (m.k_high, m.d_high, m.size_high, m.size_is)

pub returns : goal.returns
returns c =
    let figured = c.figures_of.ensures in
    ap Ok c.dimensions_of.ensures
    ∙ (judged_size c.figures_of.result figured.0.shaped c.args.settings c.args.lines
    (plan_for_lem c.args.settings c.figures_of.result c.args.lines [] figured.0 (sym figured.1))
    (sym c.settings_fit.ensures ∙ c.if-not-settings_fit.false) c.if-lines-gt-LINES_MOST.false c.args.c _
    (sym c.judge_figures.ensures ∙ c.in_ok-f.was)).1
