-- 1 and 11, then 13, 7 and the list.
use Rattle.std.proofs.Common.{Err, length, sym, ap, ◌∙◌, arith}
use Rattle.cycle.proofs.Building.Accepted.{settings_fit_lem}
use Rattle.cycle.proofs.ReadingBack.Demand2.{refuses_1, refuses_11, every_read_back}
use Rattle.cycle.proofs.ReadingBack.ReadBackAnswers.{buckets_whole, image_empty, image_torn, image_long, refuses, many_refused}
use Rattle.cycle.proofs.read_back.read_back.Goals as goal

pub returns-then-not-settings_fit : goal.returns-then-not-settings_fit
returns-then-not-settings_fit c =
    let all =
    refuses _ _ c.args.out.now
    (refuses_1 c.args.settings c.args.image.now (length c.args.out.now) (sym c.settings_fit.ensures ∙ c.if-not-settings_fit.true)) in
    (ap Err c.from.ensures ∙ all.0, all.1)

pub returns-then-length-eq0 : goal.returns-then-length-eq0
returns-then-length-eq0 c =
    let all =
    refuses _ _ c.args.out.now
    (refuses_11 c.args.settings c.args.image.now (length c.args.out.now) (sym c.settings_fit.ensures ∙ c.if-not-settings_fit.false)
    (image_empty _ c.if-length-eq0.true)) in
    (ap Err c.from-then-length-eq0.ensures ∙ all.0, all.1)

pub returns-then-length-ne0 : goal.returns-then-length-ne0
returns-then-length-ne0 c =
    let all =
    refuses _ _ c.args.out.now
    (refuses_11 c.args.settings c.args.image.now (length c.args.out.now) (sym c.settings_fit.ensures ∙ c.if-not-settings_fit.false)
    (image_torn _ c.if-length-ne0.true)) in
    (ap Err c.from-then-length-ne0.ensures ∙ all.0, all.1)

pub returns-then-length-gt-BUCKETS_MOST : goal.returns-then-length-gt-BUCKETS_MOST
returns-then-length-gt-BUCKETS_MOST c =
    let all =
    refuses _ _ c.args.out.now
    (refuses_11 c.args.settings c.args.image.now (length c.args.out.now) (sym c.settings_fit.ensures ∙ c.if-not-settings_fit.false)
    (image_long _ (omega (arith, c.if-length-gt-BUCKETS_MOST.true)))) in
    (ap Err c.from-then-length-gt-BUCKETS_MOST.ensures ∙ all.0, all.1)

pub line_count-lines-requires : goal.line_count-lines-requires
line_count-lines-requires c =
    let told = settings_fit_lem c.args.settings (sym c.settings_fit.ensures ∙ c.if-not-settings_fit.false) in
    (omega (arith, c.if-length-gt-BUCKETS_MOST.false, c.if-length-ne0.false), told.p_high)

pub returns-then-too_many : goal.returns-then-too_many
returns-then-too_many c =
    let fit = sym c.settings_fit.ensures ∙ c.if-not-settings_fit.false in
    let all =
    refuses _ _ c.args.out.now
    ((every_read_back c.args.settings c.args.image.now (length c.args.out.now)).refuses_13 fit
    (buckets_whole _ (omega (arith, c.if-length-eq0.false)) c.if-length-ne0.false c.if-length-gt-BUCKETS_MOST.false)
    (many_refused c.args.settings c.args.image.now (omega (arith, c.line_count-lines.ensures, c.if-too_many.true)))) in
    (ap Err c.from-then-too_many.ensures ∙ all.0, all.1)

pub figures_of-requires : goal.figures_of-requires
figures_of-requires c =
    (settings_fit_lem c.args.settings (sym c.settings_fit.ensures ∙ c.if-not-settings_fit.false), c.if-too_many.false)
