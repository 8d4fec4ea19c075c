-- Judging's refusals, then 17, and then the waits of the list's tags.
use Rattle.std.proofs.Common.{Err, ap, ◌∙◌}
use Rattle.std.proofs.lemmas.Result.{err_from_is_err_and}
use Rattle.buckets.specs.ListLine.{list_lines}
use Rattle.cycle.specs.Waits.{wait_sum}
use Rattle.cycle.specs.Inner.Held.{plan_of}
use Rattle.cycle.proofs.Waiting.WaitAnswers.{waits_refused, waits_no_line, waits_summed}
use Rattle.cycle.proofs.waits.waits.Goals as goal

pub returns-in_err-accepted : goal.returns-in_err-accepted
returns-in_err-accepted c =
    let told = err_from_is_err_and c.from_residual.result c.from_residual.ensures.1 in
    told.1 ∙ ap Err told.2 ∙ waits_refused c.args.settings c.args.list.now _ c.in_err-accepted.ensures

pub returns-then-accepted-eq0 : goal.returns-then-accepted-eq0
returns-then-accepted-eq0 c =
    ap Err c.from.ensures
    ∙ waits_no_line c.args.settings c.args.list.now _ c.in_ok-accepted.ensures.0 c.if-accepted-eq0.true

pub returns : goal.returns
returns c =
    let f = c.in_ok-accepted.accepted.cycle.f in
    waits_summed c.args.settings c.args.list.now f c.in_ok-accepted.ensures.0 c.if-accepted-eq0.false c.add_waits.result
    (c.add_waits.ensures ∙ ap (λ list. wait_sum (plan_of f (list_lines list))) c.in_ok-accepted.ensures.1)
