-- The refusals of the waits' sum, or the sum divided.
use Rattle.std.proofs.Common.{Ok, Err, sym, ap, ◌∙◌}
use Rattle.std.proofs.lemmas.Result.{err_from_is_err_and}
use Rattle.listener.proofs.Means.Answers.{divisible, mean_refused, mean_divided}
use Rattle.listener.proofs.mean.mean.Goals as goal

pub returns-in_err-waits : goal.returns-in_err-waits
returns-in_err-waits c =
    let told = err_from_is_err_and c.from_residual.result c.from_residual.ensures.1 in
    told.1 ∙ ap Err told.2 ∙ mean_refused c.args.settings c.args.list.now _ (sym c.waits.ensures ∙ c.in_err-waits.was)

pub average-requires : goal.average-requires
average-requires c =
    let d = divisible c.args.settings c.args.list.now _ (sym c.waits.ensures ∙ c.in_ok-waits.was) in
    (d.n_low, d.n_high, d.tags_low, d.tags_high)

pub returns : goal.returns
returns c = ap Ok c.average.ensures ∙ mean_divided c.args.settings c.args.list.now _ (sym c.waits.ensures ∙ c.in_ok-waits.was)
