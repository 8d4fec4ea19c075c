-- `listener::run::run` meets its contract: 11, 12 or the run. Assumes nothing.
use Rattle.std.proofs.Common.{Err, sym, ap, ◌∙◌}
use Rattle.std.proofs.lemmas.Result.{err_from_is_err_and}
use Rattle.listener.specs.Lookup.{as_ending}
use Rattle.listener.proofs.Lookups.LookupOutcomes.{runs_in, runs_not}
use Rattle.listener.proofs.run.run.Goals as goal

pub returns-in_err-tuned_in : goal.returns-in_err-tuned_in
returns-in_err-tuned_in c =
    let told = err_from_is_err_and c.from_residual.result c.from_residual.ensures.1 in
    told.1 ∙ ap Err told.2 ∙ ap as_ending (sym (runs_not c.args.image.now c.args.tag c.args.t _ c.in_err-tuned_in.ensures))

pub returns-in_err-ran : goal.returns-in_err-ran
returns-in_err-ran c =
    let told = err_from_is_err_and c.from_residual-in_err-ran.result c.from_residual-in_err-ran.ensures.1 in
    let image = c.in_ok-tuned_in.ensures in
    told.1 ∙ ap Err told.2 ∙
    sym (ap as_ending (runs_in c.args.image.now c.args.tag c.args.t image.0 image.1 image.2) ∙ c.in_err-ran.ensures)

pub returns : goal.returns
returns c =
    let image = c.in_ok-tuned_in.ensures in
    sym (ap as_ending (runs_in c.args.image.now c.args.tag c.args.t image.0 image.1 image.2) ∙ c.in_ok-ran.ensures.1)
