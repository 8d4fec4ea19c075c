-- A refusal by 1 to 4 changes nothing.
use Rattle.std.proofs.Common.{Err, length, ap, ◌∙◌}
use Rattle.std.proofs.lemmas.Result.{err_from_is_err_and}
use Rattle.cycle.specs.Changes.{departure}
use Rattle.cycle.proofs.Changing.ChangeAnswers.{given_refused, change_refused}
use Rattle.cycle.proofs.changes.take_out.Goals as goal

pub returns-in_err-plain : goal.returns-in_err-plain
returns-in_err-plain c =
    let told = err_from_is_err_and c.from_residual.result c.from_residual.ensures.1 in
    let change = departure c.args.buffer.now c.args.lines c.args.given.now in
    let room = length c.args.out.now in
    let all =
    change_refused c.args.settings c.args.buffer.now c.args.lines c.args.given.now change room _ c.args.out.now
    (given_refused c.args.settings c.args.buffer.now c.args.lines c.args.given.now change room _ c.in_err-plain.ensures) in
    (told.1 ∙ ap Err told.2 ∙ all.0, all.1, all.2)
