-- Judging's refusals, or the image that its figures write.
use Rattle.std.proofs.Common.{Err, length, ap, ◌∙◌, refl}
use Rattle.std.proofs.lemmas.Result.{err_from_is_err_and}
use Rattle.cycle.specs.Inner.Held.{plan_in, written}
use Rattle.cycle.specs.declared.Source.TheVariants.{List as InList}
use Rattle.cycle.proofs.Building.Answering.{builds_refusal, sending_judged, builds_judged}
use Rattle.cycle.proofs.build.build.Goals as goal

pub returns-in_err-accepted : goal.returns-in_err-accepted
returns-in_err-accepted c =
    let told = err_from_is_err_and c.from_residual.result c.from_residual.ensures.1 in
    let all = builds_refusal c.args.settings c.args.list.now (length c.args.out.now) _ c.args.out.now c.in_err-accepted.ensures in
    (told.1 ∙ ap Err told.2 ∙ all.0, all.1)

pub write_cycle-requires : goal.write_cycle-requires
write_cycle-requires c =
    (sending_judged c.args.settings c.args.list.now (length c.args.out.now) _ c.in_ok-accepted.ensures.0).1

pub returns : goal.returns
returns c =
    let f = c.in_ok-accepted.accepted.cycle.f in
    let all = builds_judged c.args.settings c.args.list.now (length c.args.out.now) f c.in_ok-accepted.ensures.0 c.args.out.now refl in
    (all.0, c.write_cycle.ensures ∙ ap (λ list. written (plan_in f InList list) c.args.out.now 0 f.size) c.in_ok-accepted.ensures.1 ∙ all.1)
