-- 7 behind 5 and 6.
use Rattle.std.proofs.Common.{◌≡◌, [], Err, sym, ap, ◌∙◌, arith}
use Rattle.std.proofs.lemmas.Result.{err_from_is_err_and}
use Rattle.cycle.specs.Cycle.{cycle_size}
use Rattle.cycle.specs.declared.Figures.{Figures}
use Rattle.cycle.specs.Inner.Held.{plan_of, sized}
use Rattle.cycle.proofs.Basics.Conditions.{refused_by, passed_by, refuses_by, passes_by}
use Rattle.cycle.proofs.Building.Answering.{size_short, refused_before_7, refused_7, plan_passed}
use Rattle.cycle.proofs.Building.PlanFigures.{size_held}
use Rattle.cycle.proofs.conditions.judge_room.Goals as goal

pub returns-in_err-sized : goal.returns-in_err-sized
returns-in_err-sized c =
    let told = err_from_is_err_and c.from_residual.result c.from_residual.ensures.1 in
    let first = refused_by _ (sized c.args.f _) _ (sym c.judge_figures.ensures ∙ c.in_err-sized.was) in
    told.1 ∙ ap Err told.2 ∙ refuses_by _ (sized c.args.f _) _ (refused_before_7 (plan_of c.args.f []) c.args.room _ first)

pub overflow_mul-sized : goal.overflow_mul-sized
overflow_mul-sized c =
    let passed = passed_by _ (sized c.args.f _) _ (sym c.judge_figures.ensures ∙ c.in_ok-sized.was) in
    let size : c.in_ok-sized.sized.size ≡ cycle_size (plan_of c.args.f []) = sym (ap (λ (g : Figures). g.size) passed.1) ∙ size_held c.args.f _ in
    omega (arith, size, size_short (plan_of c.args.f []) passed.0)

pub returns-then-room-sized : goal.returns-then-room-sized
returns-then-room-sized c =
    let passed = passed_by _ (sized c.args.f _) _ (sym c.judge_figures.ensures ∙ c.in_ok-sized.was) in
    let size : c.in_ok-sized.sized.size ≡ cycle_size (plan_of c.args.f []) = sym (ap (λ (g : Figures). g.size) passed.1) ∙ size_held c.args.f _ in
    ap Err c.from.ensures
    ∙ refuses_by _ (sized c.args.f _) _
    (refused_7 (plan_of c.args.f []) c.args.room passed.0 (omega (arith, size, c.if-room-sized.true)))

pub returns : goal.returns
returns c =
    let passed = passed_by _ (sized c.args.f _) _ (sym c.judge_figures.ensures ∙ c.in_ok-sized.was) in
    let size : c.in_ok-sized.sized.size ≡ cycle_size (plan_of c.args.f []) = sym (ap (λ (g : Figures). g.size) passed.1) ∙ size_held c.args.f _ in
    passes_by _ (sized c.args.f _) _
    (plan_passed (plan_of c.args.f []) c.args.room passed.0 (omega (arith, size, c.if-room-sized.false))) (sym passed.1)
