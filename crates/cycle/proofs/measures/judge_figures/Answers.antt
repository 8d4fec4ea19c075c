-- The conditions 5 and 6 in that order, and the figures with N.
use Rattle.std.proofs.Common.{◌≡◌, [], ap, ◌∙◌, arith, Err}
use Rattle.cycle.specs.Cycle.{cycle_size}
use Rattle.cycle.specs.declared.Figures.{Figures}
use Rattle.cycle.specs.Inner.Held.{plan_of, sized}
use Rattle.cycle.proofs.Basics.Conditions.{refuses_by, passes_by}
use Rattle.cycle.proofs.Building.Answering.{refused_5, refused_6, size_passed}
use Rattle.cycle.proofs.Building.PlanFigures.{size_held, copies_passed, sized_of}
use Rattle.cycle.proofs.measures.judge_figures.Goals as goal

size_is : (f : Figures) {g : Figures} → g ≡ sized f (cycle_size (plan_of f [])) → g.size ≡ cycle_size (plan_of f [])
size_is f e = ap (λ (h : Figures). h.size) e ∙ size_held f _

pub returns-in_default : goal.returns-in_default
returns-in_default c = ap Err c.from.ensures ∙ refuses_by _ (sized c.args.f _) _ (refused_5 (plan_of c.args.f []) c.in_default.ensures)

pub returns-then-sized-gt-BUCKETS_MOST : goal.returns-then-sized-gt-BUCKETS_MOST
returns-then-sized-gt-BUCKETS_MOST c =
    let f = c.args.f in
    let size = size_is f (sized_of c.in-Some.fitted c.in-Some.ensures c.with_size-sized.ensures) in
    ap Err c.from-then-sized-gt-BUCKETS_MOST.ensures
    ∙ refuses_by _ (sized f _) _
    (refused_6 (plan_of f []) (copies_passed c.in-Some.fitted c.in-Some.ensures) (omega (arith, size, c.if-sized-gt-BUCKETS_MOST.true)))

pub returns : goal.returns
returns c =
    let f = c.args.f in
    let sizes = sized_of c.in-Some.fitted c.in-Some.ensures c.with_size-sized.ensures in
    passes_by _ (sized f _) _
    (size_passed (plan_of f []) (copies_passed c.in-Some.fitted c.in-Some.ensures)
    (omega (arith, size_is f sizes, c.if-sized-gt-BUCKETS_MOST.false)))
    sizes
