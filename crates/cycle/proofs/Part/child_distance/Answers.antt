-- A child of a path bucket may stand anywhere.
use Rattle.std.proofs.Common.{◌≡◌, ℕ, ◌+◌, ◌-◌, ◌*◌, ◌≤◌, ◌<◌, [], length, sym, ap, subst, ◌∙◌, arith}
use borrow.Author.Tests.{lt-ltb, le-ltb, eq-eqb}
use Rattle.cycle.specs.declared.Figures.{Figures}
use Rattle.cycle.specs.declared.Segment.{Segment}
use Rattle.cycle.specs.Tree.{layout_number, levels_most, children}
use Rattle.cycle.specs.Judging.{tree_height}
use Rattle.cycle.specs.Inner.Held.{plan_of, Ready, InTree, IndexPlace, child_distance, ahead_of, span_most}
use Rattle.cycle.proofs.Trees.Readiness.{levels_are}
use Rattle.cycle.proofs.Trees.Children.{first_small, few, high, child_inside}
use Rattle.cycle.proofs.Part.child_distance.Goals as goal

-- bounds on the level, and on the child's number
record Bounds (k e first i : ℕ) : Type 0 where
  low : 1 ≤ e
  within : e ≤ k
  levels : k ≤ levels_most
  small : first ≤ span_most
  few_children : i < 8

bounds :
    {f : Figures} {s : Segment} {e j x i : ℕ} → Ready f → IndexPlace f s e j x → i < length (children (plan_of f []) (f.k + 1 - e) j) →
    Bounds f.k e (j * f.n) i
bounds {f} {s} {e} {j} {x} {i} ready p inside =
    record {
      low = p.low;
      within = high f ready e j p.low p.inside;
      levels = (levels_are f ready.shaped).high;
      small = first_small f ready e j p.low p.inside;
      few_children = few f ready e j p.low p.inside i inside;
    }

pub overflow_add-f : goal.overflow_add-f
overflow_add-f c = omega (arith, bounds c.args.self.now.cycle.now.ready c.requires.index_place c.requires.i_in_bounds)

pub overflow_sub-f : goal.overflow_sub-f
overflow_sub-f c = omega (arith, bounds c.args.self.now.cycle.now.ready c.requires.index_place c.requires.i_in_bounds)

pub overflow_mul-j : goal.overflow_mul-j
overflow_mul-j c = omega (arith, bounds c.args.self.now.cycle.now.ready c.requires.index_place c.requires.i_in_bounds)

pub overflow_add-j : goal.overflow_add-j
overflow_add-j c = omega (arith, bounds c.args.self.now.cycle.now.ready c.requires.index_place c.requires.i_in_bounds)

pub first_place-place-requires : goal.first_place-place-requires
unfolding plan_of
first_place-place-requires c =
    let f = c.args.self.now.cycle.now.f in
    let e : ℕ = c.args.e in
    let p = c.requires.index_place in
    let b = bounds c.args.self.now.cycle.now.ready p c.requires.i_in_bounds in
    let above = c.if-self-e.true in
    let one : layout_number f.layout ≡ 1 = p.on_path_lem above in
    let tall : c.args.self.now.s.height ≡ f.k - f.copies =
    (c.args.self.now.placed []).height_is ∙ rw (eq-eqb (layout_number f.layout) 1 one) in
    let height : e - 1 ≡ f.k + 1 - (f.k + 2 - e) = omega (arith, b) in (
      one,
      omega (arith, b),
      omega (arith, b, above),
      subst (λ h. InTree f h (c.args.j * f.n + c.args.i)) height
          (child_inside f c.args.self.now.cycle.now.ready e c.args.j p.low p.inside c.args.i c.requires.i_in_bounds),
    )

pub returns-then-self-e : goal.returns-then-self-e
unfolding child_distance plan_of
returns-then-self-e c =
    let f = c.args.self.now.cycle.now.f in
    let told : tree_height (plan_of f []) ≡ c.args.self.now.s.height = sym (c.args.self.now.placed []).height_is in
    c.ahead.ensures
    ∙ ap (ahead_of f.size c.args.x) c.first_place-place.ensures
    ∙ sym (rw (lt-ltb (tree_height (plan_of f [])) c.args.e (omega (arith, told, c.if-self-e.true))))

pub returns : goal.returns
unfolding child_distance
returns c =
    let f = c.args.self.now.cycle.now.f in
    let told : tree_height (plan_of f []) ≡ c.args.self.now.s.height = sym (c.args.self.now.placed []).height_is in
    c.tree_distance.ensures
    ∙ sym (rw (le-ltb (tree_height (plan_of f [])) c.args.e (omega (arith, told, c.if-self-e.false))))
