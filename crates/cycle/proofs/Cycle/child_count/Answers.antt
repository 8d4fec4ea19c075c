-- A bucket whose children are all there has n, the last one the rest.
use Rattle.std.proofs.Common.{◌≡◌, ℕ, ◌+◌, ◌-◌, ◌*◌, ◌^◌, ◌≤◌, ◌<◌, min, [], length, sym, ap, ◌∙◌, arith}
use native.Mathlib.Nat.{mul-le-mul}
use Rattle.columns.specs.Lists.{up}
use Rattle.buckets.specs.Lengths.{entries_most}
use Rattle.cycle.specs.declared.Figures.{Figures}
use Rattle.cycle.specs.Tree.{children}
use Rattle.cycle.specs.declared.Cycle.{Cycle}
use Rattle.cycle.specs.Inner.Held.{plan_of, span_most, InTree}
use Rattle.cycle.proofs.Trees.Readiness.{Reached}
use Rattle.cycle.proofs.Trees.TreeLaws.{up_least, le_up}
use Rattle.cycle.proofs.Trees.Children.{bucket, first_small, children_count}
use Rattle.cycle.proofs.Cycle.child_count.Goals as goal

module _ (cycle : Cycle) (e j : ℕ) (w : (1 ≤ e) × InTree cycle.f e j) where
  abbrev f : Figures
  f = cycle.f

  at : Reached f e j
  at = bucket f cycle.ready e j w.0 w.1

  small : j * f.n ≤ span_most
  small = first_small f cycle.ready e j w.0 w.1

  -- the data buckets under a full child
  abbrev span : ℕ
  span = f.n ^ (e - 1)

  some : 0 < span
  some = at.some (e - 1) (omega (arith, w.0))

  counted : length (children (plan_of f []) (f.k + 1 - e) j) ≡ min (j * f.n + f.n) (up f.d span) - j * f.n
  counted = children_count f cycle.ready e j w.0 w.1

  -- where a child is missing, the children's level ends with this bucket's
  ends : (p b : ℕ) → p ≡ span → f.d < (j * f.n + f.n) * p → b ≡ up f.d p → (b ≡ up f.d span) × (up f.d span ≤ j * f.n + f.n)
  ends p b is missing behind =
      let to : ℕ = j * f.n + f.n in
      let short : f.d < to * span = rw (sym is) missing in
      (behind ∙ ap (up f.d) is, up_least f.d span to some (omega arith))

pub overflow_mul-from : goal.overflow_mul-from
overflow_mul-from c = omega (arith, small c.args.self.now c.args.e c.args.j c.requires)

pub power-span-requires : goal.power-span-requires
power-span-requires c =
    let s = c.args.self.now.ready.shaped in
    (s.n_low, s.n_high, omega (arith, (at c.args.self.now c.args.e c.args.j c.requires).height))

pub overflow_add-from : goal.overflow_add-from
overflow_add-from c = omega (arith, small c.args.self.now c.args.e c.args.j c.requires, c.args.self.now.ready.shaped.n_high)

pub overflow_mul-from-2 : goal.overflow_mul-from-2
overflow_mul-from-2 c =
    let cycle = c.args.self.now in
    let low = small cycle c.args.e c.args.j c.requires in
    let m : (c.args.j * cycle.f.n + cycle.f.n) * span cycle c.args.e c.args.j c.requires ≤ (span_most + entries_most) * span_most =
    mul-le-mul {n₂ = span_most + entries_most} {m₂ = span_most} (omega (arith, low, cycle.ready.shaped.n_high))
    ((at cycle c.args.e c.args.j c.requires).small (c.args.e - 1) (omega arith)) in
    rw c.power-span.ensures (omega (arith, m))

pub returns-then-from-self : goal.returns-then-from-self
returns-then-from-self c =
    let f = c.args.self.now.f in
    let from : ℕ = c.args.j * f.n in
    let span : ℕ = f.n ^ (c.args.e - 1) in
    let full : (from + f.n) * span ≤ f.d = rw (sym c.power-span.ensures) c.if-from-self.true in
    let wide : from + f.n ≤ up f.d span = le_up f.d span (from + f.n) (some c.args.self.now c.args.e c.args.j c.requires) full in
    rw (counted c.args.self.now c.args.e c.args.j c.requires) (omega arith)

pub up-behind-requires : goal.up-behind-requires
up-behind-requires c =
    let a = at c.args.self.now c.args.e c.args.j c.requires in
    rw c.power-span.ensures (some c.args.self.now c.args.e c.args.j c.requires, omega (arith, a.small (c.args.e - 1) (omega arith), a.few))

pub returns-then-behind-from : goal.returns-then-behind-from
returns-then-behind-from c =
    let e =
    ends c.args.self.now c.args.e c.args.j c.requires c.power-span.result c.up-behind.result c.power-span.ensures c.if-from-self.false
    c.up-behind.ensures in
    rw (counted c.args.self.now c.args.e c.args.j c.requires) (omega (arith, c.if-behind-from.true))

pub returns : goal.returns
returns c =
    let e =
    ends c.args.self.now c.args.e c.args.j c.requires c.power-span.result c.up-behind.result c.power-span.ensures c.if-from-self.false
    c.up-behind.ensures in
    rw (counted c.args.self.now c.args.e c.args.j c.requires) (omega arith)
