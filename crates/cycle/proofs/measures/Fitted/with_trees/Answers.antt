-- The last root's place is within the tree, and the last tree is that place's.
use mathlib.Core.Path.{◌≡◌, sym, ap, subst, ◌∙◌}
use mathlib.Core.List.{[]}
use Prim.Native.Nat.{ℕ, ◌^◌, ◌≤◌}
use native.Mathlib.Nat.{one-le-pow}
use native.Mathlib.Omega.{arith}
use lib.ListN.{length}
use Rattle.cycle.specs.declared.Figures.{Figures}
use Rattle.cycle.specs.declared.measures.Fitted.{Fitted}
use Rattle.cycle.specs.Judging.{full_size, tree_at, tree_height, last_place, last_tree}
use Rattle.cycle.specs.Inner.Held.{plan_of, InTree, with_trees, sized, span_most}
use Rattle.cycle.specs.Tree.{levels_most}
use Rattle.cycle.proofs.Basics.Powers.{power_below}
use Rattle.cycle.proofs.Trees.Readiness.{levels_are, tree_height_lem, last_starts}
use Rattle.cycle.proofs.measures.Fitted.with_trees.Goals as goal

-- what is known of the height
record Height (f : Figures) (h : ℕ) : Type 0 where
  low : 1 ≤ h
  high : h ≤ f.k
  high_enough : h ≤ levels_most
  span_low : 1 ≤ f.n ^ h
  span_high : f.n ^ h ≤ span_most

known : (fitted : Fitted) {h : ℕ} → h ≡ tree_height (plan_of fitted.f.now []) → Height fitted.f.now h
known fitted is =
    let f = fitted.f.now in
    let s = fitted.shaped in
    let t = tree_height_lem f s fitted.copies_in in
    let l = levels_are f s in
    let p = power_below f.n (tree_height (plan_of f [])) f.k s.n_low t.1 in
    subst (Height f) (sym is)
    (record {
      low = t.0;
      high = t.1;
      high_enough = omega (arith, t.1, l.high);
      span_low = one-le-pow (tree_height (plan_of f [])) f.n (omega (arith, s.n_low));
      span_high = omega (arith, p, l.small);
    })

pub power-span-requires : goal.power-span-requires
power-span-requires c = (c.args.self.now.shaped.n_low, c.args.self.now.shaped.n_high, (known c.args.self.now c.tree_height-e.ensures).high_enough)

pub full_size-full-requires : goal.full_size-full-requires
full_size-full-requires c = (c.args.self.now.shaped.n_low, c.args.self.now.shaped.n_high, (known c.args.self.now c.tree_height-e.ensures).high_enough)

pub last_root-requires : goal.last_root-requires
last_root-requires c =
    let k = known c.args.self.now c.tree_height-e.ensures in
    (rw c.power-span.ensures k.span_low, rw c.power-span.ensures k.span_high)

pub tree_size-last-requires : goal.tree_size-last-requires
unfolding InTree
tree_size-last-requires c =
    let f = c.args.self.now.f.now in
    let k = known c.args.self.now c.tree_height-e.ensures in
    let root = c.last_root.ensures ∙ ap (last_place f.d) c.power-span.ensures in
    (k.low, (k.high, rw root (last_starts f.d (f.n ^ c.tree_height-e.result) k.span_low)))

pub returns : goal.returns
unfolding plan_of last_tree sized
returns c =
    let f = c.args.self.now.f.now in
    let e = c.tree_height-e.ensures in
    let t = plan_of f [] in
    let span : c.power-span.result ≡ f.n ^ tree_height t = c.power-span.ensures ∙ ap (λ h. f.n ^ h) e in
    let full : c.full_size-full.result ≡ full_size f.n (tree_height t) = c.full_size-full.ensures ∙ ap (λ h. full_size f.n h) e in
    let last : c.tree_size-last.result ≡ last_tree t =
    c.tree_size-last.ensures
    ∙ ap (λ j. length (tree_at t c.tree_height-e.result j)) (c.last_root.ensures ∙ ap (last_place f.d) c.power-span.ensures)
    ∙ ap (λ h. length (tree_at t h (last_place f.d (f.n ^ h)))) e in
    λ i. with_trees f f.size (span i) (full i) (last i)
