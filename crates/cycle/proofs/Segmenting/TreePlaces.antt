-- The subtrees of a segment's tree: where they stand, and bounds on their places.
-- Assumes nothing.
use mathlib.Core.Path.{◌≡◌, sym, ap, ◌∙◌, subst}
use Prim.Native.Nat.{ℕ, suc, ◌+◌, ◌-◌, ◌*◌, ◌^◌, ◌≤◌, ◌<◌}
use native.Mathlib.Nat.{mul-le-mul_right, mul_assoc, suc-mul, pow-succ'}
use native.Mathlib.Numerals.{add-one}
use native.Mathlib.Omega.{arith}
use mathlib.Core.List.{List, [], ◌∷◌, ◌++◌}
use lib.ListN.{length, drop}
use Rattle.columns.specs.Lists.{joined}
use Rattle.buckets.specs.declared.Line.{Line}
use Rattle.buckets.specs.Lengths.{lines_most}
use Rattle.cycle.specs.Tree.{children}
use Rattle.cycle.specs.Layouts.{Slot, slot, slots}
use Rattle.cycle.specs.Cycle.{to_next_segment}
use Rattle.cycle.specs.declared.Figures.{Figures}
use Rattle.cycle.specs.declared.Segment.{Segment}
use Rattle.cycle.specs.Judging.{tree_at}
use Rattle.cycle.specs.Inner.Held.{plan_of, Ready, InTree, StandsAt, HoldsSegment, Under, TreePlace}
use Rattle.cycle.proofs.Trees.Readiness
use Rattle.cycle.proofs.Trees.Inside.{Inside, slot_inside}
use Rattle.cycle.proofs.Segmenting.Positions.{At, stand_at}
use Rattle.cycle.proofs.Segmenting.SegmentParts.{seated}
use Rattle.cycle.proofs.Trees.ChildTrees.{tree_parts}

-- a bucket of the cycle is one of the tree's
pub place_inside :
    (f : Figures) → Ready f → {x i j : ℕ} {xs : List Slot} → At (plan_of f []) x i j xs → Inside (plan_of f []) i j
place_inside f ready a =
    let sound = Readiness.sound f [] ready.shaped ready.copies_fit_lem in
    let one : Inside (plan_of f []) a.it.level a.it.place =
    slot_inside (plan_of f []) sound a.before a.it (a.next ++ a.behind) a.splits in
    rw (a.level_is, a.place_is) at one

-- what is under a child is under its parent
pub child_under :
    (f : Figures) (s : Segment) (e j i : ℕ) → 1 ≤ e → i < f.n → Under f s e j → Under f s (e - 1) (j * f.n + i)
child_under f s e j i low h u =
    let m : ℕ = f.n ^ (e - 1) in
    let one_up : suc (e - 1) ≡ e = omega arith in
    let power : f.n ^ e ≡ f.n * m = ap (λ z. f.n ^ z) (sym one_up) ∙ pow-succ' f.n (e - 1) in
    let first : j * f.n ^ e ≡ j * f.n * m = ap (λ z. j * z) power ∙ sym (mul_assoc j f.n m) in
    let wide : (j + 1) * f.n ≡ j * f.n + f.n = ap (λ z. z * f.n) (add-one j) ∙ suc-mul j f.n in
    let last : (j + 1) * f.n ^ e ≡ (j * f.n + f.n) * m = ap (λ z. (j + 1) * z) power ∙ sym (mul_assoc (j + 1) f.n m) ∙ ap (λ z. z * m) wide in
    let up : j * f.n * m ≤ (j * f.n + i) * m = mul-le-mul_right m (omega arith) in
    let down : (j * f.n + i + 1) * m ≤ (j * f.n + f.n) * m = mul-le-mul_right m (omega arith) in
    record { from = λ one. omega (arith, u.from one, first, up); to = λ one. omega (arith, u.to one, last, down) }

module _ (f : Figures) (s : Segment) (ready : Ready f) (placed : (ls : List Line) → HoldsSegment (plan_of f ls) s) where
  pub d_high : f.d ≤ lines_most
  d_high = Readiness.data_high f ready.shaped

  pub head_asked :
      (x : ℕ) → s.start ≤ x → x < s.end →
      Ready f × (x < s.end) × (s.end ≤ f.size) × (to_next_segment (drop (suc x) (slots (plan_of f []))) ≡ s.end - x)
  head_asked x low high = (ready, high, (seated f s ready placed).within, (placed []).next_starts x low high)

  -- the segment's own tree
  pub own_tree : TreePlace f s s.height s.root s.tree_at
  unfolding plan_of InTree
  own_tree =
      let p = placed [] in
      let at = stand_at {i = f.k + 1 - s.height} {j = s.root} (subst (StandsAt (plan_of f []) s.tree_at) (tree_parts f s.height s.root p.low p.high) p.tree_stands) in
      let there = place_inside f ready at in
      let deep : f.k + 1 - (f.k + 1 - s.height) ≡ s.height = omega (arith, p.low, p.high) in
      record {
        low = p.low;
        high = omega arith;
        inside = (p.high, rw deep at there.covers);
        behind_path_lem = omega arith;
        before_data = omega (arith, p.tree_length);
        stands = p.tree_stands;
        under = record { from = λ one. omega arith; to = λ one. omega arith };
      }

  pub data_in : (q : ℕ) → q < s.last → q < f.d
  unfolding plan_of
  data_in q h = omega (arith, (placed []).last_in)

  module _ (e j x : ℕ) (p : TreePlace f s e j x) where
    pub tree_high : e ≤ f.k
    unfolding InTree
    tree_high = p.inside.0

    pub place_small : j ≤ lines_most
    place_small = (Readiness.reached f e j ready.shaped p.inside).place

    -- its own bucket stands at x, its children's subtrees behind it
    pub bucket_stands :
        StandsAt (plan_of f []) x (slot (f.k + 1 - e) j ∷ joined (tree_at (plan_of f []) (e - 1)) (children (plan_of f []) (f.k + 1 - e) j))
    bucket_stands = subst (StandsAt (plan_of f []) x) (tree_parts f e j p.low tree_high) p.stands

    pub tree_some : 1 ≤ length (tree_at (plan_of f []) e j)
    tree_some = rw (tree_parts f e j p.low tree_high) (omega arith)

    pub tree_before : x < s.data_at
    tree_before = omega (arith, tree_some, p.before_data)
