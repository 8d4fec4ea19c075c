-- A subtree of a segment's tree: its bucket, and behind it the subtrees of its children, one after the other.
-- Assumes nothing.
use mathlib.Core.Path.{◌≡◌, sym, ap, ◌∙◌, subst}
use mathlib.Core.Logic.{⊎_elim}
use Prim.Native.Nat.{ℕ, ◌+◌, ◌-◌, ◌*◌, ◌≤◌, ◌<◌}
use native.Mathlib.Nat.{eq-or-lt_of_le}
use native.Mathlib.Omega.{arith}
use mir.Syntax.{w64}
use mir.Val.{Fits}
use mathlib.Core.List.{List, []}
use lib.ListN.{length}
use Rattle.buckets.specs.declared.Line.{Line}
use Rattle.buckets.specs.Lengths.{buckets_most}
use Rattle.cycle.specs.Tree.{children}
use Rattle.cycle.specs.declared.Figures.{Figures}
use Rattle.cycle.specs.declared.Segment.{Segment}
use Rattle.cycle.specs.Judging.{tree_at}
use Rattle.cycle.specs.Inner.Held.{plan_of, Ready, StandsAt, HoldsSegment, TreePlace}
use Rattle.cycle.proofs.Trees.Children.{children_count, first_small}
use Rattle.cycle.proofs.Trees.ChildTrees.{tree_lowest, earlier, earlier_none, earlier_more, earlier_all, Child, child}
use Rattle.cycle.proofs.Segmenting.SegmentParts.{seated}
use Rattle.cycle.proofs.Segmenting.TreePlaces.{child_under, tree_high, place_small, tree_some, tree_before}

-- the subtrees of the first i of `count` children stand behind the bucket at x, and `next` is the place behind them
pub record Behind (f : Figures) (e j x count i next : ℕ) : Type 0 where
  pub within : i ≤ count
  pub here : next ≡ x + 1 + length (earlier f e j i)

module _ {f : Figures} {s : Segment} (ready : Ready f) (placed : (ls : List Line) → HoldsSegment (plan_of f ls) s) {e j x : ℕ} (p : TreePlace f s e j x) where
  high : e ≤ f.k
  high = tree_high f s ready placed e j x p

  -- its own bucket
  pub own_there : (x < x + length (tree_at (plan_of f []) e j)) × (x < buckets_most)
  own_there =
      let some = tree_some f s ready placed e j x p in
      let sits = seated f s ready placed in
      (omega arith, omega (arith, tree_before f s ready placed e j x p))

  lowest : e ≡ 1 → length (tree_at (plan_of f []) e j) ≡ 1
  lowest one = rw one (tree_lowest f j (omega (arith, high)))

  pub alone : e ≡ 1 → x + 1 ≡ x + length (tree_at (plan_of f []) e j)
  alone one = omega (arith, lowest one)

  pub first_fits : Fits w64 (j * f.n)
  first_fits = omega (arith, first_small f ready e j p.low p.inside)

  -- ---- its children

  module _ {count : ℕ} (counted : count ≡ length (children (plan_of f []) (f.k + 1 - e) j)) where
    pub none_behind : Behind f e j x count 0 (x + 1)
    none_behind = record { within = omega arith; here = omega (arith, earlier_none f e j) }

    module _ {i next : ℕ} (b : Behind f e j x count i next) where
      module _ (more : e ≡ 1 → ⊥) (h : i < count) where
        it : Child f e j p.low high x i
        it = child f e j p.low high x i ready p.inside p.stands (omega arith)

        pub child_place : TreePlace f s (e - 1) (j * f.n + i) next
        child_place =
            record {
              low = omega (arith, p.low, more);
              high = omega (arith, p.high);
              inside = it.inside;
              behind_path_lem = omega (arith, p.behind_path_lem, b.here);
              before_data = omega (arith, it.fits, p.before_data, b.here);
              stands = subst (λ y. StandsAt (plan_of f []) y (tree_at (plan_of f []) (e - 1) (j * f.n + i))) (sym b.here) it.stands;
              under = child_under f s e j i p.low (omega (arith, children_count f ready e j p.low p.inside)) p.under;
            }

        pub child_fits : Fits w64 (j * f.n + i)
        child_fits = omega (arith, place_small f s ready placed (e - 1) (j * f.n + i) next child_place)

        pub child_inside : next + length (tree_at (plan_of f []) (e - 1) (j * f.n + i)) ≤ x + length (tree_at (plan_of f []) e j)
        child_inside = omega (arith, it.fits, b.here)

      pub next_behind :
          {next' : ℕ} → i < count → next' ≡ next + length (tree_at (plan_of f []) (e - 1) (j * f.n + i)) → Behind f e j x count (i + 1) next'
      next_behind h is = record { within = omega arith; here = omega (arith, b.here, earlier_more f e j i) }

      pub all_behind : count ≤ i → next ≡ x + length (tree_at (plan_of f []) e j)
      all_behind h =
          let all : i ≡ length (children (plan_of f []) (f.k + 1 - e) j) = omega (arith, b.within) in
          let whole = ap (λ m. 1 + length (earlier f e j m)) all ∙ earlier_all f e j p.low high in
          omega (arith, b.here)

      pub behind_within : (e ≡ 1 → ⊥) → next ≤ x + length (tree_at (plan_of f []) e j)
      behind_within more =
          ⊎_elim (λ (a : i ≡ count). omega (arith, all_behind (omega arith))) (λ (h : i < count). omega (arith, child_inside more h))
          (eq-or-lt_of_le b.within)
