-- A cycle's sequence of buckets does not look at the lines: plans of the same figures send the same buckets.
-- Assumes nothing.
use mathlib.Core.Path.{◌≡◌, refl, ap, ap₂}
use Prim.Native.Nat.{ℕ, zero, suc, ◌+◌, ◌-◌, ◌*◌, ◌/◌, ◌%◌, max}
use mathlib.Core.List.{List, [], ◌∷◌, ◌++◌, map}
use lib.Dec.{eqb, ltb}
use Rattle.columns.specs.Lists.{pick, joined, range}
use Rattle.buckets.specs.declared.Line.{Line}
use Rattle.cycle.specs.Tree.{Plan, width, children, under, data_under}
use Rattle.cycle.specs.Layouts.{Slot, slot, segment, subtree, tree_below, sent, path, distributed_segment, distributed, whole_segment, one_m, slots}
use Rattle.cycle.specs.Judging.{tree_at}
use Rattle.cycle.specs.Cycle.{first_place}
use Rattle.cycle.specs.Inner.Held.{plan_of, StandsAt, pair_reach}
use Rattle.cycle.specs.Cycle.{occurs, distance_to}
use Rattle.cycle.specs.declared.Figures.{Figures}

-- a plan over other lines
abbrev pub over : Plan → List Line → Plan
over t ls = record { n = t.n; p = t.p; layout = t.layout; copies = t.copies; lines = ls; d = t.d; k = t.k }

module _ (t : Plan) (ls ms : List Line) where
  children_over : (i j : ℕ) → children (over t ls) i j ≡ children (over t ms) i j
  unfolding children width
  children_over i j = refl

  subtree_over : (h i j : ℕ) → subtree (over t ls) h i j ≡ subtree (over t ms) h i j
  subtree_over zero i j = refl
  subtree_over (suc h) i j =
      ap₂ (λ g xs. slot i j ∷ joined g xs) (λ k c. subtree_over h (suc i) c k) (children_over i j)

  under_over : (h i j : ℕ) → under (over t ls) h i j ≡ under (over t ms) h i j
  under_over zero i j = refl
  under_over (suc h) i j = ap₂ (λ g xs. joined g xs) (λ k c. under_over h (suc i) c k) (children_over i j)

  distributed_over : (b : ℕ) → distributed_segment (over t ls) b ≡ distributed_segment (over t ms) b
  unfolding distributed_segment path tree_below sent data_under
  distributed_over b =
      let i : ℕ = t.copies + 1 in
      ap₂ (λ xs qs. segment (path (over t ls) b ++ (xs ++ map (λ q. slot (t.k + 1) q) qs)))
      (subtree_over (t.k + 1 - i) i b) (under_over (t.k + 1 - i) i b)

  whole_over : (i : ℕ) → whole_segment (over t ls) i ≡ whole_segment (over t ms) i
  unfolding whole_segment tree_below sent
  whole_over i =
      let part : List ℕ = range (i * t.d / t.copies) (suc i * t.d / t.copies) in
      ap (λ xs. segment (xs ++ map (λ q. slot (t.k + 1) q) part)) (subtree_over (t.k + 1 - 1) 1 0)

  pub slots_over : slots (over t ls) ≡ slots (over t ms)
  unfolding slots distributed one_m width
  slots_over =
      ap₂ (λ g h. pick (eqb t.layout 1) (joined g (range 0 (max 1 (width (over t ls) (t.copies + 1))))) (joined h (range 0 t.copies)))
      (λ k b. distributed_over b k) (λ k i. whole_over i k)

module _ (f : Figures) (ls ms : List Line) where
  pub children_shape : (i j : ℕ) → children (plan_of f ls) i j ≡ children (plan_of f ms) i j
  unfolding plan_of
  children_shape i j = children_over (plan_of f []) ls ms i j

  pub width_shape : (i : ℕ) → width (plan_of f ls) i ≡ width (plan_of f ms) i
  unfolding width plan_of
  width_shape i = refl

  pub subtree_shape : (h i j : ℕ) → subtree (plan_of f ls) h i j ≡ subtree (plan_of f ms) h i j
  unfolding plan_of
  subtree_shape h i j = subtree_over (plan_of f []) ls ms h i j

  pub under_shape : (h i j : ℕ) → under (plan_of f ls) h i j ≡ under (plan_of f ms) h i j
  unfolding plan_of
  under_shape h i j = under_over (plan_of f []) ls ms h i j

  pub tree_at_shape : (e j : ℕ) → tree_at (plan_of f ls) e j ≡ tree_at (plan_of f ms) e j
  unfolding tree_at plan_of
  tree_at_shape e j = subtree_over (plan_of f []) ls ms e (f.k + 1 - e) j

  pub distributed_shape : (b : ℕ) → distributed_segment (plan_of f ls) b ≡ distributed_segment (plan_of f ms) b
  unfolding plan_of
  distributed_shape b = distributed_over (plan_of f []) ls ms b

  pub whole_shape : (i : ℕ) → whole_segment (plan_of f ls) i ≡ whole_segment (plan_of f ms) i
  unfolding plan_of
  whole_shape i = whole_over (plan_of f []) ls ms i

  pub slots_shape : slots (plan_of f ls) ≡ slots (plan_of f ms)
  unfolding plan_of
  slots_shape = slots_over (plan_of f []) ls ms

  pub first_place_shape : (i j : ℕ) → first_place (plan_of f ls) i j ≡ first_place (plan_of f ms) i j
  unfolding first_place
  first_place_shape i j = ap (λ xs. distance_to (occurs i j) xs - 1) slots_shape

  pub stand_shape : {x : ℕ} {xs : List Slot} → StandsAt (plan_of f ls) x xs → StandsAt (plan_of f ms) x xs
  stand_shape s =
      record {
        before = s.before;
        middle = s.middle;
        behind = s.behind;
        splits = rw slots_shape at s.splits;
        here = s.here;
        alike = s.alike;
      }

  -- ---- what the code works out of it

  pub pair_reach_shape : (size x l c : ℕ) → pair_reach (plan_of f ls) size x l c ≡ pair_reach (plan_of f ms) size x l c
  unfolding pair_reach width plan_of
  pair_reach_shape size x l c =
      let w : ℕ → ℕ = width (plan_of f ls) in
      ap (λ y. pick (eqb ((c + 1) % f.n) 0) (size - x) (pick (ltb (c + 1) (w l)) (y - 1 - x) (size - x))) (first_place_shape l (c + 1))
