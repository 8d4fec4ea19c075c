-- The children of a bucket that the figures of a cycle have.
-- Assumes nothing.
use mathlib.Core.Path.{◌≡◌, refl, sym, ap, subst, ◌∙◌}
use Prim.Native.Nat.{ℕ, suc, ◌+◌, ◌-◌, ◌*◌, ◌^◌, ◌≤◌, ◌<◌, min}
use native.Mathlib.Nat.{mul-le-mul}
use native.Mathlib.Omega.{arith}
use mathlib.Core.List.{List, [], ◌∷◌, ◌++◌, append-nil}
use lib.ListN.{length, length-append}
use Rattle.columns.specs.Lists.{joined, span, range, up}
use Rattle.columns.proofs.Joined.{joined_append}
use Rattle.buckets.specs.Lengths.{lines_most, entries_most}
use Rattle.cycle.specs.Tree.{Plan, width, children}
use Rattle.cycle.specs.Layouts.{slots}
use Rattle.cycle.specs.Cycle.{cycle_size}
use Rattle.cycle.specs.declared.Figures.{Figures}
use Rattle.cycle.specs.Judging.{tree_at}
use Rattle.cycle.specs.Inner.Held.{plan_of, InTree, Ready, span_most}
use Rattle.cycle.proofs.Basics.Ranges.{length_range, span_append}
use Rattle.cycle.proofs.Trees.TreeLaws.{width_up, width_lt, length_children}
use Rattle.cycle.proofs.Trees.Readiness.{Reached, reached}

-- ---- N, and places in it

pub size_slots : (f : Figures) → Ready f → f.size ≡ length (slots (plan_of f []))
unfolding cycle_size
size_slots f ready = ready.size_is

-- ---- the distance to a child behind its earlier siblings

abbrev pub near_from : Plan → ℕ → ℕ → ℕ → ℕ
near_from t h a c = 1 + length (joined (tree_at t h) (range a c))

pub near_here : (t : Plan) (h a i : ℕ) → 1 + length (joined (tree_at t h) (span a i)) ≡ near_from t h a (a + i)
near_here t h a i =
    let e : i ≡ (a + i) - a = omega arith in ap (λ c. 1 + length (joined (tree_at t h) (span a c))) e

pub near_next :
    (t : Plan) (h a i : ℕ) →
    1 + length (joined (tree_at t h) (span a i)) + length (tree_at t h (a + i)) ≡ 1 + length (joined (tree_at t h) (span a (i + 1)))
near_next t h a i =
    let row : joined (tree_at t h) (span a (i + 1)) ≡ joined (tree_at t h) (span a i) ++ (tree_at t h (a + i) ++ []) =
    ap (joined (tree_at t h)) (span_append a i 1) ∙ joined_append (tree_at t h) (span a i) (span (a + i) 1) in
    let e₁ : length (joined (tree_at t h) (span a (i + 1))) ≡ length (joined (tree_at t h) (span a i)) + length (tree_at t h (a + i) ++ []) =
    ap length row ∙ length-append (joined (tree_at t h) (span a i)) (tree_at t h (a + i) ++ []) in
    let e₂ : length (tree_at t h (a + i) ++ []) ≡ length (tree_at t h (a + i)) = ap length (append-nil (tree_at t h (a + i))) in
    omega arith

-- ---- children

pub nil_of : {A : Type 0} (xs : List A) → length xs ≡ 0 → xs ≡ []
nil_of [] h = refl
nil_of (x ∷ xs) h = absurd (omega arith)

module _ (f : Figures) (ready : Ready f) (e j : ℕ) (low : 1 ≤ e) (inside : InTree f e j) where
  abbrev pub child_level : ℕ
  child_level = suc (f.k + 1 - e)

  pub bucket : Reached f e j
  bucket = reached f e j ready.shaped inside

  pub pos : 0 < f.n
  pos = omega (arith, ready.shaped.n_low)

  pub high : e ≤ f.k
  unfolding InTree
  high = inside.0

  pub below : f.k + 1 - child_level ≡ e - 1
  below = omega (arith, high)

  pub child_width : width (plan_of f []) child_level ≡ up f.d (f.n ^ (e - 1))
  unfolding plan_of
  child_width = width_up (plan_of f []) pos child_level ∙ ap (λ h. up f.d (f.n ^ h)) below

  pub children_count :
      length (children (plan_of f []) (f.k + 1 - e) j) ≡ min (j * f.n + f.n) (up f.d (f.n ^ (e - 1))) - j * f.n
  unfolding plan_of
  children_count =
      length_children (plan_of f []) pos (f.k + 1 - e) j ∙ ap (λ w. min (j * f.n + f.n) w - j * f.n) child_width

  pub children_row : children (plan_of f []) (f.k + 1 - e) j ≡ span (j * f.n) (length (children (plan_of f []) (f.k + 1 - e) j))
  unfolding children plan_of
  children_row =
      ap (span (j * f.n)) (sym (length_range (j * f.n) (min (j * f.n + f.n) (width (plan_of f []) child_level))))

  pub first_small : j * f.n ≤ span_most
  first_small =
      let h : j * f.n ≤ lines_most * entries_most = mul-le-mul {n₂ = lines_most} {m₂ = entries_most} bucket.place ready.shaped.n_high in omega arith

  module _ (i : ℕ) (among : i < length (children (plan_of f []) (f.k + 1 - e) j)) where
    pub few : i < entries_most
    few = omega (arith, children_count, ready.shaped.n_high)

    pub within : j * f.n + i < width (plan_of f []) child_level
    within = omega (arith, children_count, child_width)

    pub under_data : (j * f.n + i) * f.n ^ (e - 1) < f.d
    unfolding plan_of
    under_data =
        subst (λ h. (j * f.n + i) * f.n ^ h < f.d) below (width_lt (plan_of f []) pos child_level (j * f.n + i) within)

    pub child_inside : InTree f (e - 1) (j * f.n + i)
    unfolding InTree
    child_inside = (omega (arith, high), omega (arith, under_data))
