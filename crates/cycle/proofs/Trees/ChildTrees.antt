-- The subtrees of a bucket's children stand one behind the other, behind the bucket.
-- Assumes nothing.
use mathlib.Core.Path.{◌≡◌, refl, sym, ap, ◌∙◌, subst}
use Prim.Native.Nat.{ℕ, zero, suc, ◌+◌, ◌-◌, ◌*◌, ◌≤◌, ◌<◌, min}
use native.Mathlib.Omega.{arith}
use mathlib.Core.List.{List, [], ◌∷◌, ◌++◌, append-nil}
use lib.ListN.{length, length-append}
use Rattle.columns.specs.Lists.{joined, range, span}
use Rattle.columns.proofs.Joined.{joined_append}
use Rattle.cycle.specs.Tree.{width, children}
use Rattle.cycle.specs.Layouts.{Slot, slot, subtree}
use Rattle.cycle.specs.declared.Figures.{Figures}
use Rattle.cycle.specs.Judging.{tree_at}
use Rattle.cycle.specs.Inner.Held.{plan_of, Ready, InTree, StandsAt}
use Rattle.cycle.proofs.Basics.Ranges.{length_span, range_snoc, range_append, range_cons}
use Rattle.cycle.proofs.Trees.Children.{child_inside}
use Rattle.cycle.proofs.Segmenting.StandsAt.{stand_front, stand_behind}

-- ---- runs of subtrees

joined_one : (g : ℕ → List Slot) (c : ℕ) → joined g (c ∷ []) ≡ g c
joined_one g c = append-nil (g c)

-- one more
pub run_more : (g : ℕ → List Slot) (a i : ℕ) → joined g (range a (a + (i + 1))) ≡ joined g (range a (a + i)) ++ g (a + i)
run_more g a i =
    let e : a + (i + 1) ≡ suc (a + i) = omega arith in
    ap (λ b. joined g (range a b)) e
    ∙ ap (joined g) (range_snoc a (a + i) (omega arith))
    ∙ joined_append g (range a (a + i)) ((a + i) ∷ [])
    ∙ ap (λ xs. joined g (range a (a + i)) ++ xs) (joined_one g (a + i))

pub run_cut :
    (g : ℕ → List Slot) (a i c : ℕ) → i < c →
    joined g (range a (a + c)) ≡ joined g (range a (a + i)) ++ (g (a + i) ++ joined g (range (suc (a + i)) (a + c)))
run_cut g a i c h =
    ap (joined g) (range_append a (a + i) (a + c) (omega arith) (omega arith) ∙ ap (λ xs. range a (a + i) ++ xs) (range_cons (a + i) (a + c) (omega arith)))
    ∙ joined_append g (range a (a + i)) ((a + i) ∷ range (suc (a + i)) (a + c))

-- ---- a bucket's subtree

module _ (f : Figures) where
  tree_suc :
      (e j : ℕ) → suc e ≤ f.k →
      tree_at (plan_of f []) (suc e) j ≡ slot (f.k + 1 - suc e) j ∷ joined (tree_at (plan_of f []) e) (children (plan_of f []) (f.k + 1 - suc e) j)
  unfolding tree_at plan_of
  tree_suc e j h =
      let next : suc (f.k + 1 - suc e) ≡ f.k + 1 - e = omega arith in
      ap (λ i. slot (f.k + 1 - suc e) j ∷ joined (λ c. subtree (plan_of f []) e i c) (children (plan_of f []) (f.k + 1 - suc e) j)) next

  pub tree_parts :
      (e j : ℕ) → 1 ≤ e → e ≤ f.k →
      tree_at (plan_of f []) e j ≡ slot (f.k + 1 - e) j ∷ joined (tree_at (plan_of f []) (e - 1)) (children (plan_of f []) (f.k + 1 - e) j)
  tree_parts zero j low h = absurd (omega arith)
  tree_parts (suc e) j low h =
      let b : e ≡ suc e - 1 = omega arith in
      tree_suc e j h ∙ ap (λ m. slot (f.k + 1 - suc e) j ∷ joined (tree_at (plan_of f []) m) (children (plan_of f []) (f.k + 1 - suc e) j)) b

  joined_none : (g : ℕ → List Slot) (xs : List ℕ) → ((c : ℕ) → g c ≡ []) → joined g xs ≡ []
  joined_none g [] h = refl
  joined_none g (x ∷ xs) h = rw (h x, joined_none g xs h)

  none_below : (c : ℕ) → tree_at (plan_of f []) (1 - 1) c ≡ []
  unfolding tree_at
  none_below c = refl

  pub tree_lowest : (j : ℕ) → 1 ≤ f.k → length (tree_at (plan_of f []) 1 j) ≡ 1
  tree_lowest j h =
      ap length (tree_parts 1 j (omega arith) h)
      ∙ ap (λ xs. suc (length xs)) (joined_none (tree_at (plan_of f []) (1 - 1)) (children (plan_of f []) (f.k + 1 - 1) j) none_below)

  -- the children are numbered from j * n on
  pub child_range :
      (i j : ℕ) → children (plan_of f []) i j ≡ range (j * f.n) (j * f.n + length (children (plan_of f []) i j))
  unfolding children plan_of
  child_range i j =
      let a : ℕ = j * f.n in
      let m : ℕ = min (a + f.n) (width (plan_of f []) (suc i)) - a in
      let e : m ≡ a + length (span a m) - a = (let l : length (span a m) ≡ m = length_span a m in omega arith) in
      ap (span a) e

  -- the subtrees of the first i children of bucket j of height e
  unfoldable pub earlier : ℕ → ℕ → ℕ → List Slot
  earlier e j i = joined (tree_at (plan_of f []) (e - 1)) (range (j * f.n) (j * f.n + i))

  pub earlier_none : (e j : ℕ) → length (earlier e j 0) ≡ 0
  unfolding earlier
  earlier_none e j =
      let z : j * f.n + 0 - j * f.n ≡ 0 = omega arith in
      ap (λ m. length (joined (tree_at (plan_of f []) (e - 1)) (span (j * f.n) m))) z

  pub earlier_more :
      (e j i : ℕ) → length (earlier e j (i + 1)) ≡ length (earlier e j i) + length (tree_at (plan_of f []) (e - 1) (j * f.n + i))
  unfolding earlier
  earlier_more e j i =
      ap length (run_more (tree_at (plan_of f []) (e - 1)) (j * f.n) i)
      ∙ length-append (joined (tree_at (plan_of f []) (e - 1)) (range (j * f.n) (j * f.n + i))) (tree_at (plan_of f []) (e - 1) (j * f.n + i))

  module _ (e j : ℕ) (low : 1 ≤ e) (high : e ≤ f.k) where
    pub earlier_all : 1 + length (earlier e j (length (children (plan_of f []) (f.k + 1 - e) j))) ≡ length (tree_at (plan_of f []) e j)
    unfolding earlier
    earlier_all =
        let g : ℕ → List Slot = tree_at (plan_of f []) (e - 1) in
        let run : List Slot = joined g (range (j * f.n) (j * f.n + length (children (plan_of f []) (f.k + 1 - e) j))) in
        let one : 1 + length run ≡ suc (length run) = omega arith in
        one ∙ sym (ap length (tree_parts e j low high) ∙ ap (λ xs. suc (length (joined g xs))) (child_range (f.k + 1 - e) j))

    -- child i
    pub record Child (x i : ℕ) : Type 0 where
      pub stands : StandsAt (plan_of f []) (x + 1 + length (earlier e j i)) (tree_at (plan_of f []) (e - 1) (j * f.n + i))
      pub fits :
          x + 1 + length (earlier e j i) + length (tree_at (plan_of f []) (e - 1) (j * f.n + i)) ≤ x + length (tree_at (plan_of f []) e j)
      pub inside : InTree f (e - 1) (j * f.n + i)

    pub child :
        (x i : ℕ) → Ready f → InTree f e j → StandsAt (plan_of f []) x (tree_at (plan_of f []) e j) →
        i < length (children (plan_of f []) (f.k + 1 - e) j) → Child x i
    unfolding earlier
    child x i ready inside s h =
        let c : ℕ = length (children (plan_of f []) (f.k + 1 - e) j) in
        let a : ℕ = j * f.n in
        let g : ℕ → List Slot = tree_at (plan_of f []) (e - 1) in
        let rest : List Slot = joined g (range (suc (a + i)) (a + c)) in
        let before : List Slot = slot (f.k + 1 - e) j ∷ joined g (range a (a + i)) in
        let all : tree_at (plan_of f []) e j ≡ before ++ (g (a + i) ++ rest) =
        tree_parts e j low high
        ∙ ap (λ xs. slot (f.k + 1 - e) j ∷ joined g xs) (child_range (f.k + 1 - e) j)
        ∙ ap (λ xs. slot (f.k + 1 - e) j ∷ xs) (run_cut g a i c h) in
        let there : StandsAt (plan_of f []) x (before ++ (g (a + i) ++ rest)) = subst (StandsAt (plan_of f []) x) all s in
        let place : x + length before ≡ x + 1 + length (joined g (range a (a + i))) = omega arith in
        let own = stand_front (g (a + i)) rest (stand_behind before (g (a + i) ++ rest) there) in
        let total : length (tree_at (plan_of f []) e j) ≡ length before + length (g (a + i) ++ rest) = ap length all ∙ length-append before (g (a + i) ++ rest) in
        let part : length (g (a + i) ++ rest) ≡ length (g (a + i)) + length rest = length-append (g (a + i)) rest in
        record {
          stands = subst (λ y. StandsAt (plan_of f []) y (g (a + i))) place own;
          fits = omega arith;
          inside = child_inside f ready e j low inside i h;
        }
