-- The entries of a bucket in a segment's tree: a child that is an index bucket comes behind its earlier siblings' subtrees.
-- Assumes nothing.
use mathlib.Core.Path.{◌≡◌, refl, sym, ap, ◌∙◌}
use Prim.Native.Nat.{ℕ, zero, suc, ◌+◌, ◌-◌, ◌*◌, ◌≤◌, ◌<◌, min}
use native.Mathlib.Nat.{add_comm}
use native.Mathlib.Numerals.{add-one}
use native.Mathlib.Omega.{arith}
use mathlib.Core.Bool.{Bool, true, false, ◌&&◌, ◌||◌}
use mathlib.Core.List.{List, [], ◌∷◌, ◌++◌, map}
use lib.Dec.{eqb}
use lib.ListN.{length}
use borrow.Author.Tests.{ne_eqb}
use Rattle.columns.specs.Lists.{pick, any, joined, range}
use Rattle.cycle.specs.Tree.{Plan, width, children}
use Rattle.cycle.specs.Layouts.{Slot, slot, subtree}
use Rattle.cycle.specs.Cycle.{occurs, distance_to, to_next}
use Rattle.cycle.specs.Inner.Held.{bare}
use Rattle.cycle.proofs.Basics.Ranges.{range_cons, joined_range}
use Rattle.cycle.proofs.Sequences.Pieces.{slot_occurs}
use Rattle.cycle.proofs.Segmenting.Positions.{At}
use Rattle.cycle.proofs.Reach.Distances.{none_joined, some_hit, distance_within, distance_hit}
use Rattle.cycle.proofs.Reach.NextOccurrence.{to_send}

-- ---- the mark of a segment's start does not matter

pub distance_bare : (l c : ℕ) (xs : List Slot) → distance_to (occurs l c) (map bare xs) ≡ distance_to (occurs l c) xs
unfolding occurs bare slot
distance_bare l c [] = refl
distance_bare l c (x ∷ xs) = ap (λ d. pick (occurs l c x) 1 (suc d)) (distance_bare l c xs)

pub any_bare : (l c : ℕ) (xs : List Slot) → any (occurs l c) (map bare xs) ≡ any (occurs l c) xs
unfolding occurs bare slot
any_bare l c [] = refl
any_bare l c (x ∷ xs) = ap (λ b. occurs l c x || b) (any_bare l c xs)

-- ---- which buckets a tree has

pub other_level : (l c i j : ℕ) → (i ≡ l → ⊥) → occurs l c (slot i j) ≡ false
unfolding occurs slot
other_level l c i j h = rw (ne_eqb i l h)

pub other_place : (l c i j : ℕ) → (j ≡ c → ⊥) → occurs l c (slot i j) ≡ false
unfolding occurs slot
other_place l c i j h = by_test (eqb i l) (ne_eqb j c h)
  where
    by_test : (b : Bool) → eqb j c ≡ false → b && eqb j c ≡ false
    by_test true e = e
    by_test false e = refl

pub none_cons : (f : Slot → Bool) (x : Slot) (xs : List Slot) → f x ≡ false → any f xs ≡ false → any f (x ∷ xs) ≡ false
none_cons f x xs p q = rw (p, q)

-- none above its root
pub tree_low : (t : Plan) (l c h i j : ℕ) → l < i → any (occurs l c) (subtree t h i j) ≡ false
unfolding children
tree_low t l c zero i j h = refl
tree_low t l c (suc h) i j g =
    none_cons (occurs l c) (slot i j) (joined (λ x. subtree t h (suc i) x) (children t i j))
    (other_level l c i j (λ e. omega arith))
    (none_joined (occurs l c) (λ x. subtree t h (suc i) x) (j * t.n) (min (j * t.n + t.n) (width t (suc i)) - j * t.n)
    (λ x u v. tree_low t l c h (suc i) x (omega arith)))

-- none beside its root
pub tree_other : (t : Plan) (c h i j : ℕ) → (j ≡ c → ⊥) → any (occurs i c) (subtree t h i j) ≡ false
unfolding children
tree_other t c zero i j g = refl
tree_other t c (suc h) i j g =
    none_cons (occurs i c) (slot i j) (joined (λ x. subtree t h (suc i) x) (children t i j))
    (other_place i c i j g)
    (none_joined (occurs i c) (λ x. subtree t h (suc i) x) (j * t.n) (min (j * t.n + t.n) (width t (suc i)) - j * t.n)
    (λ x u v. tree_low t i c h (suc i) x (omega arith)))

-- ---- the distance to a child

module _ (t : Plan) (h i : ℕ) where
  -- the subtrees of a row of children
  abbrev pub subtrees : List ℕ → List Slot
  subtrees cs = joined (λ c. subtree t (suc h) (suc i) c) cs

  module _ (a c e : ℕ) (low : a ≤ c) (high : c < e) where
    -- what follows the child's own bucket
    abbrev pub behind_child : List Slot
    behind_child = joined (λ x. subtree t h (suc (suc i)) x) (children t (suc i) c) ++ subtrees (range (suc c) e)

    pub children_split : subtrees (range a e) ≡ subtrees (range a c) ++ (slot (suc i) c ∷ behind_child)
    children_split =
        joined_range (λ x. subtree t (suc h) (suc i) x) a c e low (omega arith)
        ∙ ap (λ cs. subtrees (range a c) ++ subtrees cs) (range_cons c e high)

    pub earlier_none : any (occurs (suc i) c) (subtrees (range a c)) ≡ false
    earlier_none =
        none_joined (occurs (suc i) c) (λ x. subtree t (suc h) (suc i) x) a (c - a)
        (λ x u v. tree_other t c (suc h) (suc i) x (λ p. omega arith))

    pub child_distance_lem : distance_to (occurs (suc i) c) (subtrees (range a e)) ≡ 1 + length (subtrees (range a c))
    child_distance_lem =
        ap (distance_to (occurs (suc i) c)) children_split
        ∙ distance_hit (occurs (suc i) c) (subtrees (range a c)) (slot (suc i) c) behind_child earlier_none
        (slot_occurs (suc i) c (suc i) c refl refl)
        ∙ add_comm (length (subtrees (range a c))) 1

    pub child_there : any (occurs (suc i) c) (subtrees (range a e)) ≡ true
    child_there =
        ap (any (occurs (suc i) c)) children_split
        ∙ some_hit (occurs (suc i) c) (subtrees (range a c)) (slot (suc i) c) behind_child
        (slot_occurs (suc i) c (suc i) c refl refl)

  -- the next occurrence of an index bucket's child in its own segment's tree
  pub next_child :
      {x j : ℕ} (a : At t x i j (subtrees (children t i j))) (c : ℕ) →
      j * t.n ≤ c → c < min (j * t.n + t.n) (width t (suc i)) →
      to_next (to_send a) (i + 1) c ≡ 1 + length (subtrees (range (j * t.n) c))
  unfolding to_next children
  next_child {x} {j} a c low high =
      let from : ℕ = j * t.n in
      let to : ℕ = min (j * t.n + t.n) (width t (suc i)) in
      let there : any (occurs (suc i) c) a.next ≡ true =
      sym (any_bare (suc i) c a.next) ∙ ap (any (occurs (suc i) c)) a.alike ∙ child_there from c to low high in
      rw (add-one i)
      (distance_within (occurs (suc i) c) a.next a.behind there
      ∙ sym (distance_bare (suc i) c a.next)
      ∙ ap (distance_to (occurs (suc i) c)) a.alike
      ∙ child_distance_lem from c to low high)
