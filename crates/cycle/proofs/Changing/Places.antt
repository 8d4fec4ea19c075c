-- The place of the first that passes a test: it is what `first_from` finds, and within the list if one passes.
-- Assumes nothing.
use mathlib.Core.Path.{◌≡◌, refl, ap}
use Prim.Native.Nat.{ℕ, zero, suc, ◌+◌, ◌≤◌, ◌<◌}
use native.Mathlib.Omega.{arith}
use mathlib.Core.Bool.{Bool, true, false, ◌||◌}
use Rattle.std.specs.Prelude.{Option, Some}
use Rattle.std.specs.Prelude.{unwrap_or}
use mathlib.Core.List.{List, [], ◌∷◌, map}
use lib.ListN.{length}
use Rattle.columns.specs.Lists.{pick, any}
use Rattle.cycle.specs.Inner.Changing.{first_from}

-- a line's place, or the number of lines where there is none
abbrev pub place_or : ℕ → Option ℕ → ℕ
place_or lines o = unwrap_or o lines

-- the first place where f passes, the length where there is none
abbrev pub place : {A : Type 0} → (A → Bool) → List A → ℕ
place f [] = zero
place f (x ∷ xs) = pick (f x) zero (suc (place f xs))

module _ {A : Type 0} (f : A → Bool) where
  pub place_most : (xs : List A) → place f xs ≤ length xs
  place_most [] = omega arith
  place_most (x ∷ xs) = go (f x) (place_most xs)
    where
      go : (t : Bool) → place f xs ≤ length xs → pick t zero (suc (place f xs)) ≤ suc (length xs)
      go true h = omega arith
      go false h = omega arith

  -- it is what the search finds, counted from i
  pub first_place_lem : (i : ℕ) (xs : List A) (c : ℕ) → c ≡ i + length xs → place_or c (first_from f i xs) ≡ i + place f xs
  first_place_lem i [] c e = e
  first_place_lem i (x ∷ xs) c e = go (f x) (first_place_lem (suc i) xs c (omega arith))
    where
      go : (t : Bool) → place_or c (first_from f (suc i) xs) ≡ suc i + place f xs
          → place_or c (pick t (Some i) (first_from f (suc i) xs)) ≡ i + pick t zero (suc (place f xs))
      go true h = omega arith
      go false h = omega arith

  -- f passes somewhere exactly if the place is within the list
  pub passes_within : (xs : List A) → place f xs < length xs → any f xs ≡ true
  passes_within [] h = absurd (omega arith)
  passes_within (x ∷ xs) h = go (f x) (passes_within xs) h
    where
      go : (t : Bool) → (place f xs < length xs → any f xs ≡ true) → pick t zero (suc (place f xs)) < suc (length xs)
          → t || any f xs ≡ true
      go true rest k = refl
      go false rest k = rest (omega arith)

  pub passes_nowhere : (xs : List A) → place f xs ≡ length xs → any f xs ≡ false
  passes_nowhere [] h = refl
  passes_nowhere (x ∷ xs) h = go (f x) (passes_nowhere xs) h
    where
      go : (t : Bool) → (place f xs ≡ length xs → any f xs ≡ false) → pick t zero (suc (place f xs)) ≡ suc (length xs)
          → t || any f xs ≡ false
      go true rest k = absurd (omega arith)
      go false rest k = rest (omega arith)

  pub within_passes : (xs : List A) → any f xs ≡ true → place f xs < length xs
  within_passes [] h = absurd (let z : ◌≡◌ {A = ℕ} 0 1 = cc in omega arith)
  within_passes (x ∷ xs) h = go (f x) (within_passes xs) h
    where
      go : (t : Bool) → (any f xs ≡ true → place f xs < length xs) → t || any f xs ≡ true
          → pick t zero (suc (place f xs)) < suc (length xs)
      go true rest k = omega arith
      go false rest k = let h : place f xs < length xs = rest k in omega arith

  -- and what the search finds is within the list
  pub found_inside : (i : ℕ) (xs : List A) (p : ℕ) → first_from f i xs ≡ Some p → p < i + length xs
  found_inside i [] p h = absurd (let z : ◌≡◌ {A = ℕ} 0 1 = cc in omega arith)
  found_inside i (x ∷ xs) p h = go (f x) (found_inside (suc i) xs p) h
    where
      go : (t : Bool) → (first_from f (suc i) xs ≡ Some p → p < suc i + length xs) → pick t (Some i) (first_from f (suc i) xs) ≡ Some p
          → p < i + suc (length xs)
      go true rest k = let e : i ≡ p = cc in omega arith
      go false rest k = let h : p < suc i + length xs = rest k in omega arith

-- a place among the outcomes of g
pub place_map : {A B : Type 0} (f : B → Bool) (g : A → B) (xs : List A) → place f (map g xs) ≡ place (λ x. f (g x)) xs
place_map f g [] = refl
place_map f g (x ∷ xs) = ap (λ k. pick (f (g x)) zero (suc k)) (place_map f g xs)
