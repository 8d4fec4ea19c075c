-- A part of a list: what passes everywhere in the list passes in front and behind.
-- Assumes nothing.
use Prim.Native.Nat.{ℕ, zero, suc}
use mathlib.Core.Path.{◌≡◌, refl, sym, ap, ◌∙◌}
use mathlib.Core.Bool.{Bool, true}
use mathlib.Core.List.{List, [], ◌∷◌, map}
use lib.ListN.{take, drop, take-append-drop}
use Rattle.columns.specs.Lists.{every}
use Rattle.columns.proofs.Strict.{both}
use Rattle.columns.proofs.Joined.{every_append}

pub every_take : {A : Type 0} (f : A → Bool) (k : ℕ) (xs : List A) → every f xs ≡ true → every f (take k xs) ≡ true
every_take f k xs e =
    (both (every f (take k xs)) (every f (drop k xs)) (sym (every_append f (take k xs) (drop k xs)) ∙ ap (every f) (take-append-drop k xs) ∙ e)).0

pub every_drop : {A : Type 0} (f : A → Bool) (k : ℕ) (xs : List A) → every f xs ≡ true → every f (drop k xs) ≡ true
every_drop f k xs e =
    (both (every f (take k xs)) (every f (drop k xs)) (sym (every_append f (take k xs) (drop k xs)) ∙ ap (every f) (take-append-drop k xs) ∙ e)).1

module _ {A B : Type 0} (f : A → B) where
  pub map_take : (n : ℕ) (xs : List A) → map f (take n xs) ≡ take n (map f xs)
  map_take zero xs = refl
  map_take (suc n) [] = refl
  map_take (suc n) (x ∷ xs) = ap (λ ys. f x ∷ ys) (map_take n xs)

  pub map_drop : (n : ℕ) (xs : List A) → map f (drop n xs) ≡ drop n (map f xs)
  map_drop zero xs = refl
  map_drop (suc n) [] = refl
  map_drop (suc n) (x ∷ xs) = map_drop n xs
