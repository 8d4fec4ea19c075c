-- Whether one of a list passes a test, by its places.
-- Assumes nothing.
use mathlib.Core.Path.{◌≡◌, refl}
use Prim.Native.Nat.{ℕ, zero, suc, ◌<◌}
use mathlib.Core.Bool.{Bool, true, false, or-true}
use mathlib.Core.List.{List, [], ◌∷◌}
use native.Mathlib.Omega.{arith}
use lib.ListN.{length, get_or}
use Rattle.columns.specs.Lists.{any}

module _ {A : Type 0} (f : A → Bool) (d : A) where
  pub any_at : (xs : List A) (i : ℕ) → i < length xs → f (get_or xs i d) ≡ true → any f xs ≡ true
  any_at [] i h e = absurd (omega arith)
  any_at (x ∷ xs) zero h e = rw e
  any_at (x ∷ xs) (suc i) h e = rw (any_at xs i (omega arith) e) (or-true (f x))

  pub any_nowhere : (xs : List A) → ((i : ℕ) → i < length xs → f (get_or xs i d) ≡ false) → any f xs ≡ false
  any_nowhere [] h = refl
  any_nowhere (x ∷ xs) h =
      let first : f x ≡ false = h 0 (omega arith) in rw (first, any_nowhere xs (λ i l. h (suc i) (omega arith)))
