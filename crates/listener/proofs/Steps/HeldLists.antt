-- Lists element by element: items of which one is chosen, and lines known by their tags.
-- Assumes nothing.
use mathlib.Core.Path.{◌≡◌, sym, ◌∙◌}
use mathlib.Core.Bool.{Bool, true, false}
use Rattle.std.specs.Prelude.{None, Some}
use mathlib.Core.List.{List, [], ◌∷◌, map}
use Prim.Native.Nat.{ℕ, suc, ◌+◌, ◌≤◌, ◌<◌}
use native.Mathlib.Numerals.{add-one}
use native.Mathlib.Omega.{arith}
use borrow.Author.Tests.{eq-eqb, ne_eqb}
use lib.ListN.{length, drop, get_or, length-map, drop_of_length-le, get_or-map}
use lib.Seq.{drop-cons}
use Rattle.listener.specs.Listener.{before, matching}
use Rattle.listener.specs.Inner.OnReading.{chosen, tagged, tagged_lines}

pub next {ℓ} : {A : Type ℓ} (xs : List A) (i : ℕ) (d : A) → i < length xs → drop i xs ≡ get_or xs i d ∷ drop (i + 1) xs
next xs i d h = rw (add-one, drop-cons xs i d h)

-- ---- a loop that chooses

module _ {A : Type 0} (f : A → Bool) (distance : A → ℕ) (d : A) (xs ys : List A) (i : ℕ)
    (so : chosen f distance ys ≡ chosen f distance (drop i xs)) where
  pub choosing_on : i < length xs → f (get_or xs i d) ≡ false → chosen f distance ys ≡ chosen f distance (drop (i + 1) xs)
  choosing_on h e = so ∙ rw (add-one, drop-cons xs i d h, e)

  pub choosing_hit : i < length xs → f (get_or xs i d) ≡ true → Some (distance (get_or xs i d)) ≡ chosen f distance ys
  choosing_hit h e = sym (so ∙ rw (drop-cons xs i d h, e))

  pub choosing_end : length xs ≤ i → None ≡ chosen f distance ys
  choosing_end h = sym (so ∙ rw (drop_of_length-le xs h))

-- ---- lines

pub length_tagged : (ts : List ℕ) → length (tagged_lines ts) ≡ length ts
unfolding tagged_lines
length_tagged ts = length-map ts tagged

pub tagged_more : (ts : List ℕ) (i : ℕ) → i < length ts → drop i (tagged_lines ts) ≡ tagged (get_or ts i 0) ∷ drop (i + 1) (tagged_lines ts)
unfolding tagged_lines
tagged_more ts i h =
    rw (next (map tagged ts) i (tagged 0) (omega (arith, length-map ts tagged)), get_or-map tagged ts i 0)

pub tagged_end : (ts : List ℕ) (i : ℕ) → length ts ≤ i → drop i (tagged_lines ts) ≡ []
tagged_end ts i h = drop_of_length-le (tagged_lines ts) (omega (arith, length_tagged ts))

module _ (tag : ℕ) (ts : List ℕ) (i : ℕ) where
  module _ (h : i < length ts) where
    pub before_hit : get_or ts i 0 ≡ tag → before tag (tagged_lines (drop i ts)) ≡ 0
    unfolding tagged tagged_lines
    before_hit e = rw (drop-cons ts i 0 h, eq-eqb (get_or ts i 0) tag e)

    pub before_miss :
        (get_or ts i 0 ≡ tag → ⊥) → before tag (tagged_lines (drop i ts)) ≡ suc (before tag (tagged_lines (drop (i + 1) ts)))
    unfolding tagged tagged_lines
    before_miss e = rw (add-one, drop-cons ts i 0 h, ne_eqb (get_or ts i 0) tag e)

    pub matching_hit :
        get_or ts i 0 ≡ tag →
        length (matching tag (tagged_lines (drop i ts))) ≡ suc (length (matching tag (tagged_lines (drop (i + 1) ts))))
    unfolding tagged tagged_lines matching
    matching_hit e = rw (add-one, drop-cons ts i 0 h, eq-eqb (get_or ts i 0) tag e)

    pub matching_miss :
        (get_or ts i 0 ≡ tag → ⊥) →
        length (matching tag (tagged_lines (drop i ts))) ≡ length (matching tag (tagged_lines (drop (i + 1) ts)))
    unfolding tagged tagged_lines matching
    matching_miss e = rw (add-one, drop-cons ts i 0 h, ne_eqb (get_or ts i 0) tag e)

  pub before_end : length ts ≤ i → before tag (tagged_lines (drop i ts)) ≡ 0
  unfolding tagged_lines
  before_end h = rw (drop_of_length-le ts h)

  pub matching_end : length ts ≤ i → length (matching tag (tagged_lines (drop i ts))) ≡ 0
  unfolding tagged_lines matching
  matching_end h = rw (drop_of_length-le ts h)
