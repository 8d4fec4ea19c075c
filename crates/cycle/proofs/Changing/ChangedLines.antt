-- A list's lines with one arrived or one taken out: they are those in front of the place and those behind it, as many as
-- expected, each passing what it passed before, and their tags never fall.
-- Assumes nothing.
use mathlib.Core.Path.{◌≡◌, refl, ap, ◌∙◌}
use Prim.Native.Nat.{ℕ, zero, suc, ◌-◌, ◌≤◌}
use native.Mathlib.Omega.{arith}
use mathlib.Core.Bool.{Bool, true, false}
use mathlib.Core.List.{List, [], ◌∷◌, ◌++◌, map}
use lib.ListN.{length, take, drop, length-append, length-take, length-drop}
use borrow.Author.Tests.{ltb-true, ltb-false}
use Rattle.columns.specs.Lists.{pick, every, any}
use Rattle.columns.proofs.Joined.{every_append}
use Rattle.buckets.specs.ListLine.{spelled}
use Rattle.buckets.proofs.ListParts.{every_take, every_drop}
use Rattle.cycle.specs.Changes.{arrived, equals, taken_out}
use Rattle.cycle.specs.Inner.Changing.{tag_over}
use Rattle.cycle.proofs.Lines.Rising.{Rising, rising_less}
use Rattle.cycle.proofs.Changing.Places.{place, place_most, within_passes}

module _ (given : List ℕ) where
  -- ---- a line arrived

  -- a line's tag is greater than the given one's
  abbrev pub over : List ℕ → Bool
  over s = tag_over (spelled given).tag (spelled s)

  pub arrived_at : (ss : List (List ℕ)) → arrived given ss ≡ take (place over ss) ss ++ given ∷ drop (place over ss) ss
  arrived_at [] = refl
  arrived_at (s ∷ ss) = go (over s) (arrived_at ss)
    where
      go : (t : Bool) → arrived given ss ≡ take (place over ss) ss ++ given ∷ drop (place over ss) ss
          → pick t (given ∷ (s ∷ ss)) (s ∷ arrived given ss)
          ≡ take (pick t zero (suc (place over ss))) (s ∷ ss) ++ given ∷ drop (pick t zero (suc (place over ss))) (s ∷ ss)
      go true e = refl
      go false e = ap (λ (r : List (List ℕ)). s ∷ r) e

  pub length_arrived : (ss : List (List ℕ)) → length (arrived given ss) ≡ suc (length ss)
  length_arrived ss =
      let within : place over ss ≤ length ss = place_most over ss in
      rw (arrived_at ss) (simp (length-append, length-take, length-drop) (omega arith))

  pub every_arrived : (f : List ℕ → Bool) (ss : List (List ℕ)) → f given ≡ true → every f ss ≡ true → every f (arrived given ss) ≡ true
  every_arrived f ss h e =
      let i = place over ss in
      ap (every f) (arrived_at ss)
      ∙ every_append f (take i ss) (given ∷ drop i ss)
      ∙ rw (every_take f i ss e, h, every_drop f i ss e)

  pub rising_arrived : (m : ℕ) (ss : List (List ℕ)) → m ≤ (spelled given).tag → Rising m (map spelled ss)
      → Rising m (map spelled (arrived given ss))
  rising_arrived m [] h r = (h, tt)
  rising_arrived m (s ∷ ss) h r = go (over s) refl (rising_arrived (spelled s).tag ss)
    where
      go : (t : Bool) → over s ≡ t
          → ((spelled s).tag ≤ (spelled given).tag → Rising (spelled s).tag (map spelled ss)
          → Rising (spelled s).tag (map spelled (arrived given ss)))
          → Rising m (map spelled (pick t (given ∷ (s ∷ ss)) (s ∷ arrived given ss)))
      go true e rest = let less = ltb-true (spelled given).tag (spelled s).tag e in (h, (omega arith, r.1))
      go false e rest = (r.0, rest (ltb-false (spelled given).tag (spelled s).tag e) r.1)

  -- ---- a line taken out

  pub taken_at : (ss : List (List ℕ))
      → taken_out given ss ≡ take (place (equals given) ss) ss ++ drop (suc (place (equals given) ss)) ss
  taken_at [] = refl
  taken_at (s ∷ ss) = go (equals given s) (taken_at ss)
    where
      go : (t : Bool) → taken_out given ss ≡ take (place (equals given) ss) ss ++ drop (suc (place (equals given) ss)) ss
          → pick t ss (s ∷ taken_out given ss)
          ≡ take (pick t zero (suc (place (equals given) ss))) (s ∷ ss)
          ++ drop (suc (pick t zero (suc (place (equals given) ss)))) (s ∷ ss)
      go true e = refl
      go false e = ap (λ (r : List (List ℕ)). s ∷ r) e

  pub length_taken : (ss : List (List ℕ)) → any (equals given) ss ≡ true → length (taken_out given ss) ≡ length ss - 1
  length_taken ss h =
      let within = within_passes (equals given) ss h in
      rw (taken_at ss) (simp (length-append, length-take, length-drop) (omega arith))

  pub every_taken : (f : List ℕ → Bool) (ss : List (List ℕ)) → every f ss ≡ true → every f (taken_out given ss) ≡ true
  every_taken f ss e =
      let i = place (equals given) ss in
      ap (every f) (taken_at ss)
      ∙ every_append f (take i ss) (drop (suc i) ss)
      ∙ rw (every_take f i ss e, every_drop f (suc i) ss e)

  pub rising_taken : (m : ℕ) (ss : List (List ℕ)) → Rising m (map spelled ss) → Rising m (map spelled (taken_out given ss))
  rising_taken m [] r = r
  rising_taken m (s ∷ ss) r = go (equals given s) (rising_taken (spelled s).tag ss r.1)
    where
      go : (t : Bool) → Rising (spelled s).tag (map spelled (taken_out given ss))
          → Rising m (map spelled (pick t ss (s ∷ taken_out given ss)))
      go true rest = rising_less (spelled s).tag m (map spelled ss) r.0 r.1
      go false rest = (r.0, rest)
