-- The first bucket that passes a test: whether there is one in a list, and how far it is.
-- Assumes nothing.
use mathlib.Core.Path.{◌≡◌, refl, sym, ap, ◌∙◌}
use mathlib.Core.Logic.{◌⊎◌, inl, inr, ⊎_elim}
use Prim.Native.Nat.{ℕ, zero, suc, ◌+◌, ◌≤◌, ◌<◌}
use native.Mathlib.Nat.{zero-add, suc-add}
use native.Mathlib.Omega.{arith}
use mathlib.Core.Bool.{Bool, true, false, ◌||◌, true≢false}
use mathlib.Core.List.{List, [], ◌∷◌, ◌++◌}
use lib.ListN.{length}
use Rattle.columns.specs.Lists.{pick, any, joined, span}
use Rattle.buckets.proofs.Good.{Reaches}
use Rattle.cycle.specs.Layouts.{Slot}
use Rattle.cycle.specs.Cycle.{distance_to}

-- ---- whether one passes

module _ (f : Slot → Bool) where
  pub any_append : (xs ys : List Slot) → any f (xs ++ ys) ≡ any f xs || any f ys
  any_append [] ys = refl
  any_append (x ∷ xs) ys = by_test (f x) (any_append xs ys)
    where
      by_test : (b : Bool) → any f (xs ++ ys) ≡ any f xs || any f ys → b || any f (xs ++ ys) ≡ (b || any f xs) || any f ys
      by_test true e = refl
      by_test false e = e

  pub none_append : (xs ys : List Slot) → any f xs ≡ false → any f ys ≡ false → any f (xs ++ ys) ≡ false
  none_append xs ys p q = any_append xs ys ∙ rw (p, q)

  pub none_joined :
      (g : ℕ → List Slot) (a c : ℕ) → ((x : ℕ) → a ≤ x → x < a + c → any f (g x) ≡ false) → any f (joined g (span a c)) ≡ false
  none_joined g a zero h = refl
  none_joined g a (suc c) h =
      none_append (g a) (joined g (span (suc a) c)) (h a (omega arith) (omega arith))
      (none_joined g (suc a) c (λ x p q. h x (omega arith) (omega arith)))

  pub some_left : (xs ys : List Slot) → any f (xs ++ ys) ≡ true → any f ys ≡ false → any f xs ≡ true
  some_left xs ys p q = by_test (any f xs) refl
    where
      by_test : (b : Bool) → any f xs ≡ b → any f xs ≡ true
      by_test true e = e
      by_test false e = absurd (true≢false (sym p ∙ none_append xs ys e q))

  pub some_hit : (xs : List Slot) (y : Slot) (ys : List Slot) → f y ≡ true → any f (xs ++ (y ∷ ys)) ≡ true
  some_hit [] y ys e = rw e
  some_hit (x ∷ xs) y ys e = by_test (f x) (some_hit xs y ys e)
    where
      by_test : (b : Bool) → any f (xs ++ (y ∷ ys)) ≡ true → b || any f (xs ++ (y ∷ ys)) ≡ true
      by_test true h = refl
      by_test false h = h

-- ---- the first that passes

pub record First (f : Slot → Bool) (xs : List Slot) : Type 0 where
  pub skipped : List Slot
  pub hit : Slot
  pub behind : List Slot
  pub splits : xs ≡ skipped ++ (hit ∷ behind)
  pub is : f hit ≡ true
  pub fresh : any f skipped ≡ false

pub first_or_none : (f : Slot → Bool) (xs : List Slot) → First f xs ⊎ (any f xs ≡ false)
first_or_none f [] = inr refl
first_or_none f (x ∷ xs) = by (f x) refl (first_or_none f xs)
  where
    by :
        (b : Bool) → f x ≡ b → First f xs ⊎ (any f xs ≡ false) → First f (x ∷ xs) ⊎ ((f x || any f xs) ≡ false)
    by true e o = inl (record { skipped = []; hit = x; behind = xs; splits = refl; is = e; fresh = refl })
    by false e o =
        ⊎_elim
        (λ (r : First f xs).
        inl
        (record {
          skipped = x ∷ r.skipped;
          hit = r.hit;
          behind = r.behind;
          splits = ap (λ z. x ∷ z) r.splits;
          is = r.is;
          fresh = rw e r.fresh;
        }))
        (λ (n : any f xs ≡ false). inr (rw e n))
        o

-- where a bucket that passes would be absurd, none does
pub none_found : (f : Slot → Bool) (xs : List Slot) → (First f xs → ⊥) → any f xs ≡ false
none_found f xs h = ⊎_elim (λ (r : First f xs). absurd (h r)) (λ (e : any f xs ≡ false). e) (first_or_none f xs)

-- ---- how far it is

module _ (f : Slot → Bool) where
  -- past buckets that do not pass
  pub distance_past : (xs ys : List Slot) → any f xs ≡ false → distance_to f (xs ++ ys) ≡ length xs + distance_to f ys
  distance_past [] ys h = sym (zero-add (distance_to f ys))
  distance_past (x ∷ xs) ys h = by_test (f x) refl (distance_past xs ys)
    where
      by_test :
          (b : Bool) → f x ≡ b → (any f xs ≡ false → distance_to f (xs ++ ys) ≡ length xs + distance_to f ys) →
          pick (f x) 1 (suc (distance_to f (xs ++ ys))) ≡ suc (length xs) + distance_to f ys
      by_test true e r = absurd (true≢false (rw e at h))
      by_test false e r = rw e (ap suc (r (rw e at h)) ∙ sym (suc-add (length xs) (distance_to f ys)))

  -- what stands behind a bucket that passes does not matter
  pub distance_within : (xs ys : List Slot) → any f xs ≡ true → distance_to f (xs ++ ys) ≡ distance_to f xs
  distance_within [] ys h = absurd (true≢false (sym h))
  distance_within (x ∷ xs) ys h = by_test (f x) refl (distance_within xs ys)
    where
      by_test :
          (b : Bool) → f x ≡ b → (any f xs ≡ true → distance_to f (xs ++ ys) ≡ distance_to f xs) →
          pick (f x) 1 (suc (distance_to f (xs ++ ys))) ≡ pick (f x) 1 (suc (distance_to f xs))
      by_test true e r = rw e
      by_test false e r = rw e (ap suc (r (rw e at h)))

  -- none passes: the next cycle's start
  pub distance_none : (xs : List Slot) → any f xs ≡ false → distance_to f xs ≡ suc (length xs)
  distance_none [] h = refl
  distance_none (x ∷ xs) h = by_test (f x) refl (distance_none xs)
    where
      by_test :
          (b : Bool) → f x ≡ b → (any f xs ≡ false → distance_to f xs ≡ suc (length xs)) →
          pick (f x) 1 (suc (distance_to f xs)) ≡ suc (suc (length xs))
      by_test true e r = absurd (true≢false (rw e at h))
      by_test false e r = rw e (ap suc (r (rw e at h)))

  pub distance_low : (xs : List Slot) → 1 ≤ distance_to f xs
  distance_low [] = omega arith
  distance_low (x ∷ xs) = by_test (f x)
    where
      by_test : (b : Bool) → 1 ≤ pick b 1 (suc (distance_to f xs))
      by_test true = omega arith
      by_test false = omega arith

  -- the next cycle's start is the furthest
  pub distance_reaches : (xs : List Slot) → Reaches (suc (length xs)) (distance_to f xs)
  distance_reaches xs = record { onward = distance_low xs; near = near xs }
    where
      near : (xs : List Slot) → distance_to f xs ≤ suc (length xs)
      near [] = omega arith
      near (x ∷ xs) = by_test (f x) (near xs)
        where
          by_test : (b : Bool) → distance_to f xs ≤ suc (length xs) → pick b 1 (suc (distance_to f xs)) ≤ suc (suc (length xs))
          by_test true h = omega arith
          by_test false h = omega arith

  -- what passes is no further than the last
  pub distance_near : (xs : List Slot) → any f xs ≡ true → distance_to f xs ≤ length xs
  distance_near [] h = absurd (true≢false (sym h))
  distance_near (x ∷ xs) h = by_test (f x) refl (distance_near xs)
    where
      by_test :
          (b : Bool) → f x ≡ b → (any f xs ≡ true → distance_to f xs ≤ length xs) →
          pick (f x) 1 (suc (distance_to f xs)) ≤ suc (length xs)
      by_test true e r = rw e (omega arith)
      by_test false e r = rw e (omega (arith, r (rw e at h)))

  pub distance_hit : (xs : List Slot) (y : Slot) (ys : List Slot) → any f xs ≡ false → f y ≡ true → distance_to f (xs ++ (y ∷ ys)) ≡ length xs + 1
  distance_hit xs y ys h e = distance_past xs (y ∷ ys) h ∙ rw e

  -- what passes among xs is found among them
  pub distance_found : (xs ys : List Slot) → any f xs ≡ true → Reaches (length xs) (distance_to f (xs ++ ys))
  distance_found xs ys h =
      let e : distance_to f (xs ++ ys) ≡ distance_to f xs = distance_within xs ys h in
      record { onward = omega (arith, distance_low xs); near = omega (arith, distance_near xs h) }
