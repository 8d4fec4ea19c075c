-- The first number that passes a test: the laws of `least`.
-- Assumes nothing.
use mathlib.Core.Path.{◌≡◌, refl, sym, ◌∙◌, ap}
use mathlib.Core.Logic.{⊎_elim}
use Prim.Native.Nat.{ℕ, zero, suc, ◌+◌, ◌≤◌, ◌<◌}
use mathlib.Core.Bool.{Bool, true, false, true≢false}
use native.Mathlib.Omega.{arith}
use Rattle.columns.specs.Lists.{pick, least}
use Rattle.cycle.proofs.Basics.Ranges.{le_or_lt}

pub least_found : (c i : ℕ) (f : ℕ → Bool) → f i ≡ true → least c i f ≡ i
least_found zero i f e = refl
least_found (suc c) i f e = rw e

pub least_next : (c i : ℕ) (f : ℕ → Bool) → f i ≡ false → least (suc c) i f ≡ least c (suc i) f
least_next c i f e = rw e

pub least_from : (c i : ℕ) (f : ℕ → Bool) → i ≤ least c i f
least_from zero i f = omega arith
least_from (suc c) i f = by (f i) (least_from c (suc i) f)
  where
    by : (b : Bool) → suc i ≤ least c (suc i) f → i ≤ pick b i (least c (suc i) f)
    by true h = omega arith
    by false h = omega arith

pub least_to : (c i : ℕ) (f : ℕ → Bool) → least c i f ≤ i + c
least_to zero i f = omega arith
least_to (suc c) i f = by (f i) (least_to c (suc i) f)
  where
    by : (b : Bool) → least c (suc i) f ≤ suc i + c → pick b i (least c (suc i) f) ≤ i + suc c
    by true h = omega arith
    by false h = omega arith

pub least_fails : (c i : ℕ) (f : ℕ → Bool) (j : ℕ) → i ≤ j → j < least c i f → f j ≡ false
least_fails zero i f j h l = absurd (omega arith)
least_fails (suc c) i f j h l = by (f i) refl (least_fails c (suc i) f j) l
  where
    by :
        (b : Bool) → f i ≡ b → (suc i ≤ j → j < least c (suc i) f → f j ≡ false) → j < pick b i (least c (suc i) f) → f j ≡ false
    by true e k l = absurd (omega arith)
    by false e k l =
        ⊎_elim (λ (g : suc i ≤ j). k g l) (λ (g : j < suc i). let z : j ≡ i = omega arith in ap f z ∙ e) (le_or_lt (suc i) j)

pub least_passes : (c i : ℕ) (f : ℕ → Bool) → least c i f < i + c → f (least c i f) ≡ true
least_passes zero i f l = absurd (omega arith)
least_passes (suc c) i f l = by (f i) refl (least_passes c (suc i) f) l
  where
    by :
        (b : Bool) → f i ≡ b → (least c (suc i) f < suc i + c → f (least c (suc i) f) ≡ true) →
        pick b i (least c (suc i) f) < i + suc c → f (pick b i (least c (suc i) f)) ≡ true
    by true e k l = e
    by false e k l = k (omega arith)

-- the one that passes, with none before it
pub least_is :
    (c i : ℕ) (f : ℕ → Bool) (z : ℕ) → i ≤ z → z < i + c → f z ≡ true → ((x : ℕ) → i ≤ x → x < z → f x ≡ false) → least c i f ≡ z
least_is zero i f z h l e n = absurd (omega arith)
least_is (suc c) i f z h l e n = by (f i) refl (least_is c (suc i) f z)
  where
    by :
        (b : Bool) → f i ≡ b →
        (suc i ≤ z → z < suc i + c → f z ≡ true → ((x : ℕ) → suc i ≤ x → x < z → f x ≡ false) → least c (suc i) f ≡ z) →
        pick b i (least c (suc i) f) ≡ z
    by true t more =
        ⊎_elim
        (λ (k : z ≤ i). omega arith)
        (λ (k : i < z). absurd (true≢false (sym t ∙ n i (omega arith) k)))
        (le_or_lt z i)
    by false t more =
        ⊎_elim
        (λ (k : z ≤ i). let same : z ≡ i = omega arith in absurd (true≢false (sym e ∙ ap f same ∙ t)))
        (λ (k : i < z). more k (omega arith) e (λ x u v. n x (omega arith) v))
        (le_or_lt z i)
