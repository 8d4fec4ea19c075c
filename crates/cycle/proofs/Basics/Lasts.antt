-- The last number that passes a test.
-- Assumes nothing.
use mathlib.Core.Path.{◌≡◌, refl, sym, ◌∙◌, ap, subst}
use mathlib.Core.Logic.{⊎_elim}
use Prim.Native.Nat.{ℕ, zero, suc, ◌+◌, ◌≤◌, ◌<◌}
use mathlib.Core.Bool.{Bool, true, false}
use mathlib.Core.List.{◌∷◌}
use native.Mathlib.Omega.{arith}
use Rattle.columns.specs.Lists.{pick, only, last_or, span}
use Rattle.cycle.proofs.Basics.Ranges.{le_or_lt}

-- z is the last number below b that passes
pub record Last (f : ℕ → Bool) (b z : ℕ) : Type 0 where
  pub below : z < b
  pub passes : f z ≡ true
  pub none_behind : (x : ℕ) → z < x → x < b → f x ≡ false

pub last_only :
    (f : ℕ → Bool) (c d a : ℕ) → f d ≡ true → d < a → ((x : ℕ) → d < x → x < a → f x ≡ false) →
    Last f (a + c) (last_or d (only f (span a c)))
last_only f zero d a h l n =
    record { below = omega arith; passes = h; none_behind = λ x u v. n x u (omega arith) }
last_only f (suc c) d a h l n = by (f a) refl (last_only f c)
  where
    onward : {z : ℕ} → Last f (suc a + c) z → Last f (a + suc c) z
    onward {z} r = let e : suc a + c ≡ a + suc c = omega arith in subst (λ b. Last f b z) e r

    by :
        (b : Bool) → f a ≡ b →
        ((d a : ℕ) → f d ≡ true → d < a → ((x : ℕ) → d < x → x < a → f x ≡ false) →
        Last f (a + c) (last_or d (only f (span a c)))) →
        Last f (a + suc c) (last_or d (pick b (a ∷ only f (span (suc a) c)) (only f (span (suc a) c))))
    by true e more = onward (more a (suc a) e (omega arith) (λ x u v. absurd (omega arith)))
    by false e more =
        onward
        (more d (suc a) h (omega arith)
        (λ x u v.
        ⊎_elim
        (λ (k : a ≤ x). let same : x ≡ a = omega arith in ap f same ∙ e)
        (λ (k : x < a). n x u k)
        (le_or_lt a x)))

-- where none passes, the one given for that
pub last_none :
    (f : ℕ → Bool) (c d a : ℕ) → ((x : ℕ) → a ≤ x → x < a + c → f x ≡ false) → last_or d (only f (span a c)) ≡ d
last_none f zero d a n = refl
last_none f (suc c) d a n =
    rw (n a (omega arith) (omega arith)) (last_none f c d (suc a) (λ x u v. n x (omega arith) (omega arith)))

-- the one that passes, with none behind it
pub last_found :
    (f : ℕ → Bool) (c d a z : ℕ) → a ≤ z → z < a + c → f z ≡ true → ((x : ℕ) → z < x → x < a + c → f x ≡ false) →
    last_or d (only f (span a c)) ≡ z
last_found f zero d a z low high h n = absurd (omega arith)
last_found f (suc c) d a z low high h n =
    ⊎_elim
    (λ (k : z ≤ a).
    let same : z ≡ a = omega arith in
    let here : f a ≡ true = ap f (sym same) ∙ h in
    rw here (last_none f c a (suc a) (λ x u v. n x (omega arith) (omega arith)) ∙ sym same))
    (λ (k : a < z).
    by (f a)
    (λ e. last_found f c e (suc a) z (omega arith) (omega arith) h (λ x u v. n x u (omega arith))))
    (le_or_lt z a)
  where
    by :
        (b : Bool) → ((e : ℕ) → last_or e (only f (span (suc a) c)) ≡ z) →
        last_or d (pick b (a ∷ only f (span (suc a) c)) (only f (span (suc a) c))) ≡ z
    by true more = more a
    by false more = more d

-- whether or not one passes, it is not past the end
pub last_within : (f : ℕ → Bool) (c d a : ℕ) → d ≤ a + c → last_or d (only f (span a c)) ≤ a + c
last_within f zero d a h = h
last_within f (suc c) d a h = by (f a) (λ e u. last_within f c e (suc a) u)
  where
    by :
        (b : Bool) → ((e : ℕ) → e ≤ suc a + c → last_or e (only f (span (suc a) c)) ≤ suc a + c) →
        last_or d (pick b (a ∷ only f (span (suc a) c)) (only f (span (suc a) c))) ≤ a + suc c
    by true more = omega (arith, more a (omega arith))
    by false more = omega (arith, more d (omega arith))
