-- How a test that decides a statement is put together.
-- Assumes nothing.
use mathlib.Core.Path.{◌≡◌, refl, sym}
use Prim.Native.Nat.{ℕ}
use mathlib.Core.Bool.{Bool, true, false, not, ◌&&◌, true≢false}
use lib.Dec.{eqb}
use borrow.Author.Tests.{eqb-true, eqb-false}
use Rattle.cycle.specs.Inner.Comparing.{Decides}

module _ {P : Type 0} where
  pub decides_no : (P → ⊥) → Decides P false
  decides_no f = record { yes = λ e. absurd (true≢false (sym e)); no = λ e. f }

  pub decides_yes : P → Decides P true
  decides_yes p = record { yes = λ e. p; no = λ e. absurd (true≢false e) }

  -- the test of a statement that means the same
  pub decides_by : {Q : Type 0} {r : Bool} → (P → Q) → (Q → P) → Decides P r → Decides Q r
  decides_by f g d = record { yes = λ e. f (d.yes e); no = λ e q. d.no e (g q) }

  -- a statement of which a part does not hold
  pub decides_not : {Q : Type 0} {r : Bool} → not r ≡ true → (P → Q) → Decides Q r → Decides P false
  decides_not {r = true} e f d = absurd (true≢false (sym e))
  decides_not {r = false} e f d = decides_no (λ p. d.no refl (f p))

  pub decides_told : {r : Bool} → not r ≡ false → Decides P r → P
  decides_told {r = true} e d = d.yes refl
  decides_told {r = false} e d = absurd (true≢false e)

pub decides_eqb : (a b : ℕ) → Decides (a ≡ b) (eqb a b)
decides_eqb a b = record { yes = eqb-true a b; no = eqb-false a b }

-- two tests in a row
pub decides_both : {P Q : Type 0} {a b : Bool} → Decides P a → Decides Q b → Decides (P × Q) (a && b)
decides_both {a = true} {b} d e = decides_by (λ q. (d.yes refl, q)) (λ p. p.1) e
decides_both {a = false} {b} d e = decides_no (λ p. d.no refl p.0)
