-- A layout and its number tell each other.
-- Assumes nothing.
use mathlib.Core.Path.{◌≡◌, refl, sym, ap, ◌∙◌}
use Prim.Native.Nat.{ℕ, ◌≤◌}
use native.Mathlib.Omega.{arith}
use mathlib.Core.Bool.{Bool, true, false}
use lib.Dec.{eqb}
use borrow.Author.Tests.{eqb-true, eqb-false}
use Rattle.cycle.specs.Tree.{layout_number, layout_of}
use Rattle.cycle.specs.declared.Layout.{Layout}
use Rattle.cycle.specs.declared.Layout.TheVariants.{Distributed, OneM}

-- layout 1 is the distributed one
pub is_distributed : (l : Layout) → layout_number l ≡ 1 → l ≡ Distributed
is_distributed Distributed e = refl
is_distributed OneM e = absurd (omega (arith, e))

-- layout 2 is the other
pub is_one_m : (l : Layout) → (layout_number l ≡ 1 → ⊥) → l ≡ OneM
is_one_m Distributed n = absurd (n refl)
is_one_m OneM n = refl

pub not_one : {l : Layout} → l ≡ OneM → layout_number l ≡ 1 → ⊥
not_one e one = omega (arith, ap layout_number e, one)

-- the number of the layout that a number within its range names
pub number_named : (m : ℕ) → 1 ≤ m → m ≤ 2 → layout_number (layout_of m) ≡ m
number_named m low high = go (eqb m 1) refl
  where
    go : (b : Bool) → eqb m 1 ≡ b → layout_number (layout_of m) ≡ m
    go true e = rw e (sym (eqb-true m 1 e))
    go false e = let other = eqb-false m 1 e in rw e (omega arith)

-- the layout that a layout's number names
pub kind_named : (l : Layout) → layout_of (layout_number l) ≡ l
kind_named Distributed = refl
kind_named OneM = refl

-- layouts with the same number are the same
pub number_told : (l m : Layout) → layout_number l ≡ layout_number m → l ≡ m
number_told l m e = sym (kind_named l) ∙ ap layout_of e ∙ kind_named m
