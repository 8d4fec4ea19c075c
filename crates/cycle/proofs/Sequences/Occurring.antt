-- Which bucket an occurrence is, and which one is above all data buckets.
-- Assumes nothing.
use mathlib.Core.Path.{◌≡◌}
use Prim.Native.Nat.{ℕ, ◌+◌, ◌-◌, ◌<◌}
use native.Mathlib.Omega.{arith}
use mathlib.Core.Bool.{true}
use lib.Dec.{eqb}
use borrow.Author.Tests.{eqb-true}
use Rattle.columns.proofs.Strict.{both}
use Rattle.cycle.specs.Tree.{Plan, above}
use Rattle.cycle.specs.Layouts.{Slot}
use Rattle.cycle.specs.Cycle.{occurs}
use Rattle.cycle.proofs.Sequences.Sequence.{Sound, Keeps, place_above}
use Rattle.cycle.proofs.Trees.TreeLaws.{lt_above}

pub occurs_is : (i j : ℕ) (x : Slot) → occurs i j x ≡ true → (x.level ≡ i) × (x.place ≡ j)
unfolding occurs
occurs_is i j x h =
    let told = both (eqb x.level i) (eqb x.place j) h in
    (eqb-true x.level i told.0, eqb-true x.place j told.1)

module _ (t : Plan) (sound : Sound t) (keeps : Keeps t) where
  -- the root is above every data bucket
  pub root_above : (q : ℕ) → q < t.d → place_above t 1 q ≡ 0
  unfolding place_above
  root_above q l =
      let e : t.k + 1 - 1 ≡ t.k = omega arith in
      let b : above t.n t.k q < 1 = lt_above t.n t.k (omega (arith, sound.grows)) 1 q (omega (arith, sound.holds)) in
      rw e (omega arith)
