-- A number that was read, held against its bounds.
-- Assumes nothing.
use Prim.Native.Nat.{ℕ, ◌≤◌, ◌<◌}
use mathlib.Core.Path.{◌≡◌}
use mathlib.Core.Bool.{◌&&◌}
use Rattle.std.specs.Prelude.{None, Some}
use mathlib.Core.List.{List}
use lib.Dec.{leb}
use borrow.Author.Tests.{le-leb, lt-leb, leb-true}
use Rattle.columns.specs.Lists.{pick}
use Rattle.columns.specs.PrintedNumbers.{read_number}
use Rattle.columns.proofs.Strict.{both}
use Rattle.buckets.specs.Inner.Columns.{number_within}
use Rattle.buckets.proofs.Chained.{then_found, pick_found}

module _ (low high : ℕ) (s : List ℕ) where
  pub misprinted : read_number s ≡ None → number_within low high s ≡ None
  unfolding number_within
  misprinted e = rw e

  pub too_low : (x : ℕ) → read_number s ≡ Some x → x < low → number_within low high s ≡ None
  unfolding number_within
  too_low x e h = rw (e, lt-leb low x h)

  pub too_high : (x : ℕ) → read_number s ≡ Some x → low ≤ x → high < x → number_within low high s ≡ None
  unfolding number_within
  too_high x e l h = rw (e, le-leb low x l, lt-leb x high h)

  pub within : (x : ℕ) → read_number s ≡ Some x → low ≤ x → x ≤ high → number_within low high s ≡ Some x
  unfolding number_within
  within x e l h = rw (e, le-leb low x l, le-leb x high h)

-- a number read within bounds is within them
pub number_most : (low high : ℕ) (s : List ℕ) (x : ℕ) → number_within low high s ≡ Some x → x ≤ high
unfolding number_within
number_most low high s x read =
    let found = then_found (read_number s) (λ y. pick (leb low y && leb y high) (Some y) None) read in
    let y = found.0 in
    let kept = pick_found (leb low y && leb y high) (Some y) found.2 in
    let is : y ≡ x = cc in
    rw is at (leb-true y high (both (leb low y) (leb y high) kept.0).1)
