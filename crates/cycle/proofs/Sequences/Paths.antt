-- Layout 1's paths: where a path begins, and which buckets it holds.
-- Assumes nothing.
use mathlib.Core.Path.{◌≡◌, sym, ap, ◌∙◌}
use Prim.Native.Nat.{ℕ, zero, suc, ◌+◌, ◌-◌, ◌*◌, ◌^◌, ◌≤◌, ◌<◌, max}
use native.Mathlib.Nat.{add-zero, add-suc, one-le-pow, mul-pos}
use native.Mathlib.Omega.{arith}
use mathlib.Core.Bool.{Bool, true, false}
use lib.Dec.{eqb}
use borrow.Author.Tests.{ne_eqb}
use Rattle.columns.specs.Lists.{pick}
use Rattle.cycle.specs.Tree.{above}
use Rattle.cycle.specs.Layouts.{lowest, path_top}
use Rattle.cycle.proofs.Trees.TreeLaws.{above_add, above_first, lt_above}

pub lowest_low : (n r b i : ℕ) → 1 ≤ lowest n r b i
lowest_low n r b zero = omega arith
lowest_low n r b (suc i) = by_test (eqb (above n (r - i) (b - 1)) (above n (r - i) b)) (lowest_low n r b i)
  where
    by_test : (e : Bool) → 1 ≤ lowest n r b i → 1 ≤ pick e (suc i) (lowest n r b i)
    by_test true h = omega arith
    by_test false h = h

pub lowest_high : (n r b i : ℕ) → lowest n r b i ≤ max 1 i
lowest_high n r b zero = omega arith
lowest_high n r b (suc i) = by_test (eqb (above n (r - i) (b - 1)) (above n (r - i) b)) (lowest_high n r b i)
  where
    by_test : (e : Bool) → lowest n r b i ≤ max 1 i → pick e (suc i) (lowest n r b i) ≤ max 1 (suc i)
    by_test true h = omega arith
    by_test false h = omega arith

-- where b and its forerunner differ below level i, the path begins at level i or above
pub lowest_turn :
    (n r b i m : ℕ) → 1 ≤ i → i + m ≤ r → (above n (r - i) (b - 1) ≡ above n (r - i) b → ⊥) → lowest n r b (i + m) ≤ i
lowest_turn n r b i zero low h f = let g = lowest_high n r b i in rw add-zero (omega arith)
lowest_turn n r b i (suc m) low h f =
    let apart : above n (r - (i + m)) (b - 1) ≡ above n (r - (i + m)) b → ⊥ =
    λ e.
    let height : r - i ≡ (r - (i + m)) + m = omega arith in
    f
    (ap (λ x. above n x (b - 1)) height
    ∙ above_add n (r - (i + m)) m (b - 1)
    ∙ ap (above n m) e
    ∙ sym (above_add n (r - (i + m)) m b)
    ∙ ap (λ x. above n x b) (sym height)) in
    rw (add-suc, ne_eqb (above n (r - (i + m)) (b - 1)) (above n (r - (i + m)) b) apart)
    (lowest_turn n r b i m low (omega arith) f)

pub path_top_low : (n r b : ℕ) → 1 ≤ path_top n r b
path_top_low n r zero = omega arith
path_top_low n r (suc b) = lowest_low n r (suc b) r

pub path_top_high : (n r b : ℕ) → path_top n r b ≤ max 1 r
path_top_high n r zero = omega arith
path_top_high n r (suc b) = lowest_high n r (suc b) r

pub path_top_turn :
    (n r b i : ℕ) → 1 ≤ i → i ≤ r → (above n (r - i) (b - 1) ≡ above n (r - i) b → ⊥) → path_top n r b ≤ i
path_top_turn n r zero i low h f = low
path_top_turn n r (suc b) i low h f =
    let e : r ≡ i + (r - i) = omega arith in
    let g : lowest n r (suc b) (i + (r - i)) ≤ i = lowest_turn n r (suc b) i (r - i) low (omega arith) f in
    rw (← e) at g

-- the first bucket under place c of level i + 1 has a path from level i at the lowest
pub path_top_first : (n r c i : ℕ) → 0 < n → 0 < c → 1 ≤ i → i ≤ r → path_top n r (c * n ^ (r - i)) ≤ i
path_top_first n r c i pos some low h =
    path_top_turn n r (c * n ^ (r - i)) i low h
    (λ e.
    let here : above n (r - i) (c * n ^ (r - i)) ≡ c = above_first n (r - i) pos c in
    let much : 0 < c * n ^ (r - i) = mul-pos some (one-le-pow (r - i) n pos) in
    let before : above n (r - i) (c * n ^ (r - i) - 1) < c = lt_above n (r - i) pos c (c * n ^ (r - i) - 1) (omega arith) in
    omega arith)
