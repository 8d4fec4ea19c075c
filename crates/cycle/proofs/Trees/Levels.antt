-- How many levels there are: "the least k of at least 1 with n^k at least D".
-- Assumes nothing.
use mathlib.Core.Path.{◌≡◌, ap, ◌∙◌}
use mathlib.Core.Logic.{⊎_elim}
use Prim.Native.Nat.{ℕ, suc, ◌+◌, ◌-◌, ◌*◌, ◌^◌, ◌≤◌, ◌<◌}
use native.Mathlib.Nat.{pow-succ', pow-zero, mul-one, mul-le-mul, eq-or-lt_of_le}
use native.Mathlib.Omega.{arith}
use lib.Dec.{leb, lit≤}
use borrow.Author.Tests.{leb-true, leb-false, le-leb}
use Rattle.cycle.specs.Tree.{levels, levels_most}
use Rattle.cycle.proofs.Basics.Ranges.{le_or_lt}
use Rattle.cycle.proofs.Basics.Least.{least_found, least_from, least_fails, least_passes}
use Rattle.cycle.proofs.Basics.Powers.{power_reaches}
use Rattle.cycle.specs.Inner.Held.{span_most}
use Rattle.columns.specs.Lists.{least}
use Rattle.buckets.specs.Lengths.{lines_most, entries_most}

-- the least level from k on
abbrev pub levels_from : ℕ → ℕ → ℕ → ℕ
levels_from n d k = least (levels_most + 1 - k) k (λ x. leb d (n ^ x))

module _ (n d : ℕ) where
  pub levels_low : 1 ≤ levels n d
  unfolding levels
  levels_low = least_from levels_most 1 (λ k. leb d (n ^ k))

  -- fewer levels do not hold D
  pub levels_least : (h : ℕ) → 1 ≤ h → h < levels n d → n ^ h < d
  unfolding levels
  levels_least h low l = leb-false d (n ^ h) (least_fails levels_most 1 (λ k. leb d (n ^ k)) h low l)

  module _ (grows : 2 ≤ n) (small : d ≤ lines_most) where
    pub levels_high : levels n d ≤ levels_most
    levels_high =
        ⊎_elim
        (λ (l : levels n d ≤ levels_most). l)
        (λ (l : levels_most < levels n d).
        let much = power_reaches n levels_most grows (lit≤ tt) in
        let over : n ^ levels_most < d = levels_least levels_most (omega arith) l in
        absurd (omega arith))
        (le_or_lt (levels n d) levels_most)

    pub levels_hold : d ≤ n ^ levels n d
    unfolding levels
    levels_hold = leb-true d (n ^ levels n d) (least_passes levels_most 1 (λ k. leb d (n ^ k)) (omega (arith, levels_high)))

  -- the empty list has one level
  pub levels_lone : d ≡ 0 → levels n d ≡ 1
  unfolding levels
  levels_lone e = least_found levels_most 1 (λ k. leb d (n ^ k)) (le-leb d (n ^ 1) (omega arith))

-- the number of levels: enough of them, and not more than are needed
pub record Levels (n d k : ℕ) : Type 0 where
  pub low : 1 ≤ k
  pub high : k ≤ levels_most
  pub holds : d ≤ n ^ k
  pub small : n ^ k ≤ span_most

pub levels_fit : (n d : ℕ) → 2 ≤ n → n ≤ entries_most → d ≤ lines_most → Levels n d (levels n d)
levels_fit n d low high few =
    let k : ℕ = levels n d in
    record {
      low = levels_low n d;
      high = levels_high n d low few;
      holds = levels_hold n d low few;
      small =
          ⊎_elim
          (λ (e : 1 ≡ k). rw (← e) (let one : n ^ 1 ≡ n = pow-succ' n 0 ∙ rw pow-zero (mul-one n) in rw one (omega arith)))
          (λ (l : 1 < k).
          let g : n ^ (k - 1) < d = levels_least n d (k - 1) (omega arith) (omega arith) in
          let e : k ≡ suc (k - 1) = omega arith in
          let m : n * n ^ (k - 1) ≤ entries_most * lines_most = mul-le-mul {n₂ = entries_most} {m₂ = lines_most} high (omega arith) in
          let p : n ^ k ≡ n * n ^ (k - 1) = ap (λ x. n ^ x) e ∙ pow-succ' n (k - 1) in
          rw p m)
          (eq-or-lt_of_le (levels_low n d));
    }
