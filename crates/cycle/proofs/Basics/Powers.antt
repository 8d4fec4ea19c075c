-- Powers of n: how large they grow.
-- Assumes nothing.
use Prim.Native.Nat.{ℕ, ◌^◌, ◌≤◌}
use native.Mathlib.Nat.{pow-le-pow_left, pow-le-pow_right, le_trans}
use native.Mathlib.Omega.{arith}
use lib.Dec.{lit<}
use Rattle.cycle.specs.Tree.{levels_most}
use Rattle.buckets.specs.Lengths.{entries_most}

-- 2^16 is more than there are data buckets
pub power_reaches : (n h : ℕ) → 2 ≤ n → levels_most ≤ h → 2 ^ levels_most ≤ n ^ h
power_reaches n h low g =
    le_trans (pow-le-pow_left {n = 2} {m = n} low levels_most) (pow-le-pow_right {n = n} (omega arith) {i = levels_most} {j = h} g)

-- n^h for a height h up to 16
pub power_high : (n h : ℕ) → n ≤ entries_most → h ≤ levels_most → n ^ h ≤ 2 ^ 48
power_high n h low g =
    le_trans (pow-le-pow_left {n = n} {m = entries_most} low h) (pow-le-pow_right {n = entries_most} (lit< tt) {i = h} {j = levels_most} g)

-- a lower power is smaller
pub power_below : (n h k : ℕ) → 2 ≤ n → h ≤ k → n ^ h ≤ n ^ k
power_below n h k low g = pow-le-pow_right {n = n} (omega arith) {i = h} {j = k} g
