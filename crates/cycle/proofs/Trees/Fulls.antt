-- The sizes of full subtrees.
-- Assumes nothing.
use mathlib.Core.Path.{◌≡◌, ap, ◌∙◌}
use Prim.Native.Nat.{ℕ, zero, suc, ◌+◌, ◌*◌, ◌^◌, ◌≤◌}
use native.Mathlib.Nat.{pow-succ', pow-zero, mul_comm, add-mul, one-mul, mul-le-mul_right}
use native.Mathlib.Numerals.{add-one}
use native.Mathlib.Omega.{arith}
use Rattle.cycle.specs.Judging.{full_size}

pub full_next : (n h : ℕ) → full_size n (h + 1) ≡ full_size n h * n + 1
full_next n h = rw (add-one h)

-- a full subtree has fewer index buckets than data buckets
pub full_below : (n h : ℕ) → 2 ≤ n → full_size n h + 1 ≤ n ^ h
full_below n zero low = rw pow-zero (omega arith)
full_below n (suc h) low =
    let below = full_below n h low in
    let grown : (full_size n h + 1) * n ≤ n ^ h * n = mul-le-mul_right n below in
    let split : (full_size n h + 1) * n ≡ full_size n h * n + n = add-mul (full_size n h) 1 n ∙ ap (λ x. full_size n h * n + x) (one-mul n) in
    rw (pow-succ', mul_comm n (n ^ h)) (omega arith)
