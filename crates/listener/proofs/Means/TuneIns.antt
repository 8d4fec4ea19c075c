-- Elapsed over all tune-ins, added: tune-in u ends at p where it is before s, else n later.
-- Assumes nothing.
use mathlib.Core.Path.{◌≡◌, refl, sym, ap, ◌∙◌}
use mathlib.Core.Logic.{⊎_elim}
use Prim.Native.Nat.{ℕ, zero, suc, ◌+◌, ◌-◌, ◌*◌, ◌/◌, ◌≤◌, ◌<◌}
use native.Mathlib.Nat.{suc-mul, mul-suc, mul-zero, zero-mul, mul-div_cancel_left}
use native.Mathlib.Omega.{arith}
use lib.Dec.{leb, lit<}
use borrow.Author.Tests.{le-leb, lt-leb}
use Rattle.columns.specs.Lists.{pick, range}
use Rattle.cycle.specs.Waits.{total}
use Rattle.cycle.proofs.Basics.Ranges.{le_or_lt}
use Rattle.listener.proofs.Means.Sums.{total_next}

-- the numbers below x, added
abbrev below : ℕ → ℕ
below zero = 0
below (suc x) = below x + x

twice_below : (x : ℕ) → 2 * below (suc x) ≡ suc x * x
twice_below zero = refl
twice_below (suc x) =
    let before = twice_below x in
    let own : suc (suc x) * suc x ≡ suc x * suc x + suc x = suc-mul (suc x) (suc x) in
    let square : suc x * suc x ≡ suc x * x + suc x = mul-suc (suc x) x in
    omega arith

below_is : (n : ℕ) → n * (n - 1) / 2 ≡ below n
below_is zero = refl
below_is (suc x) =
    let one : suc x - 1 ≡ x = omega arith in
    ap (λ z. suc x * z / 2) one ∙ (ap (λ z. z / 2) (sym (twice_below x)) ∙ mul-div_cancel_left (below (suc x)) (lit< tt))

module _ (n s p : ℕ) (w : ℕ → ℕ) (ends : (u : ℕ) → u < n → u + w u ≡ pick (leb s u) (n + p) p + 1) where
  up_to : (x : ℕ) → x ≤ n → total w (range 0 x) + below x ≡ x * (p + 1) + n * (x - s)
  up_to zero h =
      let none : 0 - s ≡ 0 = omega arith in
      let flat : n * (0 - s) ≡ 0 = ap (λ z. n * z) none ∙ mul-zero n in
      let zeros : 0 * (p + 1) ≡ 0 = zero-mul (p + 1) in
      omega arith
  up_to (suc x) h =
      let rec : total w (range 0 x) + below x ≡ x * (p + 1) + n * (x - s) = up_to x (omega arith) in
      let next : total w (range 0 (suc x)) ≡ total w (range 0 x) + w x = total_next w x in
      let row : suc x * (p + 1) ≡ x * (p + 1) + (p + 1) = suc-mul x (p + 1) in
      ⊎_elim
      (λ (l : s ≤ x).
      let on : suc x - s ≡ suc (x - s) = omega arith in
      let wide : n * (suc x - s) ≡ n * (x - s) + n = ap (λ z. n * z) on ∙ mul-suc n (x - s) in
      let own : x + w x ≡ n + p + 1 = ends x (omega arith) ∙ ap (λ b. pick b (n + p) p + 1) (le-leb s x l) in
      omega arith)
      (λ (l : x < s).
      let on : suc x - s ≡ x - s = omega arith in
      let wide : n * (suc x - s) ≡ n * (x - s) = ap (λ z. n * z) on in
      let own : x + w x ≡ p + 1 = ends x (omega arith) ∙ ap (λ b. pick b (n + p) p + 1) (lt-leb s x l) in
      omega arith)
      (le_or_lt s x)

  pub all_tune_ins : total w (range 0 n) ≡ n * (p + 1) + n * (n - s) - n * (n - 1) / 2
  all_tune_ins = omega (arith, up_to n (omega arith), below_is n)
