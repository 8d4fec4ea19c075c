-- Numbers added over a list: one more, and at most.
-- Assumes nothing.
use mathlib.Core.Path.{◌≡◌, sym, ap, ◌∙◌}
use Prim.Native.Nat.{ℕ, zero, suc, ◌+◌, ◌-◌, ◌*◌, ◌≤◌, ◌<◌}
use mathlib.Core.List.{List, [], ◌∷◌, ◌++◌}
use native.Mathlib.Nat.{suc-mul, zero-add, add-zero, add_assoc}
use native.Mathlib.Omega.{arith}
use lib.ListN.{length}
use Rattle.columns.specs.Lists.{span, range}
use Rattle.cycle.specs.Waits.{total}
use Rattle.cycle.proofs.Basics.Ranges.{range_snoc}

pub total_append : (f : ℕ → ℕ) (xs ys : List ℕ) → total f (xs ++ ys) ≡ total f xs + total f ys
total_append f [] ys = sym (zero-add (total f ys))
total_append f (x ∷ xs) ys =
    ap (λ z. f x + z) (total_append f xs ys) ∙ sym (add_assoc (f x) (total f xs) (total f ys))

-- one number more
pub total_next : (f : ℕ → ℕ) (x : ℕ) → total f (range 0 (suc x)) ≡ total f (range 0 x) + f x
total_next f x =
    let one : total f (x ∷ []) ≡ f x = add-zero (f x) in
    ap (total f) (range_snoc 0 x (omega arith)) ∙ (total_append f (range 0 x) (x ∷ []) ∙ ap (λ z. total f (range 0 x) + z) one)

-- at most
pub total_most : (f : ℕ → ℕ) (m : ℕ) (xs : List ℕ) → ((x : ℕ) → f x ≤ m) → total f xs ≤ length xs * m
total_most f m [] h = omega arith
total_most f m (x ∷ xs) h =
    let e : suc (length xs) * m ≡ length xs * m + m = suc-mul (length xs) m in
    omega (arith, h x, total_most f m xs h)

most_span : (f : ℕ → ℕ) (m a c : ℕ) → ((x : ℕ) → a ≤ x → x < a + c → f x ≤ m) → total f (span a c) ≤ c * m
most_span f m a zero h = omega arith
most_span f m a (suc c) h =
    let e : suc c * m ≡ c * m + m = suc-mul c m in
    omega (arith, h a (omega arith) (omega arith), most_span f m (suc a) c (λ x l u. h x (omega arith) (omega arith)))

pub range_most : (f : ℕ → ℕ) (m b : ℕ) → ((x : ℕ) → x < b → f x ≤ m) → total f (range 0 b) ≤ b * m
range_most f m b h =
    let all : b - 0 ≡ b = omega arith in
    rw all (most_span f m 0 b (λ x l u. h x (omega arith)))
