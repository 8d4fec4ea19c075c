-- A digit, told by what it is less 48, as bytes are counted; a first digit, by what it is less 49.
-- Assumes nothing.
use Rattle.std.proofs.Common.{◌≡◌, ℕ, ◌+◌, ◌%◌, ◌^◌, ◌<◌, ◌≤◌, Bool, true, false, ltb, leb, sym, refl, arith, ltb-false, ltb-true, le-leb, leb-true}
use Rattle.columns.specs.PrintedNumbers.{digit}
use Rattle.columns.proofs.Strict.{both}

pub digit_near : (c d : ℕ) → (d + 48) % 2 ^ 8 ≡ c → d ≤ 9 → digit c ≡ true
digit_near c d e h = rw (le-leb 48 c (omega arith), le-leb c 57 (omega arith))

pub digit_far : (c d : ℕ) → (d + 48) % 2 ^ 8 ≡ c → d < 256 → 9 < d → digit c ≡ false
digit_far c d e small h = go (digit c) refl
  where
    go : (t : Bool) → digit c ≡ t → t ≡ false
    go false k = refl
    go true k =
        let told = both (leb 48 c) (leb c 57) k in
        absurd (omega (arith, leb-true 48 c told.0, leb-true c 57 told.1))

pub digit_test : (c d : ℕ) → (d + 48) % 2 ^ 8 ≡ c → d < 256 → ltb d 10 ≡ digit c
digit_test c d e small = go (ltb d 10) refl
  where
    go : (t : Bool) → ltb d 10 ≡ t → t ≡ digit c
    go true k = sym (digit_near c d e (omega (arith, ltb-true d 10 k)))
    go false k = sym (digit_far c d e small (omega (arith, ltb-false d 10 k)))

pub first_near : (c d : ℕ) → (d + 49) % 2 ^ 8 ≡ c → d ≤ 8 → (digit c ≡ true) × (c ≡ 48 → ⊥)
first_near c d e h = ((rw (le-leb 48 c (omega arith), le-leb c 57 (omega arith))), λ z. omega arith)

pub first_far : (c d : ℕ) → (d + 49) % 2 ^ 8 ≡ c → d < 256 → 8 < d → (c ≡ 48 → ⊥) → digit c ≡ false
first_far c d e small h n = go (digit c) refl
  where
    go : (t : Bool) → digit c ≡ t → t ≡ false
    go false k = refl
    go true k =
        let told = both (leb 48 c) (leb c 57) k in
        absurd (omega (arith, leb-true 48 c told.0, leb-true c 57 told.1, n))
