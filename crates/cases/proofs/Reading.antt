-- Reading a number column by column: blanks are passed over, and each digit is taken.
-- Assumes nothing.
use Rattle.std.proofs.Common.{◌≡◌, ℕ, zero, suc, ◌^◌, ◌<◌, ◌≤◌, false, eqb, List, [], ◌∷◌, length, get_or, drop, refl, arith, lit<, lt_of_lt_of_le}
use Rattle.std.specs.Prelude.{Option, None, Some}
use native.Mathlib.Nat.{pow-le-pow_right}
use Rattle.columns.specs.Lists.{pick, every}
use Rattle.columns.specs.PrintedNumbers.{digit, value, read_lenient}

-- the number that digits spell behind x
abbrev pub reading : ℕ → List ℕ → Option ℕ
reading x s = pick (every digit s) (Some (value x s)) None

-- with the twelfth digit behind them, eleven fit
pub few_columns : (x i : ℕ) → x < 10 ^ i → i ≤ 11 → x < 10 ^ 11
few_columns x i h e = lt_of_lt_of_le h (pow-le-pow_right {n = 10} (lit< tt) {i = i} {j = 11} e)

pub past_blanks : (n : ℕ) (s : List ℕ) → n < length s → ((k : ℕ) → k < n → get_or s k 0 ≡ 32) → eqb (get_or s n 0) 32 ≡ false
    → read_lenient s ≡ reading 0 (drop n s)
unfolding read_lenient
past_blanks n [] h b u = absurd (omega arith)
past_blanks zero (c ∷ s) h b u = rw u refl
past_blanks (suc n) (c ∷ s) h b u = rw (b 0 (omega arith)) (past_blanks n s (omega arith) (λ k e. b (suc k) (omega arith)) u)

pub all_blanks : (s : List ℕ) → ((k : ℕ) → k < length s → get_or s k 0 ≡ 32) → read_lenient s ≡ None
unfolding read_lenient
all_blanks [] b = refl
all_blanks (c ∷ s) b = rw (b 0 (omega arith)) (all_blanks s (λ k e. b (suc k) (omega arith)))
