-- Blanks in front of a number are passed over, and what stands behind them is read.
-- Assumes nothing.
use Rattle.std.proofs.Common.{Bool, true, false, not, ◌&&◌, ◌||◌, eqb, eq-eqb, ne_eqb, eqb-true, ◌≡◌, ℕ, zero, suc, ◌-◌, ◌<◌, ◌≤◌, List, [], ◌∷◌, length, get_or, take, drop, sym, refl, ap, ◌∙◌, arith}
use Rattle.std.specs.Prelude.{None, Some}
use Rattle.std.specs.List.{AllWithin}
use Rattle.columns.specs.Lists.{pick, every}
use Rattle.columns.specs.PrintedNumbers.{value, digit, read_number}
use Rattle.columns.specs.Inner.Starts.{IsUsed}
use borrow.Author.Tests.{eqb-false}
use Rattle.columns.proofs.Strict.{and_true}
use Rattle.columns.proofs.OnePass.{read_blank, read_zero, read_digits_lem}
use Rattle.columns.proofs.Put.{to_the_end}

pub past_one : (s : List ℕ) → 1 < length s → get_or s 0 0 ≡ 32 → read_number s ≡ read_number (drop 1 s)
past_one [] h a = absurd (omega arith)
past_one (c ∷ s) h a = rw a (read_blank s (omega arith))

-- i blanks, and columns behind them
pub past_blanks : (i : ℕ) (s : List ℕ) → i < length s → AllWithin (λ c. c ≡ 32) s 0 i → read_number s ≡ read_number (drop i s)
past_blanks i [] h b = absurd (omega arith)
past_blanks zero (c ∷ s) h b = refl
past_blanks (suc i) (c ∷ s) h b =
    rw (b 0 0 (omega arith) (omega arith)) (read_blank s (omega arith))
    ∙ past_blanks i s (omega arith) (λ k d l m. b (suc k) d (omega arith) (omega arith))

-- blanks alone
pub none_used : (s : List ℕ) → 1 ≤ length s → AllWithin (λ c. c ≡ 32) s 0 (length s) → read_number s ≡ None
none_used [] h b = absurd (omega arith)
none_used (c ∷ []) h b =
    rw (b 0 0 (omega arith) (omega arith))
    (read_digits_lem 32 [] (λ p. absurd (omega arith)) (λ p. absurd (omega arith)))
none_used (c ∷ d ∷ s) h b =
    rw (b 0 0 (omega arith) (omega arith)) (read_blank (d ∷ s) (omega arith))
    ∙ none_used (d ∷ s) (omega arith) (λ k e l m. b (suc k) e (omega arith) (omega arith))

-- what is read of w columns, the first used: digits, the first no 0 unless it is the only one
pub read_used : (s : List ℕ) (w : ℕ) → IsUsed s → length s ≡ w
    → read_number s ≡ pick ((digit (get_or s 0 0) && (eqb w 1 || not (eqb (get_or s 0 0) 48))) && every digit (drop 1 s)) (Some (value 0 s)) None
read_used [] w u e = absurd (omega (arith, u.some))
read_used (c ∷ []) w u e =
    rw (eq-eqb w 1 (omega arith), and_true (digit c))
    (read_digits_lem c [] (λ p. absurd (omega arith)) (λ p. absurd (omega arith)))
read_used (c ∷ d ∷ s) w u e = rw (ne_eqb w 1 (λ k. omega arith)) (go (eqb c 48) refl)
  where
    go : (t : Bool) → eqb c 48 ≡ t
        → read_number (c ∷ d ∷ s) ≡ pick ((digit c && not t) && every digit (d ∷ s)) (Some (value 0 (c ∷ d ∷ s))) None
    go true e = rw (eqb-true c 48 e) (read_zero (d ∷ s) (omega arith))
    go false e = rw (and_true (digit c)) (read_digits_lem c (d ∷ s) (λ p. u.used) (λ p. eqb-false c 48 e))

-- what is read from the first column that is used on, lent as `&s[i..]`
pub read_behind : (s : List ℕ) {i : ℕ} → i < length s → AllWithin (λ c. c ≡ 32) s 0 i → read_number (take (length s - i) (drop i s)) ≡ read_number s
read_behind s {i} h b = ap read_number (to_the_end s i (omega arith)) ∙ sym (past_blanks i s h b)
