-- The columns of a field pass, each behind the one before it, exactly if a number is read from them: strictly by how they are
-- printed, leniently by digits.
-- Assumes nothing.
use Rattle.std.proofs.Common.{◌≡◌, ℕ, zero, suc, ◌<◌, Bool, true, false, not, ◌&&◌, ◌||◌, eqb, leb, List, [], ◌∷◌, ◌++◌, length, replicate, refl, arith, ne_eqb, eqb-true, leb-true}
use Rattle.std.specs.Prelude.{Option, None, Some}
use borrow.Author.Tests.{eqb-false}
use Rattle.columns.specs.Lists.{pick, every}
use Rattle.columns.specs.PrintedNumbers.{digit, value, read_number, blanks_digits}
use Rattle.columns.specs.declared.Place.{Place}
use Rattle.columns.specs.declared.Place.TheVariants.{First, Between, Last}
use Rattle.columns.specs.Inner.Places.{column_printed, column_digits, columns_by}
use Rattle.columns.proofs.Strict.{both, and_false, and_true, and_assoc, or_false}
use Rattle.columns.proofs.OnePass.{read_blank, read_zero, read_digits_lem}

-- whether a reading found a number
abbrev pub found : Option ℕ → Bool
found None = false
found (Some x) = true

found_pick : (b : Bool) (x : ℕ) → found (pick b (Some x) None) ≡ b
found_pick true x = refl
found_pick false x = refl

-- ---- one column

digit_used : (c : ℕ) → digit c ≡ true → c ≡ 32 → ⊥
digit_used c e b = let low = (both (leb 48 c) (leb c 57) e).0 in omega (arith, leb-true 48 c low)

behind_used : (b c : ℕ) → (b ≡ 32 → ⊥) → column_printed Between b c ≡ digit c
unfolding column_printed
behind_used b c n = rw (ne_eqb b 32 n)

behind_blank : (c : ℕ) → column_printed Between 32 c ≡ (eqb c 32 || (digit c && not (eqb c 48)))
unfolding column_printed
behind_blank c = refl

last_column : (b c : ℕ) → column_printed Last b c ≡ digit c
unfolding column_printed
last_column b c = refl

first_column : (b c : ℕ) → column_printed First b c ≡ column_printed Between 32 c
unfolding column_printed
first_column b c = refl

-- the same, read leniently
used_digits : (b c : ℕ) → (b ≡ 32 → ⊥) → column_digits Between b c ≡ digit c
unfolding column_digits
used_digits b c n = rw (ne_eqb b 32 n, and_false (eqb c 32), or_false (digit c))

last_digits : (b c : ℕ) → column_digits Last b c ≡ digit c
unfolding column_digits
last_digits b c = rw (and_false (eqb c 32), or_false (digit c))

blank_digits : (c : ℕ) → column_digits Between 32 c ≡ (digit c || eqb c 32)
unfolding column_digits
blank_digits c = rw (and_true (eqb c 32))

first_digits : (b c : ℕ) → column_digits First b c ≡ column_digits Between 32 c
unfolding column_digits
first_digits b c = refl

-- ---- a field, and the columns t behind it, which tell r whatever is before them

-- the columns behind a used one, by either test
module _ (test : Place → ℕ → ℕ → Bool) (used : (b c : ℕ) → (b ≡ 32 → ⊥) → test Between b c ≡ digit c)
    (last : (b c : ℕ) → test Last b c ≡ digit c) (ks : List Place) (t : List ℕ) (r : Bool) (behind : (b : ℕ) → columns_by test ks b t ≡ r) where
  digits_by : (w b : ℕ) (s : List ℕ) → length s ≡ suc w → (b ≡ 32 → ⊥)
      → columns_by test (replicate w Between ++ Last ∷ ks) b (s ++ t) ≡ (every digit s && r)
  digits_by w b [] h n = absurd (omega arith)
  digits_by zero b (c ∷ []) h n = rw (last b c, behind c, and_true (digit c))
  digits_by zero b (c ∷ d ∷ s) h n = absurd (omega arith)
  digits_by (suc w) b (c ∷ s) h n =
      let left : length s ≡ suc w = omega arith in
      rw (used b c n) (go (digit c) refl (digits_by w c s left))
    where
      go : (d : Bool) → digit c ≡ d
          → ((c ≡ 32 → ⊥) → columns_by test (replicate w Between ++ Last ∷ ks) c (s ++ t) ≡ (every digit s && r))
          → (d && columns_by test (replicate w Between ++ Last ∷ ks) c (s ++ t)) ≡ ((d && every digit s) && r)
      go true e more = more (digit_used c e)
      go false e more = refl

module _ (ks : List Place) (t : List ℕ) (r : Bool) (behind : (b : ℕ) → columns_by column_printed ks b t ≡ r) where
  -- the columns behind blanks
  number_printed : (w : ℕ) (s : List ℕ) → length s ≡ suc w
      → columns_by column_printed (replicate w Between ++ Last ∷ ks) 32 (s ++ t) ≡ (found (read_number s) && r)
  number_printed w [] h = absurd (omega arith)
  number_printed zero (c ∷ []) h =
      let none_behind : 0 < length {A = ℕ} [] → ⊥ = λ p. omega arith in
      rw (
        last_column 32 c,
        behind c,
        read_digits_lem c [] (λ p. absurd (none_behind p)) (λ p. absurd (none_behind p)),
        found_pick (digit c && true) (value 0 (c ∷ [])),
        and_true (digit c),
      )
  number_printed zero (c ∷ d ∷ s) h = absurd (omega arith)
  number_printed (suc w) (c ∷ s) h =
      let left : length s ≡ suc w = omega arith in
      rw (behind_blank c) (go (eqb c 32) (eqb c 48) refl refl left (number_printed w s left))
    where
      go : (p q : Bool) → eqb c 32 ≡ p → eqb c 48 ≡ q → length s ≡ suc w
          → columns_by column_printed (replicate w Between ++ Last ∷ ks) 32 (s ++ t) ≡ (found (read_number s) && r)
          → ((p || (digit c && not q)) && columns_by column_printed (replicate w Between ++ Last ∷ ks) c (s ++ t)) ≡ (found (read_number (c ∷ s)) && r)
      go true q e f left more = rw (eqb-true c 32 e, read_blank s (omega arith)) more
      go false true e f left more =
          rw (eqb-true c 48 f, read_zero s (omega arith))
      go false false e f left more =
          rw (
            read_digits_lem c s (λ p. eqb-false c 32 e) (λ p. eqb-false c 48 f),
            found_pick (digit c && every digit s) (value 0 (c ∷ s)),
            and_true (digit c),
            digits_by column_printed behind_used last_column ks t r behind w c s left (eqb-false c 32 e),
          )
          (and_assoc (digit c) (every digit s) r)

  -- a field of w + 2 columns
  pub field_printed : (w b : ℕ) (s : List ℕ) → length s ≡ suc (suc w)
      → columns_by column_printed (First ∷ (replicate w Between ++ Last ∷ ks)) b (s ++ t) ≡ (found (read_number s) && r)
  field_printed w b [] h = absurd (omega arith)
  field_printed w b (c ∷ s) h = rw (first_column b c) (number_printed (suc w) (c ∷ s) h)

-- ---- the same, read leniently

module _ (ks : List Place) (t : List ℕ) (r : Bool) (behind : (b : ℕ) → columns_by column_digits ks b t ≡ r) where
  number_digits : (w : ℕ) (s : List ℕ) → length s ≡ suc w
      → columns_by column_digits (replicate w Between ++ Last ∷ ks) 32 (s ++ t) ≡ (blanks_digits s && r)
  number_digits w [] h = absurd (omega arith)
  number_digits zero (c ∷ []) h = rw (last_digits 32 c, behind c, and_true (digit c)) (go (eqb c 32) refl)
    where
      go : (p : Bool) → eqb c 32 ≡ p → (digit c && r) ≡ (pick p false (digit c) && r)
      go true e = rw (eqb-true c 32 e)
      go false e = refl
  number_digits zero (c ∷ d ∷ s) h = absurd (omega arith)
  number_digits (suc w) (c ∷ s) h =
      let left : length s ≡ suc w = omega arith in
      rw (blank_digits c) (go (eqb c 32) refl left (number_digits w s left))
    where
      go : (p : Bool) → eqb c 32 ≡ p → length s ≡ suc w
          → columns_by column_digits (replicate w Between ++ Last ∷ ks) 32 (s ++ t) ≡ (blanks_digits s && r)
          → ((digit c || p) && columns_by column_digits (replicate w Between ++ Last ∷ ks) c (s ++ t))
          ≡ (pick p (blanks_digits s) (digit c && every digit s) && r)
      go true e left more = rw (eqb-true c 32 e) more
      go false e left more =
          rw (or_false (digit c), digits_by column_digits used_digits last_digits ks t r behind w c s left (eqb-false c 32 e))
          (and_assoc (digit c) (every digit s) r)

  pub field_digits : (w b : ℕ) (s : List ℕ) → length s ≡ suc (suc w)
      → columns_by column_digits (First ∷ (replicate w Between ++ Last ∷ ks)) b (s ++ t) ≡ (blanks_digits s && r)
  field_digits w b [] h = absurd (omega arith)
  field_digits w b (c ∷ s) h = rw (first_digits b c) (number_digits (suc w) (c ∷ s) h)
