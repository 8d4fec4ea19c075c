-- The lenient reading of a number, and leading zeros made blank.
--     blanked_print               a number's columns so are its print
--     strict_lenient, print_lenient   what is read strictly is read leniently, and a print is
--     blank_print                 a print has no leading zeros
--     blanked_digits, value_digits   no column adds another digit to the value
-- Assumes nothing.
use Rattle.std.proofs.Common.{Bool, List, [], add-one, ap, ap₂, arith, drop, drop-cons, eqb, eqb-true, false, get_or, leb, leb-true, length, length-drop, length-set, map, refl, replicate, set, suc, sym, true, zero, ℕ, ◌%◌, ◌&&◌, ◌*◌, ◌++◌, ◌+◌, ◌-◌, ◌<◌, ◌^◌, ◌||◌, ◌∙◌, ◌∷◌, ◌≡◌, ◌≤◌}
use lib.ListN.{length-replicate}
use lib.Seq.{get_or_at}
use borrow.Author.Fill.{fill_more}
use Rattle.std.specs.Prelude.{None, Some}
use borrow.Author.Tests.{eqb-false}
use Rattle.columns.specs.Lists.{pick, every}
use Rattle.columns.specs.PrintedNumbers.{print, value, digit, read_number, blanks_digits, blank_zeros}
use Rattle.columns.proofs.Strict.{both, and_false}
use Rattle.columns.proofs.Joined.{every_at}
use Rattle.columns.proofs.Printed.{length_print, value_print, read_of_print, print_of_read}
use Rattle.columns.proofs.OnePass.{digits_small, read_blank, read_zero, read_digits_lem}

-- ---- leading zeros made blank

pub length_blanked : (s : List ℕ) → length (blank_zeros s) ≡ length s
length_blanked [] = refl
length_blanked (c ∷ []) = refl
length_blanked (c ∷ d ∷ s) = go (eqb c 32 || eqb c 48) (length_blanked (d ∷ s))
  where
    go : (t : Bool) → length (blank_zeros (d ∷ s)) ≡ length (d ∷ s) → length (pick t (32 ∷ blank_zeros (d ∷ s)) (c ∷ d ∷ s)) ≡ length (c ∷ d ∷ s)
    go true rest = ap suc rest
    go false rest = refl

-- a column that is passed over, and one that is not
pub blank_on : (c : ℕ) (s : List ℕ) → 1 ≤ length s → (eqb c 32 || eqb c 48) ≡ true → blank_zeros (c ∷ s) ≡ 32 ∷ blank_zeros s
blank_on c [] h e = absurd (omega arith)
blank_on c (d ∷ s) h e = rw e

pub blank_stop : (c : ℕ) (s : List ℕ) → (eqb c 32 || eqb c 48) ≡ false → blank_zeros (c ∷ s) ≡ c ∷ s
blank_stop c [] e = refl
blank_stop c (d ∷ s) e = rw e

pub blank_one : (s : List ℕ) → length s ≤ 1 → blank_zeros s ≡ s
blank_one [] h = refl
blank_one (c ∷ []) h = refl
blank_one (c ∷ d ∷ s) h = absurd (omega arith)

-- one column, where `leading` says that none before it is the number's and `more` that columns are left
pub blank_column : (leading more : Bool) (c : ℕ) (s : List ℕ) → (more ≡ true → 1 ≤ length s) → (more ≡ false → length s ≡ 0)
    → pick leading (blank_zeros (c ∷ s)) (c ∷ s)
    ≡ pick ((leading && (eqb c 32 || eqb c 48)) && more) 32 c ∷ pick ((leading && (eqb c 32 || eqb c 48)) && more) (blank_zeros s) s
blank_column false more c s left gone = refl
blank_column true more c [] left gone = go more left
  where
    go : (m : Bool) → (m ≡ true → 1 ≤ length {A = ℕ} [])
        → c ∷ [] ≡ pick ((eqb c 32 || eqb c 48) && m) 32 c ∷ pick ((eqb c 32 || eqb c 48) && m) [] []
    go true k = absurd (omega (arith, k refl))
    go false k = rw (and_false (eqb c 32 || eqb c 48))
blank_column true more c (d ∷ s) left gone = go more (eqb c 32 || eqb c 48) gone
  where
    go : (m t : Bool) → (m ≡ false → length (d ∷ s) ≡ 0)
        → pick t (32 ∷ blank_zeros (d ∷ s)) (c ∷ d ∷ s) ≡ pick (t && m) 32 c ∷ pick (t && m) (blank_zeros (d ∷ s)) (d ∷ s)
    go true true k = refl
    go true false k = refl
    go false t k = absurd (omega (arith, k refl))

-- the first i columns of s are made blank, and those from i on are still to be looked at
pub record Blanked (s part : List ℕ) (i : ℕ) : Type 0 where
  pub within : i ≤ length s - 1
  pub long : length part ≡ length s
  pub is : part ≡ replicate i 32 ++ drop i s
  pub rest : blank_zeros s ≡ replicate i 32 ++ blank_zeros (drop i s)

replicate_more : (i v : ℕ) (t : List ℕ) → replicate i v ++ v ∷ t ≡ replicate (suc i) v ++ t
replicate_more zero v t = refl
replicate_more (suc i) v t = ap (λ (r : List ℕ). v ∷ r) (replicate_more i v t)

module _ (s part : List ℕ) (i : ℕ) (o : Blanked s part i) where
  -- column i is still as it was
  same_column : i < length s → get_or part i 0 ≡ get_or s i 0
  same_column h =
      ap (λ (t : List ℕ). get_or t i 0) (o.is ∙ ap (λ (t : List ℕ). replicate i 32 ++ t) (drop-cons s i 0 h))
      ∙ get_or_at (replicate i 32) (get_or s i 0) (drop (suc i) s) 0 i (length-replicate i 32)

  pub stops : i < length s → {t : Bool} → t ≡ (eqb (get_or part i 0) 32 || eqb (get_or part i 0) 48) → t ≡ false → part ≡ blank_zeros s
  stops h told e =
      let test : (eqb (get_or s i 0) 32 || eqb (get_or s i 0) 48) ≡ false = rw (same_column h) at (sym told ∙ e) in
      o.is
      ∙ ap (λ (t : List ℕ). replicate i 32 ++ t)
      (drop-cons s i 0 h ∙ sym (blank_stop (get_or s i 0) (drop (suc i) s) test) ∙ ap blank_zeros (sym (drop-cons s i 0 h)))
      ∙ sym o.rest

  pub goes_on : i < length s - 1 → {t : Bool} → t ≡ (eqb (get_or part i 0) 32 || eqb (get_or part i 0) 48) → t ≡ true → Blanked s (set part i 32) (i + 1)
  goes_on h told e =
      let below : i < length s = omega arith in
      let test : (eqb (get_or s i 0) 32 || eqb (get_or s i 0) 48) ≡ true = rw (same_column below) at (sym told ∙ e) in
      let more : 1 ≤ length (drop (suc i) s) = simp length-drop (omega arith) in
      record {
        within = omega arith;
        long = simp length-set o.long;
        is = rw o.is (fill_more i 32 s below);
        rest =
            o.rest
            ∙ ap (λ (t : List ℕ). replicate i 32 ++ t)
            (ap blank_zeros (drop-cons s i 0 below) ∙ blank_on (get_or s i 0) (drop (suc i) s) more test)
            ∙ rw (add-one i) (replicate_more i 32 (blank_zeros (drop (suc i) s)));
      }

  pub ends : length s - 1 ≤ i → part ≡ blank_zeros s
  ends h =
      let last : length (drop i s) ≤ 1 = simp length-drop (omega (arith, o.within)) in
      o.is ∙ ap (λ (t : List ℕ). replicate i 32 ++ t) (sym (blank_one (drop i s) last)) ∙ sym o.rest

-- no column adds another digit to the value
pub blanked_digits : (s : List ℕ) → map (λ c. c - 48) (blank_zeros s) ≡ map (λ c. c - 48) s
blanked_digits [] = refl
blanked_digits (c ∷ []) = refl
blanked_digits (c ∷ d ∷ s) = go (eqb c 32) (eqb c 48) refl refl (blanked_digits (d ∷ s))
  where
    go : (p q : Bool) → eqb c 32 ≡ p → eqb c 48 ≡ q → map (λ b. b - 48) (blank_zeros (d ∷ s)) ≡ map (λ b. b - 48) (d ∷ s)
        → map (λ b. b - 48) (pick (p || q) (32 ∷ blank_zeros (d ∷ s)) (c ∷ d ∷ s)) ≡ map (λ b. b - 48) (c ∷ d ∷ s)
    go true q e f rest = rw (eqb-true c 32 e) (ap (λ (r : List ℕ). 0 ∷ r) rest)
    go false true e f rest = rw (eqb-true c 48 f) (ap (λ (r : List ℕ). 0 ∷ r) rest)
    go false false e f rest = refl

pub value_digits : (acc : ℕ) (s t : List ℕ) → map (λ c. c - 48) s ≡ map (λ c. c - 48) t → value acc s ≡ value acc t
value_digits acc [] [] e = refl
value_digits acc [] (d ∷ t) e = cc
value_digits acc (c ∷ s) [] e = cc
value_digits acc (c ∷ s) (d ∷ t) e =
    let first : c - 48 ≡ d - 48 = cc in
    let rest : map (λ b. b - 48) s ≡ map (λ b. b - 48) t = cc in
    rw first (value_digits (acc * 10 + (d - 48)) s t rest)

pub blanked_value : (s : List ℕ) → value 0 (blank_zeros s) ≡ value 0 s
blanked_value s = value_digits 0 (blank_zeros s) s (blanked_digits s)

-- ---- what the lenient reading takes

-- digits alone
digits_lenient : (d : ℕ) (s : List ℕ) → every digit (d ∷ s) ≡ true → blanks_digits (d ∷ s) ≡ true
digits_lenient d s h = go (eqb d 32) refl
  where
    go : (p : Bool) → eqb d 32 ≡ p → pick p (blanks_digits s) (every digit (d ∷ s)) ≡ true
    go true e = absurd (let z : false ≡ true = rw (eqb-true d 32 e) at (both (digit d) (every digit s) h).0 in let y : ◌≡◌ {A = ℕ} 0 1 = cc in omega arith)
    go false e = h

-- a number's columns with leading zeros made blank are read strictly, for the same number
pub blanked_strict : (s : List ℕ) → blanks_digits s ≡ true → read_number (blank_zeros s) ≡ Some (value 0 s)
blanked_strict [] h = absurd (let z : ◌≡◌ {A = ℕ} 0 1 = cc in omega arith)
blanked_strict (c ∷ []) h = go (eqb c 32) refl h
  where
    nothing_behind : 0 < length {A = ℕ} [] → ⊥
    nothing_behind p = omega arith

    go : (p : Bool) → eqb c 32 ≡ p → pick p false (digit c && true) ≡ true → read_number (c ∷ []) ≡ Some (value 0 (c ∷ []))
    go true e k = absurd (let z : ◌≡◌ {A = ℕ} 0 1 = cc in omega arith)
    go false e k = rw (read_digits_lem c [] (λ p. absurd (nothing_behind p)) (λ p. absurd (nothing_behind p)), k)
blanked_strict (c ∷ d ∷ s) h = go (eqb c 32) (eqb c 48) refl refl h (blanked_strict (d ∷ s))
  where
    some_behind : 0 < length (blank_zeros (d ∷ s))
    some_behind = rw (length_blanked (d ∷ s)) (omega arith)

    go : (p q : Bool) → eqb c 32 ≡ p → eqb c 48 ≡ q → pick p (blanks_digits (d ∷ s)) (digit c && every digit (d ∷ s)) ≡ true
        → (blanks_digits (d ∷ s) ≡ true → read_number (blank_zeros (d ∷ s)) ≡ Some (value 0 (d ∷ s)))
        → read_number (pick (p || q) (32 ∷ blank_zeros (d ∷ s)) (c ∷ d ∷ s)) ≡ Some (value 0 (c ∷ d ∷ s))
    go true q e f k rest = rw (eqb-true c 32 e) (read_blank (blank_zeros (d ∷ s)) some_behind ∙ rest k)
    go false true e f k rest =
        rw (eqb-true c 48 f)
        (read_blank (blank_zeros (d ∷ s)) some_behind ∙ rest (digits_lenient d s (both (digit c) (every digit (d ∷ s)) k).1))
    go false false e f k rest =
        rw (read_digits_lem c (d ∷ s) (λ p. eqb-false c 32 e) (λ p. eqb-false c 48 f), k)

pub blanked_print : (s : List ℕ) → blanks_digits s ≡ true → blank_zeros s ≡ print (length s) (value 0 s)
blanked_print s h =
    (print_of_read (blank_zeros s) (blanked_strict s h)).0 ∙ ap (λ w. print w (value 0 s)) (length_blanked s)

pub lenient_small : (s : List ℕ) → blanks_digits s ≡ true → value 0 s < 10 ^ length s
lenient_small s h = rw (← length_blanked s) (print_of_read (blank_zeros s) (blanked_strict s h)).1

-- a number whose first column is blank or 0
pub leading_small : (c : ℕ) (s : List ℕ) → blanks_digits (c ∷ s) ≡ true → c ≤ 48 → value 0 (c ∷ s) < 10 ^ length s
leading_small c s h small =
    let none_added : c - 48 ≡ 0 = omega arith in
    rw none_added (go (eqb c 32) h)
  where
    go : (p : Bool) → pick p (blanks_digits s) (every digit (c ∷ s)) ≡ true → value 0 s < 10 ^ length s
    go true k = lenient_small s k
    go false k = digits_small s (both (digit c) (every digit s) k).1

-- a column of a number is worth its last four bits
pub column_worth : (s : List ℕ) (i : ℕ) → blanks_digits s ≡ true → i < length s → get_or s i 0 % 16 ≡ get_or s i 0 - 48
column_worth [] i h l = absurd (omega arith)
column_worth (c ∷ s) i h l = go (eqb c 32) refl h i l (column_worth s)
  where
    digit_worth : (d : ℕ) → digit d ≡ true → d % 16 ≡ d - 48
    digit_worth d e =
        let told = both (leb 48 d) (leb d 57) e in
        omega (arith, leb-true 48 d told.0, leb-true d 57 told.1)

    digits : (t : List ℕ) (k : ℕ) → every digit t ≡ true → k < length t → get_or t k 0 % 16 ≡ get_or t k 0 - 48
    digits t k e m = digit_worth (get_or t k 0) (every_at digit 0 t k e m)

    go : (p : Bool) → eqb c 32 ≡ p → pick p (blanks_digits s) (every digit (c ∷ s)) ≡ true → (k : ℕ) → k < length (c ∷ s)
        → ((j : ℕ) → blanks_digits s ≡ true → j < length s → get_or s j 0 % 16 ≡ get_or s j 0 - 48)
        → get_or (c ∷ s) k 0 % 16 ≡ get_or (c ∷ s) k 0 - 48
    go true e b zero m rest = rw (eqb-true c 32 e)
    go true e b (suc k) m rest = rest k b (omega arith)
    go false e b k m rest = digits (c ∷ s) k b m

-- ---- what is read strictly is read leniently

taken_test : (b : Bool) (y : ℕ) {x : ℕ} → pick b (Some y) None ≡ Some x → b ≡ true
taken_test true y k = refl
taken_test false y k = cc

pub strict_lenient : (s : List ℕ) {x : ℕ} → 1 ≤ length s → read_number s ≡ Some x → blanks_digits s ≡ true
strict_lenient [] n h = absurd (omega arith)
strict_lenient (c ∷ []) n h =
    go (eqb c 32) refl (taken_test (digit c && true) _ (sym (read_digits_lem c [] (λ l. absurd (omega arith)) (λ l. absurd (omega arith))) ∙ h))
  where
    go : (p : Bool) → eqb c 32 ≡ p → digit c && true ≡ true → pick p false (digit c && true) ≡ true
    go true e k = rw (eqb-true c 32 e) at k
    go false e k = k
strict_lenient (c ∷ d ∷ s) {x} n h = go (eqb c 32) (eqb c 48) refl refl h (λ k. strict_lenient (d ∷ s) (omega arith) k)
  where
    go : (p q : Bool) → eqb c 32 ≡ p → eqb c 48 ≡ q → read_number (c ∷ d ∷ s) ≡ Some x
        → (read_number (d ∷ s) ≡ Some x → blanks_digits (d ∷ s) ≡ true) → pick p (blanks_digits (d ∷ s)) (every digit (c ∷ d ∷ s)) ≡ true
    go true q e f k rest = rest (sym (read_blank (d ∷ s) (omega arith)) ∙ (rw (eqb-true c 32 e) at k))
    go false true e f k rest =
        absurd (let z : None ≡ Some x = sym (read_zero (d ∷ s) (omega arith)) ∙ (rw (eqb-true c 48 f) at k) in let y : ◌≡◌ {A = ℕ} 0 1 = cc in omega arith)
    go false false e f k rest =
        taken_test (every digit (c ∷ d ∷ s)) _ (sym (read_digits_lem c (d ∷ s) (λ l. eqb-false c 32 e) (λ l. eqb-false c 48 f)) ∙ k)

pub print_lenient : (w x : ℕ) → 1 ≤ w → x < 10 ^ w → blanks_digits (print w x) ≡ true
print_lenient w x n h = strict_lenient (print w x) (rw length_print n) (read_of_print w x h)

-- a print has no leading zeros
pub blank_print : (w x : ℕ) → 1 ≤ w → x < 10 ^ w → blank_zeros (print w x) ≡ print w x
blank_print w x n h =
    blanked_print (print w x) (print_lenient w x n h) ∙ ap₂ print (length_print w x) (value_print w x h)

-- ---- numbers compared by the digits that their columns add

pub same_digits : (s t : List ℕ) → blanks_digits s ≡ true → blanks_digits t ≡ true → length s ≡ length t → value 0 s ≡ value 0 t
    → map (λ c. c - 48) s ≡ map (λ c. c - 48) t
same_digits s t h k wide e =
    sym (blanked_digits s)
    ∙ ap (map (λ c. c - 48)) (blanked_print s h ∙ ap₂ print wide e ∙ sym (blanked_print t k))
    ∙ blanked_digits t
