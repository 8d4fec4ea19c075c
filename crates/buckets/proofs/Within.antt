-- A number read within bounds, and blank columns.
-- Assumes nothing.
use Prim.Native.Nat.{ℕ, zero, suc, ◌+◌, ◌^◌, ◌<◌, ◌≤◌}
use mathlib.Core.Path.{◌≡◌, refl, sym, ap, ap₂, ◌∙◌}
use mathlib.Core.Bool.{true, false, ◌&&◌}
use Rattle.std.specs.Prelude.{Option, None, Some}
use mathlib.Core.List.{List, [], ◌∷◌, ◌++◌}
use native.Mathlib.Omega.{arith}
use lib.Dec.{leb, eqb}
use lib.ListN.{length, drop, get_or, replicate, length-take, length-drop}
use lib.Seq.{take-add, take_all, drop-cons, drop-drop}
use borrow.Author.Tests.{leb-true, le-leb, lt-ltb, eqb-true}
use Rattle.columns.specs.Lists.{pick, every, same}
use Rattle.columns.specs.PrintedNumbers.{print, blanks, all_blank, read_number}
use Rattle.columns.proofs.Strict.{both}
use Rattle.columns.proofs.Printed.{length_print, read_of_print, print_of_read, print_not_blank}
use Rattle.buckets.specs.Bucket.{columns}
use Rattle.buckets.specs.Inner.Columns.{number_within}
use Rattle.buckets.proofs.Chained.{then_found, pick_found}

pub within_back : (low high w x : ℕ) → low ≤ x → x ≤ high → x < 10 ^ w → number_within low high (print w x) ≡ Some x
unfolding number_within
within_back low high w x h k small = rw (read_of_print w x small, le-leb low x h, le-leb x high k)

-- what a number read within bounds tells of its w columns
pub record Within (low high w : ℕ) (s : List ℕ) (x : ℕ) : Type 0 where
  pub printed : s ≡ print w x
  pub least : low ≤ x
  pub most : x ≤ high

pub within_only : (low high w : ℕ) (s : List ℕ) {x : ℕ} → length s ≡ w → number_within low high s ≡ Some x → Within low high w s x
unfolding number_within
within_only low high w s {x} long h =
    let found = then_found (read_number s) (λ y. pick (leb low y && leb y high) (Some y) None) h in
    let y = found.0 in
    let kept = pick_found (leb low y && leb y high) (Some y) found.2 in
    let is : y ≡ x = cc in
    let tests = both (leb low y) (leb y high) kept.0 in
    record {
      printed = rw (long, is) at (print_of_read s found.1).0;
      least = rw is at (leb-true low y tests.0);
      most = rw is at (leb-true y high tests.1);
    }

-- a number that needs fewer columns leaves the first one blank
pub first_used : (low high w : ℕ) (s : List ℕ) → length s ≡ suc (suc w) → high < 10 ^ suc w → (get_or s 0 0 ≡ 32 → ⊥)
    → number_within low high s ≡ None
first_used low high w s long small used = go (number_within low high s) refl
  where
    first_column : (x : ℕ) → x < 10 ^ suc w → get_or (print (suc (suc w)) x) 0 0 ≡ 32
    first_column x h = rw (lt-ltb x (10 ^ suc w) h)

    go : (o : Option ℕ) → number_within low high s ≡ o → number_within low high s ≡ None
    go None e = e
    go (Some x) e =
        let found = within_only low high (suc (suc w)) s long e in
        let few : x < 10 ^ suc w = omega (arith, found.most) in
        absurd (used (ap (λ (r : List ℕ). get_or r 0 0) found.printed ∙ first_column x few))

-- ---- columns

pub length_columns : (k w : ℕ) (s : List ℕ) → k + w ≤ length s → length (columns k w s) ≡ w
unfolding columns
length_columns k w s h = simp (length-take, length-drop) (omega arith)

-- columns are their front and what is behind it
pub columns_split : (k w v : ℕ) (s : List ℕ) → columns k (w + v) s ≡ columns k w s ++ columns (k + w) v s
unfolding columns
columns_split k w v s = rw (take-add w v (drop k s), drop-drop w k s)

pub columns_all : (w : ℕ) (s : List ℕ) → length s ≡ w → s ≡ columns 0 w s
unfolding columns
columns_all w s h = sym (take_all w s (omega arith))

pub columns_one : (k : ℕ) (s : List ℕ) → k < length s → columns k 1 s ≡ get_or s k 0 ∷ []
unfolding columns
columns_one k s h = rw (drop-cons s k 0 h)

pub columns_first : (k w : ℕ) (s : List ℕ) → k < length s → get_or (columns k (suc w) s) 0 0 ≡ get_or s k 0
unfolding columns
columns_first k w s h = rw (drop-cons s k 0 h)

-- a number read within bounds from columns of s
pub field_only : (low high k w : ℕ) (s : List ℕ) {x : ℕ} → k + w ≤ length s → number_within low high (columns k w s) ≡ Some x
    → Within low high w (columns k w s) x
field_only low high k w s h e = within_only low high w (columns k w s) (length_columns k w s h) e

-- ---- blank columns

pub blank_blanks : (w : ℕ) → all_blank (replicate w 32) ≡ true
unfolding all_blank
blank_blanks zero = refl
blank_blanks (suc w) = blank_blanks w

pub blanks_of_blank : (s : List ℕ) → all_blank s ≡ true → s ≡ replicate (length s) 32
unfolding all_blank
blanks_of_blank [] h = refl
blanks_of_blank (c ∷ s) h =
    let told = both (eqb c 32) (every (λ d. eqb d 32) s) h in
    ap₂ {C = List ℕ} ◌∷◌ (eqb-true c 32 told.0) (blanks_of_blank s told.1)

-- blank columns are those that read as no number
pub blank_same : (s : List ℕ) → all_blank s ≡ same s (replicate (length s) 32)
unfolding all_blank
blank_same [] = refl
blank_same (c ∷ s) = rw (blank_same s)

pub print_not_all_blank : (w x : ℕ) → all_blank (print (suc w) x) ≡ false
unfolding blanks
print_not_all_blank w x =
    blank_same (print (suc w) x)
    ∙ ap (λ (k : ℕ). same (print (suc w) x) (replicate k 32)) (length_print (suc w) x)
    ∙ print_not_blank w x
