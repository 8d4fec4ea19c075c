-- Columns tested one after the other, each by its place and the column before it.
-- Assumes nothing.
use Prim.Native.Nat.{ℕ, suc, ◌+◌, ◌-◌, ◌≤◌, ◌<◌}
use mathlib.Core.Path.{◌≡◌, refl, sym, ◌∙◌}
use mathlib.Core.Bool.{Bool, true, ◌&&◌}
use mathlib.Core.List.{List, [], ◌∷◌, ◌++◌, append-nil}
use native.Mathlib.Numerals.{add-one}
use lib.ListN.{length, drop, get_or, replicate, drop_of_length-le}
use lib.Seq.{drop-cons}
use Rattle.columns.specs.declared.Place.{Place}
use Rattle.columns.specs.declared.Place.TheVariants.{First, Between, Last}
use Rattle.columns.specs.Inner.Places.{places, columns_by}
use Rattle.columns.proofs.Strict.{and_true, and_assoc}
use Rattle.buckets.specs.Inner.Columns.{rest_places}
use Rattle.buckets.specs.Lengths.{tare_width, code_width, weighing_width}

-- column i, behind the columns before it
module _ (test : Place → ℕ → ℕ → Bool) (ks : List Place) (s : List ℕ) (i b : ℕ) (still : Bool) (e : columns_by test ks 32 s ≡ (still && columns_by test (drop i ks) b (drop i s))) where
  pub one_more : i < length ks → i < length s → (none k : Place) (c n : ℕ) (next : Bool) → k ≡ get_or ks i none → c ≡ get_or s i 0 → n ≡ i + 1
      → next ≡ (still && test k b c) → columns_by test ks 32 s ≡ (next && columns_by test (drop n ks) c (drop n s))
  one_more h t none k c n next place column on is =
      e
      ∙ rw (drop-cons ks i none h, drop-cons s i 0 t, is, on, add-one i, ← place, ← column)
      (and_assoc still (test k b c) (columns_by test (drop (suc i) ks) c (drop (suc i) s)))

  pub all_passed : length ks ≤ i → still ≡ columns_by test ks 32 s
  all_passed h = sym (e ∙ rw (drop_of_length-le ks h) (and_true still))

-- ---- a line's fields

-- whatever stands behind a field, its columns pass exactly if the field reads
abbrev pub FieldLaw : (Place → ℕ → ℕ → Bool) → (List ℕ → Bool) → Type 0
FieldLaw test reads =
    (ks : List Place) (t : List ℕ) (r : Bool) → ((b : ℕ) → columns_by test ks b t ≡ r) →
    (w b : ℕ) (s : List ℕ) → length s ≡ suc (suc w) → columns_by test (First ∷ (replicate w Between ++ Last ∷ ks)) b (s ++ t) ≡ (reads s && r)

-- the three fields behind the tag
module _ (test : Place → ℕ → ℕ → Bool) (reads : List ℕ → Bool) (law : FieldLaw test reads) (x : ℕ) (a b c : List ℕ)
    (wide_tare : length a ≡ tare_width) (wide_code : length b ≡ code_width) (wide_weighing : length c ≡ weighing_width) where
  pub rest_fields : columns_by test rest_places x (a ++ (b ++ c)) ≡ (reads a && (reads b && reads c))
  rest_fields = law (places (code_width - 2) ++ places (weighing_width - 2)) (b ++ c) (reads b && reads c) second (tare_width - 2) x a wide_tare
    where
      third : (y : ℕ) → columns_by test (places (weighing_width - 2)) y c ≡ reads c
      third y = rw (append-nil c, and_true (reads c)) at (law [] [] true (λ z. refl) (weighing_width - 2) y c wide_weighing)

      second : (y : ℕ) → columns_by test (places (code_width - 2) ++ places (weighing_width - 2)) y (b ++ c) ≡ (reads b && reads c)
      second y = law (places (weighing_width - 2)) c (reads c) third (code_width - 2) y b wide_code
