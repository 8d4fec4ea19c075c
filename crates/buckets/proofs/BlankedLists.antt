-- A list with its leading zeros made blank: as long, with the same lines, the same of them misprinted, and its own blanked form.
-- Assumes nothing.
use Prim.Native.Nat.{ℕ, zero, suc, ◌+◌, ◌*◌, ◌/◌, ◌%◌, ◌≤◌}
use mathlib.Core.Path.{◌≡◌, refl, sym, ap, ap₂, ◌∙◌}
use mathlib.Core.Bool.{Bool, true, false}
use mathlib.Core.List.{List, [], ◌∷◌, ◌++◌, map, append-nil}
use native.Mathlib.Nat.{suc-mul, mul-div_cancel, mul-mod_left}
use native.Mathlib.Omega.{arith}
use lib.Dec.{eqb, lit<}
use lib.ListN.{length, take, drop, length-drop}
use lib.Seq.{length-take-le}
use borrow.Author.Tests.{eqb-true, eq-eqb}
use Rattle.columns.specs.Lists.{joined, every, parts}
use Rattle.columns.proofs.Strict.{both}
use Rattle.columns.proofs.Joined.{length_joined_if, parts_joined_if}
use Rattle.buckets.specs.declared.Line.{Line}
use Rattle.buckets.specs.Lengths.{line_length}
use Rattle.buckets.specs.ListLine.{spelled, cut_lines, list_lines, misprint_from, blanked_line, blanked_list}
use Rattle.buckets.proofs.Blanked.{length_blanked_line, spelled_blanked, read_blanked, blanked_twice}
use Rattle.buckets.proofs.Lists.{length_cut_lines}

-- ---- lines of 27 bytes

abbrev is_line : List ℕ → Bool
is_line s = eqb (length s) line_length

parts_long : (c w : ℕ) (s : List ℕ) → c * w ≤ length s → every (λ p. eqb (length p) w) (parts c w s) ≡ true
parts_long zero w s h = refl
parts_long (suc c) w s h =
    let on : suc c * w ≡ c * w + w = suc-mul c w in
    rw (eq-eqb (length (take w s)) w (length-take-le w s (omega arith)))
    (parts_long c w (drop w s) (simp length-drop (omega arith)))

module _ (ss : List (List ℕ)) where
  blanked_reads : (i : ℕ) → every is_line ss ≡ true → misprint_from i (map blanked_line ss) ≡ misprint_from i ss
  blanked_reads i h = go i ss h
    where
      go : (i : ℕ) (ts : List (List ℕ)) → every is_line ts ≡ true → misprint_from i (map blanked_line ts) ≡ misprint_from i ts
      go i [] k = refl
      go i (t ∷ ts) k =
          let told = both (is_line t) (every is_line ts) k in
          rw (read_blanked t (eqb-true (length t) line_length told.0), go (suc i) ts told.1)

  blanked_spelled : every is_line ss ≡ true → map spelled (map blanked_line ss) ≡ map spelled ss
  blanked_spelled h = go ss h
    where
      go : (ts : List (List ℕ)) → every is_line ts ≡ true → map spelled (map blanked_line ts) ≡ map spelled ts
      go [] k = refl
      go (t ∷ ts) k =
          let told = both (is_line t) (every is_line ts) k in
          ap₂ {C = List Line} ◌∷◌ (spelled_blanked t (eqb-true (length t) line_length told.0)) (go ts told.1)

  blanked_again : every is_line ss ≡ true → joined blanked_line (map blanked_line ss) ≡ joined blanked_line ss
  blanked_again h = go ss h
    where
      go : (ts : List (List ℕ)) → every is_line ts ≡ true → joined blanked_line (map blanked_line ts) ≡ joined blanked_line ts
      go [] k = refl
      go (t ∷ ts) k =
          let told = both (is_line t) (every is_line ts) k in
          ap₂ {C = List ℕ} ◌++◌ (blanked_twice t (eqb-true (length t) line_length told.0)) (go ts told.1)

-- ---- a list of whole lines

module _ (s : List ℕ) (whole : length s % line_length ≡ 0) where
  lines_long : every is_line (cut_lines s) ≡ true
  unfolding cut_lines
  lines_long = parts_long (length s / line_length) line_length s (omega arith)

  blanked_is : blanked_list s ≡ joined blanked_line (cut_lines s)
  unfolding blanked_list
  blanked_is = rw (eq-eqb (length s % line_length) 0 whole)

  blanked_long : length (blanked_list s) ≡ length (cut_lines s) * line_length
  blanked_long =
      ap length blanked_is
      ∙ length_joined_if blanked_line is_line line_length (λ t h. length_blanked_line t (eqb-true (length t) line_length h)) (cut_lines s) lines_long

  still_whole : length (blanked_list s) % line_length ≡ 0
  still_whole = ap (λ k. k % line_length) blanked_long ∙ mul-mod_left (length (cut_lines s)) line_length

  cut_blanked : cut_lines (blanked_list s) ≡ map blanked_line (cut_lines s)
  unfolding cut_lines
  cut_blanked =
      let count : length (blanked_list s) / line_length ≡ length (cut_lines s) =
      ap (λ k. k / line_length) blanked_long ∙ mul-div_cancel (length (cut_lines s)) {n = line_length} (lit< tt) in
      ap₂ (λ c t. parts c line_length t) count (blanked_is ∙ sym (append-nil (joined blanked_line (cut_lines s))))
      ∙ parts_joined_if blanked_line is_line line_length (λ t h. length_blanked_line t (eqb-true (length t) line_length h)) (cut_lines s) [] lines_long

-- ---- any list

module _ (s : List ℕ) where
  -- one that is no whole lines stays
  stays : eqb (length s % line_length) 0 ≡ false → blanked_list s ≡ s
  unfolding blanked_list
  stays e = rw e

  list_cases : (P : List ℕ → Type 0) → (length s % line_length ≡ 0 → P (blanked_list s)) → (eqb (length s % line_length) 0 ≡ false → P s) → P (blanked_list s)
  list_cases P lines other = go (eqb (length s % line_length) 0) refl
    where
      go : (t : Bool) → eqb (length s % line_length) 0 ≡ t → P (blanked_list s)
      go true e = lines (eqb-true (length s % line_length) 0 e)
      go false e = rw (stays e) (other e)

  pub length_blanked_list : length (blanked_list s) ≡ length s
  length_blanked_list =
      list_cases (λ t. length t ≡ length s)
      (λ whole. blanked_long s whole ∙ ap (λ c. c * line_length) (length_cut_lines s) ∙ omega (arith, whole))
      (λ e. refl)

  pub misprints_blanked : misprint_from 0 (cut_lines (blanked_list s)) ≡ misprint_from 0 (cut_lines s)
  misprints_blanked =
      list_cases (λ t. misprint_from 0 (cut_lines t) ≡ misprint_from 0 (cut_lines s))
      (λ whole. ap (misprint_from 0) (cut_blanked s whole) ∙ blanked_reads (cut_lines s) 0 (lines_long s whole))
      (λ e. refl)

  pub lines_blanked : list_lines (blanked_list s) ≡ list_lines s
  unfolding list_lines
  lines_blanked =
      list_cases (λ t. map spelled (cut_lines t) ≡ map spelled (cut_lines s))
      (λ whole. ap (map spelled) (cut_blanked s whole) ∙ blanked_spelled (cut_lines s) (lines_long s whole))
      (λ e. refl)

  pub blanked_list_twice : blanked_list (blanked_list s) ≡ blanked_list s
  blanked_list_twice =
      list_cases (λ t. blanked_list t ≡ t)
      (λ whole.
      blanked_is (blanked_list s) (still_whole s whole)
      ∙ ap (joined blanked_line) (cut_blanked s whole)
      ∙ blanked_again (cut_lines s) (lines_long s whole)
      ∙ sym (blanked_is s whole))
      stays
