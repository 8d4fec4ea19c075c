-- A line whose tag is within bounds, and the columns behind the tag: the line is read exactly if the tare leaves its first column
-- blank and each of those columns is well printed.
-- Assumes nothing.
use Prim.Native.Nat.{ℕ, suc, ◌^◌, ◌≤◌, ◌<◌, ◌+◌, ◌-◌}
use mathlib.Core.Path.{◌≡◌, refl, sym, ap, ◌∙◌}
use mathlib.Core.Bool.{true, false, ◌&&◌, true≢false}
use Rattle.std.specs.Prelude.{Option, None, Some}
use Rattle.std.specs.Option.{option_map}
use mathlib.Core.List.{List, ◌++◌}
use native.Mathlib.Omega.{arith}
use lib.Dec.{leb}
use lib.ListN.{length, drop, get_or, length-drop}
use Rattle.columns.specs.Lists.{pick}
use Rattle.columns.specs.PrintedNumbers.{read_number}
use Rattle.columns.specs.Inner.Places.{column_printed, columns_by}
use Rattle.columns.proofs.Strict.{both}
use Rattle.columns.proofs.Printed.{print_of_read}
use Rattle.columns.proofs.LeadingBlanks.{past_one}
use Rattle.columns.proofs.Places.{found, field_printed}
use Rattle.buckets.specs.declared.Line.{Line}
use Rattle.buckets.specs.Bucket.{columns}
use Rattle.buckets.specs.Inner.Columns.{number_within, read_line_columns, rest_places}
use Rattle.buckets.specs.Lengths.{tag_width, tare_width, code_width, weighing_width, tag_start, tare_start, code_start}
use Rattle.buckets.specs.Lengths.{weighing_start, line_columns_width, rest_width, tag_most, tare_most, code_most, weighing_most}
use Rattle.buckets.proofs.Bounds.{within}
use Rattle.buckets.proofs.Chained.{then_found}
use Rattle.buckets.proofs.ColumnByColumn.{rest_fields}
use Rattle.buckets.proofs.Within.{length_columns, columns_split, columns_first, first_used}

module _ (s : List ℕ) (long : line_columns_width ≤ length s) where
  pub rest_printed_lem : columns_by column_printed rest_places 32 (columns tare_start rest_width s)
      ≡ (found (read_number (columns tare_start tare_width s)) && (found (read_number (columns code_start code_width s)) && found (read_number (columns weighing_start weighing_width s))))
  rest_printed_lem =
      let cut : columns tare_start rest_width s ≡ columns tare_start tare_width s ++ (columns code_start code_width s ++ columns weighing_start weighing_width s) =
      columns_split tare_start tare_width (code_width + weighing_width) s ∙ ap (λ (r : List ℕ). columns tare_start tare_width s ++ r) (columns_split code_start code_width weighing_width s) in
      ap (columns_by column_printed rest_places 32) cut
      ∙ rest_fields column_printed (λ f. found (read_number f)) field_printed 32 (columns tare_start tare_width s) (columns code_start code_width s) (columns weighing_start weighing_width s)
      (length_columns tare_start tare_width s (omega arith)) (length_columns code_start code_width s (omega arith)) (length_columns weighing_start weighing_width s (omega arith))

-- a number read within bounds was read
read_found : (low high : ℕ) (f : List ℕ) {x : ℕ} → number_within low high f ≡ Some x → found (read_number f) ≡ true
unfolding number_within
read_found low high f h =
    ap found (then_found (read_number f) (λ y. pick (leb low y && leb y high) (Some y) None) h).1

found_some : (o : Option ℕ) → found o ≡ true → (x : ℕ) × (o ≡ Some x)
found_some None h = absurd (true≢false (sym h))
found_some (Some x) h = (x, refl)

-- a number in w columns, where the bound lets all of them through
all_within : (high w : ℕ) (f : List ℕ) → length f ≡ w → 10 ^ w ≤ suc high → found (read_number f) ≡ true
    → (x : ℕ) × (number_within 0 high f ≡ Some x)
all_within high w f wide room h =
    let read = found_some (read_number f) h in
    let small : read.0 < 10 ^ w = rw wide at (print_of_read f read.1).1 in
    (read.0, within 0 high f read.0 read.1 (omega arith) (omega arith))

-- the tare, its first column blank
tare_within : (f : List ℕ) → length f ≡ tare_width → get_or f 0 0 ≡ 32 → found (read_number f) ≡ true
    → (x : ℕ) × (number_within 0 tare_most f ≡ Some x)
tare_within f wide blank h =
    let read = found_some (read_number f) h in
    let behind : length (drop 1 f) ≡ tare_width - 1 = rw (length-drop 1 f) (omega arith) in
    let small : read.0 < 10 ^ (tare_width - 1) = rw behind at (print_of_read (drop 1 f) (sym (past_one f (omega arith) blank) ∙ read.1)).1 in
    (read.0, within 0 tare_most f read.0 read.1 (omega arith) (omega arith))

module _ (m : ℕ) (s : List ℕ) (long : line_columns_width ≤ length s) where
  -- a line that was read tells of its columns
  line_columns_printed : {l : Line} → read_line_columns m s ≡ Some l → columns_by column_printed rest_places 32 (columns tare_start rest_width s) ≡ true
  unfolding read_line_columns
  line_columns_printed h =
      let first = then_found (number_within m tag_most (columns tag_start tag_width s)) _ h in
      let second = then_found (number_within 0 tare_most (columns tare_start tare_width s)) _ first.2 in
      let third = then_found (number_within 0 code_most (columns code_start code_width s)) _ second.2 in
      let fourth = then_found (number_within 0 weighing_most (columns weighing_start weighing_width s)) _ third.2 in
      rest_printed_lem s long
      ∙ rw (read_found 0 tare_most _ second.1, read_found 0 code_most _ third.1, read_found 0 weighing_most _ fourth.1)

  -- what the code answers by whether the columns behind the tag are well printed
  pub rest_misprinted : false ≡ columns_by column_printed rest_places 32 (columns tare_start rest_width s)
      → None ≡ option_map (λ (l : Line). l.tag) (read_line_columns m s)
  rest_misprinted test = go (read_line_columns m s) refl
    where
      go : (o : Option Line) → read_line_columns m s ≡ o → None ≡ option_map (λ (l : Line). l.tag) (read_line_columns m s)
      go None e = rw e
      go (Some l) e = absurd (true≢false (sym (line_columns_printed e) ∙ sym test))

  -- the first column of the tare
  tare_first : get_or (columns tare_start tare_width s) 0 0 ≡ get_or s tare_start 0
  tare_first = columns_first tare_start (tare_width - 1) s (omega arith)

  module _ (t : ℕ) (tag : number_within m tag_most (columns tag_start tag_width s) ≡ Some t) where
    pub tare_too_long : (get_or s tare_start 0 ≡ 32 → ⊥) → None ≡ option_map (λ (l : Line). l.tag) (read_line_columns m s)
    unfolding read_line_columns
    tare_too_long n = rw (tag, first_used 0 tare_most (tare_width - 2) (columns tare_start tare_width s) (length_columns tare_start tare_width s (omega arith)) (omega arith) (λ e. n (sym tare_first ∙ e)))

    pub tag_answered : get_or s tare_start 0 ≡ 32 → true ≡ columns_by column_printed rest_places 32 (columns tare_start rest_width s)
        → Some t ≡ option_map (λ (l : Line). l.tag) (read_line_columns m s)
    unfolding read_line_columns
    tag_answered b test =
        let told = both (found (read_number (columns tare_start tare_width s))) _ (sym (rest_printed_lem s long) ∙ sym test) in
        let two = both (found (read_number (columns code_start code_width s))) (found (read_number (columns weighing_start weighing_width s))) told.1 in
        let tare = tare_within (columns tare_start tare_width s) (length_columns tare_start tare_width s (omega arith)) (tare_first ∙ b) told.0 in
        let code = all_within code_most code_width (columns code_start code_width s) (length_columns code_start code_width s (omega arith)) (omega arith) two.0 in
        let weighing = all_within weighing_most weighing_width (columns weighing_start weighing_width s) (length_columns weighing_start weighing_width s (omega arith)) (omega arith) two.1 in
        rw (tag, tare.1, code.1, weighing.1)
