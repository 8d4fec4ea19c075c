-- A list line read leniently: what it tells of the four fields, and what the code asks of the columns.
--     line_reads, reads_line        a line that reads, told field by field, and back
--     read_of_print_line            a line's print reads, as that line
--     no_line_length, no_newline, no_numbers, tare_over, tag_over_lem, tag_read   the answers of `line_tag`, test by test
-- Assumes nothing.
use Prim.Native.Nat.{ℕ, suc, ◌+◌, ◌-◌, ◌*◌, ◌^◌, ◌≤◌, ◌<◌}
use mathlib.Core.Path.{◌≡◌, refl, sym, ap, ap₂, ◌∙◌}
use mathlib.Core.Bool.{Bool, true, false, ◌&&◌, true≢false}
use Rattle.std.specs.Prelude.{Option, None, Some}
use Rattle.std.specs.Option.{option_map}
use mathlib.Core.List.{List, [], ◌∷◌, ◌++◌}
use native.Mathlib.Omega.{arith}
use lib.ListN.{length, take, drop, get_or, length-drop, drop_of_length-le}
use lib.Seq.{drop-cons, get_or-drop}
use borrow.Author.Tests.{le-leb}
use Rattle.columns.specs.Lists.{pick, same}
use Rattle.columns.specs.PrintedNumbers.{value, blanks_digits, read_lenient}
use Rattle.columns.specs.Inner.Places.{column_digits, columns_by}
use Rattle.columns.proofs.Strict.{both, and_true, same_eq}
use Rattle.columns.proofs.OnePass.{value_behind}
use Rattle.columns.proofs.Places.{field_digits}
use Rattle.columns.proofs.Put.{length_part}
use Rattle.columns.proofs.Lenient.{print_lenient, lenient_small, leading_small}
use Rattle.buckets.specs.declared.Line.{Line}
use Rattle.buckets.specs.Lengths.{newline, tag_width, tare_width, code_width, weighing_width, tare_start, code_start, weighing_start}
use Rattle.buckets.specs.Lengths.{line_columns_width, rest_width, line_length, tag_most, tare_most, code_most, weighing_most}
use Rattle.buckets.specs.ListLine.{tag_fits, fits, print_line, line_columns, spelled, taken, has_numbers, read_line}
use Rattle.buckets.specs.Bucket.{columns}
use Rattle.buckets.specs.Inner.Columns.{rest_places, line_places}
use Rattle.buckets.proofs.ListLines.{line_fits, spelled_print_line}
use Rattle.buckets.proofs.ColumnByColumn.{rest_fields}
use Rattle.buckets.proofs.Within.{length_columns, columns_split}

-- ---- field by field

pub taken_lenient : (s : List ℕ) → taken (read_lenient s) ≡ blanks_digits s
unfolding read_lenient
taken_lenient s = go (blanks_digits s)
  where
    go : (t : Bool) → taken (pick t (Some (value 0 s)) None) ≡ t
    go true = refl
    go false = refl

-- all four fields hold numbers
abbrev pub four_numbers : List ℕ → Bool
four_numbers s =
    blanks_digits (take tag_width s) &&
    (blanks_digits (take tare_width (drop tare_start s)) &&
    (blanks_digits (take code_width (drop code_start s)) && blanks_digits (take weighing_width (drop weighing_start s))))

pub has_four : (s : List ℕ) → has_numbers s ≡ (four_numbers s && same (drop line_columns_width s) (newline ∷ []))
unfolding has_numbers
has_four s =
    rw (
      taken_lenient (take tag_width s),
      taken_lenient (take tare_width (drop tare_start s)),
      taken_lenient (take code_width (drop code_start s)),
      taken_lenient (take weighing_width (drop weighing_start s)),
      and_true (blanks_digits (take weighing_width (drop weighing_start s))),
    )

-- what a list line that reads tells of its bytes
pub record LineReads (s : List ℕ) : Type 0 where
  pub tag_number : blanks_digits (take tag_width s) ≡ true
  pub tare_number : blanks_digits (take tare_width (drop tare_start s)) ≡ true
  pub code_number : blanks_digits (take code_width (drop code_start s)) ≡ true
  pub weighing_number : blanks_digits (take weighing_width (drop weighing_start s)) ≡ true
  pub ends : drop line_columns_width s ≡ newline ∷ []
  pub in_range : fits (spelled s) ≡ true

pub line_reads : (s : List ℕ) → taken (read_line s) ≡ true → LineReads s
unfolding read_line
line_reads s h =
    let told = both (has_numbers s) (fits (spelled s)) (go (has_numbers s && fits (spelled s)) h) in
    let parts = both (four_numbers s) (same (drop line_columns_width s) (newline ∷ [])) (sym (has_four s) ∙ told.0) in
    let tag = both (blanks_digits (take tag_width s)) _ parts.0 in
    let tare = both (blanks_digits (take tare_width (drop tare_start s))) _ tag.1 in
    let code = both (blanks_digits (take code_width (drop code_start s))) _ tare.1 in
    record {
      tag_number = tag.0;
      tare_number = tare.0;
      code_number = code.0;
      weighing_number = code.1;
      ends = same_eq (drop line_columns_width s) (newline ∷ []) parts.1;
      in_range = told.1;
    }
  where
    go : (t : Bool) → taken (pick t (Some (spelled s)) None) ≡ true → t ≡ true
    go true k = refl
    go false k = k

pub reads_line : (s : List ℕ) → LineReads s → read_line s ≡ Some (spelled s)
unfolding read_line
reads_line s r =
    rw (has_four s, r.tag_number, r.tare_number, r.code_number, r.weighing_number, r.ends, r.in_range)

-- a line's print reads, as that line
pub read_of_print_line : (l : Line) → fits l ≡ true → read_line (print_line l) ≡ Some l
unfolding print_line line_columns
read_of_print_line l h =
    let f = line_fits l h in
    reads_line (print_line l)
    (record {
      tag_number = print_lenient tag_width l.tag (omega arith) (omega (arith, f.small_tag));
      tare_number = print_lenient tare_width l.tare (omega arith) (omega (arith, f.small_tare));
      code_number = print_lenient code_width l.code (omega arith) (omega (arith, f.small_code));
      weighing_number = print_lenient weighing_width l.weighing (omega arith) (omega (arith, f.small_weighing));
      ends = refl;
      in_range = ap fits (spelled_print_line l h) ∙ h;
    })
    ∙ ap Some (spelled_print_line l h)

pub line_tag_small : (s : List ℕ) (l : Line) → read_line s ≡ Some l → l.tag ≤ tag_most
line_tag_small s l h =
    let r = line_reads s (ap taken h) in
    let is : Some (spelled s) ≡ Some l = sym (reads_line s r) ∙ h in
    let same_line : spelled s ≡ l = cc in
    rw same_line at (line_fits (spelled s) r.in_range).small_tag

-- ---- column by column

module _ (s : List ℕ) (long : line_columns_width ≤ length s) where
  pub line_digits : columns_by column_digits line_places 32 (take line_columns_width s) ≡ four_numbers s
  unfolding columns
  line_digits =
      let tag : List ℕ = take tag_width s in
      let tare : List ℕ = take tare_width (drop tare_start s) in
      let code : List ℕ = take code_width (drop code_start s) in
      let weighing : List ℕ = take weighing_width (drop weighing_start s) in
      let cut : take line_columns_width s ≡ tag ++ (tare ++ (code ++ weighing)) =
      columns_split 0 tag_width rest_width s
      ∙ ap (λ (r : List ℕ). tag ++ r)
      (columns_split tare_start tare_width (code_width + weighing_width) s ∙ ap (λ (r : List ℕ). tare ++ r) (columns_split code_start code_width weighing_width s)) in
      ap (columns_by column_digits line_places 32) cut
      ∙ field_digits rest_places (tare ++ (code ++ weighing)) (blanks_digits tare && (blanks_digits code && blanks_digits weighing))
      (λ x.
      rest_fields column_digits blanks_digits field_digits x tare code weighing
      (length_columns tare_start tare_width s (omega arith)) (length_columns code_start code_width s (omega arith)) (length_columns weighing_start weighing_width s (omega arith)))
      (tag_width - 2) 32 tag (length_columns 0 tag_width s (omega arith))

-- ---- what `line_tag` answers

module _ (s : List ℕ) where
  not_read : (LineReads s → ⊥) → None ≡ option_map (λ (l : Line). l.tag) (read_line s)
  not_read n = go (read_line s) refl
    where
      go : (o : Option Line) → read_line s ≡ o → None ≡ option_map (λ (l : Line). l.tag) o
      go None e = refl
      go (Some l) e = absurd (n (line_reads s (ap taken e)))

  pub reads_length : LineReads s → length s ≡ line_length
  reads_length r = let e : length s - line_columns_width ≡ 1 = sym (length-drop line_columns_width s) ∙ ap length r.ends in omega (arith, e)

  pub no_line_length : (length s ≡ line_length → ⊥) → None ≡ option_map (λ (l : Line). l.tag) (read_line s)
  no_line_length n = not_read (λ r. n (reads_length r))

  pub no_newline : (get_or s line_columns_width 0 ≡ newline → ⊥) → None ≡ option_map (λ (l : Line). l.tag) (read_line s)
  no_newline n = not_read (λ r. n (sym (get_or-drop line_columns_width s 0 0) ∙ ap (λ (t : List ℕ). get_or t 0 0) r.ends))

  module _ (long : length s ≡ line_length) where
    pub no_numbers : false ≡ columns_by column_digits line_places 32 (take line_columns_width s)
        → None ≡ option_map (λ (l : Line). l.tag) (read_line s)
    no_numbers test =
        not_read
        (λ r.
        let told : four_numbers s ≡ true = rw (r.tag_number, r.tare_number, r.code_number, r.weighing_number) in
        true≢false (sym told ∙ sym (line_digits s (omega arith)) ∙ sym test))

    -- the tare's columns, the first one apart
    tare_columns : take tare_width (drop tare_start s) ≡ get_or s tare_start 0 ∷ take (tare_width - 1) (drop (suc tare_start) s)
    tare_columns = ap (take tare_width) (drop-cons s tare_start 0 (omega arith))

    tare_rest : length (take (tare_width - 1) (drop (suc tare_start) s)) ≡ tare_width - 1
    tare_rest = length_part s (suc tare_start) (tare_width - 1) (omega arith)

    pub tare_over : 48 < get_or s tare_start 0 → None ≡ option_map (λ (l : Line). l.tag) (read_line s)
    unfolding spelled
    tare_over h =
        not_read
        (λ r.
        let c : ℕ = get_or s tare_start 0 in
        let rest : List ℕ = take (tare_width - 1) (drop (suc tare_start) s) in
        let is : value 0 (take tare_width (drop tare_start s)) ≡ (0 + (c - 48)) * 10 ^ length rest + value 0 rest =
        ap (value 0) tare_columns ∙ value_behind (0 + (c - 48)) rest in
        let all : value 0 (take tare_width (drop tare_start s)) ≡ (0 + (c - 48)) * 10 ^ (tare_width - 1) + value 0 rest = rw tare_rest at is in
        omega (arith, (line_fits (spelled s) r.in_range).small_tare, all))

    pub tag_over_lem : {x : ℕ} → x ≡ value 0 (take tag_width s) → tag_most < x → None ≡ option_map (λ (l : Line). l.tag) (read_line s)
    unfolding spelled
    tag_over_lem is h = not_read (λ r. omega (arith, (line_fits (spelled s) r.in_range).small_tag))

    -- the tag's columns hold a number
    pub tag_holds : true ≡ columns_by column_digits line_places 32 (take line_columns_width s)
        → (length (take tag_width s) ≤ 10) × (blanks_digits (take tag_width s) ≡ true)
    tag_holds test = (
      omega (arith, length_part s 0 tag_width (omega arith)),
      (both (blanks_digits (take tag_width s)) _ (sym (line_digits s (omega arith)) ∙ sym test)).0,
    )

    module _ (last : get_or s line_columns_width 0 ≡ newline) (test : true ≡ columns_by column_digits line_places 32 (take line_columns_width s))
        (tare_small : get_or s tare_start 0 ≤ 48) {x : ℕ} (is : x ≡ value 0 (take tag_width s)) (most : x ≤ tag_most) where
      all_tested : LineReads s
      unfolding spelled fits tag_fits
      all_tested =
          let tag = both (blanks_digits (take tag_width s)) _ (sym (line_digits s (omega arith)) ∙ sym test) in
          let tare = both (blanks_digits (take tare_width (drop tare_start s))) _ tag.1 in
          let code = both (blanks_digits (take code_width (drop code_start s))) _ tare.1 in
          let code_small : value 0 (take code_width (drop code_start s)) < 10 ^ code_width =
          rw (length_part s code_start code_width (omega arith)) at (lenient_small (take code_width (drop code_start s)) code.0) in
          let weighing_small : value 0 (take weighing_width (drop weighing_start s)) < 10 ^ weighing_width =
          rw (length_part s weighing_start weighing_width (omega arith)) at (lenient_small (take weighing_width (drop weighing_start s)) code.1) in
          let tare_low : value 0 (get_or s tare_start 0 ∷ take (tare_width - 1) (drop (suc tare_start) s)) < 10 ^ (tare_width - 1) =
          rw tare_rest at
          (leading_small (get_or s tare_start 0) (take (tare_width - 1) (drop (suc tare_start) s)) (sym (ap blanks_digits tare_columns) ∙ tare.0) tare_small) in
          record {
            tag_number = tag.0;
            tare_number = tare.0;
            code_number = code.0;
            weighing_number = code.1;
            ends = drop-cons s line_columns_width 0 (omega arith) ∙ ap₂ ◌∷◌ last (drop_of_length-le s {i = line_length} (omega arith));
            in_range =
                rw (
                  le-leb (value 0 (take tag_width s)) tag_most (omega arith),
                  le-leb (value 0 (take tare_width (drop tare_start s))) tare_most (omega (arith, tare_low, ap (value 0) tare_columns)),
                  le-leb (value 0 (take code_width (drop code_start s))) code_most (omega arith),
                  le-leb (value 0 (take weighing_width (drop weighing_start s))) weighing_most (omega arith),
                );
          }

      pub tag_read : Some x ≡ option_map (λ (l : Line). l.tag) (read_line s)
      unfolding spelled
      tag_read = ap Some is ∙ sym (ap (option_map (λ (l : Line). l.tag)) (reads_line s all_tested))
