-- Document 01, "A list line", with document 02, C-13, and the conditions 2, 3 and 4 of "Refused inputs".
-- Assumes nothing.
use Rattle.std.specs.Prelude.{ℕ, suc, ◌/◌, ◌%◌, Bool, true, false, ◌&&◌, List, [], ◌∷◌, ◌++◌, map, leb, eqb, length, take, drop}
use Rattle.std.specs.Prelude.{Option, None, Some}
use Rattle.columns.specs.Lists.{pick, joined, every, parts, same}
use Rattle.columns.specs.PrintedNumbers.{print, value, read_lenient, blank_zeros}
use Rattle.buckets.specs.declared.Line.{Line}
use Rattle.buckets.specs.Lengths.{newline, tag_width, tare_width, code_width, weighing_width, tare_start, code_start}
use Rattle.buckets.specs.Lengths.{weighing_start, line_columns_width, line_length, tag_most, tare_most, code_most, weighing_most}
use Rattle.buckets.specs.Lengths.{lines_most}

-- "tag 0 to 4,294,967,295"
unfoldable pub tag_fits : ℕ → Bool
tag_fits x = leb x tag_most

-- ".., tare in kg 0 to 99,999, material code 0 to 9,999, weighing number 0 to 999,999"
unfoldable pub fits : Line → Bool
fits l = tag_fits l.tag && (leb l.tare tare_most && (leb l.code code_most && leb l.weighing weighing_most))

-- a line without its newline, 26 columns: "tag (10 columns), tare (6), material code (4), weighing number (6)"
unfoldable pub line_columns : Line → List ℕ
line_columns l =
    print tag_width l.tag ++
    (print tare_width l.tare ++ (print code_width l.code ++ print weighing_width l.weighing))

-- "27 bytes: .., newline (byte 10)"
unfoldable pub print_line : Line → List ℕ
print_line l = line_columns l ++ newline ∷ []

-- a line whose columns stand at the front of s, as a list line
abbrev pub ended_line : List ℕ → List ℕ
ended_line s = take line_columns_width s ++ newline ∷ []

-- lines whose columns stand side by side from the front of s on, c of them, as list lines
unfoldable pub ended_lines : ℕ → List ℕ → List ℕ
ended_lines c s = joined (λ p. p ++ newline ∷ []) (parts c line_columns_width s)

-- the numbers that a line's columns spell
abbrev pub spelled_columns : List ℕ → Line
spelled_columns s =
    record {
      tag = value 0 (take tag_width s);
      tare = value 0 (take tare_width (drop tare_start s));
      code = value 0 (take code_width (drop code_start s));
      weighing = value 0 (take weighing_width (drop weighing_start s));
    }

-- those of a list line
unfoldable pub spelled : List ℕ → Line
spelled s = spelled_columns s

-- whether a reading took what it was given
abbrev pub taken : {A : Type 0} → Option A → Bool
taken None = false
taken (Some x) = true

-- the columns of a line's four numbers
abbrev pub line_fields : List ℕ → List (List ℕ)
line_fields s =
    take tag_width s ∷
    take tare_width (drop tare_start s) ∷
    take code_width (drop code_start s) ∷
    take weighing_width (drop weighing_start s) ∷ []

-- four numbers and a newline, nothing behind it; document 02, C-13: "The reading of a number in a list line accepts leading
-- zeros, blanks before them or none."
unfoldable pub has_numbers : List ℕ → Bool
has_numbers s = every (λ field. taken (read_lenient field)) (line_fields s) && same (drop line_columns_width s) (newline ∷ [])

-- a list line read: its four numbers, each in its range
unfoldable pub read_line : List ℕ → Option Line
read_line s = pick (has_numbers s && fits (spelled s)) (Some (spelled s)) None

-- a list's lines as bytes, 27 each
unfoldable pub cut_lines : List ℕ → List (List ℕ)
cut_lines s = parts (length s / line_length) line_length s

-- a list's lines as numbers
unfoldable pub list_lines : List ℕ → List Line
list_lines s = map spelled (cut_lines s)

-- "At most 40,000 lines"
abbrev pub few_lines : ℕ → Bool
few_lines c = leb c lines_most

-- 2: "list length no multiple of 27, or over 40,000 lines" does not hold
unfoldable pub whole_lines : ℕ → Bool
whole_lines c = eqb (c % line_length) 0 && few_lines (c / line_length)

-- 3: "line misprinted; place: first such line", counted from i
abbrev pub misprint_from : ℕ → List (List ℕ) → Option ℕ
misprint_from i [] = None
misprint_from i (s ∷ ss) = pick (taken (read_line s)) (misprint_from (suc i) ss) (Some i)

-- 4: "tag falls; place: first such line", counted from i, m being the tag before ("tags never fall")
abbrev pub fall_from : ℕ → ℕ → List Line → Option ℕ
fall_from i m [] = None
fall_from i m (l ∷ ls) = pick (leb m l.tag) (fall_from (suc i) l.tag ls) (Some i)

-- ---- document 02, C-13: "the list with its leading zeros made blank (zero stays one 0)"

-- a field: only one that holds a number is changed
unfoldable pub blanked_field : List ℕ → List ℕ
blanked_field field = pick (taken (read_lenient field)) (blank_zeros field) field

-- a list line, field by field; its newline stays
unfoldable pub blanked_line : List ℕ → List ℕ
blanked_line s = joined blanked_field (line_fields s) ++ drop line_columns_width s

-- a list; one that is no whole lines stays
unfoldable pub blanked_list : List ℕ → List ℕ
blanked_list s = pick (eqb (length s % line_length) 0) (joined blanked_line (cut_lines s)) s
