-- Document 02, C-13, by example: the four columns of a material code as bridges print them, and a whole line full of zeros.
-- Assumes nothing.
use Rattle.std.specs.Prelude.{◌≡◌, ℕ, List, [], ◌∷◌, ◌++◌, map}
use Rattle.std.specs.Prelude.{Option, None, Some}
use Rattle.columns.specs.PrintedNumbers.{read_number, read_lenient}
use Rattle.buckets.specs.declared.Line.{Line}
use Rattle.buckets.specs.Lengths.{newline}
use Rattle.buckets.specs.ListLine.{print_line, read_line, blanked_field, blanked_line}

-- what a bucket reads of the columns, what a list line does, and the columns with leading zeros made blank
pub record Told : Type 0 where
  pub in_bucket : Option ℕ
  pub in_list : Option ℕ
  pub blanked : List ℕ

abbrev pub told : List ℕ → Told
told s = record { in_bucket = read_number s; in_list = read_lenient s; blanked = blanked_field s }

-- the columns: 0042, 042 behind a blank, 42 behind two, 0000, 0 behind three blanks, four blanks, 42 with a blank behind it, 042
-- with a blank in it, and 042 with a sign
abbrev pub fields : List (List ℕ)
fields =
    (48 ∷ 48 ∷ 52 ∷ 50 ∷ []) ∷
    (32 ∷ 48 ∷ 52 ∷ 50 ∷ []) ∷
    (32 ∷ 32 ∷ 52 ∷ 50 ∷ []) ∷
    (48 ∷ 48 ∷ 48 ∷ 48 ∷ []) ∷
    (32 ∷ 32 ∷ 32 ∷ 48 ∷ []) ∷
    (32 ∷ 32 ∷ 32 ∷ 32 ∷ []) ∷
    (48 ∷ 52 ∷ 50 ∷ 32 ∷ []) ∷
    (48 ∷ 32 ∷ 52 ∷ 50 ∷ []) ∷
    (43 ∷ 48 ∷ 52 ∷ 50 ∷ []) ∷ []

abbrev pub table : List Told
table = map told fields

abbrev pub row : Option ℕ → Option ℕ → List ℕ → Told
row bucket list columns = record { in_bucket = bucket; in_list = list; blanked = columns }

-- "accepts leading zeros, blanks before them or none. Buckets stay strict.", "(zero stays one 0)"; what is no number stays
abbrev pub wanted : List Told
wanted =
    row None (Some 42) (32 ∷ 32 ∷ 52 ∷ 50 ∷ []) ∷
    row None (Some 42) (32 ∷ 32 ∷ 52 ∷ 50 ∷ []) ∷
    row (Some 42) (Some 42) (32 ∷ 32 ∷ 52 ∷ 50 ∷ []) ∷
    row None (Some 0) (32 ∷ 32 ∷ 32 ∷ 48 ∷ []) ∷
    row (Some 0) (Some 0) (32 ∷ 32 ∷ 32 ∷ 48 ∷ []) ∷
    row None None (32 ∷ 32 ∷ 32 ∷ 32 ∷ []) ∷
    row None None (48 ∷ 52 ∷ 50 ∷ 32 ∷ []) ∷
    row None None (48 ∷ 32 ∷ 52 ∷ 50 ∷ []) ∷
    row None None (43 ∷ 48 ∷ 52 ∷ 50 ∷ []) ∷ []

-- ---- a line

-- tag 7, tare 85 kg, material code 0, weighing number 10, "all columns full of zeros"
abbrev pub full_line : List ℕ
full_line =
    (48 ∷ 48 ∷ 48 ∷ 48 ∷ 48 ∷ 48 ∷ 48 ∷ 48 ∷ 48 ∷ 55 ∷ []) ++
    ((48 ∷ 48 ∷ 48 ∷ 48 ∷ 56 ∷ 53 ∷ []) ++
    ((48 ∷ 48 ∷ 48 ∷ 48 ∷ []) ++ ((48 ∷ 48 ∷ 48 ∷ 48 ∷ 49 ∷ 48 ∷ []) ++ newline ∷ [])))

abbrev pub full_numbers : Line
full_numbers = record { tag = 7; tare = 85; code = 0; weighing = 10 }

-- it reads, and with its leading zeros made blank it is the line as it is printed
pub record FullLine : Type 0 where
  pub reads : read_line full_line ≡ Some full_numbers
  pub blanked : blanked_line full_line ≡ print_line full_numbers
