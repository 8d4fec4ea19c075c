-- The lines of a bucket one by one, for a display that was told which of them are its own.
-- Assumes nothing.
use Rattle.std.specs.Prelude.{ℕ, zero, suc, ◌+◌, ◌*◌, List, [], ◌∷◌, take, drop}
use Rattle.std.specs.Prelude.{Option, None, Some, Result, Ok, Err}
use Rattle.buckets.specs.Lengths.{line_columns_width, lines_start}
use Rattle.buckets.specs.Bucket.{Body, index_body, data_body, Bucket}
use Rattle.buckets.specs.declared.Line.{Line}
use Rattle.buckets.specs.declared.Misprinted.{Misprinted}

-- the lines of a bucket; an index bucket has none
abbrev pub body_lines : Body → List Line
body_lines (index_body ps es) = []
body_lines (data_body f ls) = ls

-- those of a bucket that was read strictly: none of a misprinted one
abbrev pub lines_read : Option Bucket → List Line
lines_read None = []
lines_read (Some b) = body_lines b.body

-- line i of these, from 0
abbrev pub nth : ℕ → List Line → Option Line
nth i [] = None
nth zero (l ∷ ls) = Some l
nth (suc i) (l ∷ ls) = nth i ls

-- line i of a bucket that was read: nothing past its lines, and in an index bucket
abbrev pub bucket_line : ℕ → Option Bucket → Result (Option Line) Misprinted
bucket_line i None = Err (record {})
bucket_line i (Some b) = Ok (nth i (body_lines b.body))

-- the numbers that an answer stands for: refusal number (8 "bucket not 240 bytes, or misprinted", 0: none), place, whether there
-- is such a line (1, else 0), its tag, tare, material code and weighing number
abbrev pub numbers : Result (Option Line) Misprinted → List ℕ
numbers (Ok (Some l)) = 0 ∷ 0 ∷ 1 ∷ l.tag ∷ l.tare ∷ l.code ∷ l.weighing ∷ []
numbers (Ok None) = 0 ∷ 0 ∷ 0 ∷ 0 ∷ 0 ∷ 0 ∷ 0 ∷ []
numbers (Err e) = 8 ∷ 0 ∷ 0 ∷ 0 ∷ 0 ∷ 0 ∷ 0 ∷ []

-- the columns of line m of a bucket
unfoldable pub line_bytes : List ℕ → ℕ → List ℕ
line_bytes s m = take line_columns_width (drop (lines_start + line_columns_width * m) s)
