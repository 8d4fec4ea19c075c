-- The conditions 3 and 4 of building, line by line: a line in front of others that reads, whose tag rises or falls, or that has no
-- leading zeros.
-- Assumes nothing.
use mathlib.Core.Path.{◌≡◌}
use Prim.Native.Nat.{ℕ, ◌+◌, ◌*◌, ◌/◌, ◌≤◌, ◌<◌}
use native.Mathlib.Nat.{mul_comm, mul-div_cancel}
use native.Mathlib.Numerals.{add-one}
use native.Mathlib.Omega.{arith}
use mathlib.Core.Bool.{Bool, true, false}
use Rattle.std.specs.Prelude.{Some}
use mathlib.Core.List.{List, ◌++◌}
use lib.Dec.{lit<, leb}
use lib.ListN.{length, take}
use borrow.Author.Tests.{le-leb, lt-leb}
use Rattle.columns.specs.Lists.{every}
use Rattle.columns.specs.PrintedNumbers.{value}
use Rattle.buckets.specs.ListLine.{read_line, spelled, cut_lines, list_lines, taken, misprint_from, fall_from}
use Rattle.buckets.specs.Inner.Columns.{read_plain}
use Rattle.buckets.specs.Lengths.{tag_width, line_length}
use Rattle.cycle.proofs.Lines.LineByLine.{cut_more, lines_more}

pub count_lines : (list : List ℕ) (lines : ℕ) → length list ≡ line_length * lines → length list / line_length ≡ lines
count_lines list lines e = rw (e, mul_comm line_length lines) (mul-div_cancel lines (lit< tt))

-- the lines read without leading zeros
abbrev pub all_plain : List (List ℕ) → Bool
all_plain ss = every (λ s. taken (read_plain s)) ss

module _ (line rest : List ℕ) (wide : length line ≡ line_length) where
  pub plain_read : taken (read_plain line) ≡ true → all_plain (cut_lines (line ++ rest)) ≡ all_plain (cut_lines rest)
  plain_read e = rw (cut_more line rest wide, e)

  -- 3
  pub line_read : (i : ℕ) → taken (read_line line) ≡ true → misprint_from i (cut_lines (line ++ rest)) ≡ misprint_from (i + 1) (cut_lines rest)
  line_read i e = rw (cut_more line rest wide, e, ← add-one i)

  -- 4
  module _ (i m x : ℕ) (read : x ≡ value 0 (take tag_width line)) where
    pub tag_rises : m ≤ x → fall_from i m (list_lines (line ++ rest)) ≡ fall_from (i + 1) x (list_lines rest)
    unfolding spelled
    tag_rises l =
        let up : leb m (value 0 (take tag_width line)) ≡ true = le-leb m (value 0 (take tag_width line)) (omega arith) in
        rw (lines_more line rest wide, up, read, ← add-one i)

    pub tag_falls_here : x < m → fall_from i m (list_lines (line ++ rest)) ≡ Some i
    unfolding spelled
    tag_falls_here l =
        let down : leb m (value 0 (take tag_width line)) ≡ false = lt-leb m (value 0 (take tag_width line)) (omega arith) in
        rw (lines_more line rest wide, down)
