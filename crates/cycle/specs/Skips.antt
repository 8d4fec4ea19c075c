-- Document 02, C-14, by example: lines that arrive in a list and are taken out of it, computed from the definitions.
-- Assumes nothing.
use Rattle.std.specs.Prelude.{ℕ, ◌*◌, List, [], ◌∷◌, ◌++◌, map, take, drop, replicate}
use Rattle.columns.specs.Lists.{joined}
use Rattle.columns.specs.PrintedNumbers.{blanks}
use Rattle.buckets.specs.Lengths.{line_length, bucket_length}
use Rattle.buckets.specs.ListLine.{print_line, list_lines}
use Rattle.cycle.specs.Tree.{settings}
use Rattle.cycle.specs.declared.Settings.{Settings}
use Rattle.cycle.specs.Changes.{Outcome, numbers, arrive, take_out}

-- a line of this tag and weighing number, tare and material code 0
unfoldable pub line : ℕ → ℕ → List ℕ
line tag weighing = print_line (record { tag = tag; tare = 0; code = 0; weighing = weighing })

-- five lines, told apart by their weighing numbers
unfoldable pub five : List ℕ
five = line 3 1 ++ (line 5 2 ++ (line 5 3 ++ (line 8 4 ++ line 9 5)))

-- the same numbers as `line 5 2`, in other bytes: a leading zero in the tag
unfoldable pub zero_five : List ℕ
zero_five = take 8 (line 5 2) ++ (48 ∷ drop 9 (line 5 2))

-- n 2, p 1, layout 1
unfoldable pub copied : ℕ → Settings
copied r = settings 2 1 1 r

-- what a call answers, and the weighing numbers of the list's lines behind it, in order; a place made blank spells 0
unfoldable pub told : Outcome → List ℕ
told o = numbers o.answer ++ map (λ l. l.weighing) (list_lines o.list)

-- a cycle buffer of so many buckets
abbrev pub room : ℕ → ℕ
room n = bucket_length * n

-- a line arrives in the five, whose buffer has place for one more
unfoldable pub comes : List ℕ → List ℕ
comes given = told (arrive (copied 1) (five ++ blanks line_length) 5 given (room 20))

-- a line is taken out of the five
unfoldable pub goes : ℕ → ℕ → List ℕ → List ℕ
goes r n given = told (take_out (copied r) five 5 given (room n))

-- two lines with the same four numbers, of which the second has a leading zero, and what is left of them, as bytes
unfoldable pub first_goes : List ℕ
first_goes = (take_out (copied 0) (line 5 2 ++ zero_five) 2 zero_five (room 20)).list

-- 513 lines, all 0, n 8, p 1, r 2, and a line taken out
unfoldable pub one_fewer : ℕ → List ℕ
one_fewer n = numbers (take_out (settings 8 1 1 2) (joined (λ s. s) (replicate 513 (line 0 0))) 513 (line 0 0) (room n)).answer

unfoldable pub table : List (List ℕ)
table =
    comes (line 5 6) ∷
    comes (line 2 6) ∷
    comes (line 10 6) ∷
    goes 1 20 (line 5 2) ∷
    goes 1 20 zero_five ∷
    first_goes ∷
    told (arrive (copied 1) five 6 (line 5 6) (room 20)) ∷
    comes (take 26 (line 5 6)) ∷
    comes (blanks line_length) ∷
    goes 1 20 (line 5 4) ∷
    told (arrive (copied 1) five 5 (line 5 6) (room 20)) ∷
    goes 2 20 (line 5 2) ∷
    goes 1 8 (line 5 2) ∷
    one_fewer 598 ∷
    one_fewer 648 ∷ []

unfoldable pub wanted : List (List ℕ)
wanted =
    -- "A new line goes .. behind all lines of its tag", at the front, at the end
    (0 ∷ 0 ∷ 6 ∷ 6 ∷ 3 ∷ 13 ∷ 1 ∷ 2 ∷ 3 ∷ 6 ∷ 4 ∷ 5 ∷ []) ∷
    (0 ∷ 0 ∷ 6 ∷ 6 ∷ 3 ∷ 13 ∷ 6 ∷ 1 ∷ 2 ∷ 3 ∷ 4 ∷ 5 ∷ []) ∷
    (0 ∷ 0 ∷ 6 ∷ 6 ∷ 3 ∷ 13 ∷ 1 ∷ 2 ∷ 3 ∷ 4 ∷ 5 ∷ 6 ∷ []) ∷
    -- "the first whose four numbers equal those of the one given", whatever its bytes; "the last line's 27 bytes become blank"
    (0 ∷ 0 ∷ 4 ∷ 4 ∷ 2 ∷ 8 ∷ 1 ∷ 3 ∷ 4 ∷ 5 ∷ 0 ∷ []) ∷
    (0 ∷ 0 ∷ 4 ∷ 4 ∷ 2 ∷ 8 ∷ 1 ∷ 3 ∷ 4 ∷ 5 ∷ 0 ∷ []) ∷
    (zero_five ++ blanks line_length) ∷
    -- "a number that the buffer cannot hold is 2, and so is a given line not 27 bytes long"
    (2 ∷ 0 ∷ []) ∷
    (2 ∷ 0 ∷ []) ∷
    -- "A misprint in the given line is 3 with the number of lines in the list as its place"
    (3 ∷ 5 ∷ []) ∷
    -- "15: the line to take out is not in the list"
    (15 ∷ 0 ∷ []) ∷
    -- "16: .. its buffer no place for one more"
    (16 ∷ 0 ∷ []) ∷
    -- "5 to 7 are judged on the changed list": four lines have one level less, and N 8
    (5 ∷ 0 ∷ []) ∷
    (0 ∷ 0 ∷ 4 ∷ 4 ∷ 2 ∷ 8 ∷ 1 ∷ 3 ∷ 4 ∷ 5 ∷ 0 ∷ []) ∷
    -- N may grow when a line goes: 513 lines have N 598, 512 have 648
    (7 ∷ 0 ∷ []) ∷
    (0 ∷ 0 ∷ 512 ∷ 512 ∷ 3 ∷ 648 ∷ []) ∷ []
