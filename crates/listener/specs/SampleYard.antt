-- Document 01, "Sample yard": P1 to P11 and the printed table, as one table computed from the definitions.
-- Assumes nothing.
use Rattle.std.specs.Prelude.{ℕ, ◌+◌, ◌*◌, List, [], ◌∷◌, ◌++◌, map, drop, replicate}
use Rattle.columns.specs.Lists.{pick, joined, range}
use Rattle.buckets.specs.Lengths.{bucket_length, line_length}
use Rattle.buckets.specs.ListLine.{print_line, list_lines}
use Rattle.cycle.specs.Tree.{Plan, plan}
use Rattle.cycle.specs.declared.Settings.{Settings}
use Rattle.cycle.specs.Layouts.{Slot, slots}
use Rattle.cycle.specs.Cycle.{is_data}
use Rattle.cycle.specs.Building
use Rattle.cycle.specs.Building.{build}
use Rattle.listener.specs.Lookup.{Outcome, numbers, lookup}

-- "other figures 0": a list of these tags, as bytes
unfoldable pub yard : List ℕ → List ℕ
yard tags = joined (λ t. print_line (record { tag = t; tare = 0; code = 0; weighing = 0 })) tags

-- "List S: tags 3, 5, 5, 8, 9"
unfoldable pub list_s : List ℕ
list_s = yard (3 ∷ 5 ∷ 5 ∷ 8 ∷ 9 ∷ [])

-- "n 2, p 1"
unfoldable pub sample : ℕ → ℕ → Settings
sample layout copies = record { n = 2; p = 1; layout = layout; copies = copies }

-- building with a buffer of 40 buckets: refusal number and place, and N where it is not refused
unfoldable pub built : Settings → List ℕ → List ℕ
built s list = Building.numbers (build s list (40 * bucket_length)).answer

-- the levels of a list's tree
unfoldable pub levels_of : Settings → List ℕ → List ℕ
levels_of s list = (plan s (list_lines list)).k ∷ []

-- the data buckets between one segment's start and the next
abbrev pub sizes : Plan → ℕ → List Slot → List ℕ
sizes t c [] = c ∷ []
sizes t c (x ∷ xs) = pick x.starts (c ∷ sizes t 0 xs) (sizes t (c + pick (is_data t x) 1 0) xs)

unfoldable pub part_sizes : Settings → List ℕ → List ℕ
part_sizes s list = let t : Plan = plan s (list_lines list) in drop 1 (sizes t 0 (slots t))

-- a tag looked up in the cycle of a list, with a buffer of 4 lines: refusal number, place, end, heard, elapsed, number of
-- lines, and behind them the tags of the lines written
unfoldable pub looked : Settings → List ℕ → ℕ → ℕ → List ℕ
looked s list tag t =
    let image : List ℕ = (build s list (40 * bucket_length)).output in
    let r : Outcome = lookup image tag t (4 * line_length) in
    numbers r.answer ++ map (λ l. l.tag) (list_lines r.output)

-- every row of "Sample yard", P5 for the tag given
unfoldable pub table : ℕ → List (List ℕ)
table tag =
    levels_of (sample 1 1) list_s ∷
    -- P1, P2, P3
    built (sample 1 0) list_s ∷
    built (sample 1 1) list_s ∷
    built (sample 1 2) list_s ∷
    built (sample 1 3) list_s ∷
    -- P4
    built (sample 2 2) list_s ∷
    part_sizes (sample 2 2) list_s ∷
    built (sample 2 5) list_s ∷
    built (sample 2 6) list_s ∷
    -- P5
    built (sample 1 0) [] ∷
    looked (sample 1 0) [] tag 0 ∷
    -- P6 to P10
    looked (sample 1 1) list_s 5 0 ∷
    looked (sample 1 1) list_s 6 7 ∷
    looked (sample 1 1) list_s 10 3 ∷
    looked (sample 1 1) list_s 9 0 ∷
    looked (sample 1 1) list_s 3 8 ∷
    -- P11
    built (sample 1 2) (yard (1 ∷ 2 ∷ 3 ∷ 5 ∷ 5 ∷ 5 ∷ 7 ∷ 8 ∷ [])) ∷
    looked (sample 1 2) (yard (1 ∷ 2 ∷ 3 ∷ 5 ∷ 5 ∷ 5 ∷ 7 ∷ 8 ∷ [])) 5 12 ∷
    -- tag 0 is a tag like others, also where the first pair is blank
    looked (sample 1 1) (yard (0 ∷ 5 ∷ 5 ∷ 8 ∷ 9 ∷ [])) 0 8 ∷
    -- the printed table
    map (looked (sample 1 1) list_s 5) (range 0 12)

-- found with heard, elapsed and lines of this tag, c of them
unfoldable pub found_row : ℕ → ℕ → ℕ → ℕ → List ℕ
found_row heard elapsed c tag = 0 ∷ 0 ∷ 1 ∷ heard ∷ elapsed ∷ c ∷ replicate c tag

unfoldable pub absent_row : ℕ → ℕ → List ℕ
absent_row heard elapsed = 0 ∷ 0 ∷ 2 ∷ heard ∷ elapsed ∷ 0 ∷ []

unfoldable pub built_row : ℕ → List ℕ
built_row n = 0 ∷ 0 ∷ n ∷ []

unfoldable pub refused_row : ℕ → List ℕ
refused_row number = number ∷ 0 ∷ []

-- what document 01 says of each row
unfoldable pub wanted : List (List ℕ)
wanted =
    -- "k 3"
    (3 ∷ []) ∷
    -- "P1 r 0: N 11. P2 r 1: N 12. P3 r 2: N 13; r 3: 5."
    built_row 11 ∷
    built_row 12 ∷
    built_row 13 ∷
    refused_row 5 ∷
    -- "P4 layout 2, m 2: N 17, parts of 2 and 3; m 5 allowed, m 6: 5."
    built_row 17 ∷
    (2 ∷ 3 ∷ []) ∷
    built_row 35 ∷
    refused_row 5 ∷
    -- "P5 empty list, r 0: N 1, any tag absent, heard 2, elapsed 2."
    built_row 1 ∷
    absent_row 2 2 ∷
    -- "P6 5 at 0: heard 7, elapsed 19, two lines. P7 6 at 7: absent, 6, 13. P8 10 at 3: absent, 2, 6. P9 9 at 0: found, 5,
    -- 12. P10 3 at 8: found, 5, 9."
    found_row 7 19 2 5 ∷
    absent_row 6 13 ∷
    absent_row 2 6 ∷
    found_row 5 12 1 9 ∷
    found_row 5 9 1 3 ∷
    -- "P11 tags 1, 2, 3, 5, 5, 5, 7, 8, r 2, N 18: tag 5 at 12: three lines, heard 8, elapsed 20."
    built_row 18 ∷
    found_row 8 20 3 5 ∷
    -- "Taking a blank first pair for tag 0: tag 0 would be sent round again."
    found_row 5 9 1 0 ∷
    -- "prints for tag 5 each tune-in, heard, elapsed, lines"
    found_row 7 19 2 5 ∷
    found_row 7 18 2 5 ∷
    found_row 7 17 2 5 ∷
    found_row 7 16 2 5 ∷
    found_row 7 15 2 5 ∷
    found_row 7 14 2 5 ∷
    found_row 7 13 2 5 ∷
    found_row 7 12 2 5 ∷
    found_row 6 11 2 5 ∷
    found_row 6 10 2 5 ∷
    found_row 6 9 2 5 ∷
    found_row 6 8 2 5 ∷ []
