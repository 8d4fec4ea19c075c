-- Document 01, "Readings to shut out": for each a case that it gets wrong, computed from the definitions, beside the table of
-- SampleYard. With the distances of document 02, C-12, "less" in the first pair's test loses no line in P11 any more: the entry
-- then taken is held to the same start. It hears more than the limit in layout 2.
-- Assumes nothing.
use Rattle.std.specs.Prelude.{ℕ, ◌*◌, List, [], ◌∷◌, ◌++◌, map}
use Rattle.columns.specs.Lists.{range}
use Rattle.buckets.specs.Lengths.{bucket_length, line_length}
use Rattle.buckets.specs.ListLine.{list_lines}
use Rattle.cycle.specs.Tree.{plan_for}
use Rattle.cycle.specs.declared.Settings.{Settings}
use Rattle.cycle.specs.Cycle.{cycle_size}
use Rattle.cycle.specs.Building.{build}
use Rattle.listener.specs.Lookup.{Outcome, numbers, lookup}
use Rattle.listener.specs.Demand3.{heard_limit}
use Rattle.listener.specs.SampleYard.{yard, sample, part_sizes, looked, found_row}

-- "tags 1 to 31, n 2, p 5, m 6"
unfoldable pub six_parts : Settings
six_parts = record { n = 2; p = 5; layout = 2; copies = 6 }

-- a tag looked up in the cycle of a list, of at most 50 buckets: demand 3's limit on heard, and the lookup's answer as in
-- SampleYard
unfoldable pub looked_within : Settings → List ℕ → ℕ → ℕ → List ℕ
looked_within s list tag t =
    let r : Outcome = lookup (build s list (50 * bucket_length)).output tag t (4 * line_length) in
    heard_limit s list tag ∷ (numbers r.answer ++ map (λ l. l.tag) (list_lines r.output))

unfoldable pub cases : List (List ℕ)
cases =
    looked_within six_parts (yard (range 1 32)) 5 0 ∷
    part_sizes (sample 1 2) (yard (1 ∷ 2 ∷ 3 ∷ 5 ∷ 5 ∷ 5 ∷ 7 ∷ 8 ∷ [])) ∷
    looked (sample 1 2) (yard (1 ∷ 2 ∷ 3 ∷ 5 ∷ 5 ∷ 5 ∷ 7 ∷ 8 ∷ [])) 5 12 ∷
    map (λ lines. cycle_size (plan_for (record { n = 8; p = 1; layout = 1; copies = 2 }) lines [])) (472 ∷ 513 ∷ []) ∷
    looked (sample 1 1) (yard (0 ∷ 5 ∷ 5 ∷ 8 ∷ 9 ∷ [])) 0 8 ∷ []

unfoldable pub right : List (List ℕ)
right =
    -- ""Less" in the first pair's test": 8 are heard then, where the limit is 6
    (6 ∷ found_row 6 57 1 5) ∷
    -- "Stopping at the data segment's end: a tag's lines may go on behind an index segment.": the three lines of tag 5 are in the
    -- second and the third of four segments, of two data buckets each
    (2 ∷ 2 ∷ 2 ∷ 2 ∷ []) ∷
    found_row 8 20 3 5 ∷
    -- "Working D out from N: two list sizes can share one N."
    (598 ∷ 598 ∷ []) ∷
    -- "Taking a blank first pair for tag 0: tag 0 would be sent round again."
    found_row 5 9 1 0 ∷ []
