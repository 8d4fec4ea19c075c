-- Document 02, C-16, as one table computed from the definitions: what a listener answers to lost buckets, with its counts, and
-- hearings of the sample yard's list with r 1, N 12, in which buckets are lost.
-- Assumes nothing.
use Rattle.std.specs.Prelude.{ℕ, ◌*◌, Bool, true, false, List, [], ◌∷◌, ◌++◌, map, replicate}
use Rattle.std.specs.Prelude.{Option, None, Some}
use Rattle.buckets.specs.Lengths.{bucket_length}
use Rattle.buckets.specs.Bucket.{Bucket, print_bucket}
use Rattle.listener.specs.Listener.{numbers, start, counting}
use Rattle.listener.specs.Hearing.{end_of, heard_in, elapsed_in}
use Rattle.listener.specs.Lost.{Marked, marked_hearing, steps, lost_in, lines_since, always}
use Rattle.listener.specs.OnAir.{Sending, on_air}
use Rattle.listener.specs.Started.{handed_in}
use Rattle.listener.specs.SampleYard.{list_s, sample}
use Rattle.listener.specs.ChangedList.{end_number, bucket, dozed, refused}
use Rattle.listener.specs.declared.Listener.{Listener}
use Rattle.listener.specs.declared.Stepped.{Stepped}

-- ---- a listener

-- what is handed in for a bucket, or for a lost one
abbrev pub printed : Option Bucket → Option (List ℕ)
printed None = None
printed (Some b) = Some (print_bucket b)

-- its answers one after the other, and then its counts
abbrev pub answers_from : Listener → List (Option Bucket) → List ℕ
answers_from s [] = s.heard ∷ s.elapsed ∷ []
answers_from s (x ∷ xs) =
    let r : Stepped = handed_in s (printed x) in
    numbers r.answer ++ answers_from r.listener xs

-- of one started with tag 5
unfoldable pub answers : List (Option Bucket) → List ℕ
answers xs = answers_from (start 5) xs

-- of one whose counts are these by then
unfoldable pub answers_with : ℕ → ℕ → List (Option Bucket) → List ℕ
answers_with heard elapsed xs = answers_from (counting (start 5) heard elapsed) xs

-- an index bucket at position 3 of 7, d before the next segment; one that leads tag 5 to the next cycle's start
unfoldable pub at_three : ℕ → Option Bucket
at_three d = Some (bucket 3 4 d [] [])

unfoldable pub round_again : Option Bucket
round_again = Some (bucket 0 7 7 [] (7 ∷ []))

-- ---- a hearing

unfoldable pub yard_cycle : Sending
yard_cycle = record { settings = sample 1 1; list = list_s; room = 40 * bucket_length; n = 12 }

-- the end (1 found, 2 absent), the buckets lost up to it, heard, elapsed, and behind them the tags of the lines got
unfoldable pub heard : ℕ → ℕ → List Bool → List ℕ
heard tag t marks =
    let log : List Marked = marked_hearing (on_air (always yard_cycle)) (λ m. []) tag t marks in
    end_number (end_of (steps log)) ∷ lost_in log ∷ heard_in (steps log) ∷ elapsed_in (steps log) ∷ map (λ l. l.tag) (lines_since log)

-- marks: so many steps and then a lost bucket, or steps alone
unfoldable pub lost_behind : ℕ → List Bool
lost_behind m = replicate m false ++ true ∷ []

unfoldable pub steps_of : ℕ → List Bool
steps_of m = replicate m false

unfoldable pub table : List (List ℕ)
table =
    answers (None ∷ None ∷ []) ∷
    answers (at_three 2 ∷ None ∷ []) ∷
    answers (at_three 2 ∷ Some (bucket 9 9 1 [] []) ∷ None ∷ []) ∷
    answers (at_three 2 ∷ None ∷ Some (bucket 9 9 1 [] []) ∷ []) ∷
    answers (at_three 4 ∷ round_again ∷ []) ∷
    answers (at_three 4 ∷ None ∷ at_three 4 ∷ []) ∷
    answers (at_three 4 ∷ None ∷ at_three 4 ∷ round_again ∷ None ∷ []) ∷
    answers (None ∷ at_three 5 ∷ None ∷ []) ∷
    answers_with 4294967294 4294967292 (at_three 2 ∷ None ∷ at_three 4 ∷ round_again ∷ []) ∷
    heard 5 0 (steps_of 8) ∷
    heard 5 0 (lost_behind 6 ++ steps_of 7) ∷
    heard 5 0 (lost_behind 6 ++ (lost_behind 6 ++ steps_of 8)) ∷
    heard 5 0 (lost_behind 0 ++ (lost_behind 0 ++ steps_of 8)) ∷
    heard 5 0 (steps_of 7 ++ lost_behind 0) ∷
    heard 10 3 (lost_behind 1 ++ steps_of 4) ∷ []

unfoldable pub wanted : List (List ℕ)
wanted =
    -- "the listener answers doze by 1", "A lost bucket counts as heard.": two before any tune-in
    (dozed 1 ++ (dozed 1 ++ 2 ∷ 2 ∷ [])) ∷
    -- the doze by 2 that was pending is counted
    (dozed 2 ++ (dozed 1 ++ 2 ∷ 3 ∷ [])) ∷
    -- "starts over with the next bucket as its tune-in": position 5 is awaited, and position 9 of 18 refused by 9; behind a lost one
    -- it is taken; "and an ended listener answers a lost one by 14"
    (dozed 2 ++ (refused 9 ++ (refused 14 ++ 1 ∷ 1 ∷ []))) ∷
    (dozed 2 ++ (dozed 1 ++ (dozed 1 ++ 3 ∷ 4 ∷ []))) ∷
    -- 10 counts from the new tune-in: a doze to a second start is refused; behind a lost one it is the first, and the next one is
    -- refused again
    (dozed 4 ++ (refused 10 ++ 1 ∷ 1 ∷ [])) ∷
    (dozed 4 ++ (dozed 1 ++ (dozed 4 ++ 3 ∷ 6 ∷ []))) ∷
    (dozed 4 ++ (dozed 1 ++ (dozed 4 ++ (refused 10 ++ (refused 14 ++ 3 ∷ 6 ∷ []))))) ∷
    -- "A misprinted one still gives 8": no distance is over 4 there
    (dozed 1 ++ (refused 8 ++ (refused 14 ++ 1 ∷ 1 ∷ []))) ∷
    -- "A count that would pass 4,294,967,295 stops there.", and no answer changes by that
    (dozed 2 ++ (dozed 1 ++ (dozed 4 ++ (refused 10 ++ 4294967295 ∷ 4294967295 ∷ [])))) ∷
    -- no bucket lost; the last one lost, with one line of the tag taken, which is void; the last one lost twice; the first two
    (1 ∷ 0 ∷ 7 ∷ 19 ∷ 5 ∷ 5 ∷ []) ∷
    (1 ∷ 1 ∷ 14 ∷ 31 ∷ 5 ∷ 5 ∷ []) ∷
    (1 ∷ 2 ∷ 21 ∷ 43 ∷ 5 ∷ 5 ∷ []) ∷
    (1 ∷ 2 ∷ 9 ∷ 19 ∷ 5 ∷ 5 ∷ []) ∷
    -- one handed in as lost after the end is refused, and nothing is void
    (1 ∷ 0 ∷ 7 ∷ 19 ∷ 5 ∷ 5 ∷ []) ∷
    -- the second one of a tag that is not listed
    (2 ∷ 1 ∷ 4 ∷ 10 ∷ []) ∷ []
