-- Document 02, C-12, as one table computed from the definitions: hearings over a list that changes, and buckets at the bounds of
-- 8, 9 and 10. On air, cycle 0 is the sample yard's list with r 1, N 12; from cycle 1 on it is P11's list with r 2, N 18.
-- Assumes nothing.
use Rattle.std.specs.Prelude.{ℕ, zero, suc, ◌*◌, List, [], ◌∷◌, ◌++◌, map}
use Rattle.std.specs.Prelude.{Option, None, Some}
use Rattle.columns.specs.Lists.{range}
use Rattle.buckets.specs.Lengths.{bucket_length}
use Rattle.buckets.specs.Bucket.{Bucket, index_body, print_bucket}
use Rattle.listener.specs.Listener.{numbers, start, step}
use Rattle.listener.specs.Hearing.{Taken, hearing, End, found, absent, end_of, heard_in, elapsed_in, lines_got}
use Rattle.listener.specs.OnAir.{Air, place_at, on_air}
use Rattle.listener.specs.SampleYard.{yard, list_s, sample}
use Rattle.listener.specs.declared.Listener.{Listener}
use Rattle.listener.specs.declared.Stepped.{Stepped}

abbrev pub air : Air
air zero = record { settings = sample 1 1; list = list_s; room = 40 * bucket_length; n = 12 }
air (suc c) =
    record {
      settings = sample 1 2;
      list = yard (1 ∷ 2 ∷ 3 ∷ 5 ∷ 5 ∷ 5 ∷ 7 ∷ 8 ∷ []);
      room = 40 * bucket_length;
      n = 18;
    }

-- an end's number, 0 where none has come
abbrev pub end_number : Option End → ℕ
end_number None = 0
end_number (Some found) = 1
end_number (Some absent) = 2

-- the hearing of 12 steps from tune-in t on: its end (1 found, 2 absent), heard, elapsed, and behind them the tags of the lines
-- got; after the end no bytes are given
unfoldable pub heard : ℕ → ℕ → List ℕ
heard tag t =
    let log : List Taken = hearing (on_air air) (λ m. []) tag t 12 in
    end_number (end_of log) ∷ heard_in log ∷ elapsed_in log ∷ map (λ l. l.tag) (lines_got log)

-- the cycles of places on air
unfoldable pub cycles_at : List ℕ → List ℕ
cycles_at places = map (λ x. (place_at air x).cycle) places

-- an index bucket: its position, its distances to the next cycle and to the next segment, that of a control pair without tag, and
-- those of its entries, which have tag 5
unfoldable pub bucket : ℕ → ℕ → ℕ → List ℕ → List ℕ → Bucket
bucket position to_cycle to_segment pairs entries =
    record {
      position = position;
      to_cycle = to_cycle;
      to_segment = to_segment;
      body = index_body (map (λ d. record { tag = None; distance = d }) pairs) (map (λ d. record { tag = 5; distance = d }) entries);
    }

-- the answers of a listener that is given buckets one after the other
abbrev pub answers_from : Listener → List Bucket → List ℕ
answers_from s [] = []
answers_from s (b ∷ bs) =
    let r : Stepped = step s (print_bucket b) in
    numbers r.answer ++ answers_from r.listener bs

-- of one started with tag 5
unfoldable pub answers : List Bucket → List ℕ
answers bs = answers_from (start 5) bs

unfoldable pub table : List (List ℕ)
table =
    answers (bucket 3 4 4 [] [] ∷ []) ∷
    answers (bucket 3 4 5 [] [] ∷ []) ∷
    answers (bucket 3 4 1 (4 ∷ []) [] ∷ []) ∷
    answers (bucket 3 4 1 (5 ∷ []) [] ∷ []) ∷
    answers (bucket 3 4 1 [] (4 ∷ []) ∷ []) ∷
    answers (bucket 3 4 1 [] (5 ∷ []) ∷ []) ∷
    answers (bucket 3 4 2 [] [] ∷ bucket 5 2 1 [] [] ∷ []) ∷
    answers (bucket 3 4 2 [] [] ∷ bucket 5 3 1 [] [] ∷ []) ∷
    answers (bucket 3 4 4 [] [] ∷ bucket 0 9 1 [] [] ∷ []) ∷
    answers (bucket 3 4 4 [] [] ∷ bucket 1 8 1 [] [] ∷ []) ∷
    answers (bucket 0 1 1 [] (1 ∷ []) ∷ bucket 0 1 1 [] (1 ∷ []) ∷ bucket 0 1 1 [] (1 ∷ []) ∷ []) ∷
    answers (bucket 0 1 1 [] [] ∷ bucket 0 3 1 [] (1 ∷ []) ∷ bucket 1 2 1 [] (2 ∷ []) ∷ []) ∷
    cycles_at (0 ∷ 11 ∷ 12 ∷ 29 ∷ 30 ∷ []) ∷
    heard 9 0 ∷
    heard 9 8 ∷
    heard 10 3 ∷
    heard 7 0 ∷
    map (heard 5) (range 0 12)

-- a doze by d, a refusal, and absent
unfoldable pub dozed : ℕ → List ℕ
dozed d = 1 ∷ d ∷ 0 ∷ []

unfoldable pub refused : ℕ → List ℕ
refused number = 4 ∷ number ∷ 0 ∷ []

unfoldable pub gone : List ℕ
gone = 3 ∷ 0 ∷ 0 ∷ []

-- found, heard so many and with so many gone by, with the new list's lines of tag 5
unfoldable pub three_lines : ℕ → ℕ → List ℕ
three_lines h e = 1 ∷ h ∷ e ∷ 5 ∷ 5 ∷ 5 ∷ []

unfoldable pub wanted : List (List ℕ)
wanted =
    -- "8 holds distances to the new maximum": 4 buckets before the next cycle's start a segment, pair or entry distance of 4 is
    -- well printed and one of 5 is not, N being 7
    dozed 4 ∷
    refused 8 ∷
    dozed 1 ∷
    refused 8 ∷
    dozed 1 ∷
    refused 8 ∷
    -- "9 tests N only within a cycle": at position 5 N is 7 as before; "Past a start the awaited position is 0 and N may be new."
    (dozed 2 ++ gone) ∷
    (dozed 2 ++ refused 9) ∷
    (dozed 4 ++ gone) ∷
    (dozed 4 ++ refused 9) ∷
    -- 10, not at the first start and not only at the third: "one bucket, N 1, entry (5, 1), tag 5", then 14; and where the new
    -- cycle has another N
    (dozed 1 ++ (refused 10 ++ refused 14)) ∷
    (dozed 1 ++ (dozed 1 ++ refused 10)) ∷
    -- 12 buckets of cycle 0, then 18 of cycle 1
    (0 ∷ 0 ∷ 1 ∷ 1 ∷ 2 ∷ []) ∷
    -- "A display's lines, or its absence, are those of the list in whose cycle it ends.": 9 ends in cycle 0 from 0 on, as in P9,
    -- and in cycle 1 from 8 on, where it is not listed; 10 ends in cycle 0, as in P8; 7 is listed in cycle 1 alone
    (1 ∷ 5 ∷ 12 ∷ 9 ∷ []) ∷
    (2 ∷ 2 ∷ 5 ∷ []) ∷
    (2 ∷ 2 ∷ 6 ∷ []) ∷
    (1 ∷ 6 ∷ 29 ∷ 7 ∷ []) ∷
    -- 5 ends in cycle 1 from every tune-in, with three lines and not with the old list's two; the limit is 8
    three_lines 8 26 ∷
    three_lines 8 25 ∷
    three_lines 8 24 ∷
    three_lines 8 23 ∷
    three_lines 8 22 ∷
    three_lines 8 21 ∷
    three_lines 8 20 ∷
    three_lines 8 19 ∷
    three_lines 7 18 ∷
    three_lines 7 17 ∷
    three_lines 7 16 ∷
    three_lines 7 15 ∷ []
