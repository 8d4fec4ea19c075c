-- Document 02, C-17: mean waits computed from the definitions, by running every hearing.
-- Assumes nothing.
use Rattle.std.specs.Prelude.{ℕ, List, [], ◌∷◌}
use Rattle.listener.specs.Mean.{numbers, mean}
use Rattle.listener.specs.SampleYard.{yard, list_s, sample}

unfoldable pub table : List (List ℕ)
table =
    numbers (mean (sample 1 1) list_s) ∷
    numbers (mean (sample 2 2) (yard (5 ∷ 5 ∷ 7 ∷ []))) ∷
    numbers (mean (sample 1 0) (yard (7 ∷ []))) ∷
    numbers (mean (sample 1 0) []) ∷
    numbers (mean (sample 1 3) []) ∷ []

unfoldable pub wanted : List (List ℕ)
wanted =
    -- 12 tune-ins, and four tags in five lines
    (0 ∷ 0 ∷ 600 ∷ 48 ∷ 12 ∷ 24 ∷ []) ∷
    -- layout 2, 9 tune-ins, and two tags, of which one has two lines
    (0 ∷ 0 ∷ 207 ∷ 18 ∷ 11 ∷ 9 ∷ []) ∷
    -- one line
    (0 ∷ 0 ∷ 7 ∷ 2 ∷ 3 ∷ 1 ∷ []) ∷
    -- 17, and 5 before it
    (17 ∷ 0 ∷ []) ∷
    (5 ∷ 0 ∷ []) ∷ []
