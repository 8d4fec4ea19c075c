-- Document 02, C-17, "Mean wait with its remainder": the mean over all hearings, and that each of them takes as long as is added.
-- Assumes nothing.
use Rattle.std.specs.Prelude.{◌≡◌, ℕ, ◌+◌, ◌*◌, ◌/◌, ◌%◌, ◌≤◌, ◌<◌, List, [], ◌∷◌, length}
use Rattle.std.specs.Prelude.{None, Some, Result}
use Rattle.columns.specs.Lists.{range}
use Rattle.buckets.specs.ListLine.{list_lines}
use Rattle.cycle.specs.Refusals.{first_refusal, outcome, numbers_of}
use Rattle.cycle.specs.declared.Settings.{Settings}
use Rattle.cycle.specs.declared.Refusal.{Refusal}
use Rattle.cycle.specs.Tree.{plan}
use Rattle.cycle.specs.Cycle.{cycle_size, image}
use Rattle.cycle.specs.Building as building
use Rattle.cycle.specs.Building.{build}
use Rattle.cycle.specs.Waits.{different_tags, total, conditions}
use Rattle.listener.specs.Hearing.{hearing, repeated, End, end_of, elapsed_in}
use Rattle.listener.specs.Demand3.{heard_limit}
use Rattle.listener.specs.declared.MeanWait.{MeanWait}

-- N
unfoldable pub buckets : Settings → List ℕ → ℕ
buckets s list = cycle_size (plan s (list_lines list))

-- "elapsed" of one hearing, for a tag and from a tune-in, over the cycle that the list and the settings build. "The list is
-- unchanged throughout, no bucket lost": the cycle is repeated and every bucket arrives. It is heard to its end, which has come
-- by step 2 + k + max(1, C), with no bytes behind it.
unfoldable pub wait : Settings → List ℕ → ℕ → ℕ → ℕ
wait s list tag tune =
    elapsed_in
    (hearing (repeated (image (plan s (list_lines list))) (buckets s list)) (λ m. []) tag tune (heard_limit s list tag))

-- "Take elapsed over all N tune-ins and all different tags of the list, add them"
unfoldable pub sum_of_waits : Settings → List ℕ → ℕ
sum_of_waits s list = total (λ tag. total (wait s list tag) (range 0 (buckets s list))) (different_tags (list_lines list))

-- "the divisor N × T (T the number of different tags)"
unfoldable pub divisor : Settings → List ℕ → ℕ
divisor s list = buckets s list * length (different_tags (list_lines list))

-- "give the sum, the divisor .., the quotient and the exact remainder"
abbrev pub divided : ℕ → ℕ → MeanWait
divided sum by = record { sum = sum; divisor = by; quotient = sum / by; remainder = sum % by }

unfoldable pub mean_wait : Settings → List ℕ → MeanWait
mean_wait s list = divided (sum_of_waits s list) (divisor s list)

-- the numbers that an answer stands for: refusal number (0: none) and place, and the four; a refusal has none
abbrev pub numbers : Result MeanWait Refusal → List ℕ
numbers = numbers_of (λ w. w.sum ∷ w.divisor ∷ w.quotient ∷ w.remainder ∷ [])

-- refused by 1 to 6 as in building, then by 17
unfoldable pub mean : Settings → List ℕ → Result MeanWait Refusal
mean s list = outcome (first_refusal (conditions s list)) (mean_wait s list)

-- ---- what is added, and that it is exact

-- Of a list and settings that are not refused: building makes a cycle of N buckets of them, wherever there is room; every hearing
-- over it that has ended, whatever its number of steps and the bytes after its end, took as long as is added; and the four
-- numbers are exact.
pub record Exact (s : Settings) (list : List ℕ) : Type 0 where
  pub heard_out :
      (room n : ℕ) → building.numbers (build s list room).answer ≡ 0 ∷ 0 ∷ n ∷ [] →
      (n ≡ buckets s list) ×
      ((tag tune : ℕ) → tune < n →
      (m : ℕ) (strays : ℕ → List ℕ) (e : End) →
      end_of (hearing (repeated (build s list room).output n) strays tag tune m) ≡ Some e →
      elapsed_in (hearing (repeated (build s list room).output n) strays tag tune m) ≡ wait s list tag tune)
  pub some : 0 < divisor s list
  pub divides : sum_of_waits s list ≡ (mean_wait s list).quotient * divisor s list + (mean_wait s list).remainder
  pub remains : (mean_wait s list).remainder < divisor s list
  -- "the sum is at most 2N × N × T"
  pub sum_limit : sum_of_waits s list ≤ 2 * buckets s list * divisor s list

abbrev pub EveryMean : Type 0
EveryMean = (s : Settings) (list : List ℕ) → first_refusal (conditions s list) ≡ None → Exact s list
