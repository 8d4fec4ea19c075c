-- What holds of every listener that is started and then given any bytes whatever, one bucket after the other: the run's definition
-- has a branch that no such listener comes to, and 10 counts the cycles passed in place of the buckets gone by. And what holds of
-- listeners that are told of lost buckets too.
-- Assumes nothing.
use Rattle.std.specs.Prelude.{◌≡◌, ℕ, ◌+◌, ◌*◌, ◌≤◌, true, false, List, [], ◌∷◌, ltb}
use Rattle.std.specs.Prelude.{Option, None, Some}
use Rattle.buckets.specs.Lengths.{buckets_most}
use Rattle.buckets.specs.Bucket.{Bucket, cycle_length, read_bucket}
use Rattle.listener.specs.Listener.{step_numbers, start, step, is_ended, count_most, awaited, elapsed_with, past_next_cycle, counting, lost}
use Rattle.listener.specs.Lookup.{Finish, run_budget, run, run_else}
use Rattle.listener.specs.declared.Listener.{Listener}
use Rattle.listener.specs.declared.Stepped.{Stepped}

-- the listener after these bytes, step by step
abbrev pub after : Listener → List (List ℕ) → Listener
after s [] = s
after s (bytes ∷ more) = after (step s bytes).listener more

-- ---- its counts

-- no count passes the buckets of two cycles, and one cycle start is passed at most
pub record Limits (s : Listener) : Type 0 where
  pub heard : s.heard ≤ 2 * buckets_most
  pub elapsed : s.elapsed ≤ 2 * buckets_most
  pub doze : s.doze ≤ 2 * buckets_most
  pub passed : s.passed ≤ 1

abbrev pub CountsLimited : Type 0
CountsLimited = (tag : ℕ) (given : List (List ℕ)) → Limits (after (start tag) given)

-- ---- 10

-- the tune-in bucket: the first one given, or the one at hand
abbrev pub read_or : Bucket → Option Bucket → Bucket
read_or b None = b
read_or b (Some c) = c

abbrev pub tune_in_bucket : List (List ℕ) → Bucket → Bucket
tune_in_bucket [] b = b
tune_in_bucket (bytes ∷ more) b = read_or b (read_bucket bytes)

-- 10 at a bucket that 9 lets pass, and a distance that it may have: counted from the start of tune-in's cycle, the next bucket
-- lies past that cycle and the one after it. "10 counts the new cycle's N": past a start it is the N of the bucket at hand.
abbrev pub PastByCount : Type 0
PastByCount =
    (tag : ℕ) (given : List (List ℕ)) (bytes : List ℕ) (b : Bucket) (d : ℕ) → read_bucket bytes ≡ Some b →
    awaited (after (start tag) given) b ≡ true → d ≤ b.to_cycle →
    past_next_cycle (after (start tag) given) b d ≡
    ltb (cycle_length (tune_in_bucket given b) + cycle_length b)
    ((tune_in_bucket given b).position + (elapsed_with (after (start tag) given) + d))

-- ---- a lookup's run

-- whatever the image and the answer where the steps are spent, and however many more there are: the run ends before that
abbrev pub NeverSpent : Type 0
NeverSpent =
    (image : List ℕ) (count tag t : ℕ) (spent : ℕ → Finish) (more : ℕ) →
    run_else spent image count (run_budget + more) t (start tag) [] ≡ run image count run_budget t (start tag) []

-- ---- lost buckets: document 02, C-16

-- what is handed in: a bucket's bytes, or none for a lost one
abbrev pub handed_in : Listener → Option (List ℕ) → Stepped
handed_in s None = lost s
handed_in s (Some bytes) = step s bytes

abbrev pub after_all : Listener → List (Option (List ℕ)) → Listener
after_all s [] = s
after_all s (x ∷ more) = after_all (handed_in s x).listener more

-- the numbers of the answers, one after the other
abbrev pub answers_to : Listener → List (Option (List ℕ)) → List (List ℕ)
answers_to s [] = []
answers_to s (x ∷ more) = step_numbers (handed_in s x) ∷ answers_to (handed_in s x).listener more

-- "A count that would pass 4,294,967,295 stops there.": no count is above it
abbrev pub CountsStop : Type 0
CountsStop =
    (tag : ℕ) (given : List (Option (List ℕ))) →
    ((after_all (start tag) given).heard ≤ count_most) × ((after_all (start tag) given).elapsed ≤ count_most)

-- No answer hangs on the counts, 10 among them: of any listener, whatever is handed in to it.
abbrev pub CountsUnread : Type 0
CountsUnread =
    (s : Listener) (heard elapsed : ℕ) (given : List (Option (List ℕ))) →
    answers_to (counting s heard elapsed) given ≡ answers_to s given

-- "the display then starts over with the next bucket as its tune-in": behind a lost bucket the answers are those of a listener
-- just started with the tag.
abbrev pub StartsOver : Type 0
StartsOver =
    (s : Listener) → is_ended s.phase ≡ false → (given : List (Option (List ℕ))) →
    answers_to (lost s).listener given ≡ answers_to (start s.tag) given
