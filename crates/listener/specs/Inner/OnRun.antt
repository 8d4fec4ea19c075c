-- What a lookup's run hands on, as the code holds it. These definitions serve the contracts of private functions alone; the
-- public ones cite Listener and Lookup.
-- Assumes nothing.
use Rattle.std.specs.Prelude.{ℕ, ◌+◌, ◌*◌, ◌≤◌, ◌<◌, ◌%◌, ◌≡◌, List, [], ◌++◌, ltb, length, drop}
use Rattle.std.specs.Prelude.{None, Result, Ok, Err}
use Rattle.columns.specs.Lists.{pick}
use Rattle.buckets.specs.Lengths.{line_columns_width, line_length, lines_start}
use Rattle.buckets.specs.declared.Line.{Line}
use Rattle.buckets.specs.ListLine.{ended_lines}
use Rattle.listener.specs.Listener.{start, step, named}
use Rattle.cycle.specs.Cycle.{bucket_at}
use Rattle.listener.specs.Lookup.{Finish, run_budget, run, after_answer, found, absent, refused, whole_run, as_ending, Outcome, refuse, outcome}
use Rattle.listener.specs.Started.{after}
use Rattle.listener.specs.declared.Listener.{Listener}
use Rattle.listener.specs.declared.hearing.Heard.{Heard}
use Rattle.listener.specs.declared.hearing.Ran.{Ran}
use Rattle.cycle.specs.Refusals.{refusal}
use Rattle.cycle.specs.declared.Refusal.{Refusal}
use Rattle.cycle.specs.declared.Reason.TheVariants.{BufferTooShort}

-- a bucket of the image that a started listener heard
pub record WasHeard (image : List ℕ) (count : ℕ) (h : Heard) : Type 0 where
  pub tag : ℕ
  pub given : List (List ℕ)
  pub is : h.step ≡ step (after (start tag) given) (bucket_at image h.x)
  pub inside : h.x < count

-- the bucket at x as a listener hears it
abbrev pub heard_at : List ℕ → ℕ → Listener → Heard
heard_at image x l = record { x = x; step = step l (bucket_at image x) }

-- the bucket heard after a doze by d
unfoldable pub heard_next : List ℕ → ℕ → Heard → ℕ → Heard
heard_next image count h d = heard_at image ((h.x + d) % count) h.step.listener

-- the run on from a bucket heard, `got` being the lines named before it
unfoldable pub run_on : List ℕ → ℕ → Heard → List Line → Finish
run_on image count h got =
    after_answer (run image count run_budget) count h.x (got ++ named (bucket_at image h.x) h.step)
    h.step.listener h.step.answer

-- a bucket that the run can be written from: no lines were got before it
pub record Begins (image : List ℕ) (count : ℕ) (goal : Finish) (h : Heard) : Type 0 where
  pub heard : WasHeard image count h
  pub all : goal ≡ run_on image count h []

-- a run to its end, or the refusal that ended it
abbrev pub RanFrom : List ℕ → ℕ → ℕ → ℕ → Result Ran Refusal → Type 0
RanFrom image count tag t (Ok r) =
    Begins image count (whole_run image count tag t) r.from × (as_ending (whole_run image count tag t) ≡ Ok r.ending)
RanFrom image count tag t (Err r) = as_ending (whole_run image count tag t) ≡ Err r

-- it finds lines that a buffer has room for
pub record FoundWithin (f : Finish) (room : ℕ) : Type 0 where
  pub listener : Listener
  pub got : List Line
  pub is : f ≡ found listener got
  pub fits : line_length * length got ≤ room

-- count lines of bucket x from its line `first` on, as list lines
abbrev pub lines_in : List ℕ → ℕ → ℕ → ℕ → List ℕ
lines_in image x first count = ended_lines count (drop (lines_start + line_columns_width * first) (bucket_at image x))

-- ---- a lookup's outcome by its run, 7 told apart

abbrev pub concluded : ℕ → Finish → Outcome
concluded room (found s got) =
    pick (ltb room (line_length * length got)) (refuse (refusal BufferTooShort 0)) (outcome None (found s got))
concluded room (absent s) = outcome None (absent s)
concluded room (refused reason place) = refuse (refusal reason place)
