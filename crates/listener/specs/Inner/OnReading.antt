-- What a listener takes from a bucket as the code holds one. These definitions serve the contracts of private functions
-- alone; the public ones cite Listener and Lookup.
-- Assumes nothing.
use Rattle.std.specs.Prelude.{ℕ, ◌+◌, ◌≤◌, ◌≡◌, Bool, true, false, List, [], ◌∷◌, map, leb}
use Rattle.std.specs.Prelude.{Option, None, Some}
use Rattle.std.specs.Option.{option_map}
use Rattle.columns.specs.Lists.{pick, every}
use Rattle.buckets.specs.Lengths.{buckets_most}
use Rattle.buckets.specs.declared.Line.{Line}
use Rattle.buckets.specs.declared.Head.{Head}
use Rattle.buckets.specs.declared.Pair.{Pair}
use Rattle.buckets.specs.declared.Entry.{Entry}
use Rattle.buckets.specs.Bucket.{read_bucket}
use Rattle.buckets.specs.Inner.Held.{Reading, reading_of}
use Rattle.listener.specs.Listener.{at_most}
use Rattle.listener.specs.declared.Phase.{Phase}
use Rattle.listener.specs.declared.Phase.TheVariants

-- ---- index buckets

-- the distance of the first item that passes f
abbrev pub chosen : {A : Type 0} → (A → Bool) → (A → ℕ) → List A → Option ℕ
chosen f distance [] = None
chosen f distance (x ∷ xs) = pick (f x) (Some (distance x)) (chosen f distance xs)

-- the distance of the first control pair if it is to be followed
abbrev pub first_chosen : ℕ → List Pair → Option ℕ
first_chosen tag [] = None
first_chosen tag (p ∷ ps) = pick (at_most tag p.tag) (Some p.distance) None

-- ---- data buckets

-- a line of which the tag alone is known
unfoldable pub tagged : ℕ → Line
tagged t = record { tag = t; tare = 0; code = 0; weighing = 0 }

-- lines by their tags
unfoldable pub tagged_lines : List ℕ → List Line
tagged_lines ts = map tagged ts

-- ---- what is awaited

abbrev pub is_tune_in : Phase → Bool
is_tune_in TheVariants.TuneIn = true
is_tune_in TheVariants.Index = false
is_tune_in TheVariants.Either = false
is_tune_in TheVariants.Data = false
is_tune_in TheVariants.Ended = false

-- ---- what a well printed bucket keeps

pub record SoundHead (h : Head) : Type 0 where
  pub ahead : 1 ≤ h.to_cycle
  pub short : h.position + h.to_cycle ≤ buckets_most
  pub segment_near : h.to_segment ≤ buckets_most

-- no distance is longer than a cycle
pub record Near (ps : List Pair) (es : List Entry) : Type 0 where
  pub pairs_near : every (λ p. leb p.distance buckets_most) ps ≡ true
  pub entries_near : every (λ e. leb e.distance buckets_most) es ≡ true

-- the outcome of a strict reading of some bytes
pub record WasRead (r : Option Reading) : Type 0 where
  pub bytes : List ℕ
  pub is : r ≡ option_map reading_of (read_bucket bytes)
