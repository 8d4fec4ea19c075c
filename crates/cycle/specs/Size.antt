-- Document 02, C-11, "Size before sending": the figures of a cycle from a number of lines, before any list exists; and that they
-- agree with what building a list of that many lines gives.
-- Assumes nothing.
use Rattle.std.specs.Prelude.{◌≡◌, ℕ, ◌+◌, ◌*◌, ◌≤◌, ◌<◌, min, max, not, List, [], ◌∷◌, length}
use Rattle.std.specs.Prelude.{None, Result, Ok}
use Rattle.buckets.specs.Lengths.{line_length}
use Rattle.buckets.specs.ListLine.{list_lines, few_lines}
use Rattle.cycle.specs.Refusals.{Condition, row, first_refusal, outcome, numbers_of}
use Rattle.cycle.specs.Tree.{Plan, plan_for, plan}
use Rattle.cycle.specs.Cycle.{cycle_size, image_length}
use Rattle.cycle.specs.Building as building
use Rattle.cycle.specs.Building.{settings_out, line_misprinted, tag_falls, copies_out, cycle_too_long, build}
use Rattle.cycle.specs.declared.Dimensions.{Dimensions}
use Rattle.cycle.specs.declared.Settings.{Settings}
use Rattle.cycle.specs.declared.Reason.TheVariants.{LengthOut}
use Rattle.cycle.specs.declared.Refusal.{Refusal}

-- ---- the conditions

-- "with 2 for the line count alone": "over 40,000 lines"
abbrev pub too_many_lines : ℕ → Condition
too_many_lines c = row LengthOut (not (few_lines c))

-- "1, 2, 5 and 6 are given as there", in building's order
unfoldable pub conditions : Settings → ℕ → List Condition
conditions s c =
    let t : Plan = plan_for s c [] in
    settings_out s ∷ too_many_lines c ∷ copies_out t ∷ cycle_too_long t ∷ []

-- ---- the figures

-- demand 3's limit on heard buckets, "2 + k + max(1, C)"
abbrev pub heard_most : ℕ → ℕ → ℕ
heard_most k c = 2 + k + max 1 c

-- "give k, D, N, the image's bytes, and the limit on heard buckets for a tag lying in C data buckets. A C above D is taken as
-- D."
unfoldable pub dimensions : Plan → ℕ → Dimensions
dimensions t c =
    record { k = t.k; d = t.d; n = cycle_size t; bytes = image_length t; heard = heard_most t.k (min c t.d) }

-- the numbers that an answer stands for: refusal number (0: none) and place, and the figures; a refusal has none
abbrev pub numbers : Result Dimensions Refusal → List ℕ
numbers = numbers_of (λ f. f.k ∷ f.d ∷ f.n ∷ f.bytes ∷ f.heard ∷ [])

-- "From a number of lines, the settings and a number C": lines is the one, c the other
unfoldable pub size : Settings → ℕ → ℕ → Result Dimensions Refusal
size s lines c = outcome (first_refusal (conditions s lines)) (dimensions (plan_for s lines []) c)

-- ---- "The figures agree with what building a list of that many lines gives, and 1, 2, 5 and 6 are given as there"

-- a list of that many lines, of which building refuses none: 3 and 4 do not hold
pub record Listed (lines : ℕ) (list : List ℕ) : Type 0 where
  pub count : length list ≡ line_length * lines
  pub printed : (line_misprinted list).holds ≡ None
  pub rising : (tag_falls list).holds ≡ None

-- what building a list answers into a buffer with room for `room` bytes, by its numbers
abbrev pub built : Settings → List ℕ → ℕ → List ℕ
built s list room = building.numbers (build s list room).answer

pub record Agrees (s : Settings) (lines c : ℕ) (list : List ℕ) (room : ℕ) : Type 0 where
  -- what is refused here is refused there, by the same number and place
  pub refused : (number place : ℕ) → numbers (size s lines c) ≡ number ∷ place ∷ [] → built s list room ≡ number ∷ place ∷ []
  -- and what is refused there is refused here, but for 7, which this call has no buffer for
  pub refused_there :
      (number place : ℕ) → built s list room ≡ number ∷ place ∷ [] → (number ≡ 7 → ⊥) →
      numbers (size s lines c) ≡ number ∷ place ∷ []
  -- 7 exactly where the image's bytes do not fit
  pub too_short : (f : Dimensions) → size s lines c ≡ Ok f → room < f.bytes → built s list room ≡ 7 ∷ 0 ∷ []
  -- "The figures agree": N, the image's bytes, k and D
  pub built_size : (f : Dimensions) → size s lines c ≡ Ok f → f.bytes ≤ room → built s list room ≡ 0 ∷ 0 ∷ f.n ∷ []
  pub built_bytes : (f : Dimensions) → size s lines c ≡ Ok f → f.bytes ≤ room → length (build s list room).output ≡ f.bytes
  pub levels_agree : (f : Dimensions) → size s lines c ≡ Ok f → (plan s (list_lines list)).k ≡ f.k
  pub data_agree : (f : Dimensions) → size s lines c ≡ Ok f → (plan s (list_lines list)).d ≡ f.d

-- whatever the settings, the number of lines and C, for every such list and every buffer
abbrev pub EverySize : Type 0
EverySize = (s : Settings) (lines c : ℕ) (list : List ℕ) (room : ℕ) → Listed lines list → Agrees s lines c list room
