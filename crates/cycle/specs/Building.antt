-- Document 01, "Refused inputs": building, with the conditions 1 to 7 in that order.
-- Assumes nothing.
use Rattle.std.specs.Prelude.{ℕ, ◌-◌, min, max, Bool, ◌&&◌, not, List, [], ◌∷◌, leb, ltb, eqb, length}
use Rattle.std.specs.Prelude.{Option, None, Some, Result, Ok, Err}
use Rattle.columns.specs.Lists.{pick}
use Rattle.buckets.specs.Lengths.{buckets_most}
use Rattle.buckets.specs.ListLine.{cut_lines, list_lines, whole_lines, misprint_from, fall_from}
use Rattle.cycle.specs.Refusals.{Condition, row, row_at, first_refusal, numbers_of}
use Rattle.cycle.specs.Tree.{Plan, plan}
use Rattle.cycle.specs.Cycle.{cycle_size, image_length, image}
use Rattle.cycle.specs.declared.Settings.{Settings}
use Rattle.cycle.specs.declared.Reason.TheVariants.{SettingsOut, LengthOut, LineMisprinted, TagFalls, CopiesOut, CycleTooLong, BufferTooShort}
use Rattle.cycle.specs.declared.Refusal.{Refusal}

-- ---- the conditions

-- n 2 to 8, p 1 to 8, layout 1 or 2
unfoldable pub settings_fit : Settings → Bool
settings_fit s =
    leb 2 s.n && (leb s.n 8 && (leb 1 s.p && (leb s.p 8 && (leb 1 s.layout && leb s.layout 2))))

-- "copies is r, 0 to the lesser of 4 and k - 1", "copies is m, 1 to max(1, D)"
unfoldable pub copies_fit : Plan → Bool
copies_fit t =
    pick (eqb t.layout 1) (leb t.copies (min 4 (t.k - 1))) (leb 1 t.copies && leb t.copies (max 1 t.d))

-- 1: "n, p or layout outside its range"
abbrev pub settings_out : Settings → Condition
settings_out s = row SettingsOut (not (settings_fit s))

-- 2: "list length no multiple of 27, or over 40,000 lines"
abbrev pub list_length_out : List ℕ → Condition
list_length_out list = row LengthOut (not (whole_lines (length list)))

-- 3: "line misprinted; place: first such line"
abbrev pub line_misprinted : List ℕ → Condition
line_misprinted list = row_at LineMisprinted (misprint_from 0 (cut_lines list))

-- 4: "tag falls; place: first such line"
abbrev pub tag_falls : List ℕ → Condition
tag_falls list = row_at TagFalls (fall_from 0 0 (list_lines list))

-- 5: "copies outside its range"
abbrev pub copies_out : Plan → Condition
copies_out t = row CopiesOut (not (copies_fit t))

-- 6: "over 99,999 buckets"
abbrev pub cycle_too_long : Plan → Condition
cycle_too_long t = row CycleTooLong (ltb buckets_most (cycle_size t))

-- 7: "output buffer too short", which has room for `room` bytes where `needed` are to be written
abbrev pub buffer_too_short : ℕ → ℕ → Condition
buffer_too_short room needed = row BufferTooShort (ltb room needed)

-- "Building tests 1 to 7 in that order, each over the whole list."
unfoldable pub conditions : Settings → List ℕ → ℕ → List Condition
conditions s list room =
    let t : Plan = plan s (list_lines list) in
    settings_out s ∷
    list_length_out list ∷
    line_misprinted list ∷
    tag_falls list ∷
    copies_out t ∷
    cycle_too_long t ∷
    buffer_too_short room (image_length t) ∷ []

-- ---- the outcome

-- what building answers, and the bytes that it writes at the front of the lent buffer
pub record Outcome : Type 0 where
  pub answer : Result ℕ Refusal
  pub output : List ℕ

-- the numbers that an answer stands for: refusal number (0: none) and place, and N; a refusal has no count
abbrev pub numbers : Result ℕ Refusal → List ℕ
numbers = numbers_of (λ n. n ∷ [])

-- a refusal writes nothing; "Building returns N"
abbrev pub outcome : Option Refusal → Plan → Outcome
outcome (Some r) t = record { answer = Err r; output = [] }
outcome None t = record { answer = Ok (cycle_size t); output = image t }

-- building from a list's bytes
unfoldable pub build : Settings → List ℕ → ℕ → Outcome
build s list room = outcome (first_refusal (conditions s list room)) (plan s (list_lines list))
