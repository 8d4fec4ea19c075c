-- Document 01, "Refused inputs", with document 02, C-13: reading back, with the conditions 1, 11, 13 and 7 in that order; and
-- demand 2 of it.
-- Assumes nothing.
use Rattle.std.specs.Prelude.{ℕ, ◌/◌, ◌%◌, ◌≤◌, ◌<◌, ◌≡◌, Bool, true, false, ◌&&◌, not, List, [], ◌∷◌, leb, eqb, length}
use Rattle.std.specs.Prelude.{Option, None, Some, Result, Ok, Err}
use Rattle.columns.specs.Lists.{joined, parts, same}
use Rattle.buckets.specs.declared.Line.{Line}
use Rattle.buckets.specs.Lengths.{line_length, bucket_length, buckets_most}
use Rattle.buckets.specs.ListLine.{print_line, blanked_list}
use Rattle.buckets.specs.Bucket.{read_bucket}
use Rattle.buckets.specs.BucketLines.{lines_read}
use Rattle.cycle.specs.Refusals.{refusal, Condition, row, first_refusal, numbers_of}
use Rattle.cycle.specs.Building.{build, settings_fit, settings_out, buffer_too_short}
use Rattle.cycle.specs.declared.Settings.{Settings}
use Rattle.cycle.specs.declared.Reason.TheVariants.{BufferTooShort, ImageLengthOut, NoListBuilds}
use Rattle.cycle.specs.declared.Refusal.{Refusal}

-- ---- the list that an image holds

-- the lines that the data buckets of an image hold, in order
unfoldable pub sent_lines : List ℕ → List Line
sent_lines image = joined (λ bytes. lines_read (read_bucket bytes)) (parts (length image / bucket_length) bucket_length image)

-- those lines as the bytes of a list
unfoldable pub sent_list : List ℕ → List ℕ
sent_list image = joined print_line (sent_lines image)

-- whether building answers with a cycle
abbrev pub is_cycle : Result ℕ Refusal → Bool
is_cycle (Ok n) = true
is_cycle (Err r) = false

-- whether the list and the settings build the image: building into as many bytes gives it
unfoldable pub builds : Settings → List ℕ → List ℕ → Bool
builds s list image = is_cycle (build s list (length image)).answer && same (build s list (length image)).output image

-- ---- the conditions

-- at least one bucket, each whole, at most 99,999
unfoldable pub whole_buckets : ℕ → Bool
whole_buckets c = leb 1 c && (eqb (c % bucket_length) 0 && leb (c / bucket_length) buckets_most)

-- 11: "image empty, no multiple of 240, or over 99,999 buckets"
abbrev pub image_length_out : List ℕ → Condition
image_length_out image = row ImageLengthOut (not (whole_buckets (length image)))

-- 13: "no list builds this image under these settings": a list that does is, but for leading zeros, the one that the image holds
abbrev pub none_builds : Settings → List ℕ → Condition
none_builds s image = row NoListBuilds (not (builds s (sent_list image) image))

-- "Reading back: 1, 11, 13, 7."
unfoldable pub conditions : Settings → List ℕ → ℕ → List Condition
conditions s image room =
    settings_out s ∷
    image_length_out image ∷
    none_builds s image ∷
    buffer_too_short room (length (sent_list image)) ∷ []

-- ---- the outcome

-- what reading back answers, and the bytes that it writes at the front of the lent buffer
pub record Outcome : Type 0 where
  pub answer : Result ℕ Refusal
  pub output : List ℕ

-- the numbers that an answer stands for: refusal number (0: none) and place, and the number of lines; a refusal has no count
abbrev pub numbers : Result ℕ Refusal → List ℕ
numbers = numbers_of (λ c. c ∷ [])

-- a list handed out: reading back returns "the number of lines"
abbrev pub handed : List ℕ → Outcome
handed list = record { answer = Ok (length list / line_length); output = list }

abbrev pub refused : Refusal → Outcome
refused r = record { answer = Err r; output = [] }

abbrev pub outcome : Option Refusal → List ℕ → Outcome
outcome (Some r) list = refused r
outcome None list = handed list

-- reading an image back into a lent buffer, which has room for `room` bytes
unfoldable pub read_back : Settings → List ℕ → ℕ → Outcome
read_back s image room = outcome (first_refusal (conditions s image room)) (sent_list image)

-- ---- demand 2

-- the list and the settings build the image
pub record Builds (s : Settings) (list image : List ℕ) : Type 0 where
  pub answers : (build s list (length image)).answer ≡ Ok (length image / bucket_length)
  pub writes : (build s list (length image)).output ≡ image

-- no list does
abbrev pub NoneBuilds : Settings → List ℕ → Type 0
NoneBuilds s image = (list : List ℕ) → Builds s list image → ⊥

-- some list does that is longer than the room
pub record BuildsOver (s : Settings) (image : List ℕ) (room : ℕ) : Type 0 where
  pub list : List ℕ
  pub built : Builds s list image
  pub over : room < length list

-- "Read back, a cycle is accepted exactly if some list and the given settings build it and the lent buffer has room for that
-- list, and that list is handed out." Document 02, C-13: "A list read back from an image is the list with its leading zeros made
-- blank".
pub record AcceptedExactly (s : Settings) (image : List ℕ) (room : ℕ) (o : Outcome) : Type 0 where
  -- if some list and the settings build it and there is room for that list, it is handed out with its leading zeros made blank
  pub accepts : (list : List ℕ) → Builds s list image → length list ≤ room → o ≡ handed (blanked_list list)
  -- only then, and what is handed out is that list
  pub accepted_built : (c : ℕ) → o.answer ≡ Ok c → Builds s o.output image
  pub accepted_fits : (c : ℕ) → o.answer ≡ Ok c → length o.output ≤ room
  pub accepted_count : (c : ℕ) → o.answer ≡ Ok c → c ≡ length o.output / line_length
  -- 13 exactly where settings and length pass and no list builds it
  pub refuses_13 : settings_fit s ≡ true → whole_buckets (length image) ≡ true → NoneBuilds s image → o ≡ refused (refusal NoListBuilds 0)
  pub refused_13 :
      (place : ℕ) → o.answer ≡ Err (refusal NoListBuilds place) →
      (settings_fit s ≡ true) × (whole_buckets (length image) ≡ true) × NoneBuilds s image
  -- 7 exactly where some list builds it and is longer than the room
  pub refuses_7 : (list : List ℕ) → Builds s list image → room < length list → o ≡ refused (refusal BufferTooShort 0)
  pub refused_7 : (place : ℕ) → o.answer ≡ Err (refusal BufferTooShort place) → BuildsOver s image room

-- whatever the settings, the image and the room
abbrev pub EveryReadBack : Type 0
EveryReadBack = (s : Settings) (image : List ℕ) (room : ℕ) → AcceptedExactly s image room (read_back s image room)
