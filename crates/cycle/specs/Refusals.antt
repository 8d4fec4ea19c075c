-- Document 01, "Refused inputs": the conditions of a call in their order, and the refusal by the first of them that holds.
-- Assumes nothing.
use Rattle.std.specs.Prelude.{ℕ, Bool, List, [], ◌∷◌}
use Rattle.std.specs.Prelude.{Option, None, Some, Result, Ok, Err}
use Rattle.columns.specs.Lists.{pick}
use Rattle.cycle.specs.declared.Reason.{Reason}
use Rattle.cycle.specs.declared.Reason.TheVariants.{SettingsOut, LengthOut, LineMisprinted, TagFalls, CopiesOut, CycleTooLong, BufferTooShort, BucketMisprinted, NotAwaited, PastNextCycle, ImageLengthOut, TuneInOut, NoListBuilds, ListenerEnded, NotInList, NoPlace, NoLine}
use Rattle.cycle.specs.declared.Refusal.{Refusal}

-- the numbers of the table
abbrev pub number : Reason → ℕ
number SettingsOut = 1
number LengthOut = 2
number LineMisprinted = 3
number TagFalls = 4
number CopiesOut = 5
number CycleTooLong = 6
number BufferTooShort = 7
number BucketMisprinted = 8
number NotAwaited = 9
number PastNextCycle = 10
number ImageLengthOut = 11
number TuneInOut = 12
number NoListBuilds = 13
number ListenerEnded = 14
number NotInList = 15
number NoPlace = 16
number NoLine = 17

-- "A refusal returns number and place"
abbrev pub refusal : Reason → ℕ → Refusal
refusal reason place = record { reason = reason; place = place }

-- a condition of the table: its reason, and the place where it holds, none where it does not hold
pub record Condition : Type 0 where
  pub reason : Reason
  pub holds : Option ℕ

-- a condition that names no place: "place 0 unless named"
abbrev pub row : Reason → Bool → Condition
row reason test = record { reason = reason; holds = pick test (Some 0) None }

-- a condition that names its place
abbrev pub row_at : Reason → Option ℕ → Condition
row_at reason place = record { reason = reason; holds = place }

-- the refusal by a condition found at a place, or, where it was found nowhere, by the first of the later ones that holds
abbrev pub refusal_from : List Condition → Reason → Option ℕ → Option Refusal
refusal_from [] reason (Some place) = Some (refusal reason place)
refusal_from [] reason None = None
refusal_from (c ∷ later) reason (Some place) = Some (refusal reason place)
refusal_from (c ∷ later) reason None = refusal_from later c.reason c.holds

-- the refusal by the first condition that holds, none where none of them holds
abbrev pub first_refusal : List Condition → Option Refusal
first_refusal [] = None
first_refusal (c ∷ later) = refusal_from later c.reason c.holds

-- ---- an answer

-- a refusal, else what was asked for
abbrev pub outcome : {A : Type 0} → Option Refusal → A → Result A Refusal
outcome (Some r) a = Err r
outcome None a = Ok a

-- the numbers that an answer stands for: refusal number (0: none) and place, and those of what was asked for; a refusal has none
abbrev pub numbers_of : {A : Type 0} → (A → List ℕ) → Result A Refusal → List ℕ
numbers_of figures (Ok a) = 0 ∷ 0 ∷ figures a
numbers_of figures (Err r) = number r.reason ∷ r.place ∷ []
