-- What the calls for C answer: the numbers that each answer stands for, as a record.
-- Assumes nothing.
use Rattle.std.specs.Prelude.{ℕ, List, [], ◌∷◌, Bool, false, eqb, get_or, Result}
use Rattle.columns.specs.Lists.{pick}
use Rattle.cycle.specs.declared.Counts.{Counts}
use Rattle.cycle.specs.declared.Dimensions.{Dimensions}
use Rattle.cycle.specs.declared.Refusal.{Refusal}
use Rattle.cycle.specs.Refusals.{number, numbers_of}
use Rattle.cycle.specs.Building as building
use Rattle.cycle.specs.Changes as changing
use Rattle.cycle.specs.ReadingBack as reading_back
use Rattle.cycle.specs.Size as sizing
use Rattle.listener.specs.declared.MeanWait.{MeanWait}
use Rattle.listener.specs.declared.Looked.{Looked}
use Rattle.listener.specs.declared.Stepped.{Stepped}
use Rattle.listener.specs.Lookup as lookups
use Rattle.listener.specs.Listener as listening
use Rattle.listener.specs.Mean as averaging
use Rattle.listener.specs.State.{saved, restored}
use Rattle.listener.specs.declared.Answer.{Answer}
use Rattle.listener.specs.declared.Answer.TheVariants.{Doze, Found, Absent, Refused}
use Rattle.pansdaoh.specs.declared.CountAnswer.{CountAnswer}
use Rattle.pansdaoh.specs.declared.LookupAnswer.{LookupAnswer}
use Rattle.pansdaoh.specs.declared.StepAnswer.{StepAnswer}
use Rattle.pansdaoh.specs.declared.LineAnswer.{LineAnswer}
use Rattle.pansdaoh.specs.declared.SizeAnswer.{SizeAnswer}
use Rattle.pansdaoh.specs.declared.ChangeAnswer.{ChangeAnswer}
use Rattle.pansdaoh.specs.declared.MeanAnswer.{MeanAnswer}

-- number, place and count, 0 where there is none: "every count in that result 0"
abbrev pub answer_of : List ℕ → CountAnswer
answer_of a = record { number = get_or a 0 0; place = get_or a 1 0; count = get_or a 2 0 }

-- a refusal or a count
abbrev pub count_answer : Result ℕ Refusal → CountAnswer
count_answer r = answer_of (numbers_of (λ c. c ∷ []) r)

-- building's answer
abbrev pub built_answer : Result ℕ Refusal → CountAnswer
built_answer b = answer_of (building.numbers b)

-- reading back's answer
abbrev pub read_back_answer : Result ℕ Refusal → CountAnswer
read_back_answer b = answer_of (reading_back.numbers b)

-- a lookup's answer
abbrev pub looked_answer : Result Looked Refusal → LookupAnswer
looked_answer l =
    let a : List ℕ = lookups.numbers l in
    record {
      number = get_or a 0 0;
      place = get_or a 1 0;
      end = get_or a 2 0;
      heard = get_or a 3 0;
      elapsed = get_or a 4 0;
      lines = get_or a 5 0;
    }

-- a step's answer, and which lines match
abbrev pub step_answer : Stepped → StepAnswer
step_answer r =
    let a : List ℕ = listening.numbers r.answer in
    record { answer = get_or a 0 0; value = get_or a 1 0; first = r.first; count = r.count }

-- the listener's step from a saved state
unfoldable pub step_from : List ℕ → List ℕ → Stepped
step_from state bucket = listening.step (restored state) bucket

-- a lost bucket, from a saved state
unfoldable pub lost_from : List ℕ → Stepped
lost_from state = listening.lost (restored state)

-- "14 hands it back unchanged"
abbrev pub was_ended : Answer → Bool
was_ended (Doze d) = false
was_ended Found = false
was_ended Absent = false
was_ended (Refused reason) = eqb (number reason) 14

-- the state after a step or a lost bucket: on 14 the eight numbers given, whatever they are
unfoldable pub state_after : List ℕ → Stepped → List ℕ
state_after state r = pick (was_ended r.answer) state (saved r.listener)

-- a bucket's line, by its numbers
abbrev pub line_answer : List ℕ → LineAnswer
line_answer a =
    record {
      number = get_or a 0 0;
      place = get_or a 1 0;
      present = get_or a 2 0;
      tag = get_or a 3 0;
      tare = get_or a 4 0;
      code = get_or a 5 0;
      weighing = get_or a 6 0;
    }

-- the dimensions of a cycle, by their numbers
abbrev pub size_of : List ℕ → SizeAnswer
size_of a =
    record {
      number = get_or a 0 0;
      place = get_or a 1 0;
      k = get_or a 2 0;
      d = get_or a 3 0;
      n = get_or a 4 0;
      bytes = get_or a 5 0;
      heard = get_or a 6 0;
    }

-- sizing's answer
abbrev pub size_answer : Result Dimensions Refusal → SizeAnswer
size_answer r = size_of (sizing.numbers r)

-- a changed list and its cycle, by their numbers
abbrev pub change_of : List ℕ → ChangeAnswer
change_of a =
    record {
      number = get_or a 0 0;
      place = get_or a 1 0;
      lines = get_or a 2 0;
      d = get_or a 3 0;
      k = get_or a 4 0;
      n = get_or a 5 0;
    }

-- the answer of a change
abbrev pub change_answer : Result Counts Refusal → ChangeAnswer
change_answer r = change_of (changing.numbers r)

-- a mean wait, by its numbers
abbrev pub mean_of : List ℕ → MeanAnswer
mean_of a =
    record {
      number = get_or a 0 0;
      place = get_or a 1 0;
      sum = get_or a 2 0;
      divisor = get_or a 3 0;
      quotient = get_or a 4 0;
      remainder = get_or a 5 0;
    }

-- the answer of averaging
abbrev pub mean_answer : Result MeanWait Refusal → MeanAnswer
mean_answer r = mean_of (averaging.numbers r)
