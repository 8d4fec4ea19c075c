-- The numbers of an answer tell it: different reasons have different numbers, and none has 0.
-- Assumes nothing.
use Rattle.std.proofs.Common.{◌≡◌, ℕ, ◌-◌, List, [], ◌∷◌, Ok, Err, refl, sym, ap, ◌∙◌, arith, get_or}
use Rattle.std.specs.Prelude.{Result}
use Rattle.cycle.specs.Refusals.{number, refusal, numbers_of}
use Rattle.cycle.specs.declared.Reason.{Reason}
use Rattle.cycle.specs.declared.Reason.TheVariants.{SettingsOut, LengthOut, LineMisprinted, TagFalls, CopiesOut, CycleTooLong, BufferTooShort, BucketMisprinted, NotAwaited, PastNextCycle, ImageLengthOut, TuneInOut, NoListBuilds, ListenerEnded, NotInList, NoPlace, NoLine}
use Rattle.cycle.specs.declared.Refusal.{Refusal}

-- the reasons in the order of their numbers
abbrev reasons : List Reason
reasons =
    SettingsOut ∷ LengthOut ∷ LineMisprinted ∷ TagFalls ∷ CopiesOut ∷ CycleTooLong ∷ BufferTooShort ∷ BucketMisprinted ∷ NotAwaited ∷
    PastNextCycle ∷ ImageLengthOut ∷ TuneInOut ∷ NoListBuilds ∷ ListenerEnded ∷ NotInList ∷ NoPlace ∷ NoLine ∷ []

-- the reason with a number
abbrev pub reason_by : ℕ → Reason
reason_by n = get_or reasons (n - 1) SettingsOut

pub reason_back : (r : Reason) → reason_by (number r) ≡ r
reason_back SettingsOut = refl
reason_back LengthOut = refl
reason_back LineMisprinted = refl
reason_back TagFalls = refl
reason_back CopiesOut = refl
reason_back CycleTooLong = refl
reason_back BufferTooShort = refl
reason_back BucketMisprinted = refl
reason_back NotAwaited = refl
reason_back PastNextCycle = refl
reason_back ImageLengthOut = refl
reason_back TuneInOut = refl
reason_back NoListBuilds = refl
reason_back ListenerEnded = refl
reason_back NotInList = refl
reason_back NoPlace = refl
reason_back NoLine = refl

pub number_told : (a b : Reason) → number a ≡ number b → a ≡ b
number_told a b h = sym (reason_back a) ∙ ap reason_by h ∙ reason_back b

pub number_some : (r : Reason) → number r ≡ 0 → ⊥
number_some SettingsOut h = omega arith
number_some LengthOut h = omega arith
number_some LineMisprinted h = omega arith
number_some TagFalls h = omega arith
number_some CopiesOut h = omega arith
number_some CycleTooLong h = omega arith
number_some BufferTooShort h = omega arith
number_some BucketMisprinted h = omega arith
number_some NotAwaited h = omega arith
number_some PastNextCycle h = omega arith
number_some ImageLengthOut h = omega arith
number_some TuneInOut h = omega arith
number_some NoListBuilds h = omega arith
number_some ListenerEnded h = omega arith
number_some NotInList h = omega arith
number_some NoPlace h = omega arith
number_some NoLine h = omega arith

-- answers with the same numbers are the same, if the figures of what was asked for tell it
module _ {A : Type 0} (figures : A → List ℕ) (told : (a b : A) → figures a ≡ figures b → a ≡ b) where
  pub answer_told : (x y : Result A Refusal) → numbers_of figures x ≡ numbers_of figures y → x ≡ y
  answer_told (Ok a) (Ok b) h = let same : figures a ≡ figures b = cc in ap Ok (told a b same)
  answer_told (Ok a) (Err r) h = let zero : number r.reason ≡ 0 = cc in absurd (number_some r.reason zero)
  answer_told (Err r) (Ok a) h = let zero : number r.reason ≡ 0 = cc in absurd (number_some r.reason zero)
  answer_told (Err r) (Err q) h =
      let reason : number r.reason ≡ number q.reason = cc in
      let place : r.place ≡ q.place = cc in
      let same : r.reason ≡ q.reason = number_told r.reason q.reason reason in
      λ i. Err (refusal (same i) (place i))
