-- The numbers that the promises cite tell different outcomes apart: a step's beside the listener handed back, a
-- lookup's, and a run's.
-- Assumes nothing.
use mathlib.Core.Path.{◌≡◌, refl, sym, ◌∙◌, ap, ap₂}
use Prim.Native.Nat.{ℕ}
use mathlib.Core.List.{List}
use lib.Dec.{eqb}
use lib.ListN.{get_or, drop}
use Rattle.columns.specs.Lists.{pick}
use Rattle.std.specs.Prelude.{Result, Ok, Err}
use Rattle.cycle.specs.Refusals.{refusal}
use Rattle.cycle.specs.declared.Refusal.{Refusal}
use Rattle.cycle.proofs.Basics.Numbers.{reason_by, reason_back}
use Rattle.listener.specs.Listener.{stepped, step_numbers}
use Rattle.listener.specs.Lookup
use Rattle.listener.specs.declared.Listener.{Listener}
use Rattle.listener.specs.declared.Answer.{Answer}
use Rattle.listener.specs.declared.Answer.TheVariants.{Doze, Found, Absent, Refused}
use Rattle.listener.specs.declared.Stepped.{Stepped}
use Rattle.listener.specs.State.{restored}
use Rattle.listener.specs.declared.Ending.{Ending}
use Rattle.listener.specs.declared.Ending.TheVariants as ending
use Rattle.listener.specs.declared.Looked.{Looked}
use Rattle.listener.specs.declared.Looked.TheVariants as looked
use Rattle.listener.proofs.Steps.SavedStates.{restored_saved}

-- ---- a step

-- the outcome of these numbers
unfoldable answer_by : List ℕ → Answer
answer_by a =
    pick (eqb (get_or a 0 0) 1) (Doze (get_or a 1 0))
    (pick (eqb (get_or a 0 0) 2) Found (pick (eqb (get_or a 0 0) 3) Absent (Refused (reason_by (get_or a 1 0)))))

unfoldable stepped_by : Listener → List ℕ → Stepped
stepped_by l a = stepped l (answer_by a) (get_or a 3 0) (get_or a 4 0)

by_answer :
    (l : Listener) (first count : ℕ) (a : Answer) →
    stepped_by l (step_numbers (stepped l a first count)) ≡ stepped l a first count
unfolding answer_by stepped_by step_numbers stepped
by_answer l first count (Doze d) = refl
by_answer l first count Found = refl
by_answer l first count Absent = refl
by_answer l first count (Refused reason) = ap (λ r. stepped l (Refused r) first count) (reason_back reason)

step_back : (r : Stepped) → stepped_by r.listener (step_numbers r) ≡ r
unfolding stepped
step_back r = by_answer r.listener r.first r.count r.answer

pub step_told : (r q : Stepped) → r.listener ≡ q.listener → step_numbers r ≡ step_numbers q → r ≡ q
step_told r q l n = sym (step_back r) ∙ (ap₂ stepped_by l n ∙ step_back q)

-- what a promise of a step says, by the step itself
pub step_tells : {r q : Stepped} → r ≡ q → (r.listener ≡ q.listener) × (step_numbers r ≡ step_numbers q)
step_tells e = (ap (λ z. z.listener) e, ap step_numbers e)

-- ---- a lookup

unfoldable looked_by : List ℕ → Result Looked Refusal
looked_by a =
    pick (eqb (get_or a 2 0) 1) (Ok (looked.Found (get_or a 3 0) (get_or a 4 0) (get_or a 5 0)))
    (pick (eqb (get_or a 2 0) 2) (Ok (looked.Absent (get_or a 3 0) (get_or a 4 0)))
    (Err (refusal (reason_by (get_or a 0 0)) (get_or a 1 0))))

looked_back : (a : Result Looked Refusal) → looked_by (Lookup.numbers a) ≡ a
unfolding looked_by
looked_back (Ok (looked.Found heard elapsed lines)) = refl
looked_back (Ok (looked.Absent heard elapsed)) = refl
looked_back (Err r) = ap (λ z. Err (refusal z r.place)) (reason_back r.reason)

pub looked_told : (a b : Result Looked Refusal) → Lookup.numbers a ≡ Lookup.numbers b → a ≡ b
looked_told a b e = sym (looked_back a) ∙ (ap looked_by e ∙ looked_back b)

-- ---- a run

unfoldable ending_by : List ℕ → Result Ending Refusal
ending_by a =
    pick (eqb (get_or a 2 0) 1) (Ok (ending.Found (restored (drop 4 a)) (get_or a 3 0)))
    (pick (eqb (get_or a 2 0) 2) (Ok (ending.Absent (restored (drop 4 a))))
    (Err (refusal (reason_by (get_or a 0 0)) (get_or a 1 0))))

ending_back : (e : Result Ending Refusal) → ending_by (Lookup.ending_numbers e) ≡ e
unfolding ending_by
ending_back (Ok (ending.Found s lines)) = ap (λ z. Ok (ending.Found z lines)) (restored_saved s)
ending_back (Ok (ending.Absent s)) = ap (λ z. Ok (ending.Absent z)) (restored_saved s)
ending_back (Err r) = ap (λ z. Err (refusal z r.place)) (reason_back r.reason)

pub ending_told : (a b : Result Ending Refusal) → Lookup.ending_numbers a ≡ Lookup.ending_numbers b → a ≡ b
ending_told a b e = sym (ending_back a) ∙ (ap ending_by e ∙ ending_back b)
