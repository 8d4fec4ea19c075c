-- What a change answers: its refusals in their order; and, where none of them holds, what building the changed list gives.
-- Assumes nothing.
use mathlib.Core.Path.{◌≡◌, refl, sym, ap, ◌∙◌}
use Prim.Native.Nat.{ℕ, ◌%◌, ◌≤◌}
use native.Mathlib.Nat.{mul_comm, mul-mod_left}
use native.Mathlib.Omega.{arith}
use mathlib.Core.Bool.{true}
use Rattle.std.specs.Prelude.{Option, None, Some, Result, Ok, Err}
use mathlib.Core.List.{List, [], ◌∷◌, ◌++◌}
use lib.ListN.{length}
use Rattle.columns.specs.Lists.{onto}
use Rattle.buckets.specs.ListLine.{list_lines, whole_lines}
use Rattle.buckets.specs.Lengths.{line_length, lines_most}
use Rattle.buckets.proofs.Lists.{length_list_lines}
use Rattle.cycle.specs.Refusals.{refusal, first_refusal}
use Rattle.cycle.specs.Refusals.{outcome as answer_by}
use Rattle.cycle.specs.Tree.{plan}
use Rattle.cycle.specs.declared.Settings.{Settings}
use Rattle.cycle.specs.Cycle.{cycle_size}
use Rattle.cycle.specs.Building as building
use Rattle.cycle.specs.Building.{settings_fit, build}
use Rattle.cycle.specs.Judging.{judge, figures_of, plan_conditions}
use Rattle.cycle.specs.Size.{Listed}
use Rattle.cycle.specs.Changes.{given_conditions, Change, conditions, Outcome, counts, outcome, change}
use Rattle.cycle.specs.declared.Figures.{Figures}
use Rattle.cycle.specs.declared.Counts.{Counts}
use Rattle.cycle.specs.declared.Refusal.{Refusal}
use Rattle.cycle.specs.declared.Source.TheVariants.{List as InList}
use Rattle.cycle.specs.Inner.Held.{plan_of, sized, plan_in, written}
use Rattle.cycle.specs.Inner.Settings.{Figured}
use Rattle.cycle.specs.Inner.Changing.{counts_held}
use Rattle.cycle.proofs.Basics.Conditions.{none_before, first_stands, refused_by, passed_by}
use Rattle.cycle.proofs.Building.Refusals.{count_lines}
use Rattle.cycle.proofs.Building.Answering as answering
use Rattle.cycle.proofs.Building.Answering.{lines_fit, room_judged, builds_judged}
use Rattle.cycle.proofs.Building.PlanFigures.{plan_same}

-- an answer and both buffers, from what they were, are those of an outcome
abbrev pub Answers : Result Counts Refusal → Outcome → List ℕ → List ℕ → List ℕ → List ℕ → Type 0
Answers r o buffer buffer' out out' =
    (r ≡ o.answer) × (buffer' ≡ onto o.list buffer) × (out' ≡ onto o.cycle out)

-- ---- a list that building does not refuse by 2, 3 or 4

module _ (s : Settings) (list : List ℕ) (room count : ℕ) (fit : settings_fit s ≡ true) (few : count ≤ lines_most) (l : Listed count list) where
  pub listed_whole : whole_lines (length list) ≡ true
  listed_whole =
      let parts : length list % line_length ≡ 0 = rw (l.count, mul_comm line_length count) (mul-mod_left count line_length) in
      lines_fit (length list) parts (omega (arith, count_lines list count l.count))

  pub listed_count : length (list_lines list) ≡ count
  listed_count = length_list_lines list ∙ count_lines list count l.count

  -- building refuses it by 5 to 7 alone
  pub built_by_plan : first_refusal (building.conditions s list room) ≡ first_refusal (plan_conditions (plan s (list_lines list)) room)
  built_by_plan = answering.passed s list room fit listed_whole l.printed l.rising

  -- figures of its number of lines are judged as it is
  pub figures_judged :
      (f : Figures) → Figured s f → f.lines ≡ count →
      answer_by (first_refusal (plan_conditions (plan_of f []) room)) (sized f (cycle_size (plan_of f []))) ≡ judge s list room
  figures_judged f g e =
      let lines : f.lines ≡ length (list_lines list) = e ∙ sym listed_count in
      room_judged f s list room built_by_plan (plan_same s f (list_lines list) g (sym lines)) lines

module _ (s : Settings) (buffer : List ℕ) (lines : ℕ) (given : List ℕ) (c : Change) (room : ℕ) where
  abbrev all : Option Refusal
  all = first_refusal (conditions s buffer lines given c room)

  -- ---- the conditions in their order

  pub given_refused : (r : Refusal) → first_refusal (given_conditions s buffer lines given) ≡ Some r → all ≡ Some r
  unfolding conditions
  given_refused r h = first_stands (given_conditions s buffer lines given) (c.own ∷ plan_conditions (plan s (list_lines c.list)) room) r h

  module _ (passed : first_refusal (given_conditions s buffer lines given) ≡ None) where
    pub own_holds : (place : ℕ) → c.own.holds ≡ Some place → all ≡ Some (refusal c.own.reason place)
    unfolding conditions plan_conditions
    own_holds place e =
        none_before (given_conditions s buffer lines given) (c.own ∷ plan_conditions (plan s (list_lines c.list)) room) passed ∙ rw e

    pub own_passed : c.own.holds ≡ None → all ≡ first_refusal (plan_conditions (plan s (list_lines c.list)) room)
    unfolding conditions plan_conditions
    own_passed e =
        none_before (given_conditions s buffer lines given) (c.own ∷ plan_conditions (plan s (list_lines c.list)) room) passed ∙ rw e

  -- ---- the answers

  pub change_refused :
      (r : Refusal) (out : List ℕ) → all ≡ Some r →
      Answers (Err r) (change s buffer lines given c room) buffer buffer out out
  unfolding change onto
  change_refused r out e = (
    sym (ap (λ o. (outcome o s c room).answer) e),
    sym (ap (λ o. onto (outcome o s c room).list buffer) e),
    sym (ap (λ o. onto (outcome o s c room).cycle out) e),
  )

  -- a refusal answered is that of the first condition that holds
  pub refused_told : (r : Refusal) → (change s buffer lines given c room).answer ≡ Err r → all ≡ Some r
  unfolding change
  refused_told r = from all
    where
      from : (o : Option Refusal) → (outcome o s c room).answer ≡ Err r → o ≡ Some r
      from None h = let z : ◌≡◌ {A = ℕ} 0 1 = cc in absurd (omega arith)
      from (Some q) h = let same : q ≡ r = cc in ap Some same

  pub change_made :
      all ≡ None → change s buffer lines given c room ≡
      record { answer = Ok (counts (plan s (list_lines c.list))); list = c.list ++ c.behind; cycle = (build s c.list room).output }
  unfolding change
  change_made e = ap (λ o. outcome o s c room) e

  pub made_counts : (x : Counts) → (change s buffer lines given c room).answer ≡ Ok x → (all ≡ None) × (counts (plan s (list_lines c.list)) ≡ x)
  unfolding change
  made_counts x = from all
    where
      from : (o : Option Refusal) → (outcome o s c room).answer ≡ Ok x → (o ≡ None) × (counts (plan s (list_lines c.list)) ≡ x)
      from None h = (refl, cc)
      from (Some r) h = let z : ◌≡◌ {A = ℕ} 0 1 = cc in absurd (omega arith)

  -- ---- behind the own condition

  module _ (passed : first_refusal (given_conditions s buffer lines given) ≡ None) (free : c.own.holds ≡ None) (count : ℕ)
      (fit : settings_fit s ≡ true) (few : count ≤ lines_most) (l : Listed count c.list) where
    -- refused as building the changed list is
    pub refused_as_built : all ≡ first_refusal (building.conditions s c.list room)
    refused_as_built = own_passed passed free ∙ sym (built_by_plan s c.list room count fit few l)

    pub judged_refused : (r : Refusal) → judge s c.list room ≡ Err r → all ≡ Some r
    unfolding judge
    judged_refused r h =
        refused_as_built ∙ refused_by (first_refusal (building.conditions s c.list room)) (figures_of (plan s (list_lines c.list))) r h

    pub judged_made :
        (f : Figures) → judge s c.list room ≡ Ok f → (all ≡ None) × (counts (plan s (list_lines c.list)) ≡ counts_held f)
    unfolding judge counts figures_of
    judged_made f h =
        let told = passed_by (first_refusal (building.conditions s c.list room)) (figures_of (plan s (list_lines c.list))) f h in
        (refused_as_built ∙ told.0, ap counts_held told.1)

    -- the cycle written with the figures
    pub change_sent :
        (f : Figures) (out : List ℕ) → judge s c.list room ≡ Ok f → length out ≡ room →
        Answers (Ok (counts_held f)) (change s buffer lines given c room) buffer (onto (c.list ++ c.behind) buffer) out
        (written (plan_in f InList c.list) out 0 f.size)
    change_sent f out h e =
        let told = judged_made f h in
        let made = change_made told.0 in (
          sym (ap (λ o. o.answer) made ∙ ap Ok told.1),
          sym (ap (λ o. onto o.list buffer) made),
          (builds_judged s c.list room f h out e).1 ∙ sym (ap (λ o. onto o.cycle out) made),
        )
