-- What adding the waits answers under each condition: judging with room for the longest cycle refuses by 1 to 6 only, and 17 decides
-- by the number of lines.
-- Assumes nothing.
use mathlib.Core.Path.{◌≡◌, refl, sym, ap, ◌∙◌}
use Prim.Native.Nat.{ℕ, ◌*◌, ◌≤◌}
use native.Mathlib.Omega.{arith}
use Rattle.std.specs.Prelude.{Option, None, Some, Ok, Err}
use mathlib.Core.List.{List, [], ◌∷◌, ◌++◌}
use lib.Dec.{ltb, eqb}
use lib.ListN.{length}
use borrow.Author.Tests.{le-ltb, ltb-false, eqb-false, eq-eqb, ne_eqb}
use Rattle.buckets.specs.ListLine.{list_lines}
use Rattle.buckets.specs.Lengths.{bucket_length, buckets_most}
use Rattle.cycle.specs.Tree.{Plan, plan}
use Rattle.cycle.specs.declared.Settings.{Settings}
use Rattle.cycle.specs.Cycle.{cycle_size}
use Rattle.cycle.specs.Refusals.{Condition, refusal, first_refusal, outcome}
use Rattle.cycle.specs.Building as building
use Rattle.cycle.specs.Building.{settings_out, list_length_out, line_misprinted, tag_falls, copies_out, cycle_too_long, buffer_too_short}
use Rattle.cycle.specs.Judging.{figures_of, judge}
use Rattle.cycle.specs.Waits as waits
use Rattle.cycle.specs.Waits.{no_line, wait_sum}
use Rattle.cycle.specs.declared.Figures.{Figures}
use Rattle.cycle.specs.declared.WaitSum.{WaitSum}
use Rattle.cycle.specs.declared.Refusal.{Refusal}
use Rattle.cycle.specs.Inner.Held.{plan_of}
use Rattle.cycle.specs.declared.Reason.TheVariants.{NoLine}
use Rattle.cycle.proofs.Basics.Conditions.{none_not_some, none_holds, test_fails, none_before, first_stands, none_both, refused_by, passed_by}
use Rattle.cycle.proofs.Building.Answering.{figures_plan}

-- room for the longest cycle
abbrev pub room_most : ℕ
room_most = bucket_length * buckets_most

-- 1 to 6
abbrev first_six : Settings → List ℕ → List Condition
first_six s list =
    let t : Plan = plan s (list_lines list) in
    settings_out s ∷ list_length_out list ∷ line_misprinted list ∷ tag_falls list ∷ copies_out t ∷ cycle_too_long t ∷ []

module _ (s : Settings) (list : List ℕ) where
  abbrev seventh : List Condition
  seventh = buffer_too_short room_most (bucket_length * cycle_size (plan s (list_lines list))) ∷ []

  building_split : building.conditions s list room_most ≡ first_six s list ++ seventh
  unfolding building.conditions
  building_split = refl

  waits_split : waits.conditions s list ≡ first_six s list ++ (no_line list ∷ [])
  unfolding waits.conditions
  waits_split = refl

  -- where 6 does not hold, neither does 7
  six_short : first_refusal (first_six s list) ≡ None → cycle_size (plan s (list_lines list)) ≤ buckets_most
  six_short h =
      let t : Plan = plan s (list_lines list) in
      let front : List Condition = settings_out s ∷ list_length_out list ∷ line_misprinted list ∷ tag_falls list ∷ copies_out t ∷ [] in
      let last = none_both front (cycle_too_long t ∷ []) h in
      let six = none_holds (cycle_too_long t) [] last.1 in
      ltb-false buckets_most (cycle_size t) (test_fails (ltb buckets_most (cycle_size t)) six.first)

  no_seventh : first_refusal (first_six s list) ≡ None → first_refusal (building.conditions s list room_most) ≡ None
  no_seventh h =
      let size : ℕ = cycle_size (plan s (list_lines list)) in
      let short : size ≤ buckets_most = six_short h in
      ap first_refusal building_split ∙ none_before (first_six s list) seventh h ∙ rw (le-ltb room_most (bucket_length * size) (omega arith))

  -- what building refuses, with room for every cycle
  pub refused_alike : (r : Refusal) → first_refusal (building.conditions s list room_most) ≡ Some r → first_refusal (waits.conditions s list) ≡ Some r
  refused_alike r h = by (first_refusal (first_six s list)) refl
    where
      by : (o : Option Refusal) → first_refusal (first_six s list) ≡ o → first_refusal (waits.conditions s list) ≡ Some r
      by None e = none_not_some (sym (no_seventh e) ∙ h)
      by (Some q) e =
          ap first_refusal waits_split ∙ first_stands (first_six s list) (no_line list ∷ []) q e
          ∙ sym (ap first_refusal building_split ∙ first_stands (first_six s list) seventh q e) ∙ h

  -- and what it does not
  pub passed_alike :
      first_refusal (building.conditions s list room_most) ≡ None → first_refusal (waits.conditions s list) ≡ first_refusal (no_line list ∷ [])
  passed_alike h =
      ap first_refusal waits_split
      ∙ none_before (first_six s list) (no_line list ∷ []) (none_both (first_six s list) seventh (sym (ap first_refusal building_split) ∙ h)).0

  -- where the waits are not refused, neither is building, and the list has a line
  pub passed_there :
      first_refusal (waits.conditions s list) ≡ None →
      (first_refusal (building.conditions s list room_most) ≡ None) × (1 ≤ length (list_lines list))
  passed_there h =
      let told = none_both (first_six s list) (no_line list ∷ []) (sym (ap first_refusal waits_split) ∙ h) in
      let no = none_holds (no_line list) [] told.1 in
      let some = eqb-false (length (list_lines list)) 0 (test_fails (eqb (length (list_lines list)) 0) no.first) in
      (no_seventh told.0, omega (arith, some))

  -- ---- the answers

  pub waits_refused : (r : Refusal) → judge s list room_most ≡ Err r → Err r ≡ waits.waits s list
  unfolding judge waits.waits
  waits_refused r h =
      let t : Plan = plan s (list_lines list) in
      let e = refused_by (first_refusal (building.conditions s list room_most)) (figures_of t) r h in
      sym (ap (λ o. outcome o (wait_sum t)) (refused_alike r e))

  module _ (f : Figures) (h : judge s list room_most ≡ Ok f) where
    none_and_figures : (first_refusal (building.conditions s list room_most) ≡ None) × (figures_of (plan s (list_lines list)) ≡ f)
    unfolding judge
    none_and_figures = passed_by (first_refusal (building.conditions s list room_most)) (figures_of (plan s (list_lines list))) f h

    lines_are : length (list_lines list) ≡ f.lines
    unfolding figures_of plan
    lines_are = ap (λ g. g.lines) none_and_figures.1

    plan_is : plan_of f (list_lines list) ≡ plan s (list_lines list)
    plan_is = sym (ap (λ g. plan_of g (list_lines list)) none_and_figures.1) ∙ figures_plan s list room_most none_and_figures.0

    -- 17
    pub waits_no_line : f.lines ≡ 0 → Err (refusal NoLine 0) ≡ waits.waits s list
    unfolding waits.waits
    waits_no_line e =
        let t : Plan = plan s (list_lines list) in
        let holds : first_refusal (waits.conditions s list) ≡ Some (refusal NoLine 0) =
        passed_alike none_and_figures.0 ∙ rw (eq-eqb (length (list_lines list)) 0 (lines_are ∙ e)) in
        sym (ap (λ o. outcome o (wait_sum t)) holds)

    pub waits_summed :
        (f.lines ≡ 0 → ⊥) → (w : WaitSum) → w ≡ wait_sum (plan_of f (list_lines list)) →
        Ok w ≡ waits.waits s list
    unfolding waits.waits
    waits_summed some_line w e =
        let t : Plan = plan s (list_lines list) in
        let passes : first_refusal (waits.conditions s list) ≡ None =
        passed_alike none_and_figures.0 ∙ rw (ne_eqb (length (list_lines list)) 0 (λ z. some_line (sym lines_are ∙ z))) in
        ap Ok (e ∙ ap wait_sum plan_is) ∙ sym (ap (λ o. outcome o (wait_sum t)) passes)
