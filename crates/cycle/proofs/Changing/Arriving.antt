-- A line that arrives in a list, both having passed 1 to 4: what each of the steps of a change comes to.
-- Assumes nothing.
use Rattle.std.proofs.Common.{◌≡◌, ℕ, suc, ◌+◌, ◌*◌, ◌≤◌, Bool, true, List, [], None, Some, Ok, Err, length, take, sym, ap, ◌∙◌, subst, arith, add-one}
use Rattle.std.specs.Prelude.{Result}
use Rattle.buckets.specs.Lengths.{line_length, lines_most, bucket_length}
use Rattle.buckets.specs.ListLine.{spelled, taken, list_lines}
use Rattle.buckets.specs.Inner.Columns.{read_plain, PlainList}
use Rattle.cycle.specs.Refusals.{refusal, first_refusal}
use Rattle.cycle.specs.Refusals.{outcome as answer_by}
use Rattle.cycle.specs.Cycle.{cycle_size}
use Rattle.cycle.specs.Judging.{judge, plan_conditions}
use Rattle.cycle.specs.Size.{Listed}
use Rattle.cycle.specs.Changes.{list_in, places_for, no_place, given_conditions, arrival, arrive}
use Rattle.cycle.specs.declared.Settings.{Settings}
use Rattle.cycle.specs.declared.Reason.TheVariants.{NoPlace}
use Rattle.cycle.specs.declared.Refusal.{Refusal}
use Rattle.cycle.specs.declared.Figures.{Figures}
use Rattle.cycle.specs.declared.Source.TheVariants.{List as InList}
use Rattle.cycle.specs.Inner.Held.{plan_of, sized, AcceptedList, plan_in, written}
use Rattle.cycle.specs.Inner.Settings.{Figured}
use Rattle.cycle.specs.Inner.Changing.{first_from, tag_over, with_line, counts_held}
use Rattle.cycle.proofs.Building.Answering.{sending_judged}
use Rattle.cycle.proofs.Changing.Places.{place_or}
use Rattle.cycle.proofs.Changing.ChangedLists.{arrived_listed, arrived_plain}
use Rattle.cycle.proofs.Changing.ChangedBuffers.{place_left, within, line_arrived, arrived_front}
use Rattle.cycle.proofs.Changing.GivenJudging.{GivenPassed, given_passed, places_fit}
use Rattle.cycle.proofs.Changing.ChangeAnswers.{Answers, figures_judged, own_holds, change_refused, judged_refused, change_sent}

module _ (s : Settings) (buffer : List ℕ) (lines : ℕ) (given : List ℕ) (room : ℕ)
    (passed : first_refusal (given_conditions s buffer lines given) ≡ None) where
  pub known : GivenPassed s buffer lines given
  known = given_passed s buffer lines given passed

  -- 16
  pub refused_16 :
      (r : Refusal) (out : List ℕ) → r ≡ refusal NoPlace 0 → (no_place buffer lines).holds ≡ Some 0 →
      Answers (Err r) (arrive s buffer lines given room) buffer buffer out out
  unfolding arrival no_place
  refused_16 r out e h =
      change_refused s buffer lines given (arrival buffer lines given) room r out
      (own_holds s buffer lines given (arrival buffer lines given) room passed 0 h ∙ ap Some (sym e))

  module _ (free : lines ≡ lines_most → ⊥) (places : places_for buffer (lines + 1) ≡ true) where
    place_for : places_for buffer (suc lines) ≡ true
    place_for = sym (ap (places_for buffer) (add-one lines)) ∙ places

    pub few : lines + 1 ≤ lines_most
    few = omega (arith, known.few, free)

    few_suc : suc lines ≤ lines_most
    few_suc = omega (arith, few)

    pub long : line_length * lines + line_length ≤ length buffer
    long = let h = places_fit buffer (suc lines) place_for in omega (arith, h)

    own : (arrival buffer lines given).own.holds ≡ None
    unfolding arrival
    own = place_left buffer lines free place_for

    listed : Listed (suc lines) (arrival buffer lines given).list
    unfolding arrival
    listed = arrived_listed given (list_in buffer lines) lines known.listed known.reads

    -- the figures are judged as the changed list is
    pub judged :
        (f : Figures) → Figured s f × (f.lines ≡ lines + 1) → (r : Result Figures Refusal) →
        r ≡ answer_by (first_refusal (plan_conditions (plan_of f []) room)) (sized f (cycle_size (plan_of f []))) →
        judge s (arrival buffer lines given).list room ≡ r
    judged f g r e =
        sym
        (e
        ∙ figures_judged s (arrival buffer lines given).list room (suc lines) known.settings few_suc listed f g.0 (g.1 ∙ add-one lines))

    pub refused :
        (r : Refusal) (out : List ℕ) → judge s (arrival buffer lines given).list room ≡ Err r →
        Answers (Err r) (arrive s buffer lines given room) buffer buffer out out
    refused r out h =
        change_refused s buffer lines given (arrival buffer lines given) room r out
        (judged_refused s buffer lines given (arrival buffer lines given) room passed own (suc lines) known.settings few_suc listed r h)

    -- the line is put in front of line i, and the buffer is b then
    module _ (i : ℕ) (found : i ≡ place_or lines (first_from (tag_over (spelled given).tag) 0 (list_lines (list_in buffer lines)))) where
      pub inside : line_length * i ≤ line_length * lines
      inside = within buffer lines given known.places known.listed known.reads i found

      module _ (b : List ℕ) (put : b ≡ with_line buffer (line_length * i) (line_length * lines) given) where
        pub changed : take (line_length * lines + line_length) b ≡ (arrival buffer lines given).list
        changed =
            ap (take (line_length * lines + line_length)) put
            ∙ arrived_front buffer lines given known.places known.listed known.reads i found

        module _ (f : Figures) (h : judge s (arrival buffer lines given).list room ≡ Ok f) where
          pub sending :
              (plain more : Bool) → (plain ≡ true → PlainList (list_in buffer lines)) →
              (more ≡ true → (plain ≡ true) × (taken (read_plain given) ≡ true)) →
              AcceptedList f (take (line_length * lines + line_length) b) × (bucket_length * f.size ≤ room)
              × (more ≡ true → PlainList (take (line_length * lines + line_length) b))
          unfolding arrival
          sending plain more front both =
              let sent = sending_judged s (arrival buffer lines given).list room f h in (
                subst (AcceptedList f) (sym changed) sent.0,
                sent.1,
                λ e.
                    let told = both e in
                    subst PlainList (sym changed)
                    (arrived_plain given (list_in buffer lines) lines known.listed known.reads (front told.0) told.1),
              )

          pub sent :
              (out : List ℕ) → length out ≡ room →
              Answers (Ok (counts_held f)) (arrive s buffer lines given room) buffer b out
              (written (plan_in f InList (take (line_length * lines + line_length) b)) out 0 f.size)
          sent out e =
              let all =
              change_sent s buffer lines given (arrival buffer lines given) room passed own (suc lines) known.settings few_suc listed f out h e in (
                all.0,
                put ∙ line_arrived buffer lines given known.places known.listed known.reads i found ∙ all.1,
                ap (λ (l : List ℕ). written (plan_in f InList l) out 0 f.size) changed ∙ all.2,
              )
