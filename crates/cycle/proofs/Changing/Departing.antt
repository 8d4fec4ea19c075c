-- A line that is taken out of a list, both having passed 1 to 4: what each of the steps of a change comes to.
-- Assumes nothing.
use Rattle.std.proofs.Common.{◌≡◌, ℕ, ◌+◌, ◌-◌, ◌*◌, ◌≤◌, ◌<◌, Bool, true, List, [], None, Some, Ok, Err, length, take, refl, sym, ap, ◌∙◌, subst, arith}
use Rattle.std.specs.Prelude.{Result}
use Rattle.buckets.specs.Lengths.{line_length, lines_most, bucket_length}
use Rattle.buckets.specs.ListLine.{spelled, cut_lines, list_lines}
use Rattle.buckets.specs.Inner.Columns.{PlainList}
use Rattle.columns.specs.Lists.{any}
use Rattle.cycle.specs.Refusals.{refusal, first_refusal}
use Rattle.cycle.specs.Refusals.{outcome as answer_by}
use Rattle.cycle.specs.Cycle.{cycle_size}
use Rattle.cycle.specs.Judging.{judge, plan_conditions}
use Rattle.cycle.specs.Size.{Listed}
use Rattle.cycle.specs.Changes.{same_numbers, equals, list_in, not_in_list, given_conditions, departure, take_out}
use Rattle.cycle.specs.declared.Settings.{Settings}
use Rattle.cycle.specs.declared.Reason.TheVariants.{NotInList}
use Rattle.cycle.specs.declared.Refusal.{Refusal}
use Rattle.cycle.specs.declared.Figures.{Figures}
use Rattle.cycle.specs.declared.Source.TheVariants.{List as InList}
use Rattle.cycle.specs.Inner.Held.{plan_of, sized, AcceptedList, plan_in, written}
use Rattle.cycle.specs.Inner.Settings.{Figured}
use Rattle.cycle.specs.Inner.Changing.{first_from, without_line, counts_held}
use Rattle.cycle.proofs.Building.Answering.{sending_judged}
use Rattle.cycle.proofs.Changing.Places.{place_or, found_inside}
use Rattle.cycle.proofs.Changing.ChangedLists.{equal_found, equal_nowhere, taken_listed, taken_plain}
use Rattle.cycle.proofs.Changing.ChangedBuffers.{line_absent, line_present, line_within, line_gone, gone_front}
use Rattle.cycle.proofs.Changing.GivenJudging.{GivenPassed, given_passed}
use Rattle.cycle.proofs.Changing.ChangeAnswers.{Answers, listed_count, figures_judged, own_holds, change_refused, judged_refused, change_sent}

module _ (s : Settings) (buffer : List ℕ) (lines : ℕ) (given : List ℕ) (room : ℕ)
    (passed : first_refusal (given_conditions s buffer lines given) ≡ None) where
  pub known : GivenPassed s buffer lines given
  known = given_passed s buffer lines given passed

  -- 15
  pub refused_15 :
      (r : Refusal) (out : List ℕ) → r ≡ refusal NotInList 0 →
      first_from (same_numbers (spelled given)) 0 (list_lines (list_in buffer lines)) ≡ None →
      Answers (Err r) (take_out s buffer lines given room) buffer buffer out out
  unfolding departure not_in_list
  refused_15 r out e h =
      change_refused s buffer lines given (departure buffer lines given) room r out
      (own_holds s buffer lines given (departure buffer lines given) room passed 0
      (line_absent given (list_in buffer lines)
      (equal_nowhere given (list_in buffer lines) lines known.listed lines (sym (ap (place_or lines) h)) refl))
      ∙ ap Some (sym e))

  -- the line stands at i
  module _ (i : ℕ) (at_i : first_from (same_numbers (spelled given)) 0 (list_lines (list_in buffer lines)) ≡ Some i) where
    found : i ≡ place_or lines (first_from (same_numbers (spelled given)) 0 (list_lines (list_in buffer lines)))
    found = sym (ap (place_or lines) at_i)

    pub inside : i < lines
    inside =
        let h = found_inside (same_numbers (spelled given)) 0 (list_lines (list_in buffer lines)) i at_i in
        let count = listed_count s (list_in buffer lines) room lines known.settings known.few known.listed in
        omega (arith, h, count)

    there : any (equals given) (cut_lines (list_in buffer lines)) ≡ true
    there = equal_found given (list_in buffer lines) lines known.listed i found inside

    own : (departure buffer lines given).own.holds ≡ None
    unfolding departure
    own = line_present given (list_in buffer lines) there

    listed : Listed (lines - 1) (departure buffer lines given).list
    unfolding departure
    listed = taken_listed given (list_in buffer lines) lines known.listed there

    pub few : lines - 1 ≤ lines_most
    few = omega (arith, known.few)

    -- the figures are judged as the changed list is
    pub judged :
        (f : Figures) → Figured s f × (f.lines ≡ lines - 1) → (r : Result Figures Refusal) →
        r ≡ answer_by (first_refusal (plan_conditions (plan_of f []) room)) (sized f (cycle_size (plan_of f []))) →
        judge s (departure buffer lines given).list room ≡ r
    judged f g r e =
        sym (e ∙ figures_judged s (departure buffer lines given).list room (lines - 1) known.settings few listed f g.0 g.1)

    pub refused :
        (r : Refusal) (out : List ℕ) → judge s (departure buffer lines given).list room ≡ Err r →
        Answers (Err r) (take_out s buffer lines given room) buffer buffer out out
    refused r out h =
        change_refused s buffer lines given (departure buffer lines given) room r out
        (judged_refused s buffer lines given (departure buffer lines given) room passed own (lines - 1) known.settings few listed r h)

    pub within : line_length * i + line_length ≤ line_length * lines
    within = line_within buffer lines given known.places known.listed i found inside

    -- the line is removed, and the buffer is b then
    module _ (b : List ℕ) (gone : b ≡ without_line buffer (line_length * i) (line_length * lines)) where
      pub changed : take (line_length * lines - line_length) b ≡ (departure buffer lines given).list
      changed =
          ap (take (line_length * lines - line_length)) gone
          ∙ gone_front buffer lines given known.places known.listed i found inside

      module _ (f : Figures) (h : judge s (departure buffer lines given).list room ≡ Ok f) where
        pub sending :
            (plain : Bool) → (plain ≡ true → PlainList (list_in buffer lines)) →
            AcceptedList f (take (line_length * lines - line_length) b) × (bucket_length * f.size ≤ room)
            × (plain ≡ true → PlainList (take (line_length * lines - line_length) b))
        unfolding departure
        sending plain front =
            let sent = sending_judged s (departure buffer lines given).list room f h in (
              subst (AcceptedList f) (sym changed) sent.0,
              sent.1,
              λ e. subst PlainList (sym changed) (taken_plain given (list_in buffer lines) lines known.listed (front e)),
            )

        pub sent :
            (out : List ℕ) → length out ≡ room →
            Answers (Ok (counts_held f)) (take_out s buffer lines given room) buffer b out
            (written (plan_in f InList (take (line_length * lines - line_length) b)) out 0 f.size)
        sent out e =
            let all =
            change_sent s buffer lines given (departure buffer lines given) room passed own (lines - 1) known.settings few listed f out h e in (
              all.0,
              gone ∙ line_gone buffer lines given known.places known.listed i found inside ∙ all.1,
              ap (λ (l : List ℕ). written (plan_in f InList l) out 0 f.size) changed ∙ all.2,
            )
