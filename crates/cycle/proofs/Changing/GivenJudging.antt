-- The conditions 1 to 4 of a list in its buffer and a given line: what is known where none of them holds, and what each answers.
-- Assumes nothing.
use mathlib.Core.Path.{◌≡◌, refl, ◌∙◌}
use Prim.Native.Nat.{ℕ, ◌*◌, ◌≤◌, ◌<◌}
use mathlib.Core.Bool.{Bool, true, false, ◌&&◌, not}
use Rattle.std.specs.Prelude.{Option, None, Some, Result, Ok, Err}
use Rattle.std.specs.Prelude.{unwrap_or}
use mathlib.Core.List.{List, [], ◌∷◌}
use lib.Dec.{eqb}
use lib.ListN.{length}
use lib.Seq.{length-take-le}
use borrow.Author.Tests.{leb-true, eqb-true, le-leb, lt-leb, eq-eqb, ne_eqb, not-false}
use Rattle.columns.specs.Lists.{pick}
use Rattle.columns.proofs.Strict.{both}
use Rattle.buckets.specs.Lengths.{line_length, lines_most}
use Rattle.buckets.specs.ListLine.{taken, read_line, cut_lines, few_lines, misprint_from}
use Rattle.cycle.specs.declared.Settings.{Settings}
use Rattle.cycle.specs.Refusals.{Condition, refusal, row_at, first_refusal}
use Rattle.cycle.specs.Building.{settings_fit, settings_out, line_misprinted, tag_falls}
use Rattle.cycle.specs.Size.{Listed}
use Rattle.cycle.specs.Changes.{list_in, places_for, number_out, given_length_out, given_misprinted, line_conditions, given_conditions}
use Rattle.cycle.specs.Inner.ListLines.{Told}
use Rattle.cycle.specs.declared.Refusal.{Refusal}
use Rattle.cycle.specs.declared.Reason.TheVariants.{SettingsOut, LengthOut, LineMisprinted}
use Rattle.cycle.proofs.Basics.Conditions.{none_holds, test_fails}

-- ---- the list in its buffer

pub places_fit : (buffer : List ℕ) (lines : ℕ) → places_for buffer lines ≡ true → line_length * lines ≤ length buffer
unfolding places_for
places_fit buffer lines h = leb-true (line_length * lines) (length buffer) h

pub length_in : (buffer : List ℕ) (lines : ℕ) → line_length * lines ≤ length buffer → length (list_in buffer lines) ≡ line_length * lines
unfolding list_in
length_in buffer lines h = length-take-le (line_length * lines) buffer h

-- ---- none of them holds

pub record GivenPassed (s : Settings) (buffer : List ℕ) (lines : ℕ) (given : List ℕ) : Type 0 where
  pub settings : settings_fit s ≡ true
  pub few : lines ≤ lines_most
  pub places : line_length * lines ≤ length buffer
  pub long : length given ≡ line_length
  pub listed : Listed lines (list_in buffer lines)
  pub reads : taken (read_line given) ≡ true

-- 3 does not hold of the given line
given_reads : (lines : ℕ) (b : Bool) → pick b None (Some lines) ≡ None → b ≡ true
given_reads lines true h = refl
given_reads lines false h = cc

pub given_passed :
    (s : Settings) (buffer : List ℕ) (lines : ℕ) (given : List ℕ) →
    first_refusal (given_conditions s buffer lines given) ≡ None → GivenPassed s buffer lines given
unfolding given_conditions line_conditions
given_passed s buffer lines given h =
    let list : List ℕ = list_in buffer lines in
    let last : List Condition = given_misprinted lines given ∷ tag_falls list ∷ [] in
    let third : List Condition = line_misprinted list ∷ last in
    let one = none_holds (settings_out s) (number_out buffer lines ∷ given_length_out given ∷ third) h in
    let two = none_holds (number_out buffer lines) (given_length_out given ∷ third) one.others in
    let long = none_holds (given_length_out given) third two.others in
    let three = none_holds (line_misprinted list) last long.others in
    let misprint = none_holds (given_misprinted lines given) (tag_falls list ∷ []) three.others in
    let four = none_holds (tag_falls list) [] misprint.others in
    let fits : Bool = few_lines lines && places_for buffer lines in
    let number = both (few_lines lines) (places_for buffer lines) (not-false fits (test_fails (not fits) two.first)) in
    let places = places_fit buffer lines number.1 in
    record {
      settings = not-false (settings_fit s) (test_fails (not (settings_fit s)) one.first);
      few = leb-true lines lines_most number.0;
      places = places;
      long =
          eqb-true (length given) line_length
          (not-false (eqb (length given) line_length) (test_fails (not (eqb (length given) line_length)) long.first));
      listed = record { count = length_in buffer lines places; printed = three.first; rising = four.first };
      reads = given_reads lines (taken (read_line given)) misprint.first;
    }

-- ---- 3 and 4

module _ (list : List ℕ) (lines : ℕ) (given : List ℕ) where
  -- a misprinted line is refused behind the list's own misprints
  pub given_misprinted_lem :
      read_line given ≡ None → first_refusal (line_conditions list lines given) ≡ Some (refusal LineMisprinted (unwrap_or (misprint_from 0 (cut_lines list)) lines))
  unfolding line_conditions
  given_misprinted_lem e = rw e (by (misprint_from 0 (cut_lines list)))
    where
      by : (o : Option ℕ) → first_refusal (row_at LineMisprinted o ∷ row_at LineMisprinted (Some lines) ∷ tag_falls list ∷ []) ≡ Some (refusal LineMisprinted (unwrap_or o lines))
      by None = refl
      by (Some place) = refl

  -- behind a printed one the list's own lines decide
  pub given_printed :
      taken (read_line given) ≡ true →
      first_refusal (line_conditions list lines given) ≡ first_refusal (line_misprinted list ∷ tag_falls list ∷ [])
  unfolding line_conditions
  given_printed e = rw e (by (misprint_from 0 (cut_lines list)))
    where
      by : (o : Option ℕ) → first_refusal (row_at LineMisprinted o ∷ row_at LineMisprinted None ∷ tag_falls list ∷ [])
          ≡ first_refusal (row_at LineMisprinted o ∷ tag_falls list ∷ [])
      by None = refl
      by (Some place) = refl

-- ---- 1 and 2 before them

module _ (s : Settings) (buffer : List ℕ) (lines : ℕ) (given : List ℕ) where
  pub settings_refused : settings_fit s ≡ false → first_refusal (given_conditions s buffer lines given) ≡ Some (refusal SettingsOut 0)
  unfolding given_conditions
  settings_refused e = rw e

  module _ (one : settings_fit s ≡ true) where
    pub too_many_lines_lem : lines_most < lines → first_refusal (given_conditions s buffer lines given) ≡ Some (refusal LengthOut 0)
    unfolding given_conditions
    too_many_lines_lem l = rw (one, lt-leb lines lines_most l)

    module _ (few : lines ≤ lines_most) where
      pub no_places : places_for buffer lines ≡ false → first_refusal (given_conditions s buffer lines given) ≡ Some (refusal LengthOut 0)
      unfolding given_conditions
      no_places e = rw (one, le-leb lines lines_most few, e)

      module _ (places : places_for buffer lines ≡ true) where
        pub given_length_out_lem :
            (length given ≡ line_length → ⊥) → first_refusal (given_conditions s buffer lines given) ≡ Some (refusal LengthOut 0)
        unfolding given_conditions line_conditions
        given_length_out_lem h = rw (one, le-leb lines lines_most few, places, ne_eqb (length given) line_length h)

        -- where neither holds, 3 and 4 decide
        pub lines_decide :
            length given ≡ line_length →
            first_refusal (given_conditions s buffer lines given) ≡ first_refusal (line_conditions (list_in buffer lines) lines given)
        unfolding given_conditions line_conditions
        lines_decide e = rw (one, le-leb lines lines_most few, places, eq-eqb (length given) line_length e)

-- what is found where other conditions decide
pub told_by :
    (cs ds : List Condition) (list : List ℕ) (r : Result Bool Refusal) → first_refusal cs ≡ first_refusal ds → Told ds list r → Told cs list r
told_by cs ds list (Ok plain) e h = (e ∙ h.0, h.1)
told_by cs ds list (Err r) e h = e ∙ h
