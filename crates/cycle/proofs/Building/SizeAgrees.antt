-- The dimensions of a cycle from a number of lines agree with what building a list of that many lines gives, and so do refusals.
-- Assumes nothing.
use mathlib.Core.Path.{◌≡◌, refl, sym, ap, subst, ◌∙◌}
use Prim.Native.Nat.{ℕ, ◌*◌, ◌/◌, ◌%◌, ◌≤◌, ◌<◌, min}
use native.Mathlib.Omega.{arith}
use mathlib.Core.Bool.{Bool, true, false, not}
use Rattle.std.specs.Prelude.{Option, None, Some, Ok}
use mathlib.Core.List.{List, [], ◌∷◌}
use lib.Dec.{ltb}
use lib.ListN.{length}
use borrow.Author.Tests.{lt-ltb, le-ltb, eq-eqb}
use Rattle.columns.specs.Lists.{pick}
use Rattle.buckets.specs.Lengths.{line_length, bucket_length, buckets_most}
use Rattle.buckets.specs.ListLine.{list_lines, whole_lines, few_lines}
use Rattle.buckets.proofs.Lists.{length_list_lines}
use Rattle.cycle.specs.Refusals.{refusal, row, row_at, first_refusal, outcome}
use Rattle.cycle.specs.Tree.{Plan, plan_for, plan}
use Rattle.cycle.specs.declared.Settings.{Settings}
use Rattle.cycle.specs.Cycle.{cycle_size, image_length}
use Rattle.cycle.specs.Building as building
use Rattle.cycle.specs.Building.{settings_fit, copies_fit, build}
use Rattle.cycle.specs.Size.{conditions, heard_most, dimensions, numbers, size, Listed, built, EverySize}
use Rattle.cycle.specs.declared.Dimensions.{Dimensions}
use Rattle.cycle.specs.declared.Refusal.{Refusal}
use Rattle.cycle.specs.declared.Reason.TheVariants.{SettingsOut, LengthOut, LineMisprinted, TagFalls, CopiesOut, CycleTooLong, BufferTooShort}
use Rattle.cycle.proofs.Basics.Conditions.{passed_by}
use Rattle.cycle.proofs.Trees.Shapes.{slots_over}
use Rattle.cycle.proofs.Building.BuiltImage.{length_image}
use Rattle.cycle.proofs.Building.Outcomes.{accepted, answered}

-- ---- refusals in a row

-- a refusal by earlier conditions, or where there is none, by the last one
abbrev or_last : Option Refusal → Option Refusal → Option Refusal
or_last (Some r) o = Some r
or_last None o = o

-- 7 where the image does not fit
abbrev lastly : Bool → Option Refusal
lastly short = pick short (Some (refusal BufferTooShort 0)) None

-- building's conditions are sizing's and then 7, where 3 and 4 do not hold
in_order :
    (one two five six seven : Bool) →
    first_refusal (row SettingsOut one ∷ row LengthOut two ∷ row_at LineMisprinted None ∷ row_at TagFalls None ∷ row CopiesOut five ∷ row CycleTooLong six ∷ row BufferTooShort seven ∷ []) ≡
    or_last (first_refusal (row SettingsOut one ∷ row LengthOut two ∷ row CopiesOut five ∷ row CycleTooLong six ∷ [])) (lastly seven)
in_order true two five six seven = refl
in_order false true five six seven = refl
in_order false false true six seven = refl
in_order false false false true seven = refl
in_order false false false false true = refl
in_order false false false false false = refl

-- ---- a list and its number of lines

module _ (s : Settings) (lines : ℕ) (list : List ℕ) (l : Listed lines list) where
  abbrev t : Plan
  t = plan_for s lines []

  abbrev u : Plan
  u = plan s (list_lines list)

  counted : length (list_lines list) ≡ lines
  counted = length_list_lines list ∙ omega (arith, l.count)

  -- the list's plan is that of its number of lines
  planned : u ≡ plan_for s lines (list_lines list)
  unfolding plan
  planned = ap (λ c. plan_for s c (list_lines list)) counted

  whole : whole_lines (length list) ≡ few_lines lines
  unfolding whole_lines
  whole =
      let rest : length list % line_length ≡ 0 = omega (arith, l.count) in
      let count : length list / line_length ≡ lines = omega (arith, l.count) in
      rw (eq-eqb (length list % line_length) 0 rest, count)

  copies_alike : copies_fit u ≡ copies_fit t
  unfolding copies_fit
  copies_alike = ap copies_fit planned

  size_alike : cycle_size u ≡ cycle_size t
  unfolding cycle_size
  size_alike = ap cycle_size planned ∙ ap length (slots_over t (list_lines list) [])

  module _ (room : ℕ) where
    unfoldable sizing : Option Refusal
    sizing = first_refusal (conditions s lines)

    unfoldable seven : Option Refusal
    seven = lastly (ltb room (image_length t))

    refusals : first_refusal (building.conditions s list room) ≡ or_last sizing seven
    unfolding building.conditions conditions sizing seven
    refusals =
        let rows : Bool → Option ℕ → Option ℕ → Bool → ℕ → Option Refusal =
        λ two three four copies n.
        first_refusal
        (row SettingsOut (not (settings_fit s)) ∷
        row LengthOut (not two) ∷
        row_at LineMisprinted three ∷
        row_at TagFalls four ∷
        row CopiesOut (not copies) ∷
        row CycleTooLong (ltb buckets_most n) ∷
        row BufferTooShort (ltb room (bucket_length * n)) ∷ []) in
        let alike : first_refusal (building.conditions s list room) ≡ rows (few_lines lines) None None (copies_fit t) (cycle_size t) =
        λ i. rows (whole i) (l.printed i) (l.rising i) (copies_alike i) (size_alike i) in
        alike ∙
        in_order (not (settings_fit s)) (not (few_lines lines)) (not (copies_fit t)) (ltb buckets_most (cycle_size t)) (ltb room (image_length t))

    building_is : build s list room ≡ building.outcome (or_last sizing seven) u
    unfolding build
    building_is = ap (λ o. building.outcome o u) refusals

    -- no condition holds where the image fits
    builds_none : sizing ≡ None → image_length t ≤ room → first_refusal (building.conditions s list room) ≡ None
    unfolding seven
    builds_none e fits = refusals ∙ ap (λ o. or_last o seven) e ∙ rw (le-ltb room (image_length t) fits)

    builds_cycle : sizing ≡ None → image_length t ≤ room → (build s list room).answer ≡ Ok (cycle_size u)
    unfolding build
    builds_cycle e fits = ap (λ o. (building.outcome o u).answer) (builds_none e fits)

    builds_bytes : sizing ≡ None → image_length t ≤ room → length (build s list room).output ≡ image_length t
    builds_bytes e fits =
        let answer = builds_cycle e fits in
        let a = answered s list room (cycle_size u) answer in
        ap length a.output_is
        ∙ length_image u (accepted s list room (cycle_size u) answer) a.short
        ∙ ap (λ n. bucket_length * n) size_alike

    builds_short : sizing ≡ None → room < image_length t → built s list room ≡ 7 ∷ 0 ∷ []
    unfolding seven
    builds_short e short =
        ap (λ o. building.numbers o.answer) building_is
        ∙ ap (λ o. building.numbers (building.outcome (or_last o seven) u).answer) e
        ∙ rw (lt-ltb room (image_length t) short)

-- ---- by the answers

-- what sizing answers, and what building answers, from the refusal by the conditions that they share
module _ (d : Dimensions) (u : Plan) where
  refused_alike :
      (o : Option Refusal) (short : Bool) (number place : ℕ) → numbers (outcome o d) ≡ number ∷ place ∷ [] →
      building.numbers (building.outcome (or_last o (lastly short)) u).answer ≡ number ∷ place ∷ []
  refused_alike (Some r) short number place h = h
  refused_alike None short number place h = let z : ◌≡◌ {A = ℕ} 7 2 = ap length h in absurd (omega arith)

  refused_back :
      (o : Option Refusal) (short : Bool) (number place : ℕ) →
      building.numbers (building.outcome (or_last o (lastly short)) u).answer ≡ number ∷ place ∷ [] →
      (number ≡ 7 → ⊥) → numbers (outcome o d) ≡ number ∷ place ∷ []
  refused_back (Some r) short number place h other = h
  refused_back None true number place h other = let z : number ≡ 7 = cc in absurd (other z)
  refused_back None false number place h other = let z : ◌≡◌ {A = ℕ} 3 2 = ap length h in absurd (omega arith)

  given : (o : Option Refusal) (f : Dimensions) → outcome o d ≡ Ok f → (o ≡ None) × (d ≡ f)
  given o f h = passed_by o d f h

-- C-11: "The figures agree with what building a list of that many lines gives, and 1, 2, 5 and 6 are given as there"
pub every_size : EverySize
unfolding size sizing seven dimensions plan
every_size s lines c list room l =
    record {
      refused =
          λ number place h.
          ap (λ o. building.numbers o.answer) (building_is s lines list l room)
          ∙ refused_alike d u (first_refusal (conditions s lines)) short number place h;
      refused_there =
          λ number place h other.
          refused_back d u (first_refusal (conditions s lines)) short number place
          (sym (ap (λ o. building.numbers o.answer) (building_is s lines list l room)) ∙ h) other;
      too_short =
          λ f h less.
          let g = told f h in
          builds_short s lines list l room g.0 (subst (λ z. room < z.bytes) (sym g.1) less);
      built_size =
          λ f h fits.
          let g = told f h in
          ap building.numbers (builds_cycle s lines list l room g.0 (subst (λ z. z.bytes ≤ room) (sym g.1) fits))
          ∙ ap (λ n. 0 ∷ 0 ∷ n ∷ []) (size_alike s lines list l ∙ ap (λ (z : Dimensions). z.n) g.1);
      built_bytes =
          λ f h fits.
          let g = told f h in
          builds_bytes s lines list l room g.0 (subst (λ z. z.bytes ≤ room) (sym g.1) fits)
          ∙ ap (λ (z : Dimensions). z.bytes) g.1;
      levels_agree = λ f h. ap (λ (z : Plan). z.k) (planned s lines list l) ∙ ap (λ (z : Dimensions). z.k) (told f h).1;
      data_agree = λ f h. ap (λ (z : Plan). z.d) (planned s lines list l) ∙ ap (λ (z : Dimensions). z.d) (told f h).1;
    }
  where
    u : Plan
    u = plan s (list_lines list)

    d : Dimensions
    d = dimensions (plan_for s lines []) c

    short : Bool
    short = ltb room (image_length (plan_for s lines []))

    told : (f : Dimensions) → size s lines c ≡ Ok f → (first_refusal (conditions s lines) ≡ None) × (d ≡ f)
    told f h = given d u (first_refusal (conditions s lines)) f h

-- "A C above D is taken as D."
pub heard_given : (s : Settings) (lines c : ℕ) (f : Dimensions) → size s lines c ≡ Ok f → f.heard ≡ heard_most f.k (min c f.d)
unfolding size dimensions
heard_given s lines c f h =
    let t : Plan = plan_for s lines [] in
    let told = (given (dimensions t c) t (first_refusal (conditions s lines)) f h).1 in
    subst (λ (z : Dimensions). z.heard ≡ heard_most z.k (min c z.d)) told refl
