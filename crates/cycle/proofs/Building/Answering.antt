-- What judging and building answer under each condition, as an equation; and the figures that judging hands out.
-- Assumes nothing.
use mathlib.Core.Path.{◌≡◌, refl, sym, ap, ap₂, ◌∙◌, subst}
use Prim.Native.Nat.{ℕ, ◌+◌, ◌*◌, ◌/◌, ◌%◌, ◌^◌, ◌≤◌, ◌<◌}
use native.Mathlib.Omega.{arith}
use native.Mathlib.Nat.{div-add-mod'}
use mathlib.Core.Bool.{true, false, not}
use Rattle.std.specs.Prelude.{None, Some, Ok, Err}
use mathlib.Core.List.{List, [], ◌∷◌}
use lib.Dec.{ltb}
use lib.ListN.{length}
use borrow.Author.Tests.{lt-ltb, le-ltb, le-leb, lt-leb, eq-eqb, ne_eqb, ltb-false}
use Rattle.columns.specs.Lists.{onto}
use Rattle.buckets.specs.declared.Line.{Line}
use Rattle.buckets.specs.ListLine.{cut_lines, list_lines, whole_lines, misprint_from, fall_from}
use Rattle.buckets.proofs.Lists.{length_list_lines}
use Rattle.cycle.specs.Tree.{settings, Plan, plan}
use Rattle.cycle.specs.declared.Settings.{Settings}
use Rattle.cycle.specs.Cycle.{cycle_size, image_length, image}
use Rattle.cycle.specs.Refusals.{refusal, row, first_refusal, outcome}
use Rattle.cycle.specs.Building as building
use Rattle.cycle.specs.Building.{settings_fit, copies_fit, line_misprinted, tag_falls, copies_out, cycle_too_long, buffer_too_short, conditions, build}
use Rattle.cycle.specs.Judging.{full_size, tree_height, last_tree, figures_of, judge, size_conditions, plan_conditions}
use Rattle.cycle.specs.declared.Refusal.{Refusal}
use Rattle.cycle.specs.declared.Figures.{Figures}
use Rattle.cycle.specs.declared.Source.TheVariants.{List as InList}
use Rattle.cycle.specs.Inner.Held.{plan_of, InRange, sized, Ready, AcceptedList, plan_in, written}
use Rattle.cycle.specs.declared.Reason.TheVariants.{SettingsOut, LengthOut, LineMisprinted, TagFalls, CopiesOut, CycleTooLong, BufferTooShort}
use Rattle.cycle.proofs.Building.Accepted.{Ranged, plan_ranged, whole_lines_lem}
use Rattle.cycle.proofs.Building.AcceptedPlans.{copies_shape}
use Rattle.cycle.proofs.Building.AcceptedLists.{size_shape, plan_in_lem, long_in}
use Rattle.cycle.proofs.Basics.LayoutKinds.{number_named}
use Rattle.cycle.proofs.Trees.Shapes.{over}
use Rattle.cycle.proofs.Building.Written.{written_all}
use Rattle.cycle.proofs.Basics.Conditions.{none_holds, test_fails, none_before, first_stands, refused_by, passed_by}
use Rattle.cycle.proofs.Building.Outcomes.{none_refused}
use Rattle.cycle.specs.Inner.Settings.{Figured}
use Rattle.cycle.proofs.Building.PlanFigures.{last_shape, sized_figures, plan_same}

-- ---- 5 and 6

module _ (t : Plan) where
  pub refused_5 : copies_fit t ≡ false → first_refusal (size_conditions t) ≡ Some (refusal CopiesOut 0)
  unfolding size_conditions
  refused_5 e = rw e

  pub refused_6 : copies_fit t ≡ true → 99999 < cycle_size t → first_refusal (size_conditions t) ≡ Some (refusal CycleTooLong 0)
  unfolding size_conditions
  refused_6 e l = rw (e, lt-ltb 99999 (cycle_size t) l)

  pub size_passed : copies_fit t ≡ true → cycle_size t ≤ 99999 → first_refusal (size_conditions t) ≡ None
  unfolding size_conditions
  size_passed e l = rw (e, le-ltb 99999 (cycle_size t) l)

  pub size_short : first_refusal (size_conditions t) ≡ None → cycle_size t ≤ 99999
  unfolding size_conditions
  size_short h =
      let five = none_holds (copies_out t) (cycle_too_long t ∷ []) h in
      let six = none_holds (cycle_too_long t) [] five.others in
      ltb-false 99999 (cycle_size t) (test_fails (ltb 99999 (cycle_size t)) six.first)

  -- 7 behind them
  module _ (room : ℕ) where
    pub refused_before_7 :
        (r : Refusal) → first_refusal (size_conditions t) ≡ Some r → first_refusal (plan_conditions t room) ≡ Some r
    unfolding size_conditions plan_conditions
    refused_before_7 r h = first_stands (size_conditions t) (buffer_too_short room (240 * cycle_size t) ∷ []) r h

    pub refused_7 :
        first_refusal (size_conditions t) ≡ None → room < 240 * cycle_size t →
        first_refusal (plan_conditions t room) ≡ Some (refusal BufferTooShort 0)
    unfolding size_conditions plan_conditions
    refused_7 h l =
        none_before (size_conditions t) (buffer_too_short room (240 * cycle_size t) ∷ []) h ∙ rw (lt-ltb room (240 * cycle_size t) l)

    pub plan_passed :
        first_refusal (size_conditions t) ≡ None → 240 * cycle_size t ≤ room → first_refusal (plan_conditions t room) ≡ None
    unfolding size_conditions plan_conditions
    plan_passed h l =
        none_before (size_conditions t) (buffer_too_short room (240 * cycle_size t) ∷ []) h ∙ rw (le-ltb room (240 * cycle_size t) l)

-- ---- 1 to 4

module _ (s : Settings) (list : List ℕ) (room : ℕ) where
  pub refused_1 : settings_fit s ≡ false → first_refusal (conditions s list room) ≡ Some (refusal SettingsOut 0)
  unfolding conditions
  refused_1 e = rw e

  pub refused_2 :
      settings_fit s ≡ true → whole_lines (length list) ≡ false → first_refusal (conditions s list room) ≡ Some (refusal LengthOut 0)
  unfolding conditions
  refused_2 e w = rw (e, w)

  module _ (one : settings_fit s ≡ true) (two : whole_lines (length list) ≡ true) where
    pub refused_3 :
        (place : ℕ) → misprint_from 0 (cut_lines list) ≡ Some place →
        first_refusal (conditions s list room) ≡ Some (refusal LineMisprinted place)
    unfolding conditions
    refused_3 place e = rw (one, two, e)

    pub refused_4 :
        (place : ℕ) → misprint_from 0 (cut_lines list) ≡ None → fall_from 0 0 (list_lines list) ≡ Some place →
        first_refusal (conditions s list room) ≡ Some (refusal TagFalls place)
    unfolding conditions
    refused_4 place e f = rw (one, two, e, f)

    -- both
    pub lines_refused : (r : Refusal) → first_refusal (line_misprinted list ∷ tag_falls list ∷ []) ≡ Some r → first_refusal (conditions s list room) ≡ Some r
    unfolding conditions
    lines_refused r h =
        let t : Plan = plan s (list_lines list) in
        rw (one, two)
        (first_stands (line_misprinted list ∷ tag_falls list ∷ [])
        (copies_out t ∷ cycle_too_long t ∷ buffer_too_short room (image_length t) ∷ []) r h)

    pub passed :
        misprint_from 0 (cut_lines list) ≡ None → fall_from 0 0 (list_lines list) ≡ None →
        first_refusal (conditions s list room) ≡ first_refusal (plan_conditions (plan s (list_lines list)) room)
    unfolding conditions plan_conditions
    passed e f = rw (one, two, e, f)

  -- the answers of judging and of building
  pub judges_refusal : (r : Refusal) → first_refusal (conditions s list room) ≡ Some r → judge s list room ≡ Err r
  unfolding judge
  judges_refusal r e = ap (λ o. outcome o (figures_of (plan s (list_lines list)))) e

  pub builds_refusal :
      (r : Refusal) (d : List ℕ) → judge s list room ≡ Err r →
      (Err r ≡ (build s list room).answer) × (d ≡ onto (build s list room).output d)
  unfolding judge build onto
  builds_refusal r d h =
      let t : Plan = plan s (list_lines list) in
      let e = refused_by (first_refusal (conditions s list room)) (figures_of t) r h in
      (sym (ap (λ o. (building.outcome o t).answer) e), sym (ap (λ o. onto (building.outcome o t).output d) e))

-- 1 does not look at copies
pub any_copies : (n p layout c d : ℕ) → settings_fit (settings n p layout d) ≡ settings_fit (settings n p layout c)
unfolding settings_fit
any_copies n p layout c d = refl

module _ (c : ℕ) where
  pub no_multiple : (c % 27 ≡ 0 → ⊥) → whole_lines c ≡ false
  unfolding whole_lines
  no_multiple h = rw (ne_eqb (c % 27) 0 h)

  pub too_long : c % 27 ≡ 0 → 40000 < c / 27 → whole_lines c ≡ false
  unfolding whole_lines
  too_long h l = rw (eq-eqb (c % 27) 0 h, lt-leb (c / 27) 40000 l)

  pub lines_fit : c % 27 ≡ 0 → c / 27 ≤ 40000 → whole_lines c ≡ true
  unfolding whole_lines
  lines_fit h l = rw (eq-eqb (c % 27) 0 h, le-leb (c / 27) 40000 l)

-- ---- the figures

-- 5 to 7 hold of a plan whatever its lines
pub same_conditions :
    (f : Figures) (ls : List Line) (room : ℕ) →
    first_refusal (plan_conditions (plan_of f []) room) ≡ first_refusal (plan_conditions (plan_of f ls) room)
unfolding plan_conditions
same_conditions f ls room =
    ap₂ (λ fit m. first_refusal (row CopiesOut (not fit) ∷ row CycleTooLong (ltb 99999 m) ∷ row BufferTooShort (ltb room (240 * m)) ∷ []))
    (copies_shape f [] ls) (size_shape f [] ls)

-- what judging a list comes to where 1 to 4 do not hold
pub room_judged :
    (f : Figures) (s : Settings) (list : List ℕ) (room : ℕ) →
    first_refusal (conditions s list room) ≡ first_refusal (plan_conditions (plan s (list_lines list)) room) →
    plan_of f (list_lines list) ≡ plan s (list_lines list) → f.lines ≡ length (list_lines list) →
    outcome (first_refusal (plan_conditions (plan_of f []) room)) (sized f (cycle_size (plan_of f []))) ≡ judge s list room
unfolding judge
room_judged f s list room h same e =
    let ls : List Line = list_lines list in
    ap₂ outcome
    (same_conditions f ls room ∙ (ap (λ t. first_refusal (plan_conditions t room)) same ∙ sym h))
    (sized_figures f ls e ∙ ap figures_of same)

-- and what figures of its length come to
pub lines_judged :
    (s : Settings) (list : List ℕ) (room : ℕ) (f : Figures) → settings_fit s ≡ true → whole_lines (length list) ≡ true →
    first_refusal (line_misprinted list ∷ tag_falls list ∷ []) ≡ None → Figured s f → f.lines ≡ length list / 27 →
    outcome (first_refusal (plan_conditions (plan_of f []) room)) (sized f (cycle_size (plan_of f []))) ≡ judge s list room
lines_judged s list room f one two h g e =
    let three = none_holds (line_misprinted list) (tag_falls list ∷ []) h in
    let four = none_holds (tag_falls list) [] three.others in
    let lines : f.lines ≡ length (list_lines list) = e ∙ sym (length_list_lines list) in
    room_judged f s list room (passed s list room one two three.first four.first)
    (plan_same s f (list_lines list) g (sym lines)) lines

-- ---- the figures of a list that is built

-- the plan of a plan's figures
pub same_plan : (t : Plan) → Ranged t → (ls : List Line) → plan_of (figures_of t) ls ≡ over t ls
unfolding figures_of plan_of
same_plan t r ls =
    λ i.
    record { n = t.n; p = t.p; layout = number_named t.layout r.layout_low r.layout_high i; copies = t.copies; lines = ls; d = t.d; k = t.k }

pub figures_ready : (t : Plan) → Ranged t → copies_fit t ≡ true → cycle_size t ≤ 99999 → Ready (figures_of t)
unfolding figures_of plan_of
figures_ready t r fit short =
    let f : Figures = figures_of t in
    record {
      shaped = subst (λ m. InRange t.n t.p m (length t.lines) t.d t.k) (sym (number_named t.layout r.layout_low r.layout_high)) r;
      trees =
          record {
            span_is = ap (λ u. t.n ^ tree_height u) (sym (same_plan t r []));
            full_is = ap (λ u. full_size t.n (tree_height u)) (sym (same_plan t r []));
            last_is_lem = ap last_tree (sym (same_plan t r t.lines)) ∙ last_shape f t.lines [];
          };
      copies_fit_lem = copies_shape f [] t.lines ∙ ap copies_fit (same_plan t r t.lines) ∙ fit;
      size_is = ap cycle_size (sym (same_plan t r t.lines)) ∙ size_shape f t.lines [];
      size_high = short;
    }

module _ (s : Settings) (list : List ℕ) (room : ℕ) (none_of : first_refusal (conditions s list room) ≡ None) where
  pub figures_sending : AcceptedList (figures_of (plan s (list_lines list))) list
  unfolding figures_of plan
  figures_sending =
      let a = none_refused s list room none_of in
      let told = whole_lines_lem (length list) a.whole in
      let lines : length (list_lines list) ≡ length list / 27 = length_list_lines list in
      let all : length list / 27 * 27 + length list % 27 ≡ length list = div-add-mod' (length list) 27 in
      record {
        ready = figures_ready (plan s (list_lines list)) (plan_ranged s list a.settings a.whole) a.copies a.short;
        whole = omega (arith, lines, all, told.0);
        printed = a.read;
        rising = a.order;
      }

  -- the plan of these figures
  pub figures_plan : plan_of (figures_of (plan s (list_lines list))) (list_lines list) ≡ plan s (list_lines list)
  unfolding plan
  figures_plan =
      let a = none_refused s list room none_of in
      same_plan (plan s (list_lines list)) (plan_ranged s list a.settings a.whole) (list_lines list)

  pub figures_fit : 240 * (figures_of (plan s (list_lines list))).size ≤ room
  unfolding figures_of
  figures_fit = (none_refused s list room none_of).roomy

  -- the image written with them, and the answer
  pub figures_built :
      (d : List ℕ) → length d ≡ room →
      let f : Figures = figures_of (plan s (list_lines list)) in
      (Ok f.size ≡ (build s list room).answer)
      × (written (plan_in f InList list) d 0 f.size ≡ onto (build s list room).output d)
  unfolding figures_of plan_of build image onto plan
  figures_built d e =
      let t : Plan = plan s (list_lines list) in
      let f : Figures = figures_of t in
      let built = ap (λ o. building.outcome o t) none_of in (
        sym (ap (λ o. o.answer) built),
        written_all (plan_in f InList list) f.size (long_in f list figures_sending) d (omega (arith, figures_fit, e))
            ∙ ap (λ u. onto (image u) d) (plan_in_lem f list figures_sending ∙ figures_plan)
            ∙ sym (ap (λ o. onto o.output d) built),
      )

-- the same of the figures that judging answers with
module _ (s : Settings) (list : List ℕ) (room : ℕ) (f : Figures) (h : judge s list room ≡ Ok f) where
  none_and_figures : (first_refusal (conditions s list room) ≡ None) × (figures_of (plan s (list_lines list)) ≡ f)
  unfolding judge
  none_and_figures = passed_by (first_refusal (conditions s list room)) (figures_of (plan s (list_lines list))) f h

  pub sending_judged : AcceptedList f list × (240 * f.size ≤ room)
  sending_judged =
      let told = none_and_figures in
      subst (λ g. AcceptedList g list × (240 * g.size ≤ room)) told.1
      (figures_sending s list room told.0, figures_fit s list room told.0)

  pub builds_judged :
      (d : List ℕ) → length d ≡ room →
      (Ok f.size ≡ (build s list room).answer)
      × (written (plan_in f InList list) d 0 f.size ≡ onto (build s list room).output d)
  builds_judged d e =
      let told = none_and_figures in
      subst
      (λ g.
      (Ok g.size ≡ (build s list room).answer)
      × (written (plan_in g InList list) d 0 g.size ≡ onto (build s list room).output d))
      told.1 (figures_built s list room told.0 d e)
