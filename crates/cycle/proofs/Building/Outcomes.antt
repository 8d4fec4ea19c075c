-- Building answers with a cycle exactly if none of its conditions holds; then it writes the plan's image, and N is its size.
-- Assumes nothing.
use mathlib.Core.Path.{◌≡◌, refl, ap, subst}
use Prim.Native.Nat.{ℕ, ◌*◌, ◌≤◌}
use mathlib.Core.Bool.{true, not}
use Rattle.std.specs.Prelude.{Option, None, Some, Ok}
use mathlib.Core.List.{List, [], ◌∷◌}
use native.Mathlib.Omega.{arith}
use lib.Dec.{ltb}
use lib.ListN.{length}
use borrow.Author.Tests.{ltb-false, le-ltb, not-false}
use Rattle.columns.specs.Lists.{joined}
use Rattle.buckets.specs.ListLine.{print_line, cut_lines, list_lines, whole_lines, misprint_from, fall_from, blanked_list}
use Rattle.buckets.proofs.Lists.{print_of_list}
use Rattle.cycle.specs.Tree.{Plan, plan}
use Rattle.cycle.specs.declared.Settings.{Settings}
use Rattle.cycle.specs.Cycle.{cycle_size, image}
use Rattle.cycle.specs.Refusals.{Condition, first_refusal}
use Rattle.cycle.specs.Building.{settings_fit, copies_fit, settings_out, list_length_out, line_misprinted, tag_falls, copies_out, cycle_too_long, buffer_too_short, conditions, outcome, build}
use Rattle.cycle.specs.declared.Refusal.{Refusal}
use Rattle.cycle.proofs.Building.Accepted.{Accepted, accepted_plan, whole_lines_lem}
use Rattle.cycle.proofs.Basics.Conditions.{none_holds, test_fails}

-- ---- no condition holds

pub record Answered (s : Settings) (list : List ℕ) (room n : ℕ) : Type 0 where
  pub settings : settings_fit s ≡ true
  pub whole : whole_lines (length list) ≡ true
  pub read : misprint_from 0 (cut_lines list) ≡ None
  pub order : fall_from 0 0 (list_lines list) ≡ None
  pub copies : copies_fit (plan s (list_lines list)) ≡ true
  pub short : cycle_size (plan s (list_lines list)) ≤ 99999
  pub roomy : 240 * cycle_size (plan s (list_lines list)) ≤ room
  pub size_is : n ≡ cycle_size (plan s (list_lines list))
  pub output_is : (build s list room).output ≡ image (plan s (list_lines list))

-- no condition holds
pub none_refused :
    (s : Settings) (list : List ℕ) (room : ℕ) → first_refusal (conditions s list room) ≡ None →
    Answered s list room (cycle_size (plan s (list_lines list)))
unfolding build conditions
none_refused s list room h =
    let t : Plan = plan s (list_lines list) in
    let last : List Condition = buffer_too_short room (240 * cycle_size t) ∷ [] in
    let sixth : List Condition = cycle_too_long t ∷ last in
    let fifth : List Condition = copies_out t ∷ sixth in
    let fourth : List Condition = tag_falls list ∷ fifth in
    let third : List Condition = line_misprinted list ∷ fourth in
    let one = none_holds (settings_out s) (list_length_out list ∷ third) h in
    let two = none_holds (list_length_out list) third one.others in
    let three = none_holds (line_misprinted list) fourth two.others in
    let four = none_holds (tag_falls list) fifth three.others in
    let five = none_holds (copies_out t) sixth four.others in
    let six = none_holds (cycle_too_long t) last five.others in
    let seven = none_holds (buffer_too_short room (240 * cycle_size t)) [] six.others in
    record {
      settings = not-false (settings_fit s) (test_fails (not (settings_fit s)) one.first);
      whole = not-false (whole_lines (length list)) (test_fails (not (whole_lines (length list))) two.first);
      read = three.first;
      order = four.first;
      copies = not-false (copies_fit t) (test_fails (not (copies_fit t)) five.first);
      short = ltb-false 99999 (cycle_size t) (test_fails (ltb 99999 (cycle_size t)) six.first);
      roomy = ltb-false room (240 * cycle_size t) (test_fails (ltb room (240 * cycle_size t)) seven.first);
      size_is = refl;
      output_is = ap (λ o. (outcome o t).output) h;
    }

-- ---- building answers with a cycle

cycle_passed : (o : Option Refusal) (t : Plan) (n : ℕ) → (outcome o t).answer ≡ Ok n → (o ≡ None) × (cycle_size t ≡ n)
cycle_passed None t n h = (refl, cc)
cycle_passed (Some r) t n h = let z : ◌≡◌ {A = ℕ} 0 1 = cc in absurd (omega arith)

pub answered : (s : Settings) (list : List ℕ) (room n : ℕ) → (build s list room).answer ≡ Ok n → Answered s list room n
unfolding build
answered s list room n h =
    let told = cycle_passed (first_refusal (conditions s list room)) (plan s (list_lines list)) n h in
    subst (Answered s list room) told.1 (none_refused s list room told.0)

-- the plan of a list that building answers with a cycle
pub accepted : (s : Settings) (list : List ℕ) (room n : ℕ) → (build s list room).answer ≡ Ok n → Accepted (plan s (list_lines list))
accepted s list room n h =
    let a = answered s list room n h in accepted_plan s list a.settings a.whole a.read a.order a.copies

-- such a list, with its leading zeros made blank, is the print of its lines
pub accepted_list : (s : Settings) (list : List ℕ) (room n : ℕ) → (build s list room).answer ≡ Ok n → blanked_list list ≡ joined print_line (list_lines list)
accepted_list s list room n h =
    let a = answered s list room n h in (print_of_list list (whole_lines_lem (length list) a.whole).0 a.read).0

-- and back
pub builds_cycle :
    (s : Settings) (list : List ℕ) (room : ℕ) → settings_fit s ≡ true → whole_lines (length list) ≡ true →
    misprint_from 0 (cut_lines list) ≡ None → fall_from 0 0 (list_lines list) ≡ None → copies_fit (plan s (list_lines list)) ≡ true →
    cycle_size (plan s (list_lines list)) ≤ 99999 → 240 * cycle_size (plan s (list_lines list)) ≤ room →
    build s list room ≡
    record { answer = Ok (cycle_size (plan s (list_lines list))); output = image (plan s (list_lines list)) }
unfolding build conditions
builds_cycle s list room one two three four five six seven =
    let size : ℕ = cycle_size (plan s (list_lines list)) in
    rw (one, two, three, four, five, le-ltb 99999 size six, le-ltb room (240 * size) seven)
