-- Document 02, C-14, "Skips come and go": what holds of a list whose lines arrive and are taken out.
-- Assumes nothing.
use mathlib.Core.Path.{◌≡◌, refl, sym, ap, ap₂, ◌∙◌, subst}
use Prim.Native.Nat.{ℕ, suc, ◌+◌, ◌-◌, ◌*◌, ◌≤◌}
use native.Mathlib.Omega.{arith}
use mathlib.Core.Bool.{Bool, true, false, ◌||◌, not, true≢false}
use Rattle.std.specs.Prelude.{Option, None, Some, Ok, Err}
use mathlib.Core.List.{List, [], ◌∷◌, ◌++◌, map, append-nil}
use lib.Dec.{eqb}
use lib.ListN.{length, take, drop, length-append, length-replicate}
use borrow.Author.Tests.{not-false, eq-eqb, ne_eqb, le-leb}
use Rattle.columns.specs.Lists.{joined, every, any, onto}
use Rattle.columns.specs.PrintedNumbers.{blanks}
use Rattle.buckets.specs.Lengths.{line_length, lines_most}
use Rattle.buckets.specs.ListLine.{spelled, cut_lines, list_lines}
use Rattle.cycle.specs.Refusals.{refusal, Condition, first_refusal}
use Rattle.cycle.specs.Refusals.{outcome as answer_by}
use Rattle.cycle.specs.Tree.{Plan, plan}
use Rattle.cycle.specs.declared.Settings.{Settings}
use Rattle.cycle.specs.Building as building
use Rattle.cycle.specs.Building.{build}
use Rattle.cycle.specs.Judging.{judge, figures_of, plan_conditions}
use Rattle.cycle.specs.Size.{Listed}
use Rattle.cycle.specs.Changes.{arrived, equals, taken_out, list_in, places_for, not_in_list, no_place, line_conditions, given_conditions, Change, arrival, departure, conditions, counts, outcome, change, arrive, take_out}
use Rattle.cycle.specs.ComingAndGoing.{Kept, UpToDate, PutBehind, FirstGone, MovedBehind, ComingAndGoing}
use Rattle.cycle.specs.declared.Counts.{Counts}
use Rattle.cycle.specs.declared.Reason.TheVariants.{NoPlace}
use Rattle.cycle.specs.declared.Refusal.{Refusal}
use Rattle.cycle.proofs.Basics.Conditions.{none_holds, none_both, test_fails, spares, never_by}
use Rattle.cycle.proofs.Changing.Places.{within_passes}
use Rattle.cycle.proofs.Changing.ChangedLists.{length_cut, cut_rises, whole_cut, cut_arrived, arrived_listed, cut_taken, taken_listed}
use Rattle.cycle.proofs.Changing.Moves.{onto_front_of, onto_behind, length_onto}
use Rattle.cycle.proofs.Changing.GivenJudging.{GivenPassed, given_passed}
use Rattle.cycle.proofs.Changing.ChangeAnswers.{listed_count, change_made, made_counts, refused_told, refused_as_built}
use Rattle.cycle.proofs.Changing.MovedLines.{put_behind, first_gone, taken_arrived, moved_behind}

-- ---- a change that is made

-- none of its conditions holds, and its list has this many lines
record Made (s : Settings) (buffer : List ℕ) (lines : ℕ) (given : List ℕ) (c : Change) : Type 0 where
  passed : first_refusal (given_conditions s buffer lines given) ≡ None
  given_fits : GivenPassed s buffer lines given
  free : c.own.holds ≡ None

record Fitting (c : Change) (count : ℕ) : Type 0 where
  few : count ≤ lines_most
  listed : Listed count c.list

module _ (s : Settings) (buffer : List ℕ) (lines : ℕ) (given : List ℕ) (c : Change) (room : ℕ) where
  passes : first_refusal (conditions s buffer lines given c room) ≡ None → Made s buffer lines given c
  unfolding conditions
  passes h =
      let own : List Condition = c.own ∷ plan_conditions (plan s (list_lines c.list)) room in
      let told = none_both (given_conditions s buffer lines given) own h in
      record {
        passed = told.0;
        given_fits = given_passed s buffer lines given told.0;
        free = (none_holds c.own (plan_conditions (plan s (list_lines c.list)) room) told.1).first;
      }

  made : (x : Counts) → (change s buffer lines given c room).answer ≡ Ok x → Made s buffer lines given c
  made x h = passes (made_counts s buffer lines given c room x h).0

  -- what it wrote
  wrote : (x : Counts) → (change s buffer lines given c room).answer ≡ Ok x → (change s buffer lines given c room).list ≡ c.list ++ c.behind
  wrote x h = ap (λ o. o.list) (change_made s buffer lines given c room (made_counts s buffer lines given c room x h).0)

  module _ (count : ℕ) (fitting : Made s buffer lines given c → Fitting c count) where
    -- its number of lines
    counted : (x : Counts) → (change s buffer lines given c room).answer ≡ Ok x → x.lines ≡ count
    unfolding counts plan
    counted x h =
        let m = made x h in
        let f = fitting m in
        sym (ap (λ (y : Counts). y.lines) (made_counts s buffer lines given c room x h).1)
        ∙ listed_count s c.list room count m.given_fits.settings f.few f.listed

    -- the changed list lies in its buffer
    lies : (x : Counts) → (change s buffer lines given c room).answer ≡ Ok x → list_in (onto (change s buffer lines given c room).list buffer) x.lines ≡ c.list
    unfolding list_in
    lies x h =
        let f = fitting (made x h) in
        ap₂ (λ t k. take (line_length * k) (onto t buffer)) (wrote x h) (counted x h)
        ∙ onto_front_of c.list c.behind buffer (line_length * count) (sym f.listed.count)

    kept_up : (x : Counts) → (change s buffer lines given c room).answer ≡ Ok x → Kept s buffer c room (change s buffer lines given c room) x
    unfolding build judge counts figures_of
    kept_up x h =
        let t : Plan = plan s (list_lines c.list) in
        let told = made_counts s buffer lines given c room x h in
        let m = made x h in
        let f = fitting m in
        let all = sym (refused_as_built s buffer lines given c room m.passed m.free count m.given_fits.settings f.few f.listed) ∙ told.0 in
        record {
          built = ap (λ o. (building.outcome o t).answer) all ∙ ap (λ (y : Counts). Ok y.n) told.1;
          judged_as =
              record {
                figures = figures_of t;
                judged = ap (λ o. answer_by o (figures_of t)) all;
                lines_are = ap (λ (y : Counts). y.lines) told.1;
                d_is = ap (λ (y : Counts). y.d) told.1;
                k_is = ap (λ (y : Counts). y.k) told.1;
                n_is = ap (λ (y : Counts). y.n) told.1;
              };
          image = ap (λ o. o.cycle) (change_made s buffer lines given c room told.0);
          lies = lies x h;
        }

    up_to_date : UpToDate s buffer lines given c room
    up_to_date =
        record {
          as_built =
              λ h.
              let told = none_both (given_conditions s buffer lines given) (c.own ∷ []) h in
              let free = (none_holds c.own [] told.1).first in
              let g = given_passed s buffer lines given told.0 in
              let f = fitting (record { passed = told.0; given_fits = g; free = free }) in
              refused_as_built s buffer lines given c room told.0 free count g.settings f.few f.listed;
          kept = kept_up;
        }

-- ---- the two changes

or_none : (a b : Bool) → a || b ≡ false → (a ≡ false) × (b ≡ false)
or_none true b h = absurd (true≢false h)
or_none false b h = (refl, h)

-- 16 does not hold
place_free : (buffer : List ℕ) (lines : ℕ) → (no_place buffer lines).holds ≡ None → (lines ≡ lines_most → ⊥) × (places_for buffer (suc lines) ≡ true)
unfolding no_place
place_free buffer lines h =
    let told = or_none (eqb lines lines_most) (not (places_for buffer (suc lines))) (test_fails (eqb lines lines_most || not (places_for buffer (suc lines))) h) in
    (λ e. true≢false (sym (eq-eqb lines lines_most e) ∙ told.0), not-false (places_for buffer (suc lines)) told.1)

-- 15 does not hold
line_there : (given list : List ℕ) → (not_in_list given list).holds ≡ None → any (equals given) (cut_lines list) ≡ true
unfolding not_in_list
line_there given list h = not-false (any (equals given) (cut_lines list)) (test_fails (not (any (equals given) (cut_lines list))) h)

some_line : (given list : List ℕ) (lines : ℕ) → Listed lines list → any (equals given) (cut_lines list) ≡ true → 1 ≤ lines
some_line given list lines l h = omega (arith, within_passes (equals given) (cut_lines list) h, length_cut list lines l)

module _ (s : Settings) (buffer : List ℕ) (lines : ℕ) (given : List ℕ) where
  arrival_fits : Made s buffer lines given (arrival buffer lines given) → Fitting (arrival buffer lines given) (suc lines)
  unfolding arrival
  arrival_fits m =
      let g = m.given_fits in
      let free = (place_free buffer lines m.free).0 in
      record { few = omega (arith, g.few, free); listed = arrived_listed given (list_in buffer lines) lines g.listed g.reads }

  departure_fits : Made s buffer lines given (departure buffer lines given) → Fitting (departure buffer lines given) (lines - 1)
  unfolding departure
  departure_fits m =
      let g = m.given_fits in
      record {
        few = omega (arith, g.few);
        listed = taken_listed given (list_in buffer lines) lines g.listed (line_there given (list_in buffer lines) m.free);
      }

module _ (s : Settings) (buffer : List ℕ) (lines : ℕ) (given : List ℕ) (room : ℕ) (x : Counts) where
  arrived_behind : (arrive s buffer lines given room).answer ≡ Ok x →
      PutBehind given (cut_lines (list_in buffer lines)) (cut_lines (list_in (onto (arrive s buffer lines given room).list buffer) x.lines))
      × (x.lines ≡ suc lines)
  unfolding arrival
  arrived_behind came =
      let former : List ℕ = list_in buffer lines in
      let a : Change = arrival buffer lines given in
      let g = (made s buffer lines given a room x came).given_fits in
      let fits = arrival_fits s buffer lines given in
      let now = ap cut_lines (lies s buffer lines given a room (suc lines) fits x came) ∙ cut_arrived given former lines g.listed g.reads in (
        subst (PutBehind given (cut_lines former)) (sym now) (put_behind given 0 (cut_lines former) (cut_rises former lines g.listed)),
        counted s buffer lines given a room (suc lines) fits x came,
      )

  first_taken : (take_out s buffer lines given room).answer ≡ Ok x →
      FirstGone given (cut_lines (list_in buffer lines)) (cut_lines (list_in (onto (take_out s buffer lines given room).list buffer) x.lines))
      × (suc x.lines ≡ lines)
  unfolding departure
  first_taken went =
      let former : List ℕ = list_in buffer lines in
      let d : Change = departure buffer lines given in
      let m = made s buffer lines given d room x went in
      let l = m.given_fits.listed in
      let there = line_there given former m.free in
      let fits = departure_fits s buffer lines given in
      let now = ap cut_lines (lies s buffer lines given d room (lines - 1) fits x went) ∙ cut_taken given former lines l in (
        subst (FirstGone given (cut_lines former)) (sym now) (first_gone given (cut_lines former) there),
        omega (arith, counted s buffer lines given d room (lines - 1) fits x went, some_line given former lines l there),
      )

-- ---- two changes, one after the other

-- what is written twice from the front on
onto_onto : (s t d : List ℕ) → length t ≤ length s → onto s (onto t d) ≡ onto s d
unfolding onto
onto_onto s t d h = ap (λ (r : List ℕ). s ++ r) (onto_behind t d (length s) h)

module _ (s t : Settings) (buffer : List ℕ) (lines : ℕ) (given : List ℕ) (room other : ℕ) (x y : Counts) where
  module _ (came : (arrive s buffer lines given room).answer ≡ Ok x) where
    abbrev there : List ℕ
    there = onto (arrive s buffer lines given room).list buffer

    taken_again : (take_out t there x.lines given other).answer ≡ Ok y → any (equals given) (cut_lines (list_in buffer lines)) ≡ false →
        (onto (take_out t there x.lines given other).list there ≡ onto (list_in buffer lines ++ blanks line_length) buffer)
        × (y.lines ≡ lines)
    unfolding arrival departure blanks
    taken_again went none_there =
        let former : List ℕ = list_in buffer lines in
        let a : Change = arrival buffer lines given in
        let d : Change = departure there x.lines given in
        let g = (made s buffer lines given a room x came).given_fits in
        let fits = arrival_fits s buffer lines given in
        let count = counted s buffer lines given a room (suc lines) fits x came in
        let long : length a.list ≡ line_length * suc lines = (arrived_listed given former lines g.listed g.reads).count in
        let left : d.list ≡ former =
        ap (λ (l : List ℕ). joined (λ r. r) (taken_out given (cut_lines l))) (lies s buffer lines given a room (suc lines) fits x came)
        ∙ ap (λ (ls : List (List ℕ)). joined (λ r. r) (taken_out given ls)) (cut_arrived given former lines g.listed g.reads)
        ∙ ap (joined (λ r. r)) (taken_arrived given (cut_lines former) none_there)
        ∙ whole_cut former lines g.listed in
        let wide : length (former ++ blanks line_length) ≡ line_length * lines + line_length =
        simp (length-append, length-replicate) (omega (arith, g.listed.count)) in
        let short : length (arrive s buffer lines given room).list ≤ length (former ++ blanks line_length) =
        rw (wrote s buffer lines given a room x came, append-nil a.list) (omega (arith, long, wide)) in (
          ap (λ (l : List ℕ). onto l there) (wrote t there x.lines given d other y went ∙ ap (λ (l : List ℕ). l ++ blanks line_length) left)
              ∙ onto_onto (former ++ blanks line_length) (arrive s buffer lines given room).list buffer short,
          counted t there x.lines given d other (x.lines - 1) (departure_fits t there x.lines given) y went ∙ omega (arith, count),
        )

  module _ (went : (take_out s buffer lines given room).answer ≡ Ok x) where
    abbrev left : List ℕ
    left = onto (take_out s buffer lines given room).list buffer

    moved_again : (arrive t left x.lines given other).answer ≡ Ok y →
        MovedBehind (spelled given) (list_lines (list_in buffer lines))
        (list_lines (list_in (onto (arrive t left x.lines given other).list left) y.lines))
        × (y.lines ≡ lines)
    unfolding arrival departure list_lines
    moved_again came =
        let former : List ℕ = list_in buffer lines in
        let d : Change = departure buffer lines given in
        let a : Change = arrival left x.lines given in
        let m = made s buffer lines given d room x went in
        let g = m.given_fits in
        let there = line_there given former m.free in
        let leaves = departure_fits s buffer lines given in
        let again = (made t left x.lines given a other y came).given_fits in
        let arrives = arrival_fits t left x.lines given in
        let lines_left : cut_lines (list_in left x.lines) ≡ taken_out given (cut_lines former) =
        ap cut_lines (lies s buffer lines given d room (lines - 1) leaves x went) ∙ cut_taken given former lines g.listed in
        let lines_now : cut_lines (list_in (onto (arrive t left x.lines given other).list left) y.lines) ≡ arrived given (taken_out given (cut_lines former)) =
        ap cut_lines (lies t left x.lines given a other (suc x.lines) arrives y came)
        ∙ cut_arrived given (list_in left x.lines) x.lines again.listed again.reads
        ∙ ap (arrived given) lines_left in (
          subst (MovedBehind (spelled given) (map spelled (cut_lines former))) (sym (ap (map spelled) lines_now))
              (moved_behind given 0 (cut_lines former) (cut_rises former lines g.listed) there),
          counted t left x.lines given a other (suc x.lines) arrives y came
              ∙ omega (arith, counted s buffer lines given d room (lines - 1) leaves x went, some_line given former lines g.listed there),
        )

-- ---- the place freed

module _ (s t : Settings) (buffer : List ℕ) (lines : ℕ) (given next : List ℕ) (room other : ℕ) (x : Counts)
    (went : (take_out s buffer lines given room).answer ≡ Ok x) where
  abbrev behind : List ℕ
  behind = onto (take_out s buffer lines given room).list buffer

  -- what the call has written ends where the former list did
  filled : length (take_out s buffer lines given room).list ≡ line_length * lines
  unfolding departure blanks
  filled =
      let former : List ℕ = list_in buffer lines in
      let d : Change = departure buffer lines given in
      let m = made s buffer lines given d room x went in
      let there = line_there given former m.free in
      let long : length d.list ≡ line_length * (lines - 1) = (taken_listed given former lines m.given_fits.listed there).count in
      let wide : length (d.list ++ blanks line_length) ≡ line_length * lines =
      simp (length-append, length-replicate) (omega (arith, long, some_line given former lines m.given_fits.listed there)) in
      rw (wrote s buffer lines given d room x went) wide

  fewer : suc x.lines ≡ lines
  fewer = (first_taken s buffer lines given room x went).1

  fits : GivenPassed s buffer lines given
  fits = (made s buffer lines given (departure buffer lines given) room x went).given_fits

  place_again : places_for behind (suc x.lines) ≡ true
  unfolding places_for
  place_again =
      let long : length behind ≡ length buffer = length_onto (take_out s buffer lines given room).list buffer (omega (arith, filled, fits.places)) in
      le-leb (line_length * suc x.lines) (length behind) (omega (arith, long, fewer, fits.places))

  -- none of the conditions of an arrival by 16 holds
  spared : every (spares NoPlace) (conditions t behind x.lines next (arrival behind x.lines next) other) ≡ true
  unfolding conditions given_conditions line_conditions plan_conditions arrival no_place
  spared = rw (ne_eqb x.lines lines_most (λ e. omega (arith, fewer, fits.few)), place_again)

  not_by_16 : (place : ℕ) → (arrive t behind x.lines next other).answer ≡ Err (refusal NoPlace place) → ⊥
  not_by_16 place h =
      never_by NoPlace (conditions t behind x.lines next (arrival behind x.lines next) other) place spared
      (refused_told t behind x.lines next (arrival behind x.lines next) other (refusal NoPlace place) h)

  -- an arrival writes no further than the former list
  short :
      (o : Option Refusal) → first_refusal (conditions t behind x.lines next (arrival behind x.lines next) other) ≡ o →
      length (outcome o t (arrival behind x.lines next) other).list ≤ line_length * lines
  unfolding arrival
  short (Some r) h = omega arith
  short None h =
      let a : Change = arrival behind x.lines next in
      let long = (arrival_fits t behind x.lines next (passes t behind x.lines next a other h)).listed.count in
      rw (append-nil a.list) (omega (arith, long, fewer))

  freed_serves :
      ((place : ℕ) → (arrive t behind x.lines next other).answer ≡ Err (refusal NoPlace place) → ⊥) ×
      (drop (line_length * lines) (onto (arrive t behind x.lines next other).list behind) ≡ drop (line_length * lines) buffer)
  unfolding change
  freed_serves = (
    not_by_16,
    onto_behind (arrive t behind x.lines next other).list behind (line_length * lines)
        (short (first_refusal (conditions t behind x.lines next (arrival behind x.lines next) other)) refl)
        ∙ onto_behind (take_out s buffer lines given room).list buffer (line_length * lines) (omega (arith, filled)),
  )

-- ---- all together

pub coming_and_going : ComingAndGoing
coming_and_going =
    record {
      arrivals = λ s buffer lines given room. up_to_date s buffer lines given (arrival buffer lines given) room (suc lines) (arrival_fits s buffer lines given);
      departures = λ s buffer lines given room. up_to_date s buffer lines given (departure buffer lines given) room (lines - 1) (departure_fits s buffer lines given);
      goes_behind = arrived_behind;
      first_goes = first_taken;
      come_and_go = taken_again;
      go_and_come = moved_again;
      freed_place_serves = freed_serves;
    }
