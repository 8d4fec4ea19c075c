-- A lookup's outcome, condition by condition.
-- Assumes nothing.
use mathlib.Core.Path.{◌≡◌, refl, sym, ◌∙◌, ap}
use mathlib.Core.Bool.{Bool, true, false, not}
use Rattle.std.specs.Prelude.{Option, None, Some, Result, Ok, Err}
use mathlib.Core.List.{List, [], ◌∷◌}
use Prim.Native.Nat.{ℕ, ◌*◌, ◌/◌, ◌≤◌, ◌<◌}
use native.Mathlib.Omega.{arith}
use lib.Dec.{leb, ltb}
use lib.ListN.{length}
use borrow.Author.Tests.{lt-ltb, le-ltb}
use Rattle.columns.specs.Lists.{pick, joined, put}
use Rattle.buckets.specs.Lengths.{bucket_length, line_length}
use Rattle.buckets.specs.declared.Line.{Line}
use Rattle.buckets.specs.ListLine.{print_line}
use Rattle.cycle.specs.Refusals.{refusal, row, first_refusal}
use Rattle.cycle.specs.declared.Refusal.{Refusal}
use Rattle.cycle.specs.declared.Reason.TheVariants.{BufferTooShort, ImageLengthOut, TuneInOut}
use Rattle.cycle.specs.Building.{buffer_too_short}
use Rattle.cycle.specs.ReadingBack.{whole_buckets}
use Rattle.cycle.proofs.Basics.Conditions.{none_before, first_stands}
use Rattle.listener.specs.Lookup.{Finish, found, absent, refused, whole_run, got_by, step_refused, tune_in_conditions, run_conditions, conditions, refused_or, run_over, as_ending}
use Rattle.listener.specs.Lookup.{Outcome, numbers, refuse, outcome, lookup}
use Rattle.listener.specs.Inner.OnRun.{concluded}
use Rattle.listener.specs.declared.Listener.{Listener}
use Rattle.listener.specs.declared.Looked.{Looked}
use Rattle.listener.specs.declared.Looked.TheVariants
use Rattle.listener.specs.declared.Ending.TheVariants as held

-- the run's own conditions, which come last: how it ends
run_told : (f : Finish) → refused_or (first_refusal (step_refused f ∷ [])) f ≡ f
run_told (found s got) = refl
run_told (absent s) = refl
run_told (refused reason place) = refl

-- those of a lookup, with 7 behind them
lookup_told :
    (f : Finish) (room : ℕ) →
    outcome (first_refusal (step_refused f ∷ buffer_too_short room (line_length * length (got_by f)) ∷ [])) f ≡ concluded room f
lookup_told (found s got) room = by (ltb room (line_length * length got))
  where
    by : (b : Bool) →
        outcome (first_refusal (row BufferTooShort b ∷ [])) (found s got) ≡
        pick b (refuse (refusal BufferTooShort 0)) (outcome None (found s got))
    by true = refl
    by false = refl
lookup_told (absent s) room = rw (le-ltb room 0 (omega arith))
lookup_told (refused reason place) room = refl

-- 11 or 12, or neither
module _ (image : List ℕ) (tag t : ℕ) where
  abbrev ran : Finish
  ran = whole_run image (length image / bucket_length) tag t

  pub runs : first_refusal (tune_in_conditions image t) ≡ None → run_over image tag t ≡ ran
  unfolding run_over run_conditions tune_in_conditions
  runs h =
      ap (λ r. refused_or r ran) (none_before (tune_in_conditions image t) (step_refused ran ∷ []) h) ∙ run_told ran

  -- the same over an image that was taken for these bytes
  pub runs_in :
      {bytes : List ℕ} {count : ℕ} → first_refusal (tune_in_conditions image t) ≡ None → bytes ≡ image →
      count ≡ length image / bucket_length → run_over image tag t ≡ whole_run bytes count tag t
  runs_in h b c = rw (b, c) (runs h)

  pub runs_not :
      (r : Refusal) → first_refusal (tune_in_conditions image t) ≡ Some r → run_over image tag t ≡ refused r.reason r.place
  unfolding run_over run_conditions tune_in_conditions
  runs_not r h = ap (λ r. refused_or r ran) (first_stands (tune_in_conditions image t) (step_refused ran ∷ []) r h)

  pub looks_up :
      (room : ℕ) → first_refusal (tune_in_conditions image t) ≡ None → lookup image tag t room ≡ concluded room ran
  unfolding lookup conditions tune_in_conditions
  looks_up room h =
      ap (λ r. outcome r ran)
      (none_before (tune_in_conditions image t)
      (step_refused ran ∷ buffer_too_short room (line_length * length (got_by ran)) ∷ []) h) ∙
      lookup_told ran room

  pub looks_in :
      (room : ℕ) {bytes : List ℕ} {count : ℕ} → first_refusal (tune_in_conditions image t) ≡ None → bytes ≡ image →
      count ≡ length image / bucket_length → lookup image tag t room ≡ concluded room (whole_run bytes count tag t)
  looks_in room h b c = rw (b, c) (looks_up room h)

  pub looks_not :
      (room : ℕ) (r : Refusal) → first_refusal (tune_in_conditions image t) ≡ Some r → lookup image tag t room ≡ refuse r
  unfolding lookup conditions tune_in_conditions
  looks_not room r h =
      ap (λ r. outcome r ran)
      (first_stands (tune_in_conditions image t)
      (step_refused ran ∷ buffer_too_short room (line_length * length (got_by ran)) ∷ []) r h)

  -- by how the run ends
  pub concludes : (space : ℕ) {f : Finish} → run_over image tag t ≡ f → lookup image tag t space ≡ concluded space f
  concludes space {f} e = by (first_refusal (tune_in_conditions image t)) refl
    where
      by : (o : Option Refusal) → first_refusal (tune_in_conditions image t) ≡ o → lookup image tag t space ≡ concluded space f
      by None h = looks_up space h ∙ ap (concluded space) (sym (runs h) ∙ e)
      by (Some r) h = looks_not space r h ∙ ap (concluded space) (sym (runs_not r h) ∙ e)

  -- by two tests
  pub lookup_by_tests :
      (room : ℕ) →
      lookup image tag t room ≡
      concluded room
      (pick (not (whole_buckets (length image))) (refused ImageLengthOut 0)
      (pick (leb (length image / bucket_length) t) (refused TuneInOut 0) (whole_run image (length image / bucket_length) tag t)))
  unfolding run_over run_conditions tune_in_conditions
  lookup_by_tests room = concludes room (by (not (whole_buckets (length image))) (leb (length image / bucket_length) t))
    where
      by :
          (w l : Bool) →
          refused_or (first_refusal (row ImageLengthOut w ∷ row TuneInOut l ∷ step_refused ran ∷ [])) ran ≡
          pick w (refused ImageLengthOut 0) (pick l (refused TuneInOut 0) ran)
      by true l = refl
      by false true = refl
      by false false = run_told ran

-- ---- how a run ends

pub record FoundIn (f : Finish) (s : Listener) (n : ℕ) : Type 0 where
  pub got : List Line
  pub is : f ≡ found s got
  pub counted : length got ≡ n

pub as_found : (f : Finish) {s : Listener} {n : ℕ} → as_ending f ≡ Ok (held.Found s n) → FoundIn f s n
as_found (found s' got) {s} {n} e =
    let p : s' ≡ s = cc in
    record { got = got; is = ap (λ z. found z got) p; counted = cc }
as_found (absent s') e = let z : ◌≡◌ {A = ℕ} 0 1 = cc in absurd (omega arith)
as_found (refused a b) e = let z : ◌≡◌ {A = ℕ} 0 1 = cc in absurd (omega arith)

pub as_absent : (f : Finish) {s : Listener} → as_ending f ≡ Ok (held.Absent s) → f ≡ absent s
as_absent (found s' got) e = let z : ◌≡◌ {A = ℕ} 0 1 = cc in absurd (omega arith)
as_absent (absent s') {s} e = let p : s' ≡ s = cc in ap absent p
as_absent (refused a b) e = let z : ◌≡◌ {A = ℕ} 0 1 = cc in absurd (omega arith)

pub as_refused : (f : Finish) {r : Refusal} → as_ending f ≡ Err r → f ≡ refused r.reason r.place
as_refused (found s' got) e = let z : ◌≡◌ {A = ℕ} 0 1 = cc in absurd (omega arith)
as_refused (absent s') e = let z : ◌≡◌ {A = ℕ} 0 1 = cc in absurd (omega arith)
as_refused (refused a' b') {r} e =
    let p : refusal a' b' ≡ r = cc in
    ap (λ z. refused z.reason z.place) p

-- ---- the outcome of such a run

module _ (room : ℕ) (s : Listener) (got : List Line) where
  pub refused_7 : room / line_length < length got → concluded room (found s got) ≡ refuse (refusal BufferTooShort 0)
  refused_7 h = rw (lt-ltb room (line_length * length got) (omega arith))

  pub has_room : length got ≤ room / line_length → line_length * length got ≤ room
  has_room h = omega arith

  pub finds :
      length got ≤ room / line_length →
      concluded room (found s got) ≡
      record {
        answer = Ok (TheVariants.Found s.heard s.elapsed (length got));
        output = joined print_line got;
      }
  finds h = rw (le-ltb room (line_length * length got) (has_room h))

-- what is handed back, by an outcome that is known
pub handed :
    {o o' : Outcome} {r : Result Looked Refusal} (d : List ℕ) {e : List ℕ} → o ≡ o' → r ≡ o'.answer → e ≡ put d 0 o'.output →
    (numbers r ≡ numbers o.answer) × (e ≡ put d 0 o.output)
handed d k a w = (ap numbers (a ∙ ap (λ z. z.answer) (sym k)), w ∙ ap (λ z. put d 0 z.output) (sym k))

abbrev pub answered : Looked → Result Looked Refusal
answered l = Ok l

pub found_alike :
    {h h' e e' n n' : ℕ} → h ≡ h' → e ≡ e' → n ≡ n' → answered (TheVariants.Found h e n) ≡ answered (TheVariants.Found h' e' n')
found_alike a b c = cc

pub absent_alike : {h h' e e' : ℕ} → h ≡ h' → e ≡ e' → answered (TheVariants.Absent h e) ≡ answered (TheVariants.Absent h' e')
absent_alike a b = cc
