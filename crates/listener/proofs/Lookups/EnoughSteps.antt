-- A lookup's run ends before its steps are spent, whatever the image and however many more there are.
-- Assumes nothing.
use mathlib.Core.Path.{◌≡◌, refl, sym, subst}
use mathlib.Core.List.{List, [], ◌++◌}
use Prim.Native.Nat.{ℕ, zero, suc, ◌+◌, ◌*◌, ◌%◌, ◌≤◌, ◌<◌}
use native.Mathlib.Omega.{arith}
use Rattle.buckets.specs.Lengths.{buckets_most}
use Rattle.buckets.specs.Bucket.{Bucket}
use Rattle.buckets.specs.declared.Line.{Line}
use Rattle.cycle.specs.declared.Reason.TheVariants.{PastNextCycle}
use Rattle.listener.specs.Listener.{start, step, named}
use Rattle.cycle.specs.Cycle.{bucket_at}
use Rattle.listener.specs.Lookup.{Finish, refused, after_answer, run_budget, run, run_else}
use Rattle.listener.specs.Inner.OnRun.{run_on}
use Rattle.listener.specs.Started.{after, NeverSpent}
use Rattle.listener.specs.declared.Listener.{Listener}
use Rattle.listener.specs.declared.Answer.{Answer}
use Rattle.listener.specs.declared.Answer.TheVariants.{Doze, Found, Absent, Refused}
use Rattle.listener.specs.declared.Stepped.{Stepped}
use Rattle.listener.proofs.Steps.StepLeaves.{Midway, midway, midway_short, GoesOn, Leaves, dozed_on, tuned_step}
use Rattle.listener.proofs.Steps.StartedListeners.{leaves}

module _ (image : List ℕ) (count : ℕ) (spent : ℕ → Finish) (more : ℕ) where
  -- more steps, and another answer where they are spent, change nothing from s on
  abbrev Enough : ℕ → Listener → Type 0
  Enough budget s =
      (x : ℕ) (got : List Line) →
      run_else spent image count (budget + more) x s got ≡ run image count budget x s got

  enough_after :
      {t : Bucket} {s : Listener} (r : Stepped) (budget x : ℕ) (got : List Line) → Leaves t s r →
      (GoesOn t s r → Enough budget r.listener) →
      (a : Answer) → r.answer ≡ a →
      after_answer (run_else spent image count (budget + more)) count x got r.listener a ≡
      after_answer (run image count budget) count x got r.listener a
  enough_after r budget x got h onward (Doze d) k = onward (dozed_on h k) ((x + d) % count) got
  enough_after r budget x got h onward Found k = refl
  enough_after r budget x got h onward Absent k = refl
  enough_after r budget x got h onward (Refused number) k = refl

  -- one step on
  enough_step :
      {t : Bucket} (s : Listener) (budget : ℕ) → ((bytes : List ℕ) → Leaves t s (step s bytes)) →
      ((bytes : List ℕ) → GoesOn t s (step s bytes) → Enough budget (step s bytes).listener) →
      Enough (suc budget) s
  enough_step s budget leaves onward x got =
      let bytes = bucket_at image x in
      let e : suc budget + more ≡ suc (budget + more) = omega arith in
      subst (λ z. run_else spent image count z x s got ≡ run image count (suc budget) x s got) (sym e)
      (enough_after (step s bytes) budget x (got ++ named bytes (step s bytes)) (leaves bytes) (onward bytes)
      (step s bytes).answer refl)

  enough_midway :
      {t : Bucket} (budget : ℕ) (s : Listener) → Midway t s → 2 * buckets_most ≤ s.elapsed + budget → Enough budget s
  enough_midway zero s m h = λ x got. absurd (omega (arith, midway_short s m, m.dozed))
  enough_midway {t} (suc budget) s m h =
      enough_step s budget (λ bytes. tuned_step t s bytes (midway m))
      (λ bytes g. enough_midway budget (step s bytes).listener g.awaits (omega (arith, g.further, h)))

-- from any started listener on, more steps than two cycles have buckets are enough
enough_started :
    (image : List ℕ) (count : ℕ) (spent : ℕ → Finish) (whole more tag : ℕ) (given : List (List ℕ)) (x : ℕ) (got : List Line) →
    2 * buckets_most < whole →
    run_else spent image count (whole + more) x (after (start tag) given) got ≡
    run image count whole x (after (start tag) given) got
enough_started image count spent zero more tag given x got h = absurd (omega (arith, h))
enough_started image count spent (suc budget) more tag given x got h =
    let bytes = bucket_at image x in
    let s = after (start tag) given in
    let e : suc budget + more ≡ suc (budget + more) = omega arith in
    subst (λ z. run_else spent image count z x s got ≡ run image count (suc budget) x s got) (sym e)
    (enough_after image count spent more (step s bytes) budget x (got ++ named bytes (step s bytes))
    (leaves tag given bytes)
    (λ g. enough_midway image count spent more budget (step s bytes).listener g.awaits (omega (arith, h)))
    (step s bytes).answer
    refl)

-- a run may take more steps than two cycles have buckets
budget_enough : 2 * buckets_most < run_budget
budget_enough = omega arith

pub never_spent : NeverSpent
never_spent image count tag t spent more = enough_started image count spent run_budget more tag [] t [] budget_enough

-- a step on, the run has as many steps left as it needs
pub run_on_lem :
    (image : List ℕ) (count tag : ℕ) (given : List (List ℕ)) (x : ℕ) (got : List Line) →
    run image count run_budget x (after (start tag) given) got ≡
    run_on image count (record { x = x; step = step (after (start tag) given) (bucket_at image x) }) got
unfolding run_on
run_on_lem image count tag given x got =
    let s = after (start tag) given in
    let e : run_budget + 1 ≡ suc run_budget = omega arith in
    sym
    (subst (λ z. run image count z x s got ≡ run image count run_budget x s got) e
    (enough_started image count (refused PastNextCycle) run_budget 1 tag given x got budget_enough))
