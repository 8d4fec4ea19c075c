-- Where no bucket is lost the hearing is that of demand 3, and a walk from its tune-in tells all of it.
-- Assumes nothing.
use mathlib.Core.Path.{◌≡◌, refl, sym, ◌∙◌, ap, subst}
use Prim.Native.Nat.{ℕ, zero, suc, ◌+◌, ◌≤◌, ◌<◌}
use mathlib.Core.Bool.{Bool, true, false, true≢false}
use Rattle.std.specs.Prelude.{Option, None, Some}
use mathlib.Core.List.{List, [], ◌∷◌, ◌++◌, append-nil, append_assoc}
use native.Mathlib.Nat.{zero-add}
use native.Mathlib.Omega.{arith}
use lib.ListN.{length, take, drop, length-replicate}
use Rattle.columns.specs.Lists.{any, every}
use Rattle.buckets.specs.declared.Line.{Line}
use Rattle.listener.specs.Listener.{start, step, stopped, named}
use Rattle.listener.specs.Hearing.{Taken, Supply, at, anywhere, given, onward, steps_from, hearing, End, end_of, until_end, heard_in, elapsed_in, refused_before_end, lines_got, listener_after, count_if}
use Rattle.listener.specs.Demand3.{refused_by14}
use Rattle.listener.specs.Lost.{Marked, taken_by, marked_from, marked_hearing, steps, up_to_end, lost_in, lines_held, lines_since, unmarked, NoLoss}
use Rattle.listener.specs.declared.Listener.{Listener}
use Rattle.listener.specs.declared.Phase.TheVariants.{TuneIn, Ended}
use Rattle.listener.specs.declared.Answer.{Answer}
use Rattle.listener.specs.declared.Answer.TheVariants.{Doze, Found, Absent, Refused}
use Rattle.listener.specs.declared.Stepped.{Stepped}
use Rattle.listener.proofs.Steps.Mechanics.{start_awaits}
use Rattle.listener.proofs.Steps.EndedSteps.{is_end, over_step}
use Rattle.listener.proofs.Steps.States.{not_stopped}
use Rattle.listener.proofs.Walks.Walk.{Walk, walk_short}
use Rattle.listener.proofs.Walks.WalkedSteps.{gone_by, Rule, EndsAt, Followed, Stays, stays}
use Rattle.listener.proofs.Walks.Walked.{Stretch, followed}

pub elapsed_gone : (log : List Taken) → elapsed_in log ≡ gone_by 1 log
elapsed_gone [] = refl
elapsed_gone (x ∷ xs) = refl

-- as many steps as marks
pub length_marked :
    (sent strays : ℕ → List ℕ) (s : Listener) (w : Supply) (marks : List Bool) → length (marked_from sent strays s w marks) ≡ length marks
length_marked sent strays s w [] = refl
length_marked sent strays s w (mark ∷ marks) =
    let r : Stepped = (taken_by mark s (given sent strays (length marks) w)).outcome in
    ap suc (length_marked sent strays r.listener (onward w r.answer) marks)

none_marked : (m : ℕ) → any (λ b. b) (unmarked m) ≡ false
none_marked zero = refl
none_marked (suc m) = none_marked m

module _ (sent strays : ℕ → List ℕ) where
  pub same_steps :
      (s : Listener) (w : Supply) (m : ℕ) → steps (marked_from sent strays s w (unmarked m)) ≡ steps_from sent strays s w m
  same_steps s w zero = refl
  same_steps s w (suc m) =
      let r : Stepped = step s (given sent strays m w) in
      rw (length-replicate m false)
      (ap (λ rest. record { bytes = given sent strays m w; outcome = r } ∷ rest) (same_steps r.listener (onward w r.answer) m))

  none_counted : (k : ℕ) (s : Listener) (w : Supply) (m : ℕ) → count_if (λ x. x.mark) (take k (marked_from sent strays s w (unmarked m))) ≡ 0
  none_counted zero s w m = refl
  none_counted (suc k) s w zero = refl
  none_counted (suc k) s w (suc m) = rw zero-add (none_counted k _ _ m)

  pub none_lost : (s : Listener) (w : Supply) (m : ℕ) → lost_in (marked_from sent strays s w (unmarked m)) ≡ 0
  unfolding lost_in up_to_end
  none_lost s w m = none_counted (heard_in (steps (marked_from sent strays s w (unmarked m)))) s w m

  -- the steps of an ended listener
  pub stays_unmarked : (s : Listener) → s.phase ≡ Ended → (m : ℕ) → Stays s (steps_from sent strays s anywhere m)
  stays_unmarked s e m = subst (Stays s) (same_steps s anywhere m) (stays sent strays s e (unmarked m))

  -- ---- lines

  away : (w : Supply) (a : Answer) → is_end a ≡ true → onward w a ≡ anywhere
  away (at x) (Doze d) h = absurd (true≢false (sym h))
  away (at x) Found h = refl
  away (at x) Absent h = refl
  away (at x) (Refused number) h = refl
  away anywhere a h = refl

  -- behind the end none are named
  none_behind :
      (s : Listener) (w : Supply) (bytes : List ℕ) (m : ℕ) (a : Answer) → (step s bytes).answer ≡ a → is_end a ≡ true →
      lines_got (steps_from sent strays (step s bytes).listener (onward w a) m) ≡ []
  none_behind s w bytes m a e h =
      rw (away w a h) (stays_unmarked (step s bytes).listener (over_step s bytes (ap is_end e ∙ h)) m).no_lines

  abbrev SameLines : Listener → Supply → ℕ → Type 0
  SameLines s w m =
      (held : List Line) →
      lines_held held (take (heard_in (steps_from sent strays s w m)) (marked_from sent strays s w (unmarked m))) ≡
      held ++ lines_got (steps_from sent strays s w m)

  lines_on :
      (s : Listener) (w : Supply) (bytes : List ℕ) (m : ℕ) (a : Answer) → (step s bytes).answer ≡ a →
      SameLines (step s bytes).listener (onward w a) m → (held : List Line) →
      let y : Taken = record { bytes = bytes; outcome = step s bytes } in
      lines_held held
      (take (heard_in (y ∷ steps_from sent strays (step s bytes).listener (onward w (step s bytes).answer) m))
      (record { mark = false; taken = y } ∷ marked_from sent strays (step s bytes).listener (onward w (step s bytes).answer) (unmarked m))) ≡
      held ++ (named bytes (step s bytes) ++ lines_got (steps_from sent strays (step s bytes).listener (onward w (step s bytes).answer) m))
  unfolding heard_in step
  lines_on s w bytes m (Doze d) e more held =
      rw e (more (held ++ named bytes (step s bytes)) ∙ append_assoc held (named bytes (step s bytes)) _)
  lines_on s w bytes m Found e more held = rw (e, none_behind s w bytes m Found e refl, append-nil)
  lines_on s w bytes m Absent e more held = rw (e, none_behind s w bytes m Absent e refl, append-nil)
  lines_on s w bytes m (Refused number) e more held =
      rw e (more (held ++ named bytes (step s bytes)) ∙ append_assoc held (named bytes (step s bytes)) _)

  lines_same : (s : Listener) (w : Supply) (m : ℕ) → SameLines s w m
  unfolding heard_in
  lines_same s w zero held = sym (append-nil held)
  lines_same s w (suc m) held =
      let bytes = given sent strays m w in
      rw (length-replicate m false)
      (lines_on s w bytes m (step s bytes).answer refl (lines_same (step s bytes).listener (onward w (step s bytes).answer) m) held)

  pub same_lines :
      (s : Listener) (w : Supply) (m : ℕ) → lines_since (marked_from sent strays s w (unmarked m)) ≡ lines_got (steps_from sent strays s w m)
  unfolding lines_since up_to_end
  same_lines s w m = rw (same_steps s w m) (lines_same s w m [])

pub no_loss : NoLoss
unfolding marked_hearing hearing
no_loss sent strays tag t m =
    record {
      same_steps = same_steps sent strays (start tag) (at t) m;
      none = none_lost sent strays (start tag) (at t) m;
      same_lines = same_lines sent strays (start tag) (at t) m;
    }

-- ---- a walk from tune-in

-- of the hearing of a tag from place u on, if a walk of h steps to place z starts there, all before `last`
pub record Walked (last u tag m h : ℕ) (e : End) (z : ℕ) (got : List Line) (log : List Taken) : Type 0 where
  pub heard_most_lem : heard_in log ≤ h
  pub unrefused : refused_before_end log ≡ false
  pub come : h ≤ m → end_of log ≡ Some e
  pub end_is : (e' : End) → end_of log ≡ Some e' → e' ≡ e
  pub lines_are : (e' : End) → end_of log ≡ Some e' → lines_got log ≡ got
  pub heard_own : (listener_after (start tag) log).heard ≡ heard_in log
  pub elapsed_own : (listener_after (start tag) log).elapsed ≡ elapsed_in log
  pub in_time : u + elapsed_in log ≤ last
  pub ends_at : (e' : End) → end_of log ≡ Some e' → u + elapsed_in log ≡ z + 1
  pub after_end : every (λ x. refused_by14 x.outcome.answer) (drop (heard_in log) log) ≡ true
  pub unchanged : listener_after (start tag) log ≡ listener_after (start tag) (until_end log)

-- the one right end
pub record TheEnd (z : ℕ) (e : End) (got : List Line) (place : ℕ) (end : End) (lines : List Line) : Type 0 where
  pub place_is : place ≡ z
  pub end_is : end ≡ e
  pub lines_are : lines ≡ got

module _ (sent strays : ℕ → List ℕ) (tag : ℕ) (on : Stretch sent) (u h : ℕ) (e : End) (z : ℕ) (got : List Line) (m : ℕ) where
  abbrev marked : List Marked
  marked = marked_from sent strays (start tag) (at (on.base + u)) (unmarked m)

  abbrev log : List Taken
  log = steps_from sent strays (start tag) (at (on.base + u)) m

  abbrev Right : Rule
  Right = TheEnd (on.base + z) e got

  module _ (walk : Walk (on.n + on.n') tag on.bucket u TuneIn h e z got) (early : u < on.n) where
    told : Followed Right 0 0 (on.base + (on.n + on.n')) (start tag) (on.base + u) h e (on.base + z) got marked
    unfolding start
    told =
        followed sent strays tag Right 0 0 on walk (start tag) (start_awaits on.n tag u on.bucket (start tag) early refl refl refl)
        (unmarked m) (λ c. absurd (true≢false (sym c ∙ none_marked m)))

    same : steps marked ≡ log
    same = same_steps sent strays (start tag) (at (on.base + u)) m

    unlost : lost_in marked ≡ 0
    unlost = none_lost sent strays (start tag) (at (on.base + u)) m

    ended : (e' : End) → end_of (steps marked) ≡ Some e' → EndsAt Right 1 (on.base + u) [] e' marked
    unfolding start
    ended = told.ends [] (record { place_is = refl; end_is = refl; lines_are = refl })

    come : h ≤ m → (o : Option End) → end_of (steps marked) ≡ o → end_of (steps marked) ≡ Some e
    come long None c =
        absurd
        (omega (
          arith,
          told.not_ended c,
          length_marked sent strays (start tag) (at (on.base + u)) (unmarked m),
          length-replicate m false,
          unlost,
        ))
    come long (Some e') c = c ∙ ap Some (ended e' c).right.end_is

    most : heard_in (steps marked) ≤ h
    most = omega (arith, told.heard_most_lem, unlost)

    time : on.base + u + elapsed_in (steps marked) ≤ on.base + (on.n + on.n')
    unfolding start
    time = omega (arith, told.in_time, unlost, elapsed_gone (steps marked))

    walked_steps : Walked (on.base + (on.n + on.n')) (on.base + u) tag m h e (on.base + z) got (steps marked)
    unfolding start lines_since
    walked_steps =
        let short : u + h ≤ on.n + on.n' = walk_short walk in
        let small = on.airs.small in
        let small' = on.airs.small' in
        record {
          heard_most_lem = most;
          unrefused = told.unrefused;
          come = λ long. come long (end_of (steps marked)) refl;
          end_is = λ e' c. (ended e' c).right.end_is;
          lines_are = λ e' c.
              ap lines_got same ∙ (sym (same_lines sent strays (start tag) (at (on.base + u)) m) ∙ (ended e' c).right.lines_are);
          heard_own =
              told.heard_own (omega arith) ∙ (ap stopped (zero-add (heard_in (steps marked))) ∙ not_stopped (heard_in (steps marked)) (omega (arith, most)));
          elapsed_own =
              told.elapsed_own (omega arith) ∙
              (ap stopped (zero-add (gone_by 1 (steps marked)) ∙ sym (elapsed_gone (steps marked))) ∙ not_stopped (elapsed_in (steps marked)) (omega (arith, time)));
          in_time = time;
          ends_at = λ e' c. omega (arith, (ended e' c).there, (ended e' c).right.place_is, elapsed_gone (steps marked));
          after_end = told.after_end;
          unchanged = told.unchanged;
        }

    pub walked_unmarked :
        Walked (on.base + (on.n + on.n')) (on.base + u) tag m h e (on.base + z) got (hearing sent strays tag (on.base + u) m)
    unfolding hearing
    walked_unmarked = subst (Walked (on.base + (on.n + on.n')) (on.base + u) tag m h e (on.base + z) got) same walked_steps
