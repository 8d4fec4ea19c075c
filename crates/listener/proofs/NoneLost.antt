-- With no bucket lost it is demand 3: what is said of hearings in which buckets are lost gives all that demand 3 says of a hearing.
-- Assumes nothing.
use mathlib.Core.Path.{◌≡◌, refl, sym, ◌∙◌, ap, subst}
use Prim.Native.Nat.{ℕ, zero, suc, ◌+◌, ◌*◌, ◌≤◌, ◌<◌}
use mathlib.Core.Bool.{true, false}
use mathlib.Core.List.{List, map}
use native.Mathlib.Nat.{one-mul}
use native.Mathlib.Omega.{arith}
use lib.ListN.{length, drop, length-replicate}
use Rattle.columns.specs.Lists.{every}
use Rattle.listener.specs.Listener.{start, step, stopped}
use Rattle.listener.specs.Hearing.{Taken, Supply, at, given, onward, steps_from, hearing, repeated, end_of, until_end, heard_in, elapsed_in, refused_before_end, lines_got, listener_after}
use Rattle.listener.specs.Demand3.{refused_by14, Demand3, EveryHearing}
use Rattle.listener.specs.OnAir.{Sending, Accepted, image_of, on_air}
use Rattle.listener.specs.Lost.{Marked, marked_hearing, steps, lost_in, always, limit_of, unmarked, Demand3Lost, NoneLost}
use Rattle.listener.specs.Started.{after, Limits}
use Rattle.listener.specs.declared.Listener.{Listener}
use Rattle.listener.specs.declared.Stepped.{Stepped}
use Rattle.listener.proofs.Steps.StartedListeners.{counts_limited}
use Rattle.listener.proofs.Walks.Unmarked.{no_loss}
use Rattle.listener.proofs.Demand3.{on_air_repeated, demand_3}
use Rattle.listener.proofs.Lost.{lost_buckets}

-- the listener after a hearing is the one after its bytes
after_bytes :
    (sent strays : ℕ → List ℕ) (s : Listener) (w : Supply) (m : ℕ) →
    listener_after s (steps_from sent strays s w m) ≡ after s (map (λ x. x.bytes) (steps_from sent strays s w m))
after_bytes sent strays s w zero = refl
after_bytes sent strays s w (suc m) =
    let r : Stepped = step s (given sent strays m w) in after_bytes sent strays r.listener (onward w r.answer) m

hearing_limited : (sent strays : ℕ → List ℕ) (tag t m : ℕ) → Limits (listener_after (start tag) (hearing sent strays tag t m))
unfolding hearing
hearing_limited sent strays tag t m =
    subst Limits (sym (after_bytes sent strays (start tag) (at t) m))
    (counts_limited tag (map (λ x. x.bytes) (steps_from sent strays (start tag) (at t) m)))

-- a count that did not stop is the number counted
counted : (x k : ℕ) → k ≡ stopped x → k ≤ 199998 → k ≡ x
unfolding stopped
counted x k e h = omega arith

module _ (c : Sending) (accepted : Accepted c) (tag tune : ℕ) (early : tune < c.n) (m : ℕ) (strays : ℕ → List ℕ) where
  abbrev log : List Taken
  log = hearing (repeated (image_of c) c.n) strays tag tune m

  abbrev marked : List Marked
  marked = marked_hearing (on_air (always c)) strays tag tune (unmarked m)

  told : Demand3Lost c tag tune (length (unmarked m)) marked
  told = lost_buckets c accepted tag tune early (unmarked m) strays

  unlost : NoneLost (hearing (on_air (always c)) strays tag tune m) marked
  unlost = no_loss (on_air (always c)) strays tag tune m

  on_air_log : hearing (on_air (always c)) strays tag tune m ≡ log
  on_air_log = ap (λ sent. hearing sent strays tag tune m) (on_air_repeated c (omega arith))

  same : steps marked ≡ log
  same = unlost.same_steps ∙ on_air_log

  once : (limit : ℕ) → (lost_in marked + 1) * limit ≡ limit
  once limit = rw unlost.none (one-mul limit)

  limited : Limits (listener_after (start tag) log)
  limited = hearing_limited (repeated (image_of c) c.n) strays tag tune m

  pub again : Demand3 c.settings c.list (image_of c) c.n tag tune m log
  unfolding image_of
  again =
      let looked = demand_3 c.settings c.list c.room c.n accepted tag tune early m strays in
      record {
        heard_limit_lem = subst (λ l. heard_in l ≤ limit_of c tag) same (omega (arith, told.heard_limit_lem, once (limit_of c tag)));
        elapsed_limit = subst (λ l. tune + elapsed_in l ≤ 2 * c.n) same (omega (arith, told.elapsed_limit, once (2 * c.n)));
        unrefused = subst (λ l. refused_before_end l ≡ false) same told.well.unrefused;
        end_come = λ long.
            sym (ap end_of same) ∙ told.end_come (omega (arith, once (limit_of c tag), length-replicate m false, long));
        end_right = λ e ended. told.end_right e (ap end_of same ∙ ended);
        lines_right = λ e ended.
            sym (unlost.same_lines ∙ ap lines_got on_air_log) ∙ told.lines_right e (ap end_of same ∙ ended);
        heard_own =
            counted (heard_in log) (listener_after (start tag) log).heard
            (subst (λ l. (listener_after (start tag) l).heard ≡ stopped (heard_in l)) same told.well.heard_own) limited.heard;
        elapsed_own =
            counted (elapsed_in log) (listener_after (start tag) log).elapsed
            (subst (λ l. (listener_after (start tag) l).elapsed ≡ stopped (elapsed_in l)) same told.well.elapsed_own) limited.elapsed;
        after_end =
            subst (λ l. every (λ x. refused_by14 x.outcome.answer) (drop (heard_in l) l) ≡ true) same told.well.after_end;
        unchanged = subst (λ l. listener_after (start tag) l ≡ listener_after (start tag) (until_end l)) same told.well.unchanged;
        lookup_found = looked.lookup_found;
        lookup_short = looked.lookup_short;
        lookup_absent = looked.lookup_absent;
      }

pub demand_3_of_none_lost : EveryHearing
unfolding image_of
demand_3_of_none_lost s list room n built tag tune early m strays =
    again (record { settings = s; list = list; room = room; n = n }) built tag tune early m strays
