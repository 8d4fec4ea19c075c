-- What a step leaves of a listener that awaits a bucket, over any bytes whatever: one that awaits the next, its counts within two
-- cycles, or one that has ended.
-- Assumes nothing.
use mathlib.Core.Path.{◌≡◌, refl, sym, ◌∙◌, ap}
use mathlib.Core.Bool.{Bool, true, false, ◌&&◌, ◌||◌, true≢false, false≢true}
use Rattle.std.specs.Prelude.{Option, None, Some}
use mathlib.Core.List.{List, [], ◌∷◌}
use Prim.Native.Nat.{ℕ, zero, suc, ◌+◌, ◌*◌, ◌≤◌, ◌<◌}
use native.Mathlib.Omega.{arith}
use lib.Dec.{leb, ltb, eqb}
use lib.ListN.{length}
use borrow.Author.Tests.{leb-true, leb-false, lt-ltb, le-ltb, eqb-true, ne_eqb}
use Rattle.columns.specs.Lists.{pick}
use Rattle.columns.proofs.Strict.{both}
use Rattle.buckets.specs.Lengths.{buckets_most}
use Rattle.buckets.specs.Bucket.{Bucket, cycle_length, read_bucket}
use Rattle.buckets.proofs.Good.{Good, bucket_good}
use Rattle.buckets.proofs.Buckets.{print_of_read_bucket}
use Rattle.buckets.specs.BucketLines.{body_lines}
use Rattle.cycle.specs.declared.Reason.{Reason}
use Rattle.cycle.specs.declared.Reason.TheVariants.{BucketMisprinted, NotAwaited, PastNextCycle}
use Rattle.listener.specs.Listener.{Choice, dozes, finds, misses, step, choice, is_ended, awaited, letter_awaited, due_at, place_awaited, ended, stepped, refused, refused_ended, heard_with, elapsed_with, reaches_start, due_with, passed_with, past_next_cycle, dozing, decided, heed, heed_read}
use Rattle.listener.specs.Started.{after, Limits}
use Rattle.listener.specs.declared.Phase.{Phase}
use Rattle.listener.specs.declared.Phase.TheVariants.{TuneIn, Index, Either, Data, Ended}
use Rattle.listener.specs.declared.Listener.{Listener}
use Rattle.listener.specs.declared.Answer.{Answer}
use Rattle.listener.specs.declared.Answer.TheVariants.{Doze, Found, Absent, Refused}
use Rattle.listener.specs.declared.Stepped.{Stepped}
use Rattle.listener.proofs.Walks.Walk.{awake}
use Rattle.listener.proofs.Steps.States.{heard_with_lem, elapsed_with_lem, step_ended, step_read}
use Rattle.listener.proofs.Steps.Dozes.{due_within, passed_within, due_start, passed_start, past_start}
use Rattle.listener.proofs.Steps.StepBounds.{Hop, Bounded, bounded_choice}

-- ---- cycles in place of buckets

one_cycle : (k n : ℕ) → k ≤ 1 → k * n ≤ n
one_cycle zero n h = omega arith
one_cycle (suc zero) n h = omega arith
one_cycle (suc (suc k)) n h = absurd (omega arith)

-- one test in place of another, over numbers as far apart
leb_is_ltb : (a b c d : ℕ) → b + 1 + c ≡ a + d → leb a b ≡ ltb c d
leb_is_ltb a b c d e = by (leb a b) refl
  where
    by : (x : Bool) → leb a b ≡ x → leb a b ≡ ltb c d
    by true h = h ∙ sym (lt-ltb c d (omega (arith, leb-true a b h)))
    by false h = h ∙ sym (le-ltb c d (omega (arith, leb-false a b h)))

-- ---- at a bucket that 9 lets pass

-- s was tuned in at bucket t, and b is the bucket that it takes
pub record Takes (t : Bucket) (s : Listener) (b : Bucket) : Type 0 where
  pub gone : t.position + (s.elapsed + s.doze) ≡ s.passed * cycle_length t + b.position + 1
  pub same_cycle : s.passed ≡ 0 → cycle_length b ≡ cycle_length t
  pub tuned_short : cycle_length t ≤ buckets_most
  pub once : s.passed ≤ 1
  pub dozed : 1 ≤ s.doze
  pub counted : s.heard ≤ s.elapsed

-- what is awaited after tune-in at bucket t and `gone` buckets: position `due`, `passed` starts on, and before the first start
-- a bucket of tune-in's cycle that is not its first
pub record NextPlace (t : Bucket) (gone passed due cycle : ℕ) : Type 0 where
  pub place : t.position + gone ≡ passed * cycle_length t + due + 1
  pub tuned_cycle : passed ≡ 0 → (0 < due) × (cycle ≡ cycle_length t)
  pub inside : due < buckets_most
  pub once : passed ≤ 1

-- s, tuned in at bucket t, awaits one more bucket
pub record Midway (t : Bucket) (s : Listener) : Type 0 where
  pub awake_is : awake s.phase ≡ true
  pub next : NextPlace t (s.elapsed + s.doze) s.passed s.due s.cycle
  pub tuned_short : cycle_length t ≤ buckets_most
  pub dozed : 1 ≤ s.doze
  pub counted : s.heard ≤ s.elapsed

-- s, tuned in at bucket t, does so or has ended
pub data Tuned (t : Bucket) (s : Listener) : Type 0 where
  midway : Midway t s → Tuned t s
  over : s.phase ≡ Ended → Limits s → Tuned t s

pub midway_short : {t : Bucket} (s : Listener) → Midway t s → s.elapsed + s.doze ≤ 2 * buckets_most
midway_short {t} s m =
    let a = m.next in
    omega (arith, a.place, a.inside, m.tuned_short, one_cycle s.passed (cycle_length t) a.once)

pub tuned_limited : {t : Bucket} (s : Listener) → Tuned t s → Limits s
tuned_limited s (midway m) =
    let e = midway_short s m in
    record { heard = omega (arith, m.counted); elapsed = omega arith; doze = omega arith; passed = m.next.once }
tuned_limited s (over e l) = l

-- what a step hands back: it went on by a doze, or ended by another answer
abbrev pub is_doze : Answer → Bool
is_doze (Doze d) = true
is_doze Found = false
is_doze Absent = false
is_doze (Refused number) = false

pub record GoesOn (t : Bucket) (s : Listener) (r : Stepped) : Type 0 where
  pub awaits : Midway t r.listener
  pub further : s.elapsed < r.listener.elapsed

pub record Stops (s : Listener) (r : Stepped) : Type 0 where
  pub over_is : r.listener.phase ≡ Ended
  pub limited : Limits r.listener
  pub no_less : s.elapsed ≤ r.listener.elapsed
  pub no_doze : is_doze r.answer ≡ false

pub data Leaves (t : Bucket) (s : Listener) (r : Stepped) : Type 0 where
  goes_on : GoesOn t s r → Leaves t s r
  stops : Stops s r → Leaves t s r

pub leaves_tuned : {t : Bucket} {s : Listener} {r : Stepped} → Leaves t s r → Tuned t r.listener
leaves_tuned (goes_on g) = midway g.awaits
leaves_tuned (stops e) = over e.over_is e.limited

-- after a doze it goes on
pub dozed_on : {t : Bucket} {s : Listener} {r : Stepped} {d : ℕ} → Leaves t s r → r.answer ≡ Doze d → GoesOn t s r
dozed_on (goes_on g) k = g
dozed_on (stops e) k = absurd (true≢false (sym (ap is_doze k) ∙ e.no_doze))

either_way :
    {t : Bucket} {s : Listener} (x y : Stepped) (c : Bool) → (c ≡ true → Leaves t s x) → (c ≡ false → Leaves t s y) →
    Leaves t s (pick c x y)
either_way x y true f g = f refl
either_way x y false f g = g refl

leaves_refused : {t : Bucket} (s : Listener) (reason : Reason) → Limits s → Leaves t s (refused s reason)
unfolding refused stepped ended
leaves_refused s reason l =
    stops
    (record {
      over_is = refl;
      limited = record { heard = l.heard; elapsed = l.elapsed; doze = l.doze; passed = l.passed };
      no_less = omega arith;
      no_doze = refl;
    })

module _ (t : Bucket) (s : Listener) (b : Bucket) (good : Good b) (k : Takes t s b) where
  gone_short : s.elapsed + s.doze ≤ 2 * buckets_most
  gone_short =
      omega (
        arith,
        k.gone,
        good.cycle_onward,
        good.short_cycle,
        k.tuned_short,
        one_cycle s.passed (cycle_length t) k.once,
      )

  pub past_here :
      (d : ℕ) → d ≤ b.to_cycle →
      past_next_cycle s b d ≡ ltb (cycle_length t + cycle_length b) (t.position + (elapsed_with s + d))
  unfolding past_next_cycle reaches_start cycle_length
  past_here d near = rw (elapsed_with_lem s (omega (arith, gone_short))) (by s.passed refl)
    where
      by :
          (passed : ℕ) → s.passed ≡ passed →
          leb 1 s.passed && leb b.to_cycle d ≡
          ltb (cycle_length t + cycle_length b) (t.position + (s.elapsed + s.doze + d))
      by zero e =
          ap (λ x. leb 1 x && leb b.to_cycle d) e ∙
          sym
          (le-ltb (cycle_length t + cycle_length b) (t.position + (s.elapsed + s.doze + d))
          (omega (arith, k.gone, ap (λ x. x * cycle_length t) e, k.same_cycle e, good.cycle_onward)))
      by (suc zero) e =
          ap (λ x. leb 1 x && leb b.to_cycle d) e ∙
          leb_is_ltb b.to_cycle d (cycle_length t + cycle_length b) (t.position + (s.elapsed + s.doze + d))
          (omega (arith, k.gone, ap (λ x. x * cycle_length t) e))
      by (suc (suc passed)) e = absurd (omega (arith, k.once))

  -- what a doze by d awaits: a bucket of this cycle, or the next one's first
  next_within :
      (d : ℕ) → 1 ≤ d → d < b.to_cycle →
      NextPlace t (s.elapsed + s.doze + d) s.passed (b.position + d) (cycle_length b)
  next_within d far near =
      record {
        place = omega (arith, k.gone);
        tuned_cycle = λ e. (omega arith, k.same_cycle e);
        inside = omega (arith, good.short_cycle);
        once = k.once;
      }

  next_start :
      (d : ℕ) → b.to_cycle ≡ d → s.passed ≡ 0 →
      NextPlace t (s.elapsed + s.doze + d) (s.passed + 1) 0 (cycle_length b)
  unfolding cycle_length
  next_start d e none_passed =
      record {
        place =
            omega (
              arith,
              k.gone,
              ap (λ x. x * cycle_length t) none_passed,
              ap (λ x. (x + 1) * cycle_length t) none_passed,
              k.same_cycle none_passed,
            );
        tuned_cycle = λ z. absurd (omega (arith, z));
        inside = omega arith;
        once = omega (arith, none_passed);
      }

  next_place :
      (d : ℕ) → 1 ≤ d → d ≤ b.to_cycle → past_next_cycle s b d ≡ false →
      NextPlace t (s.elapsed + s.doze + d) (passed_with s b d) (due_with b d) (cycle_length b)
  next_place d far near past = by (leb b.to_cycle d) refl
    where
      by :
          (x : Bool) → leb b.to_cycle d ≡ x →
          NextPlace t (s.elapsed + s.doze + d) (passed_with s b d) (due_with b d) (cycle_length b)
      by true e =
          let h = leb-true b.to_cycle d e in
          let none_passed = leb-false 1 s.passed (sym (past_start b d h s) ∙ past) in
          rw (passed_start b d h s, due_start b d h) (next_start d (omega arith) (omega arith))
      by false e =
          let h = leb-false b.to_cycle d e in
          rw (passed_within b d h s, due_within b d h) (next_within d far h)

  limited : Limits s
  limited =
      let short = gone_short in
      record { heard = omega (arith, k.counted); elapsed = omega arith; doze = omega arith; passed = k.once }

  leaves_ended :
      (a : Answer) (first count : ℕ) → is_doze a ≡ false →
      Leaves t s (stepped (ended s (heard_with s) (elapsed_with s)) a first count)
  unfolding stepped ended
  leaves_ended a first count e =
      let short = gone_short in
      let heard = heard_with_lem s (omega (arith, k.counted)) in
      let elapsed = elapsed_with_lem s (omega arith) in
      stops
      (record {
        over_is = refl;
        limited = record { heard = omega (arith, k.counted, k.dozed); elapsed = omega arith; doze = limited.doze; passed = k.once };
        no_less = omega arith;
        no_doze = e;
      })

  leaves_dozing :
      (d : ℕ) (next : Phase) (first count : ℕ) → Hop b.to_cycle d next → past_next_cycle s b d ≡ false →
      Leaves t s (stepped (dozing s b d next) (Doze d) first count)
  unfolding stepped dozing
  leaves_dozing d next first count h past =
      let short = gone_short in
      let heard = heard_with_lem s (omega (arith, k.counted)) in
      let elapsed = elapsed_with_lem s (omega arith) in
      goes_on
      (record {
        awaits =
            record {
              awake_is = h.wakes;
              next = rw elapsed (next_place d h.onward h.near past);
              tuned_short = k.tuned_short;
              dozed = h.onward;
              counted = omega (arith, k.counted, k.dozed);
            };
        further = omega (arith, k.dozed);
      })

  leaves_decided : (n : ℕ) (c : Choice) → Bounded b.to_cycle n c → Leaves t s (decided s b c)
  leaves_decided n (dozes d next first count) h =
      either_way (refused s PastNextCycle) (stepped (dozing s b d next) (Doze d) first count) (past_next_cycle s b d)
      (λ e. leaves_refused s PastNextCycle limited)
      (leaves_dozing d next first count h.0)
  leaves_decided n (finds first count) h = leaves_ended Found first count refl
  leaves_decided n misses h = leaves_ended Absent 0 0 refl

-- ---- a step

module _ (t : Bucket) (s : Listener) (bytes : List ℕ) (l : Limits s) where
  leaves_heed :
      (b : Bucket) → read_bucket bytes ≡ Some b → (awaited s b ≡ true → Takes t s b) → Leaves t s (heed s b)
  unfolding heed
  leaves_heed b e takes =
      let g = bucket_good b (print_of_read_bucket bytes e).1 in
      let c = choice s.phase s.tag b in
      either_way (decided s b c) (refused s NotAwaited) (awaited s b)
      (λ h. leaves_decided t s b g (takes h) (length (body_lines b.body)) c (bounded_choice b g s.tag s.phase))
      (λ h. leaves_refused s NotAwaited l)

  leaves_read :
      (o : Option Bucket) → read_bucket bytes ≡ o →
      ((b : Bucket) → read_bucket bytes ≡ Some b → awaited s b ≡ true → Takes t s b) → Leaves t s (heed_read s o)
  leaves_read None e takes = leaves_refused s BucketMisprinted l
  leaves_read (Some b) e takes = leaves_heed b e (takes b e)

  -- what a listener leaves that has not ended and takes every bucket that 9 lets pass
  pub leaves_open :
      is_ended s.phase ≡ false → ((b : Bucket) → read_bucket bytes ≡ Some b → awaited s b ≡ true → Takes t s b) →
      Leaves t s (step s bytes)
  leaves_open o takes = rw (step_read s bytes o) (leaves_read (read_bucket bytes) refl takes)

-- the place that a listener awaits past its tune-in: N is tested within a cycle only
record Due (s : Listener) (b : Bucket) : Type 0 where
  pub position_is : b.position ≡ s.due
  pub cycle_is : 0 < s.due → cycle_length b ≡ s.cycle

the_other : (x y : Bool) → x || y ≡ true → x ≡ false → y ≡ true
the_other true y h e = absurd (true≢false e)
the_other false y h e = h

due : (s : Listener) (b : Bucket) → due_at s b ≡ true → Due s b
due s b h =
    let first = eqb s.due 0 in
    let same = eqb (cycle_length b) s.cycle in
    let e = both (eqb b.position s.due) (first || same) h in
    record {
      position_is = eqb-true b.position s.due e.0;
      cycle_is =
          λ (k : 0 < s.due). eqb-true (cycle_length b) s.cycle
          (the_other first same e.1 (ne_eqb s.due 0 (λ z. omega arith)));
    }

due_place : (ph : Phase) (s : Listener) (b : Bucket) → awake ph ≡ true → place_awaited ph s b ≡ true → Due s b
due_place TuneIn s b w h = absurd (false≢true w)
due_place Index s b w h = due s b h
due_place Either s b w h = due s b h
due_place Data s b w h = due s b h
due_place Ended s b w h = absurd (false≢true w)

pub open_awake : (ph : Phase) → awake ph ≡ true → is_ended ph ≡ false
open_awake TuneIn w = refl
open_awake Index w = refl
open_awake Either w = refl
open_awake Data w = refl
open_awake Ended w = sym w

pub midway_takes : {t : Bucket} (s : Listener) (b : Bucket) → Midway t s → awaited s b ≡ true → Takes t s b
unfolding awaited
midway_takes {t} s b m h =
    let k = both (letter_awaited s.phase b.body) (place_awaited s.phase s b) h in
    let e = due_place s.phase s b m.awake_is k.1 in
    record {
      gone = m.next.place ∙ ap (λ x. s.passed * cycle_length t + x + 1) (sym e.position_is);
      same_cycle = λ none_passed. let w = m.next.tuned_cycle none_passed in e.cycle_is w.0 ∙ w.1;
      tuned_short = m.tuned_short;
      once = m.next.once;
      dozed = m.dozed;
      counted = m.counted;
    }

ended_leaves : {t : Bucket} (s : Listener) → s.phase ≡ Ended → Limits s → Leaves t s (refused_ended s)
unfolding refused_ended stepped
ended_leaves s e l = stops (record { over_is = e; limited = l; no_less = omega arith; no_doze = refl })

pub tuned_step : (t : Bucket) (s : Listener) (bytes : List ℕ) → Tuned t s → Leaves t s (step s bytes)
tuned_step t s bytes (midway m) =
    leaves_open t s bytes (tuned_limited s (midway m)) (open_awake s.phase m.awake_is)
    (λ b e. midway_takes s b m)
tuned_step t s bytes (over e l) = rw (step_ended s bytes (ap is_ended e)) (ended_leaves s e l)

pub tuned_after : (t : Bucket) (s : Listener) → Tuned t s → (given : List (List ℕ)) → Tuned t (after s given)
tuned_after t s h [] = h
tuned_after t s h (bytes ∷ more) =
    tuned_after t (step s bytes).listener (leaves_tuned (tuned_step t s bytes h)) more
