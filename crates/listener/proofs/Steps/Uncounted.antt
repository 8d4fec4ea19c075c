-- A listener's counts: none passes the largest, and no answer hangs on them.
-- Assumes nothing.
use mathlib.Core.Path.{◌≡◌, refl, sym, ◌∙◌, ap, ap₂}
use mathlib.Core.Bool.{Bool, true, false, ◌&&◌}
use Rattle.std.specs.Prelude.{Option, None, Some}
use mathlib.Core.List.{List, [], ◌∷◌}
use Prim.Native.Nat.{ℕ, ◌≤◌}
use native.Mathlib.Omega.{arith}
use Rattle.columns.specs.Lists.{pick}
use Rattle.buckets.specs.Bucket.{Bucket, read_bucket}
use Rattle.cycle.specs.declared.Reason.{Reason}
use Rattle.cycle.specs.declared.Reason.TheVariants.{BucketMisprinted, NotAwaited, PastNextCycle}
use Rattle.listener.specs.Listener.{step_numbers, start, Choice, dozes, finds, misses, choice, letter_awaited, place_awaited, awaited, is_ended, count_most, ended, stepped, refused_ended, refused, heard_with, elapsed_with, passed_with, past_next_cycle, dozing, decided, heed, heed_read, step, counting, starts_over, lost}
use Rattle.listener.specs.Started.{handed_in, after_all, answers_to, CountsStop, CountsUnread, StartsOver}
use Rattle.listener.specs.declared.Phase.{Phase}
use Rattle.listener.specs.declared.Phase.TheVariants.{TuneIn, Index, Either, Data, Ended}
use Rattle.listener.specs.declared.Listener.{Listener}
use Rattle.listener.specs.declared.Answer.{Answer}
use Rattle.listener.specs.declared.Answer.TheVariants.{Doze, Found, Absent}
use Rattle.listener.specs.declared.Stepped.{Stepped}
use Rattle.listener.proofs.Steps.States.{heard_counted, elapsed_counted, lost_open}

-- ---- counts stop

-- both keep to the largest
record Keeps (s : Listener) : Type 0 where
  pub heard : s.heard ≤ count_most
  pub elapsed : s.elapsed ≤ count_most

keeps_either : (x y : Stepped) (c : Bool) → Keeps x.listener → Keeps y.listener → Keeps (pick c x y).listener
keeps_either x y true f g = f
keeps_either x y false f g = g

module _ (s : Listener) (k : Keeps s) where
  keeps_refused : (reason : Reason) → Keeps (refused s reason).listener
  unfolding refused stepped ended
  keeps_refused reason = record { heard = k.heard; elapsed = k.elapsed }

  keeps_14 : Keeps (refused_ended s).listener
  unfolding refused_ended stepped
  keeps_14 = k

  keeps_ended : (a : Answer) (first count : ℕ) → Keeps (stepped (ended s (heard_with s) (elapsed_with s)) a first count).listener
  unfolding stepped ended
  keeps_ended a first count = record { heard = heard_counted s; elapsed = elapsed_counted s }

  keeps_dozing : (b : Bucket) (d : ℕ) (next : Phase) (first count : ℕ) → Keeps (stepped (dozing s b d next) (Doze d) first count).listener
  unfolding stepped dozing
  keeps_dozing b d next first count = record { heard = heard_counted s; elapsed = elapsed_counted s }

  keeps_decided : (b : Bucket) (c : Choice) → Keeps (decided s b c).listener
  keeps_decided b (dozes d next first count) =
      keeps_either (refused s PastNextCycle) (stepped (dozing s b d next) (Doze d) first count) (past_next_cycle s b d) (keeps_refused PastNextCycle)
      (keeps_dozing b d next first count)
  keeps_decided b (finds first count) = keeps_ended Found first count
  keeps_decided b misses = keeps_ended Absent 0 0

  keeps_read : (o : Option Bucket) → Keeps (heed_read s o).listener
  unfolding heed
  keeps_read None = keeps_refused BucketMisprinted
  keeps_read (Some b) =
      keeps_either (decided s b (choice s.phase s.tag b)) (refused s NotAwaited) (awaited s b)
      (keeps_decided b (choice s.phase s.tag b)) (keeps_refused NotAwaited)

  keeps_lost : Keeps (stepped (starts_over s) (Doze 1) 0 0).listener
  unfolding stepped starts_over counting
  keeps_lost = record { heard = heard_counted s; elapsed = elapsed_counted s }

  keeps_step : (x : Option (List ℕ)) → Keeps (handed_in s x).listener
  unfolding step lost
  keeps_step None = keeps_either (refused_ended s) (stepped (starts_over s) (Doze 1) 0 0) (is_ended s.phase) keeps_14 keeps_lost
  keeps_step (Some bytes) =
      keeps_either (refused_ended s) (heed_read s (read_bucket bytes)) (is_ended s.phase) keeps_14 (keeps_read (read_bucket bytes))

keeps_all : (s : Listener) → Keeps s → (given : List (Option (List ℕ))) → Keeps (after_all s given)
keeps_all s k [] = k
keeps_all s k (x ∷ more) = keeps_all (handed_in s x).listener (keeps_step s k x) more

start_keeps : (tag : ℕ) → Keeps (start tag)
unfolding start
start_keeps tag = record { heard = omega arith; elapsed = omega arith }

pub counts_stop : CountsStop
counts_stop tag given = let k = keeps_all (start tag) (start_keeps tag) given in (k.heard, k.elapsed)

-- ---- counts are not read

-- two outcomes differ in counts alone
record Alike (x y : Stepped) : Type 0 where
  pub numbers : step_numbers x ≡ step_numbers y
  pub uncounted : counting x.listener 0 0 ≡ counting y.listener 0 0

alike_either : {x y x' y' : Stepped} (c : Bool) → Alike x x' → Alike y y' → Alike (pick c x y) (pick c x' y')
alike_either true f g = f
alike_either false f g = g

module _ (s : Listener) (heard elapsed : ℕ) where
  -- the same listener with other counts
  unfoldable other : Listener
  other = counting s heard elapsed

  alike_refused : (reason : Reason) → Alike (refused other reason) (refused s reason)
  unfolding other counting refused stepped ended step_numbers
  alike_refused reason = record { numbers = refl; uncounted = refl }

  alike_14 : Alike (refused_ended other) (refused_ended s)
  unfolding other counting refused_ended stepped step_numbers
  alike_14 = record { numbers = refl; uncounted = refl }

  alike_ended :
      (a : Answer) (first count : ℕ) →
      Alike (stepped (ended other (heard_with other) (elapsed_with other)) a first count) (stepped (ended s (heard_with s) (elapsed_with s)) a first count)
  unfolding other counting stepped ended step_numbers
  alike_ended a first count = record { numbers = refl; uncounted = refl }

  alike_dozing :
      (b : Bucket) (d : ℕ) (next : Phase) (first count : ℕ) →
      Alike (stepped (dozing other b d next) (Doze d) first count) (stepped (dozing s b d next) (Doze d) first count)
  unfolding other counting stepped dozing passed_with step_numbers
  alike_dozing b d next first count = record { numbers = refl; uncounted = refl }

  alike_decided : (b : Bucket) (c : Choice) → Alike (decided other b c) (decided s b c)
  unfolding other counting past_next_cycle
  alike_decided b (dozes d next first count) =
      alike_either (past_next_cycle s b d) (alike_refused PastNextCycle) (alike_dozing b d next first count)
  alike_decided b (finds first count) = alike_ended Found first count
  alike_decided b misses = alike_ended Absent 0 0

  same_awaited : (b : Bucket) → awaited other b ≡ awaited s b
  unfolding other counting awaited
  same_awaited b = by s.phase
    where
      by : (p : Phase) → (letter_awaited p b.body && place_awaited p (counting s heard elapsed) b) ≡ (letter_awaited p b.body && place_awaited p s b)
      by TuneIn = refl
      by Index = refl
      by Either = refl
      by Data = refl
      by Ended = refl

  alike_heed : (b : Bucket) → Alike (heed other b) (heed s b)
  unfolding heed other counting
  alike_heed b =
      rw (same_awaited b)
      (alike_either (awaited s b) (alike_decided b (choice s.phase s.tag b)) (alike_refused NotAwaited))

  alike_read : (o : Option Bucket) → Alike (heed_read other o) (heed_read s o)
  alike_read None = alike_refused BucketMisprinted
  alike_read (Some b) = alike_heed b

  alike_lost : Alike (stepped (starts_over other) (Doze 1) 0 0) (stepped (starts_over s) (Doze 1) 0 0)
  unfolding other counting stepped starts_over step_numbers
  alike_lost = record { numbers = refl; uncounted = refl }

  alike_step : (x : Option (List ℕ)) → Alike (handed_in other x) (handed_in s x)
  unfolding step lost other counting
  alike_step None = alike_either (is_ended s.phase) alike_14 alike_lost
  alike_step (Some bytes) = alike_either (is_ended s.phase) alike_14 (alike_read (read_bucket bytes))

pub counts_unread : CountsUnread
unfolding other
counts_unread s heard elapsed [] = refl
counts_unread s heard elapsed (x ∷ more) =
    let a = alike_step s heard elapsed x in
    let l = (handed_in (counting s heard elapsed) x).listener in
    let k = (handed_in s x).listener in
    ap₂ {C = List (List ℕ)} (λ n rest. n ∷ rest) a.numbers
    (sym (counts_unread l 0 0 more) ∙ (ap (λ z. answers_to z more) a.uncounted ∙ counts_unread k 0 0 more))

pub starts_over_lem : StartsOver
unfolding stepped starts_over
starts_over_lem s unended given =
    ap (λ r. answers_to r.listener given) (lost_open s unended) ∙ counts_unread (start s.tag) (heard_with s) (elapsed_with s) given
