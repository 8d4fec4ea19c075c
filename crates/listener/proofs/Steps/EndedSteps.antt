-- Found and absent leave the listener ended.
-- Assumes nothing.
use mathlib.Core.Path.{◌≡◌, refl}
use Prim.Native.Nat.{ℕ}
use mathlib.Core.Bool.{Bool, true, false, false≢true}
use Rattle.std.specs.Prelude.{Option, None, Some}
use mathlib.Core.List.{List}
use Rattle.columns.specs.Lists.{pick}
use Rattle.buckets.specs.Bucket.{Bucket, read_bucket}
use Rattle.cycle.specs.declared.Reason.{Reason}
use Rattle.cycle.specs.declared.Reason.TheVariants.{BucketMisprinted, NotAwaited, PastNextCycle}
use Rattle.listener.specs.Listener.{Choice, dozes, finds, misses, choice, is_ended, awaited, ended, stepped, refused_ended, refused, heard_with, elapsed_with, past_next_cycle, dozing, decided, heed, heed_read, step}
use Rattle.listener.specs.declared.Listener.{Listener}
use Rattle.listener.specs.declared.Phase.TheVariants.{Ended}
use Rattle.listener.specs.declared.Answer.{Answer}
use Rattle.listener.specs.declared.Answer.TheVariants.{Doze, Found, Absent, Refused}
use Rattle.listener.specs.declared.Stepped.{Stepped}

abbrev pub is_end : Answer → Bool
is_end (Doze d) = false
is_end Found = true
is_end Absent = true
is_end (Refused number) = false

abbrev Over : Stepped → Type 0
Over r = is_end r.answer ≡ true → r.listener.phase ≡ Ended

over_either : (x y : Stepped) (c : Bool) → Over x → Over y → Over (pick c x y)
over_either x y true f g = f
over_either x y false f g = g

over_refused : (s : Listener) (reason : Reason) → Over (refused s reason)
unfolding refused stepped
over_refused s reason h = absurd (false≢true h)

over_dozing : (s : Listener) (d first count : ℕ) → Over (stepped s (Doze d) first count)
unfolding stepped
over_dozing s d first count h = absurd (false≢true h)

over_ended : (s : Listener) (a : Answer) (first count : ℕ) → Over (stepped (ended s (heard_with s) (elapsed_with s)) a first count)
unfolding stepped ended
over_ended s a first count h = refl

over_decided : (s : Listener) (b : Bucket) (c : Choice) → Over (decided s b c)
over_decided s b (dozes d next first count) =
    over_either (refused s PastNextCycle) (stepped (dozing s b d next) (Doze d) first count) (past_next_cycle s b d) (over_refused s PastNextCycle)
    (over_dozing (dozing s b d next) d first count)
over_decided s b (finds first count) = over_ended s Found first count
over_decided s b misses = over_ended s Absent 0 0

over_read : (s : Listener) (o : Option Bucket) → Over (heed_read s o)
unfolding heed
over_read s None = over_refused s BucketMisprinted
over_read s (Some b) =
    over_either (decided s b (choice s.phase s.tag b)) (refused s NotAwaited) (awaited s b)
    (over_decided s b (choice s.phase s.tag b)) (over_refused s NotAwaited)

pub over_step : (s : Listener) (bytes : List ℕ) → is_end (step s bytes).answer ≡ true → (step s bytes).listener.phase ≡ Ended
unfolding step refused_ended stepped
over_step s bytes =
    over_either (refused_ended s) (heed_read s (read_bucket bytes)) (is_ended s.phase)
    (λ h. absurd (false≢true h)) (over_read s (read_bucket bytes))
