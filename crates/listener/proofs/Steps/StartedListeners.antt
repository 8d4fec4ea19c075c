-- Listeners that were started and then stepped, over any bytes whatever: their counts keep to two cycles, and 10 holds as the
-- buckets gone by say.
-- Assumes nothing.
use mathlib.Core.Path.{◌≡◌, refl, sym, ◌∙◌, ap, subst}
use mathlib.Core.Bool.{true, false, ◌&&◌, true≢false}
use Rattle.std.specs.Prelude.{Some}
use mathlib.Core.List.{List, [], ◌∷◌, ◌++◌}
use Prim.Native.Nat.{ℕ, ◌+◌, ◌≤◌}
use native.Mathlib.Omega.{arith}
use lib.Dec.{ltb}
use Rattle.buckets.specs.Bucket.{Bucket, cycle_length, read_bucket}
use Rattle.buckets.proofs.Good.{Good, bucket_good}
use Rattle.buckets.proofs.Buckets.{print_of_read_bucket}
use Rattle.listener.specs.Listener.{start, step, is_ended, awaited, letter_awaited, place_awaited, elapsed_with, past_next_cycle}
use Rattle.cycle.specs.Inner.Held.{no_bucket}
use Rattle.listener.specs.Started.{after, Limits, CountsLimited, read_or, tune_in_bucket, PastByCount}
use Rattle.listener.specs.declared.Phase.TheVariants.{Ended}
use Rattle.listener.specs.declared.Listener.{Listener}
use Rattle.listener.proofs.Steps.StepLeaves.{Takes, Tuned, midway, over, tuned_limited, Leaves, leaves_tuned, past_here, leaves_open, midway_takes, tuned_step, tuned_after}

start_limited : (tag : ℕ) → Limits (start tag)
unfolding start
start_limited tag = record { heard = omega arith; elapsed = omega arith; doze = omega arith; passed = omega arith }

start_takes : (tag : ℕ) (b : Bucket) → Good b → Takes b (start tag) b
unfolding start cycle_length
start_takes tag b g =
    record {
      gone = omega arith;
      same_cycle = λ e. refl;
      tuned_short = g.short_cycle;
      once = omega arith;
      dozed = omega arith;
      counted = omega arith;
    }

start_open : (tag : ℕ) → is_ended (start tag).phase ≡ false
unfolding start
start_open tag = refl

read_good : (bytes : List ℕ) (b : Bucket) → read_bucket bytes ≡ Some b → Good b
read_good bytes b e = bucket_good b (print_of_read_bucket bytes e).1

-- the tune-in bucket, or any other where none was read: the listener has then ended
start_step :
    (tag : ℕ) (bytes : List ℕ) (other : Bucket) →
    Leaves (read_or other (read_bucket bytes)) (start tag) (step (start tag) bytes)
start_step tag bytes other =
    leaves_open (read_or other (read_bucket bytes)) (start tag) bytes (start_limited tag) (start_open tag)
    (λ b e h. subst (λ o. Takes (read_or other o) (start tag) b) (sym e) (start_takes tag b (read_good bytes b e)))

started :
    (tag : ℕ) (bytes : List ℕ) (more : List (List ℕ)) (other : Bucket) →
    Tuned (read_or other (read_bucket bytes)) (after (start tag) (bytes ∷ more))
started tag bytes more other =
    tuned_after (read_or other (read_bucket bytes)) (step (start tag) bytes).listener
    (leaves_tuned (start_step tag bytes other))
    more

pub counts_limited : CountsLimited
counts_limited tag [] = start_limited tag
counts_limited tag (bytes ∷ more) = tuned_limited (after (start tag) (bytes ∷ more)) (started tag bytes more no_bucket)

-- ---- any of them

-- the tune-in bucket, if bytes are the next ones given
unfoldable pub tuned_in : List (List ℕ) → List ℕ → Bucket
tuned_in given bytes = tune_in_bucket given (read_or no_bucket (read_bucket bytes))

pub leaves :
    (tag : ℕ) (given : List (List ℕ)) (bytes : List ℕ) →
    Leaves (tuned_in given bytes) (after (start tag) given) (step (after (start tag) given) bytes)
unfolding tuned_in
leaves tag [] bytes = start_step tag bytes no_bucket
leaves tag (first ∷ more) bytes =
    let other = read_or no_bucket (read_bucket bytes) in
    tuned_step (read_or other (read_bucket first)) (after (start tag) (first ∷ more)) bytes (started tag first more other)

pub after_one_more :
    (s : Listener) (given : List (List ℕ)) (bytes : List ℕ) →
    after s (given ++ bytes ∷ []) ≡ (step (after s given) bytes).listener
after_one_more s [] bytes = refl
after_one_more s (first ∷ more) bytes = after_one_more (step s first).listener more bytes

-- an ended listener awaits nothing
ended_awaits : (s : Listener) (b : Bucket) → s.phase ≡ Ended → awaited s b ≡ false
unfolding awaited
ended_awaits s b e = ap (λ q. letter_awaited q b.body && place_awaited q s b) e

past_tuned :
    (t : Bucket) (s : Listener) (b : Bucket) (d : ℕ) → Good b → Tuned t s → awaited s b ≡ true → d ≤ b.to_cycle →
    past_next_cycle s b d ≡ ltb (cycle_length t + cycle_length b) (t.position + (elapsed_with s + d))
past_tuned t s b d g (midway m) h near = past_here t s b g (midway_takes s b m h) d near
past_tuned t s b d g (over e l) h near = absurd (true≢false (sym h ∙ ended_awaits s b e))

pub past_by_count : PastByCount
past_by_count tag [] bytes b d e h near =
    let g = read_good bytes b e in
    past_here b (start tag) b g (start_takes tag b g) d near
past_by_count tag (first ∷ more) bytes b d e h near =
    past_tuned (read_or b (read_bucket first)) (after (start tag) (first ∷ more)) b d (read_good bytes b e)
    (started tag first more b)
    h
    near
