-- A listener's counts, and its step by its conditions.
-- Assumes nothing.
use mathlib.Core.Path.{◌≡◌, refl, sym, ◌∙◌, ap}
use mathlib.Core.Bool.{Bool, true, false, not, ◌&&◌, true≢false}
use mathlib.Core.List.{List}
use Prim.Native.Nat.{ℕ, suc, ◌+◌, ◌≤◌, ◌<◌}
use native.Mathlib.Omega.{arith}
use borrow.Author.Tests.{not-true, not-false}
use Rattle.buckets.specs.Bucket.{Bucket, read_bucket}
use Rattle.cycle.specs.declared.Reason.TheVariants.{NotAwaited}
use Rattle.listener.specs.Listener.{dozes, count_most, stopped, heard_with, elapsed_with, letter_awaited, place_awaited, awaited, body_choice, choice, decided, stepped, refused, refused_ended, is_ended, heed, heed_read, step, starts_over, lost}
use Rattle.listener.specs.Inner.OnReading.{is_tune_in}
use Rattle.listener.specs.declared.Phase.{Phase}
use Rattle.listener.specs.declared.Phase.TheVariants.{TuneIn, Index, Either, Data, Ended}
use Rattle.listener.specs.declared.Listener.{Listener}
use Rattle.listener.specs.declared.Answer.TheVariants.{Doze}
use Rattle.listener.specs.declared.Stepped.{Stepped}

-- ---- counts

pub not_stopped : (x : ℕ) → x ≤ count_most → stopped x ≡ x
unfolding stopped
not_stopped x h = omega arith

module _ (s : Listener) where
  pub heard_with_lem : s.heard < count_most → heard_with s ≡ s.heard + 1
  unfolding heard_with
  heard_with_lem h = not_stopped (s.heard + 1) (omega arith)

  pub elapsed_with_lem : s.elapsed + s.doze ≤ count_most → elapsed_with s ≡ s.elapsed + s.doze
  unfolding elapsed_with
  elapsed_with_lem h = not_stopped (s.elapsed + s.doze) h

  -- with a bucket counted, they keep to the largest, and stop where they would with what comes behind it
  pub heard_counted : heard_with s ≤ count_most
  unfolding heard_with stopped
  heard_counted = omega arith

  pub elapsed_counted : elapsed_with s ≤ count_most
  unfolding elapsed_with stopped
  elapsed_counted = omega arith

  pub heard_on : (k : ℕ) → stopped (heard_with s + k) ≡ stopped (s.heard + suc k)
  unfolding heard_with stopped
  heard_on k = omega arith

  pub elapsed_on : (g : ℕ) → stopped (elapsed_with s + g) ≡ stopped (s.elapsed + (s.doze + g))
  unfolding elapsed_with stopped
  elapsed_on g = omega arith

-- ---- conditions

-- 9 does not hold, at tune-in or later, or does
heed_awaited :
    (s : Listener) (b : Bucket) {p : Phase} → awaited s b ≡ true → s.phase ≡ p →
    heed s b ≡ decided s b (choice p s.tag b)
unfolding heed
heed_awaited s b h e = rw h (ap (λ q. decided s b (choice q s.tag b)) e)

heed_tune_in :
    (s : Listener) (b : Bucket) → awaited s b ≡ true → is_tune_in s.phase ≡ true →
    heed s b ≡ decided s b (dozes b.to_segment Index 0 0)
heed_tune_in s b h = by_phase s.phase refl
  where
    by_phase : (p : Phase) → s.phase ≡ p → is_tune_in p ≡ true → heed s b ≡ decided s b (dozes b.to_segment Index 0 0)
    by_phase TuneIn e k = heed_awaited s b h e
    by_phase Index e k = absurd (true≢false (sym k))
    by_phase Either e k = absurd (true≢false (sym k))
    by_phase Data e k = absurd (true≢false (sym k))
    by_phase Ended e k = absurd (true≢false (sym k))

heed_later :
    (s : Listener) (b : Bucket) → awaited s b ≡ true → is_tune_in s.phase ≡ false →
    heed s b ≡ decided s b (body_choice s.tag b.body)
unfolding awaited
heed_later s b h = by_phase s.phase refl
  where
    by_phase : (p : Phase) → s.phase ≡ p → is_tune_in p ≡ false → heed s b ≡ decided s b (body_choice s.tag b.body)
    by_phase TuneIn e k = absurd (true≢false k)
    by_phase Index e k = heed_awaited s b h e
    by_phase Either e k = heed_awaited s b h e
    by_phase Data e k = heed_awaited s b h e
    by_phase Ended e k =
        absurd (true≢false (sym h ∙ ap (λ p. letter_awaited p b.body && place_awaited p s b) e))

heed_other : (s : Listener) (b : Bucket) → awaited s b ≡ false → heed s b ≡ refused s NotAwaited
unfolding heed
heed_other s b h = rw h

-- the same by what the code tested
module _ (s : Listener) (b : Bucket) {as_awaited : Bool} (tested : as_awaited ≡ awaited s b) {r : Stepped} where
  pub heeds_not : not as_awaited ≡ true → r ≡ refused s NotAwaited → r ≡ heed s b
  heeds_not e is = is ∙ sym (heed_other s b (sym tested ∙ not-true as_awaited e))

  module _ (e : not as_awaited ≡ false) {tuning : Bool} (phase : tuning ≡ is_tune_in s.phase) where
    pub heeds_first : tuning ≡ true → r ≡ decided s b (dozes b.to_segment Index 0 0) → r ≡ heed s b
    heeds_first t is = is ∙ sym (heed_tune_in s b (sym tested ∙ not-false as_awaited e) (sym phase ∙ t))

    pub heeds_later : tuning ≡ false → r ≡ decided s b (body_choice s.tag b.body) → r ≡ heed s b
    heeds_later t is = is ∙ sym (heed_later s b (sym tested ∙ not-false as_awaited e) (sym phase ∙ t))

-- 14 holds, or does not
module _ (s : Listener) (bytes : List ℕ) where
  pub step_ended : is_ended s.phase ≡ true → step s bytes ≡ refused_ended s
  unfolding step
  step_ended h = rw h

  pub step_read : is_ended s.phase ≡ false → step s bytes ≡ heed_read s (read_bucket bytes)
  unfolding step
  step_read h = rw h

-- the same of a lost bucket
module _ (s : Listener) where
  pub lost_ended : is_ended s.phase ≡ true → lost s ≡ refused_ended s
  unfolding lost
  lost_ended h = rw h

  pub lost_open : is_ended s.phase ≡ false → lost s ≡ stepped (starts_over s) (Doze 1) 0 0
  unfolding lost
  lost_open h = rw h
