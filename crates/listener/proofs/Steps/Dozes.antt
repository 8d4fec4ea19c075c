-- A doze by d from a bucket: it stays in the bucket's cycle, or ends at the next one's start.
-- Assumes nothing.
use mathlib.Core.Path.{◌≡◌}
use mathlib.Core.Bool.{true, false}
use Prim.Native.Nat.{ℕ, ◌+◌, ◌<◌, ◌≤◌}
use native.Mathlib.Omega.{arith}
use lib.Dec.{leb}
use borrow.Author.Tests.{le-leb, lt-leb}
use Rattle.columns.proofs.Strict.{and_false, and_true}
use Rattle.buckets.specs.Bucket.{Bucket}
use Rattle.listener.specs.Listener.{reaches_start, due_with, passed_with, past_next_cycle}
use Rattle.listener.specs.declared.Listener.{Listener}

-- ---- it stays

module _ (b : Bucket) (d : ℕ) (h : d < b.to_cycle) where
  stays : reaches_start b d ≡ false
  unfolding reaches_start
  stays = lt-leb b.to_cycle d h

  pub due_within : due_with b d ≡ b.position + d
  unfolding due_with
  due_within = rw stays

  pub passed_within : (s : Listener) → passed_with s b d ≡ s.passed
  unfolding passed_with
  passed_within s = rw stays (omega arith)

  pub past_within : (s : Listener) → past_next_cycle s b d ≡ false
  unfolding past_next_cycle
  past_within s = rw (stays, and_false (leb 1 s.passed))

-- ---- it ends at a start

module _ (b : Bucket) (d : ℕ) (h : b.to_cycle ≤ d) where
  arrives : reaches_start b d ≡ true
  unfolding reaches_start
  arrives = le-leb b.to_cycle d h

  pub due_start : due_with b d ≡ 0
  unfolding due_with
  due_start = rw arrives

  pub passed_start : (s : Listener) → passed_with s b d ≡ s.passed + 1
  unfolding passed_with
  passed_start s = rw arrives

  pub past_start : (s : Listener) → past_next_cycle s b d ≡ leb 1 s.passed
  unfolding past_next_cycle
  past_start s = rw (arrives, and_true (leb 1 s.passed))
