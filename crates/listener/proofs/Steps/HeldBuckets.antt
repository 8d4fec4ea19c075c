-- A bucket that was read keeps what a step asks.
-- Assumes nothing.
use mathlib.Core.Path.{◌≡◌, refl}
use mathlib.Core.Bool.{true}
use mathlib.Core.List.{List, [], ◌∷◌}
use Prim.Native.Nat.{ℕ, ◌≤◌}
use native.Mathlib.Omega.{arith}
use borrow.Author.Tests.{le-leb}
use lib.Dec.{leb}
use Rattle.columns.specs.Lists.{every}
use Rattle.columns.proofs.Strict.{both}
use Rattle.buckets.specs.Lengths.{buckets_most}
use Rattle.buckets.specs.declared.Pair.{Pair}
use Rattle.buckets.specs.declared.Entry.{Entry}
use Rattle.buckets.specs.Bucket.{Bucket, pair_fits, entry_fits}
use Rattle.buckets.specs.Inner.Held.{head_of}
use Rattle.buckets.proofs.Good.{Good, GoodIndex, pair_fits_lem, entry_fits_lem}
use Rattle.listener.specs.Inner.OnReading.{SoundHead, Near}

module _ (n : ℕ) (h : n ≤ buckets_most) where
  near_pairs : (ps : List Pair) → every (pair_fits n) ps ≡ true → every (λ p. leb p.distance buckets_most) ps ≡ true
  near_pairs [] k = refl
  near_pairs (p ∷ ps) k =
      let b = both (pair_fits n p) (every (pair_fits n) ps) k in
      let r = (pair_fits_lem n p b.0).1 in
      rw (le-leb p.distance buckets_most (omega (arith, r.near)), near_pairs ps b.1)

  near_entries : (es : List Entry) → every (entry_fits n) es ≡ true → every (λ e. leb e.distance buckets_most) es ≡ true
  near_entries [] k = refl
  near_entries (e ∷ es) k =
      let b = both (entry_fits n e) (every (entry_fits n) es) k in
      let r = (entry_fits_lem n e b.0).1 in
      rw (le-leb e.distance buckets_most (omega (arith, r.near)), near_entries es b.1)

  pub near_items : (ps : List Pair) (es : List Entry) → GoodIndex n ps es → Near ps es
  near_items ps es g = record { pairs_near = near_pairs ps g.pairs_fit; entries_near = near_entries es g.entries_fit }

pub sound_head : (b : Bucket) → Good b → SoundHead (head_of b)
unfolding head_of
sound_head b g = record { ahead = omega arith; short = omega arith; segment_near = omega (arith, g.segment_reached.near) }
