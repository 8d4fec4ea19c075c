-- One hop of a walk through a cycle: to a bucket further on in the same cycle, or on to the first bucket of the next one.
-- Assumes nothing.
use mathlib.Core.Path.{◌≡◌, sym, ◌∙◌, ap, subst}
use Prim.Native.Nat.{ℕ, suc, ◌+◌, ◌-◌, ◌≤◌, ◌<◌}
use mathlib.Core.Bool.{true}
use mathlib.Core.List.{List, [], ◌∷◌, ◌++◌, append_assoc}
use native.Mathlib.Nat.{zero-add}
use native.Mathlib.Omega.{arith}
use lib.ListN.{length, length-append}
use Rattle.buckets.specs.declared.Line.{Line}
use Rattle.buckets.specs.Bucket.{Bucket, cycle_length}
use Rattle.cycle.specs.Tree.{Plan}
use Rattle.cycle.specs.Layouts.{Slot, slots}
use Rattle.cycle.specs.Cycle.{bucket_of, body_of, cycle_size}
use Rattle.cycle.specs.Inner.Held.{last_of, cycle_bucket}
use Rattle.cycle.proofs.Sequences.Sequence.{Keeps, data_count}
use Rattle.cycle.proofs.Sequences.Pieces.{count_append}
use Rattle.cycle.proofs.Segmenting.BucketAt.{Place, bucket_at_lem, position_of, cycle_of}
use Rattle.listener.specs.Listener.{dozes, finds, misses, choice, letter_awaited}
use Rattle.listener.specs.Hearing.{End, found, absent}
use Rattle.listener.specs.declared.Phase.{Phase}
use Rattle.listener.proofs.Walks.Walk.{Walk, misses_here, finds_here, hops, awake, lines_at}

-- a bucket of the cycle, with those before it and behind it
pub record Spot (t : Plan) : Type 0 where
  pub before : List Slot
  pub slot : Slot
  pub rest : List Slot
  pub splits : slots t ≡ before ++ (slot ∷ rest)

-- its place
unfoldable pub here : {t : Plan} → Spot t → ℕ
here s = length s.before

-- the data buckets sent before it
unfoldable pub sent_to : {t : Plan} → Spot t → ℕ
sent_to {t} s = data_count t s.before

-- the bucket at a place
unfoldable pub spot_of : {t : Plan} {x : ℕ} → Place t x → Spot t
spot_of p = record { before = p.before; slot = p.slot; rest = p.rest; splits = p.splits }

pub spot_here : {t : Plan} {x : ℕ} (p : Place t x) → here (spot_of p) ≡ x
unfolding here spot_of
spot_here p = p.is

pub here_below : {t : Plan} (s : Spot t) → here s < cycle_size t
unfolding here cycle_size
here_below {t} s = rw (s.splits, length-append) (omega arith)

-- the cycle of a plan stands on air from place `base` on, before `last`
pub record Carries (last : ℕ) (bk : ℕ → Bucket) (t : Plan) : Type 0 where
  pub base : ℕ
  pub inside : base + cycle_size t ≤ last
  pub is : (x : ℕ) → x < cycle_size t → bk (base + x) ≡ cycle_bucket t x
  pub to_start : (x : ℕ) → x < cycle_size t → (cycle_bucket t x).to_cycle ≡ cycle_size t - x

-- a walk from bucket x of that cycle on
abbrev pub WalkOn : {last : ℕ} {bk : ℕ → Bucket} (t : Plan) → ℕ → Carries last bk t → ℕ → Phase → ℕ → End → ℕ → List Line → Type 0
WalkOn {last} {bk} t tag c x ph h e z got = Walk last tag bk (c.base + x) ph h e z got

-- ---- one step of a walk

module _ {last : ℕ} {bk : ℕ → Bucket} {t : Plan} (c : Carries last bk t) (s : Spot t) where
  pub bucket_on_lem : bk (c.base + here s) ≡ cycle_bucket t (here s)
  bucket_on_lem = c.is (here s) (here_below s)

  pub spot_before : c.base + here s < last
  spot_before = omega (arith, c.inside, here_below s)

  pub misses_at :
      (tag : ℕ) {ph : Phase} → letter_awaited ph (cycle_bucket t (here s)).body ≡ true →
      choice ph tag (cycle_bucket t (here s)) ≡ misses → WalkOn t tag c (here s) ph 1 absent (c.base + here s) []
  misses_at tag {ph} l is = misses_here {ph = ph} spot_before (rw bucket_on_lem l) (rw bucket_on_lem is)

  pub finds_at :
      (tag : ℕ) {ph : Phase} (first count : ℕ) → letter_awaited ph (cycle_bucket t (here s)).body ≡ true →
      choice ph tag (cycle_bucket t (here s)) ≡ finds first count →
      WalkOn t tag c (here s) ph 1 found (c.base + here s) (lines_at (cycle_bucket t (here s)) first count)
  finds_at tag {ph} first count l is =
      subst (λ b. WalkOn t tag c (here s) ph 1 found (c.base + here s) (lines_at b first count)) bucket_on_lem
      (finds_here {ph = ph} first count spot_before (rw bucket_on_lem l) (rw bucket_on_lem is))

  -- to a bucket of the same cycle, or to the first one of the next
  pub hop_at :
      (tag : ℕ) {ph next : Phase} {h : ℕ} {end : End} {z : ℕ} {got : List Line} (d first count : ℕ) →
      letter_awaited ph (cycle_bucket t (here s)).body ≡ true →
      choice ph tag (cycle_bucket t (here s)) ≡ dozes d next first count → awake next ≡ true → 1 ≤ d →
      here s + d ≤ cycle_size t → WalkOn t tag c (here s + d) next h end z got →
      WalkOn t tag c (here s) ph (suc h) end z (lines_at (cycle_bucket t (here s)) first count ++ got)
  hop_at tag {ph} {next} {h} {end} {z} {got} d first count l is w far near more =
      subst (λ b. WalkOn t tag c (here s) ph (suc h) end z (lines_at b first count ++ got)) bucket_on_lem
      (hops {ph = ph} d first count spot_before (rw bucket_on_lem l) (rw bucket_on_lem is) w far
      (rw (bucket_on_lem, c.to_start (here s) (here_below s)) (omega arith))
      (subst (λ y. Walk last tag bk y next h end z got) (omega arith) more))

-- a bucket further on
unfoldable pub further : {t : Plan} (s : Spot t) (skipped : List Slot) (hit : Slot) (behind : List Slot) → s.rest ≡ skipped ++ (hit ∷ behind) → Spot t
further {t} s skipped hit behind e =
    record {
      before = s.before ++ (s.slot ∷ skipped);
      slot = hit;
      rest = behind;
      splits =
          s.splits ∙
          (ap (λ z. s.before ++ (s.slot ∷ z)) e ∙ sym (append_assoc s.before (s.slot ∷ skipped) (hit ∷ behind)));
    }

module _ {t : Plan} (s : Spot t) (skipped : List Slot) (hit : Slot) (behind : List Slot) (e : s.rest ≡ skipped ++ (hit ∷ behind)) where
  pub further_here : here (further s skipped hit behind e) ≡ here s + suc (length skipped)
  unfolding here further
  further_here = length-append s.before (s.slot ∷ skipped)

  pub further_sent : sent_to (further s skipped hit behind e) ≡ sent_to s + data_count t (s.slot ∷ skipped)
  unfolding sent_to further
  further_sent = count_append t s.before (s.slot ∷ skipped)

  pub hop_within :
      {last : ℕ} {bk : ℕ → Bucket} (tag : ℕ) (c : Carries last bk t) {ph next : Phase} {h : ℕ} {end : End} {z : ℕ} {got : List Line}
      (first count : ℕ) → letter_awaited ph (cycle_bucket t (here s)).body ≡ true →
      choice ph tag (cycle_bucket t (here s)) ≡ dozes (suc (length skipped)) next first count → awake next ≡ true →
      WalkOn t tag c (here (further s skipped hit behind e)) next h end z got →
      WalkOn t tag c (here s) ph (suc h) end z (lines_at (cycle_bucket t (here s)) first count ++ got)
  hop_within {last} {bk} tag c {ph} {next} {h} {end} {z} {got} first count l is w more =
      hop_at c s tag (suc (length skipped)) first count l is w (omega arith)
      (omega (arith, further_here, here_below (further s skipped hit behind e)))
      (subst (λ y. Walk last tag bk (c.base + y) next h end z got) further_here more)

-- on to the first bucket of the next cycle
pub hop_round :
    {last : ℕ} {bk : ℕ → Bucket} {t : Plan} (c : Carries last bk t) (s : Spot t) (tag : ℕ) {ph next : Phase} {h : ℕ} {end : End} {z : ℕ}
    {got : List Line} (d first count : ℕ) → letter_awaited ph (cycle_bucket t (here s)).body ≡ true →
    choice ph tag (cycle_bucket t (here s)) ≡ dozes d next first count → awake next ≡ true → here s + d ≡ cycle_size t →
    WalkOn t tag c (cycle_size t) next h end z got →
    WalkOn t tag c (here s) ph (suc h) end z (lines_at (cycle_bucket t (here s)) first count ++ got)
hop_round {last} {bk} {t} c s tag {ph} {next} {h} {end} {z} {got} d first count l is w sums more =
    hop_at c s tag d first count l is w (omega (arith, here_below s)) (omega arith)
    (subst (λ y. Walk last tag bk (c.base + y) next h end z got) (sym sums) more)

-- a walk read with equal figures
pub walk_as :
    {last tag : ℕ} {bk : ℕ → Bucket} {x : ℕ} {ph : Phase} {h h' : ℕ} {e : End} {z z' : ℕ} {got got' : List Line} →
    h ≡ h' → z ≡ z' → got ≡ got' → Walk last tag bk x ph h e z got → Walk last tag bk x ph h' e z' got'
walk_as {last} {tag} {bk} {x} {ph} {h} {h'} {e} {z} {z'} {got} {got'} p r q w =
    subst (λ y. Walk last tag bk x ph y e z' got') p
    (subst (λ y. Walk last tag bk x ph h e y got') r (subst (λ y. Walk last tag bk x ph h e z y) q w))

-- ---- a cycle that stands alone

pub to_start_of : (t : Plan) → Keeps t → (x : ℕ) → x < cycle_size t → (cycle_bucket t x).to_cycle ≡ cycle_size t - x
unfolding cycle_length
to_start_of t keeps x h = omega (arith, position_of t keeps x h, cycle_of t keeps x h)

unfoldable pub alone : (t : Plan) → Keeps t → Carries (cycle_size t) (cycle_bucket t) t
alone t keeps =
    record {
      base = 0;
      inside = omega arith;
      is = λ x h. ap (cycle_bucket t) (zero-add x);
      to_start = to_start_of t keeps;
    }

-- ---- the bucket at a spot

module _ (t : Plan) (keeps : Keeps t) (s : Spot t) where
  pub bucket_here :
      cycle_bucket t (here s) ≡ bucket_of t (length (slots t)) (here s) (last_of t (sent_to s)) s.slot s.rest
  unfolding here sent_to
  bucket_here = bucket_at_lem t keeps s.before s.slot s.rest s.splits

  pub body_here :
      (cycle_bucket t (here s)).body ≡
      body_of t (cycle_size t - here s) (last_of t (sent_to s)) s.slot s.rest
  unfolding bucket_of cycle_size
  body_here = ap (λ b. b.body) bucket_here
