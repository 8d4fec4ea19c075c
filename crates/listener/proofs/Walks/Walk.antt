-- A walk: the buckets that a listener takes, hop by hop, to its end. It knows what each bucket tells the listener and where
-- each hop lands, and nothing of the listener's counts, nor of trees. Places are counted on air from the start of tune-in's cycle.
-- Assumes nothing.
use mathlib.Core.Path.{◌≡◌}
use Prim.Native.Nat.{ℕ, suc, ◌+◌, ◌≤◌, ◌<◌}
use native.Mathlib.Omega.{arith}
use mathlib.Core.Bool.{Bool, true, false}
use mathlib.Core.List.{List, [], ◌++◌}
use lib.ListN
use lib.ListN.{drop}
use Rattle.buckets.specs.declared.Line.{Line}
use Rattle.buckets.specs.Bucket.{Bucket}
use Rattle.buckets.specs.BucketLines.{body_lines}
use Rattle.listener.specs.Listener.{dozes, finds, misses, choice, letter_awaited}
use Rattle.listener.specs.Hearing.{End, found, absent}
use Rattle.listener.specs.declared.Phase.{Phase}
use Rattle.listener.specs.declared.Phase.TheVariants.{TuneIn, Index, Either, Data, Ended}

-- a phase that a doze leaves behind
abbrev pub awake : Phase → Bool
awake TuneIn = false
awake Index = true
awake Either = true
awake Data = true
awake Ended = false

-- the lines of a bucket, first and how many
unfoldable pub lines_at : Bucket → ℕ → ℕ → List Line
lines_at b first count = ListN.take count (drop first (body_lines b.body))

-- from place x on, all places before `last`, awaiting what a phase says: steps up to the end, the end, its place, the lines
pub data Walk (last tag : ℕ) (bk : ℕ → Bucket) : ℕ → Phase → ℕ → End → ℕ → List Line → Type 0 where
  misses_here :
      {x : ℕ} {ph : Phase} → x < last → letter_awaited ph (bk x).body ≡ true → choice ph tag (bk x) ≡ misses →
      Walk last tag bk x ph 1 absent x []
  finds_here :
      {x : ℕ} {ph : Phase} (first count : ℕ) → x < last → letter_awaited ph (bk x).body ≡ true →
      choice ph tag (bk x) ≡ finds first count → Walk last tag bk x ph 1 found x (lines_at (bk x) first count)
  hops :
      {x : ℕ} {ph next : Phase} {h : ℕ} {e : End} {z : ℕ} {got : List Line} (d first count : ℕ) →
      x < last → letter_awaited ph (bk x).body ≡ true → choice ph tag (bk x) ≡ dozes d next first count →
      awake next ≡ true → 1 ≤ d → d ≤ (bk x).to_cycle → Walk last tag bk (x + d) next h e z got →
      Walk last tag bk x ph (suc h) e z (lines_at (bk x) first count ++ got)

module _ {last tag : ℕ} {bk : ℕ → Bucket} where
  pub walk_here :
      {x : ℕ} {ph : Phase} {h : ℕ} {e : End} {z : ℕ} {got : List Line} → Walk last tag bk x ph h e z got → x < last
  walk_here (misses_here hx l c) = hx
  walk_here (finds_here f c hx l e) = hx
  walk_here (hops d f c hx l e w far near more) = hx

  pub walk_some :
      {x : ℕ} {ph : Phase} {h : ℕ} {e : End} {z : ℕ} {got : List Line} → Walk last tag bk x ph h e z got → 1 ≤ h
  walk_some (misses_here hx l c) = omega arith
  walk_some (finds_here f c hx l e) = omega arith
  walk_some (hops d f c hx l e w far near more) = omega arith

  pub walk_end :
      {x : ℕ} {ph : Phase} {h : ℕ} {e : End} {z : ℕ} {got : List Line} → Walk last tag bk x ph h e z got → z < last
  walk_end (misses_here hx l c) = hx
  walk_end (finds_here f c hx l e) = hx
  walk_end (hops d f c hx l e w far near more) = walk_end more

  -- what it awaits may come
  pub walk_open :
      {x : ℕ} {ph : Phase} {h : ℕ} {e : End} {z : ℕ} {got : List Line} → Walk last tag bk x ph h e z got →
      letter_awaited ph (bk x).body ≡ true
  walk_open (misses_here hx l c) = l
  walk_open (finds_here f c hx l e) = l
  walk_open (hops d f c hx l e w far near more) = l

  -- every step goes on, so there are no more steps than places
  pub walk_short :
      {x : ℕ} {ph : Phase} {h : ℕ} {e : End} {z : ℕ} {got : List Line} → Walk last tag bk x ph h e z got → x + h ≤ last
  walk_short (misses_here hx l c) = omega arith
  walk_short (finds_here f c hx l e) = omega arith
  walk_short (hops d f c hx l e w far near more) = omega (arith, walk_short more)
