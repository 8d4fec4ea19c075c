-- A loop over the segments of a cycle: how what holds of the buckets before a segment goes on to the next, up to the whole cycle.
-- Assumes nothing.
use mathlib.Core.Path.{◌≡◌, sym, ap, ◌∙◌, subst}
use Prim.Native.Nat.{ℕ, zero, suc, ◌+◌, ◌≤◌, ◌<◌}
use native.Mathlib.Numerals.{add-one}
use native.Mathlib.Omega.{arith}
use mathlib.Core.List.{List, []}
use Rattle.buckets.specs.declared.Line.{Line}
use Rattle.cycle.specs.declared.Figures.{Figures}
use Rattle.cycle.specs.declared.Segment.{Segment}
use Rattle.cycle.specs.Inner.Held.{plan_of, Ready, HoldsSegment, segment_count}
use Rattle.cycle.proofs.Basics.RangeTests.{Each}
use Rattle.cycle.proofs.Segmenting.SegmentParts.{before, before_none, before_all, before_within, start_before, end_before}

-- the loop has come to segment i of `count`, and P holds of the number of buckets before it
pub record Through (f : Figures) (P : ℕ → Type 0) (count i : ℕ) : Type 0 where
  pub within : i ≤ count
  pub holds : P (before (plan_of f []) i)

pub through_none : {f : Figures} {P : ℕ → Type 0} {count : ℕ} → P 0 → Through f P count 0
through_none {f} {P} p = record { within = omega arith; holds = subst P (sym (before_none (plan_of f []))) p }

module _ {f : Figures} {P : ℕ → Type 0} {count i : ℕ} (t : Through f P count i) where
  -- from P of the buckets before the segment to Q of those before the next
  pub through_next :
      {Q : ℕ → Type 0} {s : Segment} → i < count → ((ls : List Line) → HoldsSegment (plan_of f ls) s) × (s.number ≡ i) →
      (P s.start → Q s.end) → Through f Q count (i + 1)
  through_next {Q} {s} h held step =
      let start = start_before (plan_of f []) s i (held.0 []) held.1 in
      let end = end_before (plan_of f []) s i (held.0 []) held.1 in
      record { within = omega arith; holds = subst Q end (step (subst P (sym start) t.holds)) }

  module _ (ready : Ready f) (counted : count ≡ segment_count (plan_of f [])) where
    pub before_size : before (plan_of f []) i ≤ f.size
    before_size = omega (arith, before_within (plan_of f []) i (omega (arith, t.within)), ready.size_is)

    pub through_all : count ≤ i → P f.size
    through_all h =
        let last : i ≡ segment_count (plan_of f []) = omega (arith, t.within) in
        subst P (ap (before (plan_of f [])) last ∙ before_all (plan_of f []) ∙ sym ready.size_is) t.holds

-- what holds of the buckets before segment i goes on to those before the next
pub record Goes (f : Figures) (P : ℕ → Type 0) (i : ℕ) : Type 0 where
  pub next : P (before (plan_of f []) i) → P (before (plan_of f []) (i + 1))

pub goes :
    {f : Figures} {P : ℕ → Type 0} {i : ℕ} (s : Segment) → ((ls : List Line) → HoldsSegment (plan_of f ls) s) × (s.number ≡ i) →
    (P s.start → P s.end) → Goes f P i
goes {f} {P} {i} s held step =
    let start = start_before (plan_of f []) s i (held.0 []) held.1 in
    let end = end_before (plan_of f []) s i (held.0 []) held.1 in
    record { next = λ p. subst P end (step (subst P (sym start) p)) }

pub goes_through :
    {f : Figures} {P : ℕ → Type 0} {count : ℕ} → Ready f → count ≡ segment_count (plan_of f []) → P 0 → Each (Goes f P) 0 count → P f.size
goes_through {f} {P} {count} ready counted none each =
    subst P (ap (before (plan_of f [])) counted ∙ before_all (plan_of f []) ∙ sym ready.size_is) (go count (omega arith))
  where
    go : (i : ℕ) → i ≤ count → P (before (plan_of f []) i)
    go zero h = subst P (sym (before_none (plan_of f []))) none
    go (suc i) h = rw (← add-one i) ((each.at i (omega arith) (omega arith)).next (go i (omega arith)))
