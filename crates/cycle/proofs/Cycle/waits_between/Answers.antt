-- The segment starts before its last bucket, which lies within the cycle: no product leaves 64 bits.
use mathlib.Core.Path.{◌≡◌}
use mathlib.Core.List.{[]}
use Prim.Native.Nat.{ℕ, ◌+◌, ◌-◌, ◌*◌, ◌≤◌, ◌<◌}
use native.Mathlib.Nat.{mul-add, mul-le-mul, mul-le-mul_left}
use native.Mathlib.Omega.{arith}
use Rattle.cycle.specs.Cycle.{first_place}
use Rattle.cycle.specs.Waits.{segment_start}
use Rattle.cycle.specs.declared.Cycle.{Cycle}
use Rattle.cycle.specs.Inner.Held.{plan_of}
use Rattle.cycle.proofs.Sequences.Keeping.{keeps}
use Rattle.cycle.proofs.Trees.Readiness.{sound}
use Rattle.cycle.proofs.Reach.DataHeld.{data_ends}
use Rattle.cycle.proofs.Waiting.SegmentStarts.{start_before}
use Rattle.cycle.proofs.Waiting.DataPlaces.{places_rise}
use Rattle.cycle.proofs.Cycle.waits_between.Goals as goal
use Rattle.buckets.specs.Lengths.{buckets_most}

-- the products that the code works out, of N, the segment's start and the last bucket's position
record Sums (size start place : ℕ) : Type 0 where
  order : start ≤ place
  within : place < size
  small : size ≤ buckets_most
  ends : size * (place + 1) ≤ buckets_most * buckets_most
  behind : size * (size - start) ≤ buckets_most * buckets_most
  earlier : size * (size - 1) ≤ size * (place + 1) + size * (size - start)

sums : (size start place : ℕ) → start ≤ place → place < size → size ≤ buckets_most → Sums size start place
sums size start place order within small =
    let all : size * (place + 1 + (size - start)) ≡ size * (place + 1) + size * (size - start) = mul-add size (place + 1) (size - start) in
    let more : size * (size - 1) ≤ size * (place + 1 + (size - start)) = mul-le-mul_left size (omega arith) in
    record {
      order = order;
      within = within;
      small = small;
      ends = mul-le-mul {n₂ = buckets_most} {m₂ = buckets_most} small (omega arith);
      behind = mul-le-mul {n₂ = buckets_most} {m₂ = buckets_most} small (omega arith);
      earlier = omega arith;
    }

summed :
    (cycle : Cycle) {first last start place : ℕ} → (first ≤ last) × (last < cycle.f.d) → start ≡ segment_start (plan_of cycle.f []) first →
    place ≡ first_place (plan_of cycle.f []) (cycle.f.k + 1) last → Sums cycle.f.size start place
unfolding plan_of
summed cycle {first = first} {last = last} {start = start} {place = place} r start_is place_is =
    let f = cycle.f in
    let before = start_before (plan_of f []) first in
    let kept = keeps (plan_of f []) (sound f [] cycle.ready.shaped cycle.ready.copies_fit_lem) in
    let rise = places_rise (plan_of f []) kept first last r.0 (omega arith) in
    let ends = data_ends f last cycle.ready r.1 in
    sums f.size start place (omega (arith, start_is, place_is)) (omega (arith, place_is)) cycle.ready.size_high

pub overflow_add-end : goal.overflow_add-end
overflow_add-end c = omega (arith, summed c.args.self.now c.requires c.segment_start-start.ensures c.data_place-end.ensures)

pub overflow_mul-result : goal.overflow_mul-result
overflow_mul-result c = omega (arith, summed c.args.self.now c.requires c.segment_start-start.ensures c.data_place-end.ensures)

pub overflow_sub-result : goal.overflow_sub-result
overflow_sub-result c = omega (arith, summed c.args.self.now c.requires c.segment_start-start.ensures c.data_place-end.ensures)

pub overflow_add-result : goal.overflow_add-result
overflow_add-result c = omega (arith, summed c.args.self.now c.requires c.segment_start-start.ensures c.data_place-end.ensures)

pub overflow_sub-result-2 : goal.overflow_sub-result-2
overflow_sub-result-2 c = omega (arith, summed c.args.self.now c.requires c.segment_start-start.ensures c.data_place-end.ensures)

pub overflow_sub-result-3 : goal.overflow_sub-result-3
overflow_sub-result-3 c = omega (arith, summed c.args.self.now c.requires c.segment_start-start.ensures c.data_place-end.ensures)
