-- Some line stands up to the end of the bucket, and the code works out no more than eight lines for each data bucket.
use Rattle.std.proofs.Common.{ℕ, ◌+◌, ◌*◌, ◌≤◌, arith}
use Rattle.std.proofs.Math.Nat.{mul-le-mul}
use Rattle.cycle.specs.declared.Cycle.{Cycle}
use Rattle.cycle.specs.Inner.Held.{Spans}
use Rattle.cycle.proofs.Trees.LargestTags.{SpanReached, span_reached}
use Rattle.cycle.proofs.Cycle.last_line.Goals as goal

known : (cycle : Cycle) {span j : ℕ} → 1 ≤ cycle.f.d → Spans cycle.f span j → SpanReached cycle.f span j
known cycle = span_reached _ _ _ cycle.ready.shaped

pub overflow_add-j : goal.overflow_add-j
overflow_add-j c = omega (arith, (known c.args.self.now c.requires.le_d c.requires.spans).place)

pub overflow_mul-j : goal.overflow_mul-j
overflow_mul-j c = omega (arith, (known c.args.self.now c.requires.le_d c.requires.spans).end)

pub overflow_mul-j-2 : goal.overflow_mul-j-2
overflow_mul-j-2 c =
    let end = (known c.args.self.now c.requires.le_d c.requires.spans).end in
    let m : (c.args.j + 1) * c.args.span * c.args.self.now.f.p ≤ 360000 * 8 =
    mul-le-mul {n₂ = 360000} {m₂ = 8} end c.args.self.now.ready.shaped.p_high in
    omega arith
