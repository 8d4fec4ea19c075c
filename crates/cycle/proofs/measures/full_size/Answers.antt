-- Each height's tree has n trees of the height below and a bucket more, and is smaller than n to the height.
use Rattle.std.proofs.Common.{◌≡◌, sym, ap, ◌∙◌, ◌+◌, ◌*◌, ◌^◌, ◌≤◌, arith}
use Rattle.std.proofs.Math.Nat.{mul-le-mul}
use Rattle.buckets.specs.Lengths.{entries_most}
use Rattle.cycle.specs.Judging.{full_size}
use Rattle.cycle.proofs.Basics.Powers.{power_high}
use Rattle.cycle.proofs.Trees.Fulls.{full_next, full_below}
use Rattle.cycle.proofs.measures.full_size.Goals as goal

-- the size reached, times n
small : (c : goal.In-loop) → c.loop.size * c.args.n ≤ 2 ^ 48 * entries_most
small c =
    let p = power_high c.args.n c.loop.counter (omega arith) (omega arith) in
    let q = full_below c.args.n c.loop.counter (omega arith) in
    mul-le-mul {n₂ = 2 ^ 48} {m₂ = entries_most} (omega (arith, c.loop.invariant)) (omega arith)

pub overflow_mul-size : goal.overflow_mul-size
overflow_mul-size c = let s = small c in omega arith

pub overflow_add-size : goal.overflow_add-size
overflow_add-size c = let s = small c in omega arith

pub loop-preserved : goal.loop-preserved
loop-preserved c = ap (λ x. x * c.args.n + 1) c.loop.invariant ∙ sym (full_next c.args.n c.loop.counter)

pub returns : goal.returns
returns c =
    let e : c.loop.counter ≡ c.args.h = omega arith in
    c.loop.invariant ∙ ap (full_size c.args.n) e
