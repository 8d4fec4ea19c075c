-- Assumes nothing.
use Rattle.std.proofs.Common.{◌≡◌, ◌+◌, ◌*◌, ◌^◌, pow-suc, add-one, arith}
use native.Mathlib.Nat.{pow-le-pow_right}
use Rattle.columns.proofs.power.Goals as goal

-- the next power is at most the one asked for
pub overflow_mul-x : goal.overflow_mul-x
overflow_mul-x c =
    let next : c.args.n ^ (c.loop.counter + 1) ≡ c.args.n ^ c.loop.counter * c.args.n = rw (add-one c.loop.counter) (pow-suc c.args.n c.loop.counter) in
    let most = pow-le-pow_right {n = c.args.n} c.requires.0 {i = c.loop.counter + 1} {j = c.args.e} (omega arith) in
    rw (c.loop.invariant, ← next) (omega (arith, c.requires.1))
