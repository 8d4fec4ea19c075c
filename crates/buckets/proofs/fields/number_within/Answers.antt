-- The tests that the number passes or fails.
use Rattle.std.proofs.Common.{arith, sym}
use Rattle.buckets.proofs.Bounds.{misprinted, too_low, too_high, within}
use Rattle.buckets.proofs.fields.number_within.Goals as goal

pub returns-in-Some : goal.returns-in-Some
returns-in-Some c =
    sym (within c.args.low c.args.high c.args.part.now c.in-Some.x (sym c.in-Some.ensures) (omega arith) (omega arith))

pub returns-in_default : goal.returns-in_default
returns-in_default c =
    sym (too_high c.args.low c.args.high c.args.part.now c.in-Some.x (sym c.in-Some.ensures) (omega arith) (omega arith))

pub returns-in_default-2 : goal.returns-in_default-2
returns-in_default-2 c =
    sym (too_low c.args.low c.args.high c.args.part.now c.in-Some.x (sym c.in-Some.ensures) (omega arith))

pub returns-in_default-3 : goal.returns-in_default-3
returns-in_default-3 c = grind (arith, misprinted)
