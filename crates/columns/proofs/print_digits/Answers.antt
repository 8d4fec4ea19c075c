-- Assumes nothing.
use Rattle.std.proofs.Common.{arith}
use Rattle.columns.proofs.FromTheRight.{none_written, digit_written, done_written, full_written}
use Rattle.columns.proofs.print_digits.Goals as goal

pub loop-i-init : goal.loop-i-init
loop-i-init c = none_written _ _ _ c.requires

pub returns-then-rest-eq0 : goal.returns-then-rest-eq0
returns-then-rest-eq0 c =
    rw c.ten_to-ten.ensures
    (done_written (digit_written c.loop-i.invariant c.loop-i-test.true) (omega arith) (rw c.ten_to-ten.ensures at c.if-rest-eq0.true))

pub loop-i-preserved : goal.loop-i-preserved
loop-i-preserved c =
    let some = rw c.ten_to-ten.ensures at c.if-rest-eq0.false in
    rw c.ten_to-ten.ensures (record { so_far = digit_written c.loop-i.invariant c.loop-i-test.true; more = λ h. omega (arith, some) })

pub returns : goal.returns
returns c = full_written c.loop-i.invariant.so_far (omega arith)
