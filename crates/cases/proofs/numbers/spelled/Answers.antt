-- At most 11 digits are taken before the last one.
use Rattle.std.proofs.Common.{arith}
use Rattle.cases.proofs.Reading.{few_columns}
use Rattle.cases.proofs.numbers.spelled.Goals as goal

pub overflow_mul-x : goal.overflow_mul-x
overflow_mul-x c =
    let small = few_columns _ _ c.loop-c.invariant.0 (omega arith) in
    rw c.ten_to.ensures (omega arith)

pub overflow_add-x : goal.overflow_add-x
overflow_add-x c =
    let small = few_columns _ _ c.loop-c.invariant.0 (omega arith) in
    rw c.ten_to.ensures (omega arith)
