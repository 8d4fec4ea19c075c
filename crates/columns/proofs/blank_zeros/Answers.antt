-- Assumes nothing.
use Rattle.std.proofs.Common.{arith}
use Rattle.columns.proofs.Lenient.{stops, goes_on, ends}
use Rattle.columns.proofs.blank_zeros.Goals as goal

pub returns-then-not-is_leading : goal.returns-then-not-is_leading
returns-then-not-is_leading c = stops _ _ _ c.loop-i.invariant (omega arith) c.is_leading.ensures c.if-not-is_leading.true

pub loop-i-preserved : goal.loop-i-preserved
loop-i-preserved c = goes_on _ _ _ c.loop-i.invariant (omega arith) c.is_leading.ensures c.if-not-is_leading.false

pub returns : goal.returns
returns c = ends _ _ _ c.loop-i.invariant (omega arith)
