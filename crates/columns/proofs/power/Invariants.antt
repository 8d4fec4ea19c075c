-- Assumes nothing.
use Rattle.std.proofs.Common.{◌≡◌, ◌^◌}
use Rattle.columns.proofs.power.Given as goal

abbrev pub invariant-loop : goal.invariant-loop
invariant-loop l = l.x ≡ l.n ^ l.counter
