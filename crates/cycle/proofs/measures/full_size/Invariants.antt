-- After each round `size` is that of the height reached.
use Rattle.std.proofs.Common.{◌≡◌}
use Rattle.cycle.specs.Judging.{full_size}
use Rattle.cycle.proofs.measures.full_size.Given as goal

abbrev pub invariant-loop : goal.invariant-loop
invariant-loop l = l.size ≡ full_size l.n l.counter
