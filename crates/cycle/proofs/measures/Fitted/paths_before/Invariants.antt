-- What is still to be added is the same sum for the levels above.
use Rattle.std.proofs.Common.{◌≡◌, ◌+◌, ◌-◌, ◌*◌, ◌≤◌}
use Rattle.columns.specs.Lists.{up}
use Rattle.buckets.specs.Lengths.{lines_most, pairs_most}
use Rattle.cycle.proofs.Sequences.PathSizes.{climbs}
use Rattle.cycle.proofs.measures.Fitted.paths_before.Given as goal

abbrev pub invariant-loop : goal.invariant-loop
invariant-loop l = record {
  rest : climbs l.f.n l.f.copies l.b ≡ l.sum + climbs l.f.n (l.f.copies - l.counter) (up l.count l.f.n);
  few : l.count ≤ lines_most;
  small : l.sum + lines_most * (l.f.copies - l.counter) ≤ pairs_most * lines_most;
}
