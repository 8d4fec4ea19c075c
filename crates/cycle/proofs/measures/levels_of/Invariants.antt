-- The level looked for is the least from k on.
use Rattle.std.proofs.Common.{◌≡◌, ◌-◌, ◌^◌, ◌≤◌}
use Rattle.cycle.specs.Tree.{levels, levels_most}
use Rattle.cycle.proofs.Trees.Levels.{levels_from}
use Rattle.cycle.proofs.measures.levels_of.Given as goal

abbrev pub invariant-loop-power : goal.invariant-loop-power
invariant-loop-power l = record {
  low : 1 ≤ l.k;
  high : l.k ≤ levels_most;
  is_power : l.power ≡ l.n ^ l.k;
  left : levels l.n l.d ≡ levels_from l.n l.d l.k;
}

abbrev pub decreases-loop-power : goal.decreases-loop-power
decreases-loop-power l = levels_most - l.k
