-- The sum is that of the rows below height h.
use Rattle.std.proofs.Common.{◌≡◌, ◌-◌, ◌*◌, ◌≤◌}
use Rattle.buckets.specs.Lengths.{lines_most}
use Rattle.cycle.proofs.Trees.TreeSizes.{last_rows}
use Rattle.cycle.proofs.measures.Fitted.last_tree_size.Given as goal

abbrev pub invariant-loop-h : goal.invariant-loop-h
invariant-loop-h l = record {
  is_sum : l.sum ≡ last_rows l.f.n l.f.d l.e l.j (l.h - 1);
  small : l.sum ≤ lines_most * l.h;
}
