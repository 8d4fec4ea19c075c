-- In layout 1 the copied levels are fewer than all.
use Rattle.std.proofs.Common.{ap, arith}
use Rattle.cycle.specs.Tree.{layout_number}
use Rattle.cycle.proofs.Trees.Readiness.{block}
use Rattle.cycle.proofs.measures.Fitted.tree_height.Goals as goal

pub overflow_sub-result : goal.overflow_sub-result
overflow_sub-result c = omega (arith, (block c.args.self.now.f.now c.args.self.now.shaped (ap layout_number c.in-Distributed.is) c.args.self.now.copies_in).fits)
