-- The height falls. The subtrees of the children before i are written behind the bucket, and `next` is the place behind them.
use Rattle.std.proofs.Common.{◌≡◌, ◌+◌}
use Rattle.cycle.specs.Inner.Held.{plan_in, written}
use Rattle.cycle.specs.declared.Source.TheVariants.{List as InList}
use Rattle.cycle.proofs.Segmenting.Subtrees.{Behind}
use Rattle.cycle.proofs.build.Sender.+write_subtree.Given as goal

abbrev pub decreases-write_subtree : goal.decreases-write_subtree
decreases-write_subtree l = l.e

abbrev pub invariant-loop-i : goal.invariant-loop-i
invariant-loop-i l =
    Behind l.self.part.cycle.now.f l.e l.j l.x l.count l.i l.next
    × (l.image ≡ written (plan_in l.self.part.cycle.now.f InList l.self.list.now) l.initial.image (l.x + 1) l.next)
