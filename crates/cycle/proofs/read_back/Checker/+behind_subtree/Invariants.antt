-- The height falls. The bucket and the subtrees of the children before i stand in their places, and `next` is the place behind
-- them.
use Rattle.cycle.specs.Inner.Held.{plan_in}
use Rattle.cycle.specs.Inner.Comparing.{Matches}
use Rattle.cycle.specs.declared.Source.TheVariants.{Image as InImage}
use Rattle.cycle.proofs.Segmenting.Subtrees.{Behind}
use Rattle.cycle.proofs.read_back.Checker.+behind_subtree.Given as goal

abbrev pub decreases-behind_subtree : goal.decreases-behind_subtree
decreases-behind_subtree l = l.e

abbrev pub invariant-loop-i : goal.invariant-loop-i
invariant-loop-i l =
    let f = l.self.part.cycle.now.f in
    let bytes = l.self.image.now in
    Behind f l.e l.j l.x l.count l.i l.next × Matches (plan_in f InImage bytes) bytes l.x l.next
