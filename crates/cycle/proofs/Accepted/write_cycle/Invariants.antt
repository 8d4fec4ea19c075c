-- The segments before i are written.
use Rattle.std.proofs.Common.{◌≡◌}
use Rattle.cycle.specs.Inner.Held.{plan_in, written}
use Rattle.cycle.specs.declared.Source.TheVariants.{List as InList}
use Rattle.cycle.proofs.Segmenting.SegmentLoops.{Through}
use Rattle.cycle.proofs.Accepted.write_cycle.Given as goal

abbrev pub invariant-loop-i : goal.invariant-loop-i
invariant-loop-i l =
    Through l.self.cycle.f (λ x. l.image ≡ written (plan_in l.self.cycle.f InList l.self.list.now) l.fn.image 0 x) l.i-end l.i
