-- The path buckets before x are written.
use Rattle.std.proofs.Common.{◌≡◌}
use Rattle.cycle.specs.Inner.Held.{plan_in, written}
use Rattle.cycle.specs.declared.Source.TheVariants.{List as InList}
use Rattle.cycle.proofs.build.Sender.write_path.Given as goal

abbrev pub invariant-loop-x : goal.invariant-loop-x
invariant-loop-x l = l.image ≡ written (plan_in l.self.part.cycle.now.f InList l.self.list.now) l.fn.image l.self.part.s.start l.x
