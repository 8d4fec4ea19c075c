-- The path begins where the one to the bucket above does.
use Rattle.std.proofs.Common.{◌≡◌, ◌-◌}
use Rattle.cycle.specs.Layouts.{path_top}
use Rattle.cycle.proofs.Sequences.PathSizes.{top_of}
use Rattle.cycle.proofs.Cycle.path_top.Given as goal

abbrev pub invariant-loop-level : goal.invariant-loop-level
invariant-loop-level l = path_top l.self.f.n l.self.f.copies l.b ≡ top_of l.self.f.n (l.level - 1) l.place
