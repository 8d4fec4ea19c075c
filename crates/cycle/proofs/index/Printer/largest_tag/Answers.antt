-- The levels are few.
use Rattle.std.proofs.Common.{arith}
use Rattle.cycle.proofs.Trees.Readiness.{reached}
use Rattle.cycle.proofs.index.Printer.largest_tag.Goals as goal

pub power-requires : goal.power-requires
power-requires c =
    let cycle = c.args.self.now.part.now.cycle.now in
    let shaped = cycle.ready.shaped in
    (shaped.n_low, shaped.n_high, omega (arith, (reached cycle.f c.args.e c.args.j shaped c.requires.1).height))
