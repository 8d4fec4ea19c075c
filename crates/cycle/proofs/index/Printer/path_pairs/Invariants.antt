-- The pairs of the levels below `level`.
use Rattle.std.proofs.Common.{◌≡◌, ◌≤◌, ◌-◌, ◌∷◌, map}
use Rattle.columns.specs.Lists.{range}
use Rattle.cycle.specs.Cycle.{first_pair}
use Rattle.cycle.specs.Inner.Held.{plan_in, last_of, path_pair}
use Rattle.cycle.proofs.index.Printer.path_pairs.Given as goal

abbrev pub invariant-loop-level : goal.invariant-loop-level
invariant-loop-level l =
    let f = l.self.part.now.cycle.now.f in
    let s = l.self.part.now.s in
    let text = l.self.text.now in
    (2 ≤ l.level)
    × (l.pairs.items
    ≡ first_pair (last_of (plan_in f l.self.source text) s.first) (f.size - l.x)
    ∷ map (path_pair f l.self.source text s.number l.x) (range 2 l.level))
