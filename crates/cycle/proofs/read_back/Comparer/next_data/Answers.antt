-- The data buckets of a segment stand side by side.
use Rattle.std.proofs.Common.{◌≡◌, ◌+◌, ◌-◌, [], sym, ◌∙◌, arith}
use Rattle.cycle.specs.Tree.{Plan}
use Rattle.cycle.specs.Inner.Held.{plan_of}
use Rattle.cycle.proofs.Sequences.Keeping.{keeps}
use Rattle.cycle.proofs.Trees.Readiness.{sound, data_high}
use Rattle.cycle.proofs.Sequences.LastSent.{data_first}
use Rattle.cycle.proofs.read_back.Comparer.next_data.Goals as goal

pub overflow_add-next : goal.overflow_add-next
overflow_add-next c = omega (arith, data_high c.args.self.now.part.cycle.now.f c.args.self.now.comparing.holding.ready.shaped)

pub returns-then-next-self : goal.returns-then-next-self
unfolding plan_of
returns-then-next-self c =
    let f = c.args.self.now.part.cycle.now.f in
    let s = c.args.self.now.part.s in
    let w = c.args.self.now.comparing in
    let t : Plan = plan_of f [] in
    let fine = keeps t (sound f [] w.holding.ready.shaped w.holding.ready.copies_fit_lem) in
    let there =
    data_first t fine s.data_at s.first s.last (c.args.q + 1) (w.placed []).data_stands (omega (arith, c.requires.0.low))
    c.if-next-self.true in
    let place : c.args.x + 1 ≡ s.data_at + (c.args.q + 1 - s.first) = omega (arith, c.requires.0.low, c.requires.0.here) in
    place ∙ sym there
