-- What the bucket at x has for a head.
use Rattle.std.proofs.Common.{◌≡◌, ℕ, ◌-◌, [], length, sym, ap₂, ◌∙◌, arith}
use Rattle.buckets.specs.declared.Head.{Head}
use Rattle.cycle.specs.Layouts.{slots}
use Rattle.cycle.specs.Inner.Held.{plan_of}
use Rattle.cycle.proofs.Segmenting.Positions.{at_position, head_at}
use Rattle.cycle.proofs.Trees.Children.{size_slots}
use Rattle.cycle.proofs.Part.head_at.Goals as goal

pub returns : goal.returns
returns c =
    let f = c.args.self.now.cycle.now.f in
    let x : ℕ = c.args.x in
    let n : f.size ≡ length (slots (plan_of f [])) = size_slots f c.args.self.now.cycle.now.ready in
    let a = (at_position (plan_of f []) x (omega (arith, c.requires.0, c.requires.1))).1 in
    sym (head_at a ∙ ap₂ {C = Head} (λ u v. record { position = x; to_cycle = u - x; to_segment = v }) (sym n) c.requires.2)
