-- The bucket stands first in the segment of the first B under it.
use Rattle.std.proofs.Common.{◌≡◌, ℕ, sym, ap, ap₂, ◌∙◌, ◌+◌, ◌-◌, ◌*◌, ◌^◌, ◌≤◌, arith}
use Rattle.cycle.specs.Layouts.{path_top}
use Rattle.cycle.specs.declared.Figures.{Figures}
use Rattle.cycle.specs.declared.Cycle.{Cycle}
use Rattle.cycle.specs.Inner.Held.{InTree}
use Rattle.cycle.proofs.Segmenting.HeldBlocks.{block_at}
use Rattle.cycle.proofs.Reach.FirstHeld.{First, first_held}
use Rattle.cycle.proofs.Cycle.first_place.Goals as goal
use Rattle.cycle.specs.Tree.{layout_number}

known :
    (cycle : Cycle) {level j : ℕ} →
    (layout_number cycle.f.layout ≡ 1) × (1 ≤ level) × (level ≤ cycle.f.copies + 1) × InTree cycle.f (cycle.f.k + 1 - level) j →
    First cycle.f level j (j * cycle.f.n ^ (cycle.f.copies + 1 - level))
known cycle r = first_held _ _ _ cycle.ready r.0 r.1 r.2 r.3

-- what the callees gave, by the power's value
top_is : (f : Figures) (j m p x : ℕ) → p ≡ m → x ≡ path_top f.n f.copies (j * p) → x ≡ path_top f.n f.copies (j * m)
top_is f j m p x power e = e ∙ ap (λ y. path_top f.n f.copies (j * y)) power

start_is : (f : Figures) (j m p x : ℕ) → p ≡ m → x ≡ block_at f (j * p) → x ≡ block_at f (j * m)
start_is f j m p x power e = e ∙ ap (λ y. block_at f (j * y)) power

pub overflow_add-h : goal.overflow_add-h
overflow_add-h c = omega (arith, (known c.args.self.now c.requires).few)

pub power-requires : goal.power-requires
power-requires c =
    let s = c.args.self.now.ready.shaped in
    (s.n_low, s.n_high, omega (arith, (known c.args.self.now c.requires).few))

pub overflow_mul-b : goal.overflow_mul-b
overflow_mul-b c = rw c.power.ensures (omega (arith, (known c.args.self.now c.requires).small))

pub distributed_start-start-requires : goal.distributed_start-start-requires
distributed_start-start-requires c = (c.requires.0, rw c.power.ensures (known c.args.self.now c.requires).among)

pub overflow_sub-result : goal.overflow_sub-result
overflow_sub-result c =
    rw (top_is c.args.self.now.f c.args.j _ _ _ c.power.ensures c.path_top.ensures) (known c.args.self.now c.requires).top

pub overflow_add-result : goal.overflow_add-result
overflow_add-result c =
    let k = known c.args.self.now c.requires in
    rw (start_is c.args.self.now.f c.args.j _ _ _ c.power.ensures c.distributed_start-start.ensures) (omega (arith, k.starts, k.few))

pub returns : goal.returns
returns c =
    let k = known c.args.self.now c.requires in
    ap₂ (λ x y. x + (c.args.level - y))
    (start_is c.args.self.now.f c.args.j _ _ _ c.power.ensures c.distributed_start-start.ensures)
    (top_is c.args.self.now.f c.args.j _ _ _ c.power.ensures c.path_top.ensures)
    ∙ sym k.is
