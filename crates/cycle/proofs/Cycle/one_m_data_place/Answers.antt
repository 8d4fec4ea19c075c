-- The data bucket stands behind the whole trees of its part and those before.
use Rattle.std.proofs.Common.{◌≡◌, ℕ, ◌<◌, sym, ap, ◌∙◌, ◌+◌, ◌-◌, ◌*◌, ◌/◌, arith}
use Rattle.cycle.specs.declared.Cycle.{Cycle}
use Rattle.cycle.proofs.Segmenting.HeldParts.{whole_tree}
use Rattle.cycle.proofs.Trees.Readiness.{data_high, parts, whole_last}
use Rattle.cycle.proofs.Reach.DataHeld.{InPart, part_product, data_in_part}
use Rattle.cycle.proofs.Cycle.one_m_data_place.Goals as goal
use Rattle.cycle.specs.Tree.{layout_number}

known :
    (cycle : Cycle) {q : ℕ} (r : (layout_number cycle.f.layout ≡ 2) × (q < cycle.f.d)) →
    InPart cycle.f q cycle.ready r.1 (((q + 1) * cycle.f.copies - 1) / cycle.f.d)
known cycle {q} r = data_in_part cycle.f q cycle.ready r.1 (λ e. omega (arith, r.0))

tree : (cycle : Cycle) → layout_number cycle.f.layout ≡ 2 → cycle.f.last ≡ whole_tree cycle.f
tree cycle two = whole_last _ cycle.ready.shaped cycle.ready.trees (λ e. omega arith)

pub overflow_add-part : goal.overflow_add-part
overflow_add-part c = omega (arith, data_high c.args.self.now.f c.args.self.now.ready.shaped)

pub overflow_mul-part : goal.overflow_mul-part
overflow_mul-part c = omega (arith, (part_product c.args.self.now.f c.args.q c.args.self.now.ready c.requires.1 (λ e. omega arith)).1)

pub overflow_sub-part : goal.overflow_sub-part
overflow_sub-part c = (part_product c.args.self.now.f c.args.q c.args.self.now.ready c.requires.1 (λ e. omega arith)).0

pub overflow_add-result : goal.overflow_add-result
overflow_add-result c =
    let r = c.args.self.now.ready in
    omega (arith, (known c.args.self.now c.requires).among, (parts _ r.shaped (λ e. omega arith) r.copies_fit_lem).few)

pub overflow_mul-result : goal.overflow_mul-result
overflow_mul-result c =
    let p = known c.args.self.now c.requires in
    rw (tree c.args.self.now c.requires.0) (omega (arith, p.is, p.ends, c.args.self.now.ready.size_high))

pub overflow_add-result-2 : goal.overflow_add-result-2
overflow_add-result-2 c =
    let p = known c.args.self.now c.requires in
    rw (tree c.args.self.now c.requires.0) (omega (arith, p.is, p.ends, c.args.self.now.ready.size_high))

pub returns : goal.returns
returns c =
    let f = c.args.self.now.f in
    let p = known c.args.self.now c.requires in
    ap (λ x. c.args.q + (((c.args.q + 1) * f.copies - 1) / f.d + 1) * x)
    (tree c.args.self.now c.requires.0)
    ∙ sym p.is
