-- A whole tree for each part before, and their data buckets.
use Rattle.std.proofs.Common.{[], sym, ap, ◌∙◌, ◌+◌, ◌*◌, ◌/◌, ◌≤◌, arith}
use Rattle.std.proofs.Math.Nat.{mul-le-mul}
use Rattle.buckets.specs.Lengths.{lines_most}
use Rattle.cycle.specs.Inner.Held.{plan_of}
use Rattle.cycle.proofs.Trees.Readiness.{parts, whole_last}
use Rattle.cycle.proofs.Segmenting.SegmentSizes.{length_wholes}
use Rattle.cycle.proofs.Segmenting.HeldParts.{whole_room}
use Rattle.cycle.proofs.Cycle.whole_start.Goals as goal

pub overflow_mul-result : goal.overflow_mul-result
overflow_mul-result c =
    let f = c.args.self.now.f in
    let r = c.args.self.now.ready in
    rw (whole_last f r.shaped r.trees (λ e. omega arith)) (omega (arith, whole_room f c.args.i r (λ e. omega arith) c.requires.1))

pub overflow_mul-result-2 : goal.overflow_mul-result-2
overflow_mul-result-2 c =
    let f = c.args.self.now.f in
    let r = c.args.self.now.ready in
    let k = parts f r.shaped (λ e. omega arith) r.copies_fit_lem in
    let m : c.args.i * f.d ≤ lines_most * lines_most = mul-le-mul {n₂ = lines_most} {m₂ = lines_most} (omega (arith, k.few)) k.some in
    omega arith

pub overflow_add-result : goal.overflow_add-result
overflow_add-result c =
    let f = c.args.self.now.f in
    let r = c.args.self.now.ready in
    rw (whole_last f r.shaped r.trees (λ e. omega arith)) (omega (arith, whole_room f c.args.i r (λ e. omega arith) c.requires.1))

pub returns : goal.returns
unfolding plan_of
returns c =
    let f = c.args.self.now.f in
    let r = c.args.self.now.ready in
    ap (λ x. c.args.i * x + c.args.i * f.d / f.copies) (whole_last f r.shaped r.trees (λ e. omega arith))
    ∙ sym (length_wholes (plan_of f []) (parts f r.shaped (λ e. omega arith) r.copies_fit_lem).parted c.args.i)
