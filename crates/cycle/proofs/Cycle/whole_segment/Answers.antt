-- The part's whole tree stands behind those before and their data buckets, and its data buckets behind it.
use Rattle.std.proofs.Common.{◌≡◌, ℕ, suc, [], refl, ap, ◌+◌, ◌-◌, ◌*◌, ◌/◌, ◌≤◌, ◌<◌, arith, add-one}
use Rattle.std.proofs.Math.Nat.{mul-le-mul}
use Rattle.buckets.specs.Lengths.{lines_most, buckets_most}
use Rattle.cycle.specs.declared.Figures.{Figures}
use Rattle.cycle.specs.declared.Cycle.{Cycle}
use Rattle.cycle.specs.Inner.Held.{plan_of}
use Rattle.cycle.proofs.Sequences.OneM.{part_step}
use Rattle.cycle.proofs.Trees.Readiness.{parts, whole_last}
use Rattle.cycle.proofs.Segmenting.HeldParts.{whole_tree, part_from, whole_room, placed_whole}
use Rattle.cycle.proofs.Cycle.whole_segment.Goals as goal
use Rattle.cycle.specs.Tree.{layout_number}

-- the places of the part, as numbers
record Room (f : Figures) (i : ℕ) : Type 0 where
  few : f.copies ≤ lines_most
  grows : part_from f i ≤ part_from f (suc i)
  next : (i + 1) * f.d / f.copies ≡ part_from f (suc i)
  data_before : i * f.d ≤ lines_most * lines_most
  data_behind : (i + 1) * f.d ≤ (lines_most + 1) * lines_most
  tree : f.last ≡ whole_tree f
  ends : i * whole_tree f + part_from f i + whole_tree f + (part_from f (suc i) - part_from f i) ≤ buckets_most

room : (cycle : Cycle) {i : ℕ} → (layout_number cycle.f.layout ≡ 2) × (i < cycle.f.copies) → Room cycle.f i
unfolding plan_of
room cycle {i} (two, inside) =
    let f = cycle.f in
    let r = cycle.ready in
    let k = parts f r.shaped (λ e. omega arith) r.copies_fit_lem in
    record {
      few = k.few;
      grows = part_step (plan_of f []) i k.parted;
      next = ap (λ x. x * f.d / f.copies) (add-one i);
      data_before = mul-le-mul {n₂ = lines_most} {m₂ = lines_most} (omega (arith, k.few)) k.some;
      data_behind = mul-le-mul {n₂ = lines_most + 1} {m₂ = lines_most} (omega (arith, k.few)) k.some;
      tree = whole_last f r.shaped r.trees (λ e. omega arith);
      ends = whole_room f i r (λ e. omega arith) inside;
    }

pub overflow_mul-first : goal.overflow_mul-first
overflow_mul-first c = omega (arith, (room c.args.self.now c.requires).data_before)

pub overflow_add-last : goal.overflow_add-last
overflow_add-last c = omega (arith, (room c.args.self.now c.requires).few)

pub overflow_mul-last : goal.overflow_mul-last
overflow_mul-last c = omega (arith, (room c.args.self.now c.requires).data_behind)

pub overflow_mul-start : goal.overflow_mul-start
overflow_mul-start c = let r = room c.args.self.now c.requires in rw r.tree (omega (arith, r.ends))

pub overflow_add-start : goal.overflow_add-start
overflow_add-start c = let r = room c.args.self.now c.requires in rw r.tree (omega (arith, r.ends))

pub overflow_add-data_at : goal.overflow_add-data_at
overflow_add-data_at c = let r = room c.args.self.now c.requires in rw r.tree (omega (arith, r.ends))

pub overflow_add-result : goal.overflow_add-result
overflow_add-result c = omega (arith, (room c.args.self.now c.requires).few)

pub overflow_add-result-2 : goal.overflow_add-result-2
overflow_add-result-2 c = let r = room c.args.self.now c.requires in rw (r.tree, r.next) (omega (arith, r.ends))

pub returns : goal.returns
returns c =
    let f = c.args.self.now.f in
    let r = room c.args.self.now c.requires in (
      placed_whole f c.args.i c.args.self.now.ready (λ e. omega arith) c.requires.1 f.last ((c.args.i + 1) * f.d / f.copies) r.tree
          r.next,
      refl,
    )
