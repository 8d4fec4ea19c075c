-- The segments before are full, and their paths are those before this bucket.
use Rattle.std.proofs.Common.{◌≡◌, ℕ, [], length, ap, ap₂, sym, ◌∙◌, ◌+◌, ◌-◌, ◌*◌, ◌^◌, ◌≤◌, ◌<◌, arith}
use Rattle.std.proofs.Math.Nat.{mul-le-mul}
use Rattle.columns.specs.Lists.{joined, range}
use Rattle.buckets.specs.Lengths.{lines_most, pairs_most}
use Rattle.cycle.specs.declared.Cycle.{Cycle}
use Rattle.cycle.specs.declared.Figures.{Figures}
use Rattle.cycle.specs.Layouts.{path}
use Rattle.cycle.specs.Judging.{full_size}
use Rattle.cycle.specs.Inner.Held.{plan_of, InTree, segment_count, span_most}
use Rattle.cycle.proofs.Sequences.PathSizes.{climbs, climbs_small, length_paths}
use Rattle.cycle.proofs.Segmenting.SegmentSizes.{length_blocks}
use Rattle.cycle.proofs.Trees.Readiness.{block, block_trees}
use Rattle.cycle.proofs.Trees.Segmented.{block_in, block_reached}
use Rattle.cycle.proofs.Cycle.distributed_start.Goals as goal
use Rattle.cycle.specs.Tree.{layout_number}

-- a full segment's tree and data buckets, and those of the segments before
wide : (cycle : Cycle) → layout_number cycle.f.layout ≡ 1 → cycle.f.span + cycle.f.full ≤ 2 * span_most
wide cycle one =
    let r = cycle.ready in
    let k = block cycle.f r.shaped one r.copies_fit_lem in
    let t = block_trees cycle.f r.shaped r.trees one in
    omega (arith, k.power_high, k.full_high, t.span, t.full)

small :
    (cycle : Cycle) (b : ℕ) → (layout_number cycle.f.layout ≡ 1) × (b < segment_count (plan_of cycle.f [])) →
    b * (cycle.f.span + cycle.f.full) ≤ lines_most * (2 * span_most)
small cycle b r = mul-le-mul {n₂ = lines_most} {m₂ = 2 * span_most} (block_reached cycle.f b cycle.ready r.0 r.1).place (wide cycle r.0)

-- what `paths_before` gave
climbed :
    (c : goal.After-paths_before) →
    (c.paths_before.result ≡ climbs c.args.self.now.f.n c.args.self.now.f.copies c.args.b)
    × (c.paths_before.result ≤ pairs_most * lines_most)
unfolding plan_of
climbed c =
    let f = c.args.self.now.f in
    let r = c.args.self.now.ready in
    let k = block f r.shaped c.requires.0 r.copies_fit_lem in
    let e : c.paths_before.result ≡ climbs f.n f.copies c.args.b =
    c.paths_before.ensures
    ∙ ap (λ g. length (joined (path (plan_of g [])) (range 0 c.args.b))) c.fitted.ensures
    ∙ length_paths (plan_of f []) k.pos c.args.b in
    let s = climbs_small f.n k.pos f.copies c.args.b lines_most (block_reached f c.args.b r c.requires.0 c.requires.1).place in
    (e, omega (arith, k.few))

pub overflow_add-result : goal.overflow_add-result
overflow_add-result c = omega (arith, wide c.args.self.now c.requires.0)

pub overflow_mul-result : goal.overflow_mul-result
overflow_mul-result c = omega (arith, small c.args.self.now c.args.b c.requires)

pub paths_before-requires : goal.paths_before-requires
paths_before-requires c = (
  ap (λ (g : Figures). layout_number g.layout) c.fitted.ensures ∙ c.requires.0,
  (block_reached c.args.self.now.f c.args.b c.args.self.now.ready c.requires.0 c.requires.1).place,
)

pub overflow_add-result-2 : goal.overflow_add-result-2
overflow_add-result-2 c = omega (arith, small c.args.self.now c.args.b c.requires, (climbed c).1)

pub returns : goal.returns
unfolding plan_of InTree
returns c =
    let f = c.args.self.now.f in
    let r = c.args.self.now.ready in
    let k = block f r.shaped c.requires.0 r.copies_fit_lem in
    let t = block_trees f r.shaped r.trees c.requires.0 in
    let starts = (block_in f c.args.b r c.requires.0 c.requires.1).1 in
    ap₂ (λ x y. c.args.b * (x + y) + c.paths_before.result) t.span t.full
    ∙ ap (λ x. c.args.b * (f.n ^ (f.k - f.copies) + full_size f.n (f.k - f.copies)) + x) (climbed c).0
    ∙ sym (length_blocks (plan_of f []) k.pos k.fits c.args.b (omega arith))
