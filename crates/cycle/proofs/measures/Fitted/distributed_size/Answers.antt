-- The segments before the last have full trees, and each block has its path once.
use mathlib.Core.Path.{◌≡◌, sym, ap, subst, ◌∙◌}
use mathlib.Core.List.{[]}
use Prim.Native.Nat.{ℕ, suc, ◌-◌, ◌*◌, ◌^◌, ◌≤◌, ◌<◌}
use native.Mathlib.Nat.{mul-le-mul}
use native.Mathlib.Omega.{arith}
use lib.ListN.{length}
use Rattle.columns.specs.Lists.{up, joined, range}
use Rattle.buckets.specs.Lengths.{lines_most, pairs_most}
use Rattle.cycle.specs.declared.Figures.{Figures}
use Rattle.cycle.specs.declared.measures.Fitted.{Fitted}
use Rattle.cycle.specs.Judging.{tree_at}
use Rattle.cycle.specs.Layouts.{path}
use Rattle.cycle.specs.Inner.Held.{plan_of, span_most, Trees}
use Rattle.cycle.proofs.Trees.TreeSizes.{tree_small}
use Rattle.cycle.proofs.Sequences.PathSizes.{LastPart, last_part, climbs, climbs_small, length_paths}
use Rattle.cycle.proofs.Segmenting.SegmentSizes.{size_blocks, size_empty}
use Rattle.cycle.proofs.Trees.Readiness.{Block, block, BlockTrees, block_trees, one_level}
use Rattle.cycle.proofs.measures.Fitted.distributed_size.Goals as goal
use Rattle.cycle.specs.Tree.{layout_number}

-- the numbers that the code works out, of figures of layout 1 with a data bucket
record Sizes (f : Figures) (count paths : ℕ) : Type 0 where
  known : Block f
  trees : BlockTrees f
  counted : LastPart f.d (f.n ^ (f.k - f.copies)) count
  last_is : f.last ≡ length (tree_at (plan_of f []) (f.k - f.copies) (count - 1))
  last_small : f.last ≤ span_most
  climbed : paths ≡ climbs f.n f.copies count
  few_paths : paths ≤ pairs_most * lines_most
  full_trees : (count - 1) * f.full ≤ lines_most * span_most

-- how many segments
count_of :
    (f : Figures) {count : ℕ} → Block f → BlockTrees f → 0 < f.d → count ≡ up f.d f.span → LastPart f.d (f.n ^ (f.k - f.copies)) count
count_of f b t some is =
    subst (LastPart f.d (f.n ^ (f.k - f.copies))) (sym (is ∙ ap (up f.d) t.span)) (last_part f.d (f.n ^ (f.k - f.copies)) some b.power_low)

sizes :
    (fitted : Fitted) {count paths : ℕ} → (layout_number fitted.f.now.layout ≡ 1) × Trees fitted.f.now → 0 < fitted.f.now.d →
    count ≡ up fitted.f.now.d fitted.f.now.span → paths ≡ length (joined (path (plan_of fitted.f.now [])) (range 0 count)) →
    Sizes fitted.f.now count paths
unfolding plan_of
sizes fitted {count = count} {paths = paths} r some is way =
    let f = fitted.f.now in
    let b = block f fitted.shaped r.0 fitted.copies_in in
    let t = block_trees f fitted.shaped r.1 r.0 in
    let n = count_of f b t some is in
    let last = t.last (count - 1) (omega (arith, n.starts)) n.covers in
    let climbed : paths ≡ climbs f.n f.copies count = way ∙ length_paths (plan_of f []) b.pos count in
    record {
      known = b;
      trees = t;
      counted = n;
      last_is = last;
      last_small = omega (arith, last, b.full_high, tree_small (plan_of f []) b.pos (f.k - f.copies) (count - 1) (omega arith));
      climbed = climbed;
      few_paths = omega (arith, b.few, climbed, climbs_small f.n b.pos f.copies count lines_most (omega (arith, n.few, b.some)));
      full_trees = mul-le-mul {n₂ = lines_most} {m₂ = span_most} (omega (arith, n.few, b.some)) (omega (arith, t.full, b.full_high));
    }

pub returns-then-f-eq0 : goal.returns-then-f-eq0
unfolding plan_of
returns-then-f-eq0 c =
    let f = c.args.self.now.f.now in
    let shaped = c.args.self.now.shaped in
    let b = block f shaped c.requires.0 c.args.self.now.copies_in in
    let one = one_level f shaped (omega arith) in
    sym (size_empty (plan_of f []) b.pos b.fits c.requires.0 (omega arith) (omega (arith, b.fits)))

pub up-count-requires : goal.up-count-requires
up-count-requires c =
    let fitted = c.args.self.now in
    let b = block fitted.f.now fitted.shaped c.requires.0 fitted.copies_in in
    rw (block_trees fitted.f.now fitted.shaped c.requires.1 c.requires.0).span (b.power_low, omega (arith, b.some, b.power_high))

pub paths_before-requires : goal.paths_before-requires
paths_before-requires c =
    let f = c.args.self.now.f.now in
    let shaped = c.args.self.now.shaped in
    let r = c.requires in
    let b = block f shaped r.0 c.args.self.now.copies_in in
    let n = count_of f b (block_trees f shaped r.1 r.0) (omega arith) c.up-count.ensures in
    (r.0, omega (arith, n.few, b.some))

pub overflow_add-result : goal.overflow_add-result
overflow_add-result c =
    let s = sizes c.args.self.now c.requires (omega arith) c.up-count.ensures c.paths_before.ensures in
    omega (arith, s.few_paths, s.known.some)

pub overflow_sub-result : goal.overflow_sub-result
overflow_sub-result c = (sizes c.args.self.now c.requires (omega arith) c.up-count.ensures c.paths_before.ensures).counted.some

pub overflow_mul-result : goal.overflow_mul-result
overflow_mul-result c = omega (arith, (sizes c.args.self.now c.requires (omega arith) c.up-count.ensures c.paths_before.ensures).full_trees)

pub overflow_add-result-2 : goal.overflow_add-result-2
overflow_add-result-2 c =
    let s = sizes c.args.self.now c.requires (omega arith) c.up-count.ensures c.paths_before.ensures in
    omega (arith, s.full_trees, s.few_paths, s.known.some)

pub overflow_add-result-3 : goal.overflow_add-result-3
overflow_add-result-3 c =
    let s = sizes c.args.self.now c.requires (omega arith) c.up-count.ensures c.paths_before.ensures in
    omega (arith, s.full_trees, s.few_paths, s.known.some, s.last_small)

pub returns : goal.returns
unfolding plan_of
returns c =
    let f = c.args.self.now.f.now in
    let s = sizes c.args.self.now c.requires (omega arith) c.up-count.ensures c.paths_before.ensures in
    let b = s.known in
    let n = s.counted in
    let count = c.up-count.result in
    let whole : suc (count - 1) ≡ count = omega (arith, n.some) in
    let all = size_blocks (plan_of f []) b.pos b.fits c.requires.0 (omega (arith, n.some, n.few)) (count - 1) n.starts n.covers in
    let all' = rw whole at all in
    let way = s.climbed in
    rw s.trees.full (omega (arith, s.last_is))
