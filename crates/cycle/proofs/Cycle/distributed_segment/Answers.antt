-- The segment's path, tree and data buckets stand one behind the other.
use Rattle.std.proofs.Common.{◌≡◌, ℕ, [], refl, sym, ap, ap₂, ◌∙◌, ◌+◌, ◌-◌, ◌*◌, ◌^◌, ◌≤◌, ◌<◌, min, max, length, arith, add-one}
use Rattle.std.proofs.Math.Nat.{suc-mul}
use Rattle.buckets.specs.Lengths.{buckets_most}
use Rattle.cycle.specs.Layouts.{path_top}
use Rattle.cycle.specs.declared.Figures.{Figures}
use Rattle.cycle.specs.Judging.{tree_at}
use Rattle.cycle.specs.declared.Cycle.{Cycle}
use Rattle.cycle.specs.Inner.Held.{plan_of, segment_count}
use Rattle.cycle.proofs.Sequences.Paths.{path_top_high}
use Rattle.cycle.proofs.Trees.Readiness.{Block, block, block_trees}
use Rattle.cycle.proofs.Segmenting.HeldBlocks.{block_at, block_room, block_first, block_grows, placed_block}
use Rattle.cycle.proofs.Cycle.distributed_segment.Goals as goal
use Rattle.cycle.specs.Tree.{layout_number}

-- the end of a block's data
abbrev block_end : Figures → ℕ → ℕ
block_end f b = min f.d ((b + 1) * f.n ^ (f.k - f.copies))

-- the places of the segment, as numbers
record Room (f : Figures) (b : ℕ) : Type 0 where
  known : Block f
  span : f.span ≡ f.n ^ (f.k - f.copies)
  begins : b * f.n ^ (f.k - f.copies) < max 1 f.d
  grows : b * f.n ^ (f.k - f.copies) ≤ block_end f b
  wide : (b + 1) * f.n ^ (f.k - f.copies) ≡ b * f.n ^ (f.k - f.copies) + f.n ^ (f.k - f.copies)
  top : path_top f.n f.copies b ≤ f.copies + 1
  ends :
      block_at f b + (f.copies + 1 - path_top f.n f.copies b) + length (tree_at (plan_of f []) (f.k - f.copies) b)
      + (block_end f b - b * f.n ^ (f.k - f.copies))
      ≤ buckets_most

room : (cycle : Cycle) {b : ℕ} → (layout_number cycle.f.layout ≡ 1) × (b < segment_count (plan_of cycle.f [])) → Room cycle.f b
room cycle {b} (one, inside) =
    let f = cycle.f in
    let r = cycle.ready in
    record {
      known = block f r.shaped one r.copies_fit_lem;
      span = (block_trees f r.shaped r.trees one).span;
      begins = block_first f b r one inside;
      grows = block_grows f b r one inside;
      wide = rw (add-one b) (suc-mul b (f.n ^ (f.k - f.copies)));
      top = (let h = path_top_high f.n f.copies b in omega arith);
      ends = block_room f b r one inside;
    }

-- what `lesser` gave
ended : {f : Figures} {b : ℕ} → Room f b → {x : ℕ} → x ≡ min f.d (b * f.span + f.span) → x ≡ block_end f b
ended {f} {b} r e = e ∙ ap (min f.d) (ap₂ (λ x y. b * x + y) r.span r.span ∙ sym r.wide)

pub overflow_sub-e : goal.overflow_sub-e
overflow_sub-e c = omega (arith, (room c.args.self.now c.requires).known.fits)

pub overflow_add-tree_at : goal.overflow_add-tree_at
overflow_add-tree_at c = omega (arith, (room c.args.self.now c.requires).known.few)

pub overflow_sub-tree_at : goal.overflow_sub-tree_at
overflow_sub-tree_at c = omega (arith, (room c.args.self.now c.requires).top, c.path_top-top.ensures)

pub overflow_add-tree_at-2 : goal.overflow_add-tree_at-2
overflow_add-tree_at-2 c =
    let r = room c.args.self.now c.requires in
    omega (arith, r.known.few, c.distributed_start-start.ensures)

pub overflow_add-data_at : goal.overflow_add-data_at
overflow_add-data_at c =
    let r = room c.args.self.now c.requires in
    rw (c.distributed_start-start.ensures, c.path_top-top.ensures, c.segment_tree.ensures) (omega (arith, r.ends))

pub overflow_mul-first : goal.overflow_mul-first
overflow_mul-first c =
    let r = room c.args.self.now c.requires in
    rw r.span (omega (arith, r.begins, r.known.some))

pub overflow_add-first : goal.overflow_add-first
overflow_add-first c =
    let r = room c.args.self.now c.requires in
    let k = r.known in
    rw r.span (omega arith)

pub overflow_sub-result : goal.overflow_sub-result
overflow_sub-result c =
    let r = room c.args.self.now c.requires in
    rw (r.span, ended r c.lesser-last.ensures) r.grows

pub overflow_add-result : goal.overflow_add-result
overflow_add-result c =
    let r = room c.args.self.now c.requires in
    rw (
      r.span,
      c.distributed_start-start.ensures,
      c.path_top-top.ensures,
      c.segment_tree.ensures,
      ended r c.lesser-last.ensures,
    )
    (omega (arith, r.ends))

pub returns : goal.returns
returns c =
    let f = c.args.self.now.f in
    let b = c.args.b in
    let r = room c.args.self.now c.requires in (
      placed_block f b c.args.self.now.ready c.requires.0 c.requires.1 c.distributed_start-start.result c.path_top-top.result
          c.segment_tree.result (b * f.span) c.lesser-last.result c.distributed_start-start.ensures c.path_top-top.ensures
          c.segment_tree.ensures (ap (λ x. b * x) r.span) (ended r c.lesser-last.ensures),
      refl,
    )
