-- The data bucket stands behind the full segments before its own, the paths up to its own, and its own tree.
use Rattle.std.proofs.Common.{◌≡◌, ℕ, [], sym, ap, subst, ◌∙◌, ◌+◌, ◌-◌, ◌*◌, ◌/◌, ◌^◌, ◌≤◌, ◌<◌, length, arith}
use Rattle.columns.specs.Lists.{joined, range}
use Rattle.buckets.specs.Lengths.{lines_most, buckets_most}
use Rattle.cycle.specs.declared.Figures.{Figures}
use Rattle.cycle.specs.Layouts.{path}
use Rattle.cycle.specs.Judging.{tree_at}
use Rattle.cycle.specs.Cycle.{first_place}
use Rattle.cycle.specs.declared.Cycle.{Cycle}
use Rattle.cycle.specs.Inner.Held.{plan_of, segment_count}
use Rattle.cycle.proofs.Sequences.PathSizes.{climbs, length_paths}
use Rattle.cycle.proofs.Trees.Readiness.{block, block_trees}
use Rattle.cycle.proofs.Reach.DataHeld.{data_in_block}
use Rattle.cycle.proofs.Cycle.distributed_data_place.Goals as goal
use Rattle.cycle.specs.Tree.{layout_number}

-- the sum that the code works out, b being the segment's number
record Sum (f : Figures) (q b : ℕ) : Type 0 where
  among : b < segment_count (plan_of f [])
  low : b ≤ q
  few : q < lines_most
  place : first_place (plan_of f []) (f.k + 1) q < buckets_most + 1
  is :
      first_place (plan_of f []) (f.k + 1) q
      ≡ q + b * f.full + length (tree_at (plan_of f []) (f.k - f.copies) b) + climbs f.n f.copies (b + 1)

summed : (cycle : Cycle) {q : ℕ} → (layout_number cycle.f.layout ≡ 1) × (q < cycle.f.d) → Sum cycle.f q (q / cycle.f.span)
summed cycle {q} (one, inside) =
    let f = cycle.f in
    let ready = cycle.ready in
    let k = block f ready.shaped one ready.copies_fit_lem in
    let t = block_trees f ready.shaped ready.trees one in
    let b = data_in_block f q ready inside one in
    let number_is : q / f.span ≡ q / f.n ^ (f.k - f.copies) = ap (λ x. q / x) t.span in
    subst (Sum f q) (sym number_is)
    (record {
      among = b.among;
      low = b.low;
      few = omega (arith, k.some);
      place = omega (arith, b.ends, ready.size_high);
      is =
          b.is
          ∙ ap
          (λ x.
          q + q / f.n ^ (f.k - f.copies) * x
          + length (tree_at (plan_of f []) (f.k - f.copies) (q / f.n ^ (f.k - f.copies)))
          + climbs f.n f.copies (q / f.n ^ (f.k - f.copies) + 1))
          (sym t.full);
    })

-- what `paths_before` gave
climbed :
    (c : goal.After-paths_before) →
    c.paths_before.result ≡ climbs c.args.self.now.f.n c.args.self.now.f.copies (c.args.q / c.args.self.now.f.span + 1)
unfolding plan_of
climbed c =
    let f = c.args.self.now.f in
    let r = c.args.self.now.ready in
    c.paths_before.ensures
    ∙ ap (λ g. length (joined (path (plan_of g [])) (range 0 (c.args.q / f.span + 1)))) c.fitted.ensures
    ∙ length_paths (plan_of f []) (block f r.shaped c.requires.0 r.copies_fit_lem).pos (c.args.q / f.span + 1)

pub nonzero_div-b : goal.nonzero_div-b
nonzero_div-b c =
    let f = c.args.self.now.f in
    let r = c.args.self.now.ready in
    rw (block_trees f r.shaped r.trees c.requires.0).span (block f r.shaped c.requires.0 r.copies_fit_lem).power_low

pub overflow_mul-result : goal.overflow_mul-result
overflow_mul-result c = let s = summed c.args.self.now c.requires in omega arith

pub overflow_add-result : goal.overflow_add-result
overflow_add-result c = let s = summed c.args.self.now c.requires in omega arith

pub segment_tree-requires : goal.segment_tree-requires
segment_tree-requires c = (c.requires.0, (summed c.args.self.now c.requires).among)

pub overflow_add-result-2 : goal.overflow_add-result-2
overflow_add-result-2 c =
    let s = summed c.args.self.now c.requires in
    rw c.segment_tree.ensures (omega arith)

pub overflow_add-b : goal.overflow_add-b
overflow_add-b c = let s = summed c.args.self.now c.requires in omega arith

pub paths_before-requires : goal.paths_before-requires
paths_before-requires c =
    let s = summed c.args.self.now c.requires in
    (ap (λ (g : Figures). layout_number g.layout) c.fitted.ensures ∙ c.requires.0, omega arith)

pub overflow_add-result-3 : goal.overflow_add-result-3
overflow_add-result-3 c =
    let s = summed c.args.self.now c.requires in
    rw (c.segment_tree.ensures, climbed c) (omega arith)

pub returns : goal.returns
returns c =
    let s = summed c.args.self.now c.requires in
    rw (c.segment_tree.ensures, climbed c) (sym s.is)
