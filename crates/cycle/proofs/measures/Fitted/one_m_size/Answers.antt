-- The copies of the tree are as long as the tree, whose size is the last's.
use mathlib.Core.Path.{◌≡◌, sym, ap, ◌∙◌}
use mathlib.Core.List.{[]}
use Prim.Native.Nat.{◌+◌, ◌*◌, ◌≤◌}
use native.Mathlib.Nat.{mul-le-mul}
use native.Mathlib.Omega.{arith}
use lib.ListN.{length}
use Rattle.buckets.specs.Lengths.{lines_most}
use Rattle.cycle.specs.declared.Figures.{Figures}
use Rattle.cycle.specs.declared.measures.Fitted.{Fitted}
use Rattle.cycle.specs.Judging.{tree_at}
use Rattle.cycle.specs.Inner.Held.{plan_of, span_most, Trees}
use Rattle.cycle.proofs.Segmenting.SegmentSizes.{size_wholes}
use Rattle.cycle.proofs.Trees.Readiness.{Parts, parts, whole_last}
use Rattle.cycle.proofs.measures.Fitted.one_m_size.Goals as goal
use Rattle.cycle.specs.Tree.{layout_number}

-- what the numbers of layout 2 are
record Sizes (f : Figures) : Type 0 where
  known : Parts f
  tree : f.last ≡ length (tree_at (plan_of f []) f.k 0)
  product : f.copies * f.last ≤ lines_most * span_most

sizes : (fitted : Fitted) → (layout_number fitted.f.now.layout ≡ 2) × Trees fitted.f.now → Sizes fitted.f.now
sizes fitted r =
    let known = parts fitted.f.now fitted.shaped (λ e. omega arith) fitted.copies_in in
    let tree = whole_last fitted.f.now fitted.shaped r.1 (λ e. omega arith) in
    record {
      known = known;
      tree = tree;
      product = mul-le-mul {n₂ = lines_most} {m₂ = span_most} (omega (arith, known.few)) (omega (arith, known.tree, tree));
    }

pub overflow_mul-result : goal.overflow_mul-result
overflow_mul-result c = omega (arith, (sizes c.args.self.now c.requires).product)

pub overflow_add-result : goal.overflow_add-result
overflow_add-result c = let s = sizes c.args.self.now c.requires in omega (arith, s.product, s.known.some)

pub returns : goal.returns
unfolding plan_of
returns c =
    let f = c.args.self.now.f.now in
    let s = sizes c.args.self.now c.requires in
    ap (λ x. f.d + f.copies * x) s.tree ∙ sym (size_wholes (plan_of f []) s.known.parted (λ e. omega arith))
