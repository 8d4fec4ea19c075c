-- Figures of a cycle that can be sent, and its segments: their numbers are places in the tree.
-- Assumes nothing.
use mathlib.Core.Path.{◌≡◌}
use mathlib.Core.List.{[]}
use Prim.Native.Nat.{ℕ, ◌-◌, ◌<◌}
use native.Mathlib.Omega.{arith}
use Rattle.cycle.specs.declared.Figures.{Figures}
use Rattle.cycle.specs.Inner.Held.{plan_of, Ready, InTree, segment_count}
use Rattle.cycle.proofs.Trees.Readiness.{block, Reached, reached}
use Rattle.cycle.proofs.Segmenting.SegmentSizes.{block_begins}
use Rattle.cycle.specs.Tree.{layout_number}

-- segment b of layout 1 is that of bucket b of B's height
pub block_in : (f : Figures) (b : ℕ) → Ready f → layout_number f.layout ≡ 1 → b < segment_count (plan_of f []) → InTree f (f.k - f.copies) b
unfolding plan_of InTree
block_in f b r one h =
    let k = block f r.shaped one r.copies_fit_lem in
    (omega arith, block_begins (plan_of f []) k.pos k.fits one b h)

-- and its place in the tree is bounded
pub block_reached : (f : Figures) (b : ℕ) → Ready f → layout_number f.layout ≡ 1 → b < segment_count (plan_of f []) → Reached f (f.k - f.copies) b
block_reached f b r one h = reached f (f.k - f.copies) b r.shaped (block_in f b r one h)
