-- Where a bucket of a path, or a B, of figures of layout 1 stands first: in the segment of the first B under it.
-- Assumes nothing.
use mathlib.Core.Path.{◌≡◌, sym, ap, ◌∙◌}
use mathlib.Core.Logic.{⊎_elim}
use Prim.Native.Nat.{ℕ, ◌+◌, ◌-◌, ◌*◌, ◌^◌, ◌≤◌, ◌<◌, max}
use native.Mathlib.Nat.{mul-le-mul_left, one-le-pow, eq-zero-or-pos}
use native.Mathlib.Omega.{arith}
use mathlib.Core.List.{[]}
use lib.ListN.{length}
use Rattle.columns.specs.Lists.{joined, span}
use Rattle.buckets.specs.Lengths.{lines_most, pairs_most, buckets_most}
use Rattle.cycle.specs.Tree.{layout_number, Plan, width}
use Rattle.cycle.specs.Layouts.{path_top, distributed_segment}
use Rattle.cycle.specs.declared.Figures.{Figures}
use Rattle.cycle.specs.Cycle.{first_place}
use Rattle.cycle.specs.Inner.Held.{plan_of, Ready, InTree, segment_count}
use Rattle.cycle.proofs.Sequences.Sequence.{Sound}
use Rattle.cycle.proofs.Trees.TreeLaws.{lt_width}
use Rattle.cycle.proofs.Basics.Powers.{power_below}
use Rattle.cycle.proofs.Trees.Readiness.{sound, Block, block, Reached, reached}
use Rattle.cycle.proofs.Segmenting.HeldBlocks.{block_at, block_room, count_of}
use Rattle.cycle.proofs.Reach.FirstPlaces.{first_inside, first_top, first_place_lem}

-- bucket j of a level up to r + 1, and the number b of the segment where it stands first
pub record First (f : Figures) (level j b : ℕ) : Type 0 where
  pub few : f.copies ≤ pairs_most
  pub small : b ≤ lines_most
  pub among : b < segment_count (plan_of f [])
  pub top : path_top f.n f.copies b ≤ level
  pub starts : block_at f b ≤ buckets_most
  pub is : first_place (plan_of f []) level j ≡ block_at f b + (level - path_top f.n f.copies b)

pub first_held :
    (f : Figures) (level j : ℕ) → Ready f → layout_number f.layout ≡ 1 → 1 ≤ level → level ≤ f.copies + 1 → InTree f (f.k + 1 - level) j →
    First f level j (j * f.n ^ (f.copies + 1 - level))
unfolding plan_of InTree
first_held f level j ready one low high inside =
    let t : Plan = plan_of f [] in
    let h : ℕ = f.copies + 1 - level in
    let b : ℕ = j * f.n ^ h in
    let k : Block f = block f ready.shaped one ready.copies_fit_lem in
    let s : Sound t = sound f [] ready.shaped ready.copies_fit_lem in
    let r : Reached f (f.k + 1 - level) j = reached f (f.k + 1 - level) j ready.shaped inside in
    let shorter : f.n ^ h ≤ f.n ^ (f.k + 1 - level) =
    power_below f.n h (f.k + 1 - level) ready.shaped.n_low (omega (arith, k.fits)) in
    let less : b ≤ j * f.n ^ (f.k + 1 - level) = mul-le-mul_left j shorter in
    let within : j < max 1 (width t level) =
    ⊎_elim
    (λ (z : j ≡ 0). omega arith)
    (λ (p : 0 < j).
    let much : j * 1 ≤ j * f.n ^ (f.k + 1 - level) = mul-le-mul_left j (one-le-pow (f.k + 1 - level) f.n k.pos) in
    let w = lt_width t k.pos level j (omega (arith, inside.1)) in
    omega arith)
    (eq-zero-or-pos j) in
    let among : b < segment_count t = rw (count_of t one) (first_inside t s one level j low high within) in
    let room = block_room f b ready one among in
    let same : b - 0 ≡ b = omega arith in
    record {
      few = k.few;
      small = omega (arith, r.start);
      among = among;
      top = first_top t s one level j low high within;
      starts = omega arith;
      is =
          first_place_lem t s one level j low high within
          ∙ ap (λ x. length (joined (distributed_segment t) (span 0 x)) + (level - path_top f.n f.copies b)) (sym same);
    }
