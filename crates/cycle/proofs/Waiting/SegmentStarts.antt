-- Where the segment of a data bucket starts, in either layout.
-- Assumes nothing.
use mathlib.Core.Path.{◌≡◌, refl, sym, ap, subst, ◌∙◌}
use Prim.Native.Nat.{ℕ, suc, ◌+◌, ◌-◌, ◌*◌, ◌/◌, ◌^◌, ◌≤◌, ◌<◌, min}
use native.Mathlib.Omega.{arith}
use mathlib.Core.Bool.{Bool, true, false}
use mathlib.Core.List.{List, []}
use lib.ListN.{length, drop}
use lib.Seq.{drop-cons}
use Rattle.columns.specs.Lists.{pick, joined, range}
use Rattle.cycle.specs.Tree.{layout_number, Plan}
use Rattle.cycle.specs.Layouts.{Slot, slot, path, whole_segment, slots}
use Rattle.cycle.specs.declared.Figures.{Figures}
use Rattle.cycle.specs.Judging.{tree_at}
use Rattle.cycle.specs.Cycle.{to_next_segment, first_place, cycle_size}
use Rattle.cycle.specs.Waits.{starts_at, segment_start}
use Rattle.cycle.specs.Inner.Held.{plan_of, Ready}
use Rattle.cycle.proofs.Basics.Lasts.{last_found, last_within}
use Rattle.cycle.proofs.Sequences.Sequence.{Sound, Keeps}
use Rattle.cycle.proofs.Sequences.Keeping.{keeps}
use Rattle.cycle.proofs.Sequences.LastSent.{data_first}
use Rattle.cycle.proofs.Trees.Readiness.{sound, Block, block, levels_are}
use Rattle.cycle.proofs.Segmenting.SegmentBuckets.{to_start}
use Rattle.cycle.proofs.Segmenting.SegmentAt.{SegmentAt}
use Rattle.cycle.proofs.Segmenting.LayoutSegments.{tree_some, laid_whole}
use Rattle.cycle.proofs.Segmenting.HeldSegments.{laid_fits}
use Rattle.cycle.proofs.Segmenting.HeldBlocks.{block_at, block_laid}
use Rattle.cycle.proofs.Segmenting.HeldParts.{part_from}
use Rattle.cycle.proofs.Reach.Distances.{distance_low}
use Rattle.cycle.proofs.Reach.DataHeld.{InBlock, data_in_block, InPart, data_in_part}

-- ---- whether a segment starts at a place, by the distance to the next start

near : (b : Bool) (d : ℕ) → 1 ≤ d → pick b 1 (suc d) ≡ 1 → b ≡ true
near true d l e = refl
near false d l e = absurd (omega arith)

far : (b : Bool) (d : ℕ) → 2 ≤ pick b 1 (suc d) → b ≡ false
far true d l = absurd (omega arith)
far false d l = refl

module _ (t : Plan) (x : ℕ) (h : x < cycle_size t) where
  next_from : to_next_segment (drop x (slots t)) ≡ pick (starts_at t x) 1 (suc (to_next_segment (drop (suc x) (slots t))))
  unfolding to_next_segment starts_at cycle_size
  next_from = ap to_start (drop-cons (slots t) x (slot 0 0) h)

  pub starts_there : to_next_segment (drop x (slots t)) ≡ 1 → starts_at t x ≡ true
  unfolding to_next_segment
  starts_there e =
      near (starts_at t x) (to_next_segment (drop (suc x) (slots t))) (distance_low (λ y. y.starts) (drop (suc x) (slots t)))
      (sym next_from ∙ e)

  pub starts_later : 2 ≤ to_next_segment (drop x (slots t)) → starts_at t x ≡ false
  starts_later l = far (starts_at t x) (to_next_segment (drop (suc x) (slots t))) (subst (λ y. 2 ≤ y) next_from l)

-- ---- the start of a data bucket's segment

-- it is not behind the bucket
pub start_before : (t : Plan) (q : ℕ) → segment_start t q ≤ first_place t (t.k + 1) q
unfolding segment_start
start_before t q =
    let w = last_within (starts_at t) (first_place t (t.k + 1) q - 0) 0 0 (omega arith) in
    omega arith

-- it is the start of the segment that holds the bucket
pub start_laid :
    (t : Plan) → Keeps t → (start : ℕ) (p q : List Slot) (first last : ℕ) → SegmentAt t start p q first last → 0 < length q →
    (x : ℕ) → first ≤ x → x < last → segment_start t x ≡ start
unfolding segment_start
start_laid t kept start p q first last l tree x low high =
    let place = data_first t kept (start + length p + length q) first last x l.data_stands low high in
    let fits = laid_fits t start p q first last l in
    last_found (starts_at t) (first_place t (t.k + 1) x - 0) 0 0 start (omega arith) (omega arith)
    (starts_there t start (omega arith) l.own_starts)
    (λ y above below.
    let one : y ≡ suc (y - 1) = omega arith in
    let next : to_next_segment (drop y (slots t)) ≡ start + length p + length q + (last - first) - (y - 1) =
    ap (λ z. to_next_segment (drop z (slots t))) one ∙ l.next_starts (y - 1) (omega arith) (omega arith) in
    starts_later t y (omega arith) (omega arith))

module _ (f : Figures) (q : ℕ) (ready : Ready f) (inside : q < f.d) where
  sounds : Sound (plan_of f [])
  sounds = sound f [] ready.shaped ready.copies_fit_lem

  pub start_in_block : layout_number f.layout ≡ 1 → segment_start (plan_of f []) q ≡ block_at f (q / f.n ^ (f.k - f.copies))
  unfolding plan_of
  start_in_block one =
      let t : Plan = plan_of f [] in
      let e : ℕ = f.k - f.copies in
      let m : ℕ = f.n ^ e in
      let b : ℕ = q / m in
      let k : Block f = block f ready.shaped one ready.copies_fit_lem in
      let i : InBlock f q ready inside b = data_in_block f q ready inside one in
      start_laid t (keeps t sounds) (block_at f b) (path t b) (tree_at t e b) (b * m) (min f.d ((b + 1) * m))
      (block_laid f b ready one i.among [])
      (tree_some t e b (omega (arith, k.fits)))
      q i.from i.to

  pub start_in_part :
      (layout_number f.layout ≡ 1 → ⊥) →
      segment_start (plan_of f []) q ≡ length (joined (whole_segment (plan_of f [])) (range 0 (((q + 1) * f.copies - 1) / f.d)))
  unfolding plan_of
  start_in_part other =
      let t : Plan = plan_of f [] in
      let i : ℕ = ((q + 1) * f.copies - 1) / f.d in
      let p : InPart f q ready inside i = data_in_part f q ready inside other in
      start_laid t (keeps t sounds) (length (joined (whole_segment t) (range 0 i))) [] (tree_at t f.k 0) (part_from f i) (part_from f (suc i))
      (laid_whole t sounds other i p.among)
      (tree_some t f.k 0 (levels_are f ready.shaped).low)
      q p.from p.to
