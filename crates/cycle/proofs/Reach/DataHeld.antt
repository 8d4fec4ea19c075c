-- Where a data bucket stands: behind the full segments and the tree of its own in layout 1, behind its part's trees in layout 2.
-- Assumes nothing.
use mathlib.Core.Path.{◌≡◌, ◌∙◌}
use Prim.Native.Nat.{ℕ, suc, ◌+◌, ◌-◌, ◌*◌, ◌/◌, ◌^◌, ◌≤◌, ◌<◌, min}
use native.Mathlib.Nat.{suc-mul, mul-add, mul_comm, mul-le-mul, mul-le-mul_left, mul-le-mul_right, div-mul-le_self, lt-div-mul-add, le-div_iff_mul-le, div-lt_iff_lt-mul, lt_of_mul-lt-mul_right}
use native.Mathlib.Numerals.{add-one}
use native.Mathlib.Decide.{ℕ_discrete}
use native.Mathlib.Omega.{arith}
use mathlib.Core.List.{[]}
use lib.ListN.{length}
use Rattle.buckets.specs.Lengths.{lines_most}
use Rattle.cycle.specs.Tree.{layout_number, Plan}
use Rattle.cycle.specs.Layouts.{path, path_top}
use Rattle.cycle.specs.declared.Figures.{Figures}
use Rattle.cycle.specs.Judging.{full_size, tree_at}
use Rattle.cycle.specs.Cycle.{first_place}
use Rattle.cycle.specs.Inner.Held.{plan_of, Ready, segment_count}
use Rattle.cycle.proofs.Sequences.Keeping.{keeps}
use Rattle.cycle.proofs.Trees.TreeLaws.{lt_up}
use Rattle.cycle.proofs.Sequences.PathSizes.{climbs, climbs_next, length_path}
use Rattle.cycle.proofs.Segmenting.SegmentSizes.{length_blocks, count_blocks}
use Rattle.cycle.proofs.Trees.Readiness.{sound, Block, block, Parts, parts}
use Rattle.cycle.proofs.Sequences.LastSent.{data_first}
use Rattle.cycle.proofs.Segmenting.HeldSegments.{laid_fits}
use Rattle.cycle.proofs.Segmenting.HeldBlocks.{block_at, block_laid}
use Rattle.cycle.proofs.Segmenting.HeldParts.{whole_tree, part_from, whole_laid}

module _ (f : Figures) (q : ℕ) (ready : Ready f) (inside : q < f.d) where
  -- ---- layout 1: b is the number of the segment

  pub record InBlock (b : ℕ) : Type 0 where
    pub among : b < segment_count (plan_of f [])
    pub from : b * f.n ^ (f.k - f.copies) ≤ q
    pub to : q < min f.d ((b + 1) * f.n ^ (f.k - f.copies))
    pub low : b ≤ q
    pub is :
        first_place (plan_of f []) (f.k + 1) q
        ≡ q + b * full_size f.n (f.k - f.copies) + length (tree_at (plan_of f []) (f.k - f.copies) b)
        + climbs f.n f.copies (b + 1)
    pub ends : first_place (plan_of f []) (f.k + 1) q < f.size

  pub data_in_block : layout_number f.layout ≡ 1 → InBlock (q / f.n ^ (f.k - f.copies))
  unfolding plan_of
  data_in_block one =
      let t : Plan = plan_of f [] in
      let e : ℕ = f.k - f.copies in
      let m : ℕ = f.n ^ e in
      let full : ℕ = full_size f.n e in
      let b : ℕ = q / m in
      let k : Block f = block f ready.shaped one ready.copies_fit_lem in
      let pos : 0 < m = k.power_low in
      let from : b * m ≤ q = div-mul-le_self q m in
      let to : q < b * m + m = lt-div-mul-add pos in
      let wide : (b + 1) * m ≡ b * m + m = rw (add-one b) (suc-mul b m) in
      let low : b * 1 ≤ b * m = mul-le-mul_left b pos in
      let count = count_blocks t k.pos k.fits one in
      let part = lt_up f.d m b pos (omega arith) in
      let among : b < segment_count t = omega arith in
      let l = block_laid f b ready one among [] in
      let first = data_first t (keeps t (sound f [] ready.shaped ready.copies_fit_lem)) (block_at f b + length (path t b) + length (tree_at t e b))
      (b * m) (min f.d ((b + 1) * m)) q l.data_stands from (omega arith) in
      let starts = length_blocks t k.pos k.fits b (omega arith) in
      let split : b * (m + full) ≡ b * m + b * full = mul-add b m full in
      let way = length_path t b in
      let climb : climbs f.n f.copies (b + 1) ≡ climbs f.n f.copies b + (f.copies + 1 - path_top f.n f.copies b) =
      rw (add-one b) (climbs_next f.n k.pos f.copies b) in
      let room = laid_fits t (block_at f b) (path t b) (tree_at t e b) (b * m) (min f.d ((b + 1) * m)) l in
      record { among = among; from = from; to = omega arith; low = omega arith; is = first ∙ omega arith; ends = omega (arith, ready.size_is) }

  -- ---- layout 2: i is the number of the part

  pub record InPart (i : ℕ) : Type 0 where
    pub among : i < f.copies
    pub from : part_from f i ≤ q
    pub to : q < part_from f (suc i)
    pub is : first_place (plan_of f []) (f.k + 1) q ≡ q + (i + 1) * whole_tree f
    pub ends : first_place (plan_of f []) (f.k + 1) q < f.size

  -- the product that is divided for i
  pub part_product :
      (layout_number f.layout ≡ 1 → ⊥) → (1 ≤ (q + 1) * f.copies) × ((q + 1) * f.copies ≤ lines_most * lines_most)
  part_product other =
      let p : Parts f = parts f ready.shaped other ready.copies_fit_lem in
      let low : 1 * 1 ≤ (q + 1) * f.copies = mul-le-mul {n₁ = 1} {m₁ = 1} (omega arith) p.parted in
      (omega arith, mul-le-mul {n₂ = lines_most} {m₂ = lines_most} (omega (arith, p.some)) p.few)

  pub data_in_part : (layout_number f.layout ≡ 1 → ⊥) → InPart (((q + 1) * f.copies - 1) / f.d)
  unfolding plan_of
  data_in_part other =
      let t : Plan = plan_of f [] in
      let m : ℕ = f.copies in
      let p : Parts f = parts f ready.shaped other ready.copies_fit_lem in
      let x : ℕ = (q + 1) * m in
      let i : ℕ = (x - 1) / f.d in
      let some : 0 < f.d = omega arith in
      let much : 1 * m ≤ x = mul-le-mul_right m (omega arith) in
      let from : i * f.d ≤ x - 1 = div-mul-le_self (x - 1) f.d in
      let to : x - 1 < i * f.d + f.d = lt-div-mul-add some in
      let next : suc i * f.d ≡ i * f.d + f.d = suc-mul i f.d in
      let all : x ≤ f.d * m = mul-le-mul_right m (omega arith) in
      let back : f.d * m ≡ m * f.d = mul_comm f.d m in
      let among : i < m = lt_of_mul-lt-mul_right f.d (omega (arith, p.parted)) in
      let first : part_from f i ≤ q =
      (let h : part_from f i < q + 1 = (div-lt_iff_lt-mul {k = m} {x = i * f.d} {y = q + 1} p.parted).1 (omega (arith, p.parted)) in omega arith) in
      let last : q < part_from f (suc i) =
      (let h : q + 1 ≤ part_from f (suc i) = (le-div_iff_mul-le {k = m} {x = q + 1} {y = suc i * f.d} p.parted).1 (omega arith) in omega arith) in
      let l = whole_laid f i ready other among [] in
      let start : ℕ = i * whole_tree f + part_from f i in
      let place = data_first t (keeps t (sound f [] ready.shaped ready.copies_fit_lem)) (start + 0 + whole_tree f) (part_from f i)
      (part_from f (suc i)) q l.data_stands first last in
      let sum : (i + 1) * whole_tree f ≡ i * whole_tree f + whole_tree f = rw (add-one i) (suc-mul i (whole_tree f)) in
      let room = laid_fits t start [] (tree_at t f.k 0) (part_from f i) (part_from f (suc i)) l in
      record { among = among; from = first; to = last; is = place ∙ omega arith; ends = omega (arith, ready.size_is) }

  -- within the cycle, in either layout
  pub data_ends : first_place (plan_of f []) (f.k + 1) q < f.size
  data_ends = elim (ℕ_discrete (layout_number f.layout) 1) [ yes one ↦ (data_in_block one).ends | no other ↦ (data_in_part other).ends ]
