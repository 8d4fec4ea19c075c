-- Layout 1's segments as the code holds them are placed.
-- Assumes nothing.
use mathlib.Core.Path.{◌≡◌, refl, sym, ap, subst, ◌∙◌}
use Prim.Native.Nat.{ℕ, suc, ◌+◌, ◌-◌, ◌*◌, ◌^◌, ◌≤◌, ◌<◌, min, max}
use native.Mathlib.Nat.{suc-mul}
use native.Mathlib.Numerals.{add-one}
use native.Mathlib.Omega.{arith}
use mathlib.Core.Bool.{Bool, true}
use mathlib.Core.List.{List, []}
use lib.Dec.{eqb}
use lib.ListN.{length}
use borrow.Author.Tests.{eq-eqb}
use Rattle.columns.specs.Lists.{pick, joined, range}
use Rattle.buckets.specs.declared.Line.{Line}
use Rattle.buckets.specs.Lengths.{buckets_most}
use Rattle.cycle.specs.Tree.{layout_number, Plan}
use Rattle.cycle.specs.Layouts.{Slot, path, path_top, distributed_segment, whole_segment}
use Rattle.cycle.specs.declared.Figures.{Figures}
use Rattle.cycle.specs.declared.Segment.{Segment}
use Rattle.cycle.specs.Judging.{tree_at}
use Rattle.cycle.specs.Inner.Held.{plan_of, Ready, segment_count, segment_slots, path_of, HoldsSegment}
use Rattle.cycle.proofs.Sequences.Blocks.{block_count}
use Rattle.cycle.proofs.Sequences.PathSizes.{length_path}
use Rattle.cycle.proofs.Segmenting.SegmentSizes.{length_joined_next, length_block, block_begins}
use Rattle.cycle.proofs.Trees.Readiness.{sound, Block, block}
use Rattle.cycle.proofs.Trees.Shapes.{tree_at_shape, distributed_shape}
use Rattle.cycle.proofs.Segmenting.SegmentAt.{SegmentAt}
use Rattle.cycle.proofs.Segmenting.LayoutSegments.{laid_block}
use Rattle.cycle.proofs.Segmenting.HeldSegments.{laid_fits, placed, count_shape}

pub path_of_lem : (t : Plan) (b : ℕ) → t.layout ≡ 1 → path_of t b ≡ path t b
unfolding path_of
path_of_lem t b one = rw (eq-eqb t.layout 1 one)

pub count_of : (t : Plan) → t.layout ≡ 1 → segment_count t ≡ block_count t
unfolding segment_count
count_of t one = rw (eq-eqb t.layout 1 one)

pub block_slots : (t : Plan) → t.layout ≡ 1 → segment_slots t ≡ distributed_segment t
unfolding segment_slots
block_slots t one = λ x b. pick_first (eqb t.layout 1) (distributed_segment t b) (whole_segment t b) (eq-eqb t.layout 1 one) x
  where
    pick_first : (c : Bool) (y z : List Slot) → c ≡ true → pick c y z ≡ y
    pick_first c y z e = rw e

-- where segment b starts, whatever the lines
abbrev pub block_at : Figures → ℕ → ℕ
block_at f b = length (joined (distributed_segment (plan_of f [])) (range 0 b))

module _ (f : Figures) (b : ℕ) (ready : Ready f) (one : layout_number f.layout ≡ 1) (inside : b < segment_count (plan_of f [])) where
  pub block_laid :
      (ls : List Line) →
      SegmentAt (plan_of f ls) (block_at f b) (path (plan_of f ls) b) (tree_at (plan_of f ls) (f.k - f.copies) b) (b * f.n ^ (f.k - f.copies))
      (min f.d ((b + 1) * f.n ^ (f.k - f.copies)))
  unfolding plan_of
  block_laid ls =
      let t : Plan = plan_of f ls in
      let among : b < block_count t = subst (λ x. b < x) (sym (count_shape f ls) ∙ count_of t one) inside in
      subst (λ x. SegmentAt t x (path t b) (tree_at t (f.k - f.copies) b) (b * f.n ^ (f.k - f.copies)) (min f.d ((b + 1) * f.n ^ (f.k - f.copies))))
      (ap (λ (g : ℕ → List Slot). length (joined g (range 0 b))) (λ x c. distributed_shape f ls [] c x))
      (laid_block t (sound f ls ready.shaped ready.copies_fit_lem) one b among)

  -- the segment ends within the cycle
  pub block_room :
      block_at f b + (f.copies + 1 - path_top f.n f.copies b) + length (tree_at (plan_of f []) (f.k - f.copies) b)
      + (min f.d ((b + 1) * f.n ^ (f.k - f.copies)) - b * f.n ^ (f.k - f.copies))
      ≤ buckets_most
  unfolding plan_of
  block_room =
      let t : Plan = plan_of f [] in
      let e : ℕ = f.k - f.copies in
      let fits = laid_fits t (block_at f b) (path t b) (tree_at t e b) (b * f.n ^ e) (min f.d ((b + 1) * f.n ^ e)) (block_laid []) in
      let way = length_path t b in
      omega (arith, ready.size_is, ready.size_high)

  pub block_first : b * f.n ^ (f.k - f.copies) < max 1 f.d
  unfolding plan_of
  block_first =
      let k : Block f = block f ready.shaped one ready.copies_fit_lem in
      block_begins (plan_of f []) k.pos k.fits one b inside

  pub block_grows : b * f.n ^ (f.k - f.copies) ≤ min f.d ((b + 1) * f.n ^ (f.k - f.copies))
  block_grows =
      let m : ℕ = f.n ^ (f.k - f.copies) in
      let wide : (b + 1) * m ≡ b * m + m = rw (add-one b) (suc-mul b m) in
      let begins = block_first in
      omega arith

  -- as the code holds it
  pub placed_block :
      (start top tree first last : ℕ) → start ≡ block_at f b → top ≡ path_top f.n f.copies b →
      tree ≡ length (tree_at (plan_of f []) (f.k - f.copies) b) → first ≡ b * f.n ^ (f.k - f.copies) →
      last ≡ min f.d ((b + 1) * f.n ^ (f.k - f.copies)) → (ls : List Line) →
      HoldsSegment (plan_of f ls)
      (record {
        number = b;
        start = start;
        top = top;
        tree_at = start + (f.copies + 1 - top);
        height = f.k - f.copies;
        root = b;
        data_at = start + (f.copies + 1 - top) + tree;
        first = first;
        last = last;
        end = start + (f.copies + 1 - top) + tree + (last - first);
      })
  unfolding plan_of
  placed_block start top tree first last start_is top_is tree_is first_is last_is_lem ls =
      let t : Plan = plan_of f ls in
      let e : ℕ = f.k - f.copies in
      let m : ℕ = f.n ^ e in
      let k : Block f = block f ready.shaped one ready.copies_fit_lem in
      let s : Segment =
      record {
        number = b;
        start = start;
        top = top;
        tree_at = start + (f.copies + 1 - top);
        height = e;
        root = b;
        data_at = start + (f.copies + 1 - top) + tree;
        first = first;
        last = last;
        end = start + (f.copies + 1 - top) + tree + (last - first);
      } in
      let l : SegmentAt t start (path_of t b) (tree_at t e b) first last =
      rw (start_is, path_of_lem t b one, first_is, last_is_lem) (block_laid ls) in
      let way : f.copies + 1 - top ≡ length (path_of t b) =
      rw (path_of_lem t b one) (sym (length_path t b ∙ ap (λ x. f.copies + 1 - x) (sym top_is))) in
      let way' : length (path t b) ≡ f.copies + 1 - top = length_path t b ∙ ap (λ x. f.copies + 1 - x) (sym top_is) in
      let tree' : tree ≡ length (tree_at t e b) = tree_is ∙ ap length (tree_at_shape f [] ls e b) in
      let at : start ≡ length (joined (distributed_segment t) (range 0 b)) =
      start_is ∙ ap (λ (g : ℕ → List Slot). length (joined g (range 0 b))) (λ x c. distributed_shape f [] ls c x) in
      let next = length_joined_next (distributed_segment t) b in
      let own = length_block t k.pos k.fits b in
      let grows = block_grows in
      let begins = block_first in
      placed t s l (ap (λ x. start + x) way) (ap (λ x. start + (f.copies + 1 - top) + x) tree') refl (omega arith) (λ z. top_is)
      (λ other. absurd (other one)) (λ z. refl) (omega (arith, k.fits)) (omega arith) (rw (eq-eqb (layout_number f.layout) 1 one))
      (at ∙ ap (λ (g : ℕ → List Slot). length (joined g (range 0 b))) (sym (block_slots t one)))
      ((let all : start + (f.copies + 1 - top) + tree + (last - first) ≡ length (joined (distributed_segment t) (range 0 (suc b))) = omega arith in
      all)
      ∙ ap (λ (g : ℕ → List Slot). length (joined g (range 0 (suc b)))) (sym (block_slots t one)))
      (rw (count_shape f ls) inside)
      (omega arith)
      (omega arith)
      (λ z. (first_is, last_is_lem))
