-- Layout 2's segments as the code holds them are placed.
-- Assumes nothing.
use mathlib.Core.Path.{◌≡◌, refl, sym, ap, subst, ◌∙◌}
use mathlib.Core.Logic.{⊎_elim}
use Prim.Native.Nat.{ℕ, suc, ◌+◌, ◌-◌, ◌*◌, ◌/◌, ◌≤◌, ◌<◌, max}
use native.Mathlib.Nat.{add-zero, suc-mul, mul-zero, mul_comm, mul-le-mul_right, mul-lt-mul_of_pos_right, div-lt_iff_lt-mul, eq-zero-or-pos}
use native.Mathlib.Omega.{arith}
use mathlib.Core.Bool.{Bool, false}
use mathlib.Core.List.{List, []}
use lib.Dec.{eqb}
use lib.ListN.{length}
use borrow.Author.Tests.{ne_eqb}
use Rattle.columns.specs.Lists.{pick, joined, range}
use Rattle.buckets.specs.declared.Line.{Line}
use Rattle.buckets.specs.Lengths.{buckets_most}
use Rattle.cycle.specs.Tree.{layout_number, Plan}
use Rattle.cycle.specs.Layouts.{Slot, distributed_segment, whole_segment}
use Rattle.cycle.specs.declared.Figures.{Figures}
use Rattle.cycle.specs.declared.Segment.{Segment}
use Rattle.cycle.specs.Judging.{tree_at}
use Rattle.cycle.specs.Inner.Held.{plan_of, Ready, segment_slots, path_of, HoldsSegment}
use Rattle.cycle.proofs.Sequences.OneM.{part_step}
use Rattle.cycle.proofs.Segmenting.SegmentSizes.{length_joined_next, length_whole, length_wholes, count_wholes}
use Rattle.cycle.proofs.Trees.Readiness.{levels_are, sound}
use Rattle.cycle.proofs.Trees.Shapes.{tree_at_shape}
use Rattle.cycle.proofs.Segmenting.SegmentAt.{SegmentAt}
use Rattle.cycle.proofs.Segmenting.LayoutSegments.{laid_whole}
use Rattle.cycle.proofs.Segmenting.HeldSegments.{laid_fits, placed}

pub no_path_of : (t : Plan) (b : ℕ) → (t.layout ≡ 1 → ⊥) → path_of t b ≡ []
unfolding path_of
no_path_of t b other = rw (ne_eqb t.layout 1 other)

pub whole_slots : (t : Plan) → (t.layout ≡ 1 → ⊥) → segment_slots t ≡ whole_segment t
unfolding segment_slots
whole_slots t other = λ x b. pick_second (eqb t.layout 1) (distributed_segment t b) (whole_segment t b) (ne_eqb t.layout 1 other) x
  where
    pick_second : (c : Bool) (y z : List Slot) → c ≡ false → pick c y z ≡ z
    pick_second c y z e = rw e

-- the whole tree, and the data buckets before part i
abbrev pub whole_tree : Figures → ℕ
whole_tree f = length (tree_at (plan_of f []) f.k 0)

abbrev pub part_from : Figures → ℕ → ℕ
part_from f i = i * f.d / f.copies

module _ (f : Figures) (i : ℕ) (ready : Ready f) (other : layout_number f.layout ≡ 1 → ⊥) (inside : i < f.copies) where
  pub part_first : part_from f i < max 1 f.d
  part_first =
      (div-lt_iff_lt-mul {k = f.copies} {x = i * f.d} {y = max 1 f.d} (omega arith)).1
      (⊎_elim
      (λ (z : f.d ≡ 0).
      let none : i * f.d ≡ 0 = ap (λ x. i * x) z ∙ mul-zero i in
      let low : 1 * f.copies ≤ max 1 f.d * f.copies = mul-le-mul_right f.copies (omega arith) in
      omega arith)
      (λ (l : 0 < f.d).
      let e : max 1 f.d ≡ f.d = omega arith in
      let more : i * f.d < f.copies * f.d = mul-lt-mul_of_pos_right inside l in
      rw e (rw (mul_comm f.copies f.d) at more))
      (eq-zero-or-pos f.d))

  pub part_last : part_from f (suc i) ≤ f.d
  part_last =
      let more : suc i * f.d ≤ f.copies * f.d = mul-le-mul_right f.d inside in
      let back : f.copies * f.d ≡ f.d * f.copies = mul_comm f.copies f.d in
      let wide : suc f.d * f.copies ≡ f.d * f.copies + f.copies = suc-mul f.d f.copies in
      let small : part_from f (suc i) < suc f.d =
      (div-lt_iff_lt-mul {k = f.copies} {x = suc i * f.d} {y = suc f.d} (omega arith)).1 (omega arith) in
      omega arith

  pub whole_laid :
      (ls : List Line) → SegmentAt (plan_of f ls) (i * whole_tree f + part_from f i) [] (tree_at (plan_of f ls) f.k 0) (part_from f i) (part_from f (suc i))
  unfolding plan_of
  whole_laid ls =
      let t : Plan = plan_of f ls in
      let place : length (joined (whole_segment t) (range 0 i)) ≡ i * whole_tree f + part_from f i =
      length_wholes t (omega arith) i ∙ ap (λ xs. i * length xs + part_from f i) (tree_at_shape f ls [] f.k 0) in
      subst (λ x. SegmentAt t x [] (tree_at t f.k 0) (part_from f i) (part_from f (suc i))) place
      (laid_whole t (sound f ls ready.shaped ready.copies_fit_lem) other i inside)

  pub whole_room : i * whole_tree f + part_from f i + whole_tree f + (part_from f (suc i) - part_from f i) ≤ buckets_most
  unfolding plan_of
  whole_room =
      let t : Plan = plan_of f [] in
      let start : ℕ = i * whole_tree f + part_from f i in
      let fits = laid_fits t start [] (tree_at t f.k 0) (part_from f i) (part_from f (suc i)) (whole_laid []) in
      omega (arith, ready.size_is, ready.size_high)

  -- as the code holds it
  pub placed_whole :
      (tree last : ℕ) → tree ≡ whole_tree f → last ≡ part_from f (suc i) → (ls : List Line) →
      HoldsSegment (plan_of f ls)
      (record {
        number = i;
        start = i * tree + part_from f i;
        top = f.copies + 1;
        tree_at = i * tree + part_from f i;
        height = f.k;
        root = 0;
        data_at = i * tree + part_from f i + tree;
        first = part_from f i;
        last = last;
        end = i * tree + part_from f i + tree + (last - part_from f i);
      })
  unfolding plan_of
  placed_whole tree last tree_is last_is_lem ls =
      let t : Plan = plan_of f ls in
      let start : ℕ = i * tree + part_from f i in
      let s : Segment =
      record {
        number = i;
        start = start;
        top = f.copies + 1;
        tree_at = start;
        height = f.k;
        root = 0;
        data_at = start + tree;
        first = part_from f i;
        last = last;
        end = start + tree + (last - part_from f i);
      } in
      let l : SegmentAt t start (path_of t i) (tree_at t f.k 0) (part_from f i) last =
      rw (no_path_of t i other, tree_is, last_is_lem) (whole_laid ls) in
      let tree' : tree ≡ length (tree_at t f.k 0) = tree_is ∙ ap length (tree_at_shape f [] ls f.k 0) in
      let some : 0 < f.copies = omega arith in
      let grows : part_from f i ≤ part_from f (suc i) = part_step t i some in
      let begins = length_wholes t some i in
      let at : start ≡ length (joined (whole_segment t) (range 0 i)) = ap (λ x. i * x + part_from f i) tree' ∙ sym begins in
      let next = length_joined_next (whole_segment t) i in
      let own = length_whole t some i in
      placed t s l (sym (ap (λ xs. start + length xs) (no_path_of t i other) ∙ add-zero start)) (ap (λ x. start + x) tree') refl
      (omega arith) (λ one. absurd (other one)) (λ z. refl) (λ one. absurd (other one)) (levels_are f ready.shaped).low (omega arith)
      (rw (ne_eqb (layout_number f.layout) 1 other))
      (at ∙ ap (λ (g : ℕ → List Slot). length (joined g (range 0 i))) (sym (whole_slots t other)))
      ((let all : start + tree + (last - part_from f i) ≡ length (joined (whole_segment t) (range 0 (suc i))) = omega arith in all)
      ∙ ap (λ (g : ℕ → List Slot). length (joined g (range 0 (suc i)))) (sym (whole_slots t other)))
      (rw (count_wholes t other) inside)
      part_first
      (let end = part_last in omega arith)
      (λ one. absurd (other one))
