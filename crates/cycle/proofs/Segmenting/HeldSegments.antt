-- Segments as the code holds them: one that is laid out in its cycle is placed, and ends within N.
-- Assumes nothing.
use mathlib.Core.Path.{◌≡◌, refl, sym, ap, subst, ◌∙◌}
use Prim.Native.Nat.{ℕ, suc, ◌+◌, ◌-◌, ◌*◌, ◌^◌, ◌≤◌, ◌<◌, min, max}
use native.Mathlib.Omega.{arith}
use mathlib.Core.List.{List, []}
use lib.Dec.{eqb}
use lib.ListN.{length}
use Rattle.columns.specs.Lists.{pick, joined, range}
use Rattle.buckets.specs.declared.Line.{Line}
use Rattle.cycle.specs.Tree.{Plan, width}
use Rattle.cycle.specs.Layouts.{Slot, path_top, sent}
use Rattle.cycle.specs.Cycle.{cycle_size}
use Rattle.cycle.specs.declared.Figures.{Figures}
use Rattle.cycle.specs.declared.Segment.{Segment}
use Rattle.cycle.specs.Judging.{tree_at}
use Rattle.cycle.specs.Inner.Held.{plan_of, segment_count, segment_slots, StandsAt, path_of, HoldsSegment}
use Rattle.cycle.proofs.Basics.Ranges.{length_range}
use Rattle.cycle.proofs.Segmenting.SegmentSizes.{length_sent}
use Rattle.cycle.proofs.Segmenting.SegmentAt.{SegmentAt}
use Rattle.cycle.proofs.Segmenting.StandsAt.{stand_fits}

-- a segment ends within the cycle
pub laid_fits :
    (t : Plan) (start : ℕ) (p q : List Slot) (first last : ℕ) → SegmentAt t start p q first last →
    start + length p + length q + (last - first) ≤ cycle_size t
laid_fits t start p q first last l =
    let fits = stand_fits l.data_stands in
    let own = length_sent t (range first last) ∙ length_range first last in
    omega arith

pub placed :
    (t : Plan) (s : Segment) → SegmentAt t s.start (path_of t s.number) (tree_at t s.height s.root) s.first s.last →
    s.tree_at ≡ s.start + length (path_of t s.number) →
    s.data_at ≡ s.tree_at + length (tree_at t s.height s.root) →
    s.end ≡ s.data_at + (s.last - s.first) → s.first ≤ s.last →
    (t.layout ≡ 1 → s.top ≡ path_top t.n t.copies s.number) → ((t.layout ≡ 1 → ⊥) → s.top ≡ t.copies + 1) →
    (t.layout ≡ 1 → s.root ≡ s.number) → 1 ≤ s.height → s.height ≤ t.k →
    s.height ≡ pick (eqb t.layout 1) (t.k - t.copies) t.k →
    s.start ≡ length (joined (segment_slots t) (range 0 s.number)) →
    s.end ≡ length (joined (segment_slots t) (range 0 (suc s.number))) → s.number < segment_count t → s.first < max 1 t.d →
    s.last ≤ t.d →
    (t.layout ≡ 1 → (s.first ≡ s.root * t.n ^ s.height) × (s.last ≡ min t.d ((s.root + 1) * t.n ^ s.height))) → HoldsSegment t s
placed t s l tree_is data_is end_is grows top_is no_path root_is low high height_is start_sum end_sum number_in first_in last_in data_under_lem =
    let p : List Slot = path_of t s.number in
    let q : List Slot = tree_at t s.height s.root in
    let tree_at_lem : s.start + length p ≡ s.tree_at = sym tree_is in
    let data_at_lem : s.start + length p + length q ≡ s.data_at = ap (λ x. x + length q) tree_at_lem ∙ sym data_is in
    let end_at : s.start + length p + length q + (s.last - s.first) ≡ s.end = ap (λ x. x + (s.last - s.first)) data_at_lem ∙ sym end_is in
    record {
      path_stands = l.path_stands;
      path_length = tree_is;
      top_is = top_is;
      no_path = no_path;
      root_is = root_is;
      low = low;
      high = high;
      height_is = height_is;
      tree_stands = subst (λ x. StandsAt t x q) tree_at_lem l.tree_stands;
      tree_length = data_is;
      first_last = grows;
      data_stands = subst (λ x. StandsAt t x (sent t (range s.first s.last))) data_at_lem l.data_stands;
      ends = end_is;
      next_starts = λ x from to. l.next_starts x from (omega arith) ∙ ap (λ y. y - x) end_at;
      sent_before_lem = λ x from to. l.sent_before_lem x from (omega arith);
      start_is = start_sum;
      end_is = end_sum;
      data_under_lem = data_under_lem;
      number_in = number_in;
      first_in = first_in;
      last_in = last_in;
    }

-- the number of segments does not look at the lines
pub count_shape : (f : Figures) (ls : List Line) → segment_count (plan_of f ls) ≡ segment_count (plan_of f [])
unfolding plan_of segment_count width
count_shape f ls = refl
