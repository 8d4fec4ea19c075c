-- Where the parts of a segment stand: its path buckets, its tree, its data buckets, each within the cycle.
-- Assumes nothing.
use mathlib.Core.Path.{◌≡◌, refl, sym, ap, ap₂, ◌∙◌, subst}
use Prim.Native.Nat.{ℕ, suc, ◌+◌, ◌-◌, ◌≤◌, ◌<◌}
use native.Mathlib.Numerals.{add-one}
use native.Mathlib.Omega.{arith}
use mathlib.Core.Bool.{Bool, true, false}
use mathlib.Core.List.{List, [], ◌∷◌, ◌++◌, map, map-append}
use lib.Dec.{eqb}
use lib.ListN.{length, length-append, length-map}
use borrow.Author.Tests.{eqb-true, eqb-false, eq-eqb}
use Rattle.columns.specs.Lists.{joined, range}
use Rattle.columns.proofs.Joined.{joined_append}
use Rattle.buckets.specs.declared.Line.{Line}
use Rattle.buckets.specs.Lengths.{pairs_most, buckets_most}
use Rattle.cycle.specs.Tree.{layout_number, Plan, above}
use Rattle.cycle.specs.Layouts.{Slot, slot, sent, path, path_top, slots}
use Rattle.cycle.specs.Cycle.{cycle_size}
use Rattle.cycle.specs.declared.Figures.{Figures}
use Rattle.cycle.specs.declared.Segment.{Segment}
use Rattle.cycle.specs.Inner.Held.{plan_of, Ready, StandsAt, HoldsSegment, path_of, segment_slots, segment_count}
use Rattle.cycle.proofs.Basics.Ranges.{length_range, range_append, range_cons}
use Rattle.cycle.proofs.Sequences.PathSizes.{length_path}
use Rattle.cycle.proofs.Segmenting.SegmentSizes.{length_sent, count_wholes}
use Rattle.cycle.proofs.Segmenting.LayoutSegments.{slots_blocks, slots_wholes}
use Rattle.cycle.proofs.Segmenting.HeldBlocks.{path_of_lem, count_of, block_slots}
use Rattle.cycle.proofs.Segmenting.HeldParts.{no_path_of, whole_slots}
use Rattle.cycle.proofs.Building.Accepted.{copies_fit_lem}
use Rattle.cycle.proofs.Segmenting.StandsAt.{stand_front, stand_behind, stand_fits}

-- one of a row of buckets
pub stand_row :
    {t : Plan} {x : ℕ} (g : ℕ → Slot) (a b i : ℕ) → a ≤ i → i < b → StandsAt t x (map g (range a b)) →
    StandsAt t (x + (i - a)) (g i ∷ map g (range (suc i) b))
stand_row {t} {x} g a b i low high s =
    let row : map g (range a b) ≡ map g (range a i) ++ (g i ∷ map g (range (suc i) b)) =
    ap (map g) (range_append a i b low (omega arith) ∙ ap (λ r. range a i ++ r) (range_cons i b high))
    ∙ map-append g (range a i) (i ∷ range (suc i) b) in
    let wide : length (map g (range a i)) ≡ i - a = length-map (range a i) g ∙ length_range a i in
    subst (λ y. StandsAt t (x + y) (g i ∷ map g (range (suc i) b))) wide
    (stand_behind (map g (range a i)) (g i ∷ map g (range (suc i) b)) (subst (StandsAt t x) row s))

-- the segments, one behind the other, are the cycle
pub slots_are : (t : Plan) → slots t ≡ joined (segment_slots t) (range 0 (segment_count t))
slots_are t = go (eqb t.layout 1) refl
  where
    go : (b : Bool) → eqb t.layout 1 ≡ b → slots t ≡ joined (segment_slots t) (range 0 (segment_count t))
    go true e =
        let one : t.layout ≡ 1 = eqb-true t.layout 1 e in
        slots_blocks t one ∙ sym (ap₂ (λ g m. joined g (range 0 m)) (block_slots t one) (count_of t one))
    go false e =
        let other : t.layout ≡ 1 → ⊥ = eqb-false t.layout 1 e in
        slots_wholes t other ∙ sym (ap₂ (λ g m. joined g (range 0 m)) (whole_slots t other) (count_wholes t other))

-- the buckets before segment b
unfoldable pub before : Plan → ℕ → ℕ
before t b = length (joined (segment_slots t) (range 0 b))

pub before_none : (t : Plan) → before t 0 ≡ 0
unfolding before
before_none t = refl

pub before_all : (t : Plan) → before t (segment_count t) ≡ cycle_size t
unfolding before cycle_size
before_all t = sym (ap length (slots_are t))

pub before_within : (t : Plan) (i : ℕ) → i ≤ segment_count t → before t i ≤ cycle_size t
unfolding before
before_within t i h =
    let g : ℕ → List Slot = segment_slots t in
    let c : ℕ = segment_count t in
    let all : length (joined g (range 0 c)) ≡ length (joined g (range 0 i)) + length (joined g (range i c)) =
    ap (λ r. length (joined g r)) (range_append 0 i c (omega arith) h)
    ∙ ap length (joined_append g (range 0 i) (range i c))
    ∙ length-append (joined g (range 0 i)) (joined g (range i c)) in
    omega (arith, all, before_all t)

pub start_before : (t : Plan) (s : Segment) (i : ℕ) → HoldsSegment t s → s.number ≡ i → s.start ≡ before t i
unfolding before
start_before t s i p e = p.start_is ∙ ap (λ b. length (joined (segment_slots t) (range 0 b))) e

pub end_before : (t : Plan) (s : Segment) (i : ℕ) → HoldsSegment t s → s.number ≡ i → s.end ≡ before t (i + 1)
unfolding before
end_before t s i p e =
    p.end_is ∙ ap (λ b. length (joined (segment_slots t) (range 0 b))) (ap suc e ∙ sym (add-one i))

-- where the parts of a segment begin
pub record Seated (f : Figures) (s : Segment) : Type 0 where
  pub path_low : s.start ≤ s.tree_at
  pub tree_low : s.tree_at ≤ s.data_at
  pub data_low : s.data_at ≤ s.end
  pub within : s.end ≤ f.size
  pub short : f.size ≤ buckets_most

module _ (f : Figures) (s : Segment) (ready : Ready f) (placed : (ls : List Line) → HoldsSegment (plan_of f ls) s) where
  pub seated : Seated f s
  seated =
      let p = placed [] in
      let fits = stand_fits p.data_stands in
      let count : length (sent (plan_of f []) (range s.first s.last)) ≡ s.last - s.first =
      length_sent (plan_of f []) (range s.first s.last) ∙ length_range s.first s.last in
      record {
        path_low = omega (arith, p.path_length);
        tree_low = omega (arith, p.tree_length);
        data_low = omega (arith, p.ends);
        within = omega (arith, p.ends, fits, count, ready.size_is);
        short = ready.size_high;
      }

  -- data bucket q
  pub data_there :
      (ls : List Line) (q : ℕ) → s.first ≤ q → q < s.last → StandsAt (plan_of f ls) (s.data_at + (q - s.first)) (slot (f.k + 1) q ∷ [])
  unfolding sent plan_of
  data_there ls q low high =
      stand_front (slot (f.k + 1) q ∷ []) (map (λ r. slot (f.k + 1) r) (range (suc q) s.last))
      (stand_row (λ r. slot (f.k + 1) r) s.first s.last q low high (placed ls).data_stands)

  -- ---- the path

  distributed_path : layout_number f.layout ≡ 1 → s.tree_at ≡ s.start + (f.copies + 1 - s.top)
  unfolding plan_of
  distributed_path one =
      let p = placed [] in
      let long : length (path_of (plan_of f []) s.number) ≡ f.copies + 1 - path_top f.n f.copies s.number =
      ap length (path_of_lem (plan_of f []) s.number one) ∙ length_path (plan_of f []) s.number in
      omega (arith, p.path_length, long, p.top_is one)

  no_path : (layout_number f.layout ≡ 1 → ⊥) → (s.tree_at ≡ s.start) × (s.top ≡ f.copies + 1)
  unfolding plan_of
  no_path other =
      let p = placed [] in
      let long : length (path_of (plan_of f []) s.number) ≡ 0 = ap length (no_path_of (plan_of f []) s.number other) in
      (omega (arith, p.path_length, long), p.no_path other)

  pub path_size : s.tree_at ≡ s.start + (f.copies + 1 - s.top)
  path_size = go (eqb (layout_number f.layout) 1) refl
    where
      go : (b : Bool) → eqb (layout_number f.layout) 1 ≡ b → s.tree_at ≡ s.start + (f.copies + 1 - s.top)
      go true e = distributed_path (eqb-true (layout_number f.layout) 1 e)
      go false e = let none = no_path (eqb-false (layout_number f.layout) 1 e) in omega (arith, none)

  -- only layout 1 has path buckets
  pub path_layout : (i : ℕ) → s.top ≤ i → i ≤ f.copies → layout_number f.layout ≡ 1
  path_layout i low high = go (eqb (layout_number f.layout) 1) refl
    where
      go : (b : Bool) → eqb (layout_number f.layout) 1 ≡ b → layout_number f.layout ≡ 1
      go true e = eqb-true (layout_number f.layout) 1 e
      go false e = let none = no_path (eqb-false (layout_number f.layout) 1 e) in absurd (omega (arith, none))

  -- the path bucket of level i
  pub path_there :
      (ls : List Line) (i : ℕ) → layout_number f.layout ≡ 1 → s.top ≤ i → i ≤ f.copies →
      StandsAt (plan_of f ls) (s.start + (i - s.top))
      (slot i (above f.n (f.copies + 1 - i) s.number) ∷ map (λ l. slot l (above f.n (f.copies + 1 - l) s.number)) (range (suc i) (f.copies + 1)))
  unfolding path_of path plan_of
  path_there ls i one low high =
      let p = placed ls in
      let g : ℕ → Slot = λ l. slot l (above f.n (f.copies + 1 - l) s.number) in
      let top : path_top f.n f.copies s.number ≡ s.top = sym (p.top_is one) in
      let all : StandsAt (plan_of f ls) s.start (map g (range s.top (f.copies + 1))) =
      rw (eq-eqb (layout_number f.layout) 1 one, top) at p.path_stands in
      stand_row g s.top (f.copies + 1) i low (omega arith) all

  pub path_high : layout_number f.layout ≡ 1 → f.copies ≤ f.k
  unfolding plan_of
  path_high one = omega (arith, (copies_fit_lem (plan_of f []) ready.copies_fit_lem).paths_fit one)

  pub path_few : layout_number f.layout ≡ 1 → f.copies ≤ pairs_most
  unfolding plan_of
  path_few one = (copies_fit_lem (plan_of f []) ready.copies_fit_lem).few_paths one
