-- A bucket of a segment's path in layout 1, under the figures of a cycle: what the code prints of it.
--     path_one, path_low, path_some, path_on, path_block    what is known of it
--     path_place_lem                                        it is an index bucket of the segment
--     path_printed                                          the entries put behind its control pairs make the bucket
-- Assumes nothing.
use mathlib.Core.Path.{◌≡◌, refl, sym, ap, ap₂, subst, ◌∙◌}
use mathlib.Core.Logic.{⊎_elim}
use Prim.Native.Nat.{ℕ, suc, ◌+◌, ◌-◌, ◌*◌, ◌≤◌, ◌<◌}
use native.Mathlib.Nat.{eq-zero-or-pos}
use native.Mathlib.Numerals.{add-one}
use native.Mathlib.Omega.{arith}
use Rattle.std.specs.Prelude.{Option, Some}
use mathlib.Core.Bool.{Bool}
use mathlib.Core.List.{List, [], ◌∷◌, map}
use lib.ListN.{length, length-map}
use borrow.Author.Tests.{eq-eqb, le-leb, lt-ltb}
use Rattle.columns.specs.Lists.{joined, range}
use Rattle.buckets.specs.declared.Line.{Line}
use Rattle.buckets.specs.declared.Pair.{Pair}
use Rattle.buckets.specs.Lengths.{pairs_most}
use Rattle.cycle.specs.Tree.{layout_number, Plan, width, above, largest_tag, levels_most}
use Rattle.cycle.specs.Layouts.{Slot, slot, slots, path_top, distributed_segment}
use Rattle.cycle.specs.Cycle.{to_next, has_pairs, first_pair, later_pair, pairs}
use Rattle.cycle.specs.declared.Figures.{Figures}
use Rattle.cycle.specs.declared.Segment.{Segment}
use Rattle.cycle.specs.declared.Source.{Source}
use Rattle.cycle.specs.Inner.Held.{plan_of, InTree, HoldsSegment, segment_slots, segment_count, lines_held, plan_in, last_of, last_sent_before, ahead_of}
use Rattle.cycle.specs.Inner.Held.{child_distance, place_over, pair_reach, path_pair, path_pairs, OnPath, PathPlace, IndexPlace, Printing}
use Rattle.cycle.proofs.Sequences.Sequence.{Sound}
use Rattle.cycle.proofs.Basics.Ranges.{length_range}
use Rattle.cycle.proofs.Trees.Readiness.{sound, one_level}
use Rattle.cycle.proofs.Trees.TreeLaws.{above_add}
use Rattle.cycle.proofs.Trees.Children.{size_slots, within}
use Rattle.cycle.proofs.Segmenting.HeldBlocks.{block_slots}
use Rattle.cycle.proofs.Segmenting.SegmentParts.{seated, path_size, path_layout}
use Rattle.cycle.proofs.Sequences.Paths.{path_top_low}
use Rattle.cycle.proofs.Sequences.Blocks.{block_level, block_count}
use Rattle.cycle.proofs.Trees.Shapes.{width_shape, slots_shape, distributed_shape, first_place_shape, pair_reach_shape}
use Rattle.cycle.proofs.Reach.Occurrences.{top_of, place_on}
use Rattle.cycle.proofs.Reach.NextOccurrence.{to_send}
use Rattle.cycle.proofs.Reach.PairReach.{pair_reaches}
use Rattle.cycle.proofs.Reach.PathPairs.{path_at, next_path_child}
use Rattle.cycle.proofs.Reach.PathFigures.{path_here, path_inside, few_copies, over_inside, block_inside}
use Rattle.cycle.proofs.Buckets.IndexBuckets.{map_same, Prints, index_printed}

-- ---- the control pairs

module _ (t : Plan) (sound : Sound t) (one : t.layout ≡ 1) (b i m : ℕ) (low : top_of t b ≤ i) (high : i ≤ t.copies) (count : b + suc m ≡ block_count t) where
  abbrev path_place : ℕ
  path_place = above t.n (block_level t - i) b

  abbrev path_ahead : List Slot
  path_ahead = to_send (path_at t sound one b i m low high count)

  over_path : (j : ℕ) → j ≤ i → above t.n (i - j) path_place ≡ place_over t b j
  unfolding place_over
  over_path j h =
      let height : (block_level t - i) + (i - j) ≡ block_level t - j = omega arith in
      sym (above_add t.n (block_level t - i) (i - j) b) ∙ ap (λ z. above t.n z b) height

  abbrev later_held : ℕ → Pair
  later_held j =
      record { tag = Some (largest_tag t j (place_over t b j)); distance = pair_reach t (length (slots t)) (place_on t b i) j (place_over t b j) }

  later_is : (j : ℕ) → 2 ≤ j → j ≤ i → later_pair t path_ahead (slot i path_place) j ≡ later_held j
  unfolding later_pair slot
  later_is j from to =
      let distance_is : to_next path_ahead (j - 1) (above t.n (i - (j - 1)) path_place) ≡ (later_held j).distance =
      ap (to_next path_ahead (j - 1)) (over_path (j - 1) (omega arith)) ∙ pair_reaches t sound one b i m low high count j from to in
      λ k. record { tag = Some (largest_tag t j (over_path j to k)); distance = distance_is k }

  pairs_on_path :
      (last : Option ℕ) →
      pairs t path_ahead last (length (slots t) - place_on t b i) (slot i path_place)
      ≡ first_pair last (length (slots t) - place_on t b i) ∷ map later_held (range 2 (i + 1))
  unfolding pairs has_pairs slot
  pairs_on_path last =
      rw (eq-eqb t.layout 1 one, le-leb i t.copies high)
      (ap (λ ps. first_pair last (length (slots t) - place_on t b i) ∷ ps)
      (map_same (later_pair t path_ahead (slot i path_place)) later_held 2 (i + 1 - 2) (λ j u v. later_is j u (omega arith))))

-- ---- the bucket

module _ {f : Figures} {source : Source} {text : List ℕ} {plain : Bool} {s : Segment} (w : Printing f source text plain s) {i x : ℕ} (p : PathPlace f s i x) where
  abbrev ls : List Line
  ls = lines_held f source text

  abbrev t : Plan
  t = plan_of f ls

  abbrev b : ℕ
  b = s.number

  abbrev e : ℕ
  e = f.k + 1 - i

  pub path_one : layout_number f.layout ≡ 1
  path_one = path_layout f s w.ready w.placed i p.from_top p.high

  held : Sound t
  held = sound f ls w.ready.shaped w.ready.copies_fit_lem

  place : HoldsSegment t s
  place = w.placed ls

  top_is : s.top ≡ path_top f.n f.copies b
  unfolding plan_of
  top_is = place.top_is path_one

  pub path_low : 1 ≤ i
  path_low = omega (arith, top_is, p.from_top, path_top_low f.n f.copies b)

  pub path_bounds : (f.copies ≤ pairs_most) × (f.copies + 1 ≤ f.k) × (f.k ≤ levels_most)
  path_bounds = few_copies f w.ready path_one

  -- the empty list has no path
  pub path_some : 1 ≤ f.d
  path_some =
      ⊎_elim
      (λ (z : f.d ≡ 0). absurd (omega (arith, one_level f w.ready.shaped z, path_low, p.high, path_bounds)))
      (λ (h : 0 < f.d). h)
      (eq-zero-or-pos f.d)

  start_is : (ms : List Line) → s.start ≡ length (joined (distributed_segment (plan_of f ms)) (range 0 b))
  unfolding plan_of
  start_is ms =
      let only : segment_slots t ≡ distributed_segment t = block_slots t path_one in
      let shape : distributed_segment t ≡ distributed_segment (plan_of f ms) = λ k z. distributed_shape f ls ms z k in
      place.start_is ∙ ap (λ g. length (joined g (range 0 b))) (only ∙ shape)

  pub path_on : (ms : List Line) → OnPath (plan_of f ms) b i x
  unfolding plan_of segment_count width
  path_on ms =
      record {
        distributed = path_one;
        top = omega (arith, top_is, p.from_top);
        high = p.high;
        inside = place.number_in;
        here = p.here ∙ ap₂ (λ u v. u + (i - v)) (start_is ms) top_is;
      }

  pub path_block : InTree f (f.k - f.copies) b
  path_block = block_inside f w.ready path_one b (path_inside (path_on []))

  before_tree : x < s.tree_at
  before_tree = omega (arith, p.here, p.from_top, p.high, path_size f s w.ready w.placed)

  pub path_place_lem : {j : ℕ} → j ≡ place_over (plan_of f []) b i → IndexPlace f s e j x
  unfolding plan_of
  path_place_lem over =
      let sits = seated f s w.ready w.placed in
      record {
        low = omega (arith, p.high, path_bounds.1);
        inside = subst (InTree f e) (sym over) (over_inside f w.ready path_one i path_low (omega (arith, p.high)) [] b path_block);
        below = omega (arith, sits, before_tree);
        in_tree = λ h.
            let tall : s.height ≡ f.k - f.copies = place.height_is ∙ rw (eq-eqb (layout_number f.layout) 1 path_one) in
            absurd (omega (arith, p.high, path_bounds.1));
        on_path_lem = λ h. path_one;
      }

  -- ---- where it stands

  abbrev m : ℕ
  m = block_count t - suc b

  count : b + suc m ≡ block_count t
  count = omega (arith, path_inside (path_on ls))

  here : x ≡ place_on t b i
  here = path_here (path_on ls)

  from : top_of t b ≤ i
  from = (path_on ls).top

  to : i ≤ t.copies
  to = (path_on ls).high

  single : t.layout ≡ 1
  single = (path_on ls).distributed

  size : f.size ≡ length (slots t)
  size = size_slots f w.ready ∙ ap length (slots_shape f [] ls)

  abbrev over : ℕ
  over = path_place t held single b i m from to count

  abbrev ahead : List Slot
  ahead = path_ahead t held single b i m from to count

  abbrev y : ℕ
  y = place_on t b i

  reach : (c : ℕ) → c < width t (suc i) → to_next ahead (i + 1) c ≡ child_distance (plan_of f []) f.size y e over c
  unfolding child_distance plan_of
  reach c h =
      let level : f.k + 2 - e ≡ suc i = omega (arith, p.high, path_bounds.1) in
      ap (λ l. to_next ahead l c) (add-one i)
      ∙ next_path_child t held single b i m from to count c (omega arith)
      ∙ ap₂ (λ n z. ahead_of n y z) (sym size) (first_place_shape f ls [] (suc i) c)
      ∙ sym (rw (eq-eqb (layout_number f.layout) 1 path_one, lt-ltb (f.k - f.copies) e (omega (arith, p.high, path_bounds.1)), level))

  -- pair l, as the code has it
  pair_is : (l : ℕ) → later_held t held single b i m from to count l ≡ path_pair f source text b x l
  unfolding path_pair plan_in plan_of place_over
  pair_is l =
      let reach_is : pair_reach t (length (slots t)) y l (place_over t b l) ≡ pair_reach (plan_of f []) f.size x l (place_over t b l) =
      ap₂ (λ u v. pair_reach t u v l (place_over t b l)) (sym size) (sym here) ∙ pair_reach_shape f ls [] f.size x l (place_over t b l) in
      λ k. record { tag = Some (largest_tag t l (place_over t b l)); distance = reach_is k }

  pub path_printed :
      {j : ℕ} {ps : List Pair} → j ≡ place_over (plan_of f []) b i → ps ≡ path_pairs f source text s i x → Prints f source text e j x ps
  unfolding plan_in plan_of place_over path_pairs
  path_printed {j} {ps} j_is are =
      let at : IndexPlace f s e over y = subst (IndexPlace f s e over) here (path_place_lem refl) in
      let level : i ≡ f.k + 1 - e = omega (arith, p.high, path_bounds.1) in
      let last_is_lem : last_sent_before t y ≡ last_of t s.first =
      ap (last_sent_before t) (sym here) ∙ place.sent_before_lem x (omega (arith, p.here)) (omega (arith, before_tree, place.tree_length)) in
      let to_cycle : length (slots t) - y ≡ f.size - x = omega (arith, size, here) in
      let few : length ps ≤ pairs_most =
      omega (
        arith,
        ap length are,
        length-map (range 2 (i + 1)) (path_pair f source text b x),
        length_range 2 (i + 1),
        p.high,
        path_bounds.0,
      ) in
      subst (λ z. Prints f source text e z x ps) (sym j_is)
      (subst (λ z. Prints f source text e over z ps) (sym here)
      (index_printed f source text w.ready e over y at.low at.inside level
      (path_at t held single b i m from to count) ps few
      (ap (λ l. pairs t ahead l (length (slots t) - y) (slot i over)) last_is_lem
      ∙ pairs_on_path t held single b i m from to count (last_of t s.first)
      ∙ ap₂ (λ d (qs : List Pair). first_pair (last_of t s.first) d ∷ qs) to_cycle
      (map_same (later_held t held single b i m from to count) (path_pair f source text b x) 2 (i + 1 - 2) (λ l u v. pair_is l))
      ∙ sym are)
      (λ c h.
      let among = subst (λ l. over * f.n + c < width (plan_of f []) (suc l)) (sym level) (within f w.ready e over at.low at.inside c h) in
      reach (over * f.n + c) (omega (arith, among, width_shape f ls [] (suc i))))))
