-- A bucket of a segment's tree, under the figures of a cycle: what the code prints of it.
--     tree_place                  it is an index bucket of the segment
--     tree_pairs_few              how many control pairs it has
--     tree_printed                the entries put behind them make the bucket
-- Assumes nothing.
use mathlib.Core.Path.{◌≡◌, refl, sym, ap, ap₂, subst, ◌∙◌}
use Prim.Native.Nat.{ℕ, zero, suc, ◌+◌, ◌-◌, ◌*◌, ◌^◌, ◌≤◌, ◌<◌, min}
use native.Mathlib.Nat.{pow-zero, mul-one}
use native.Mathlib.Decide.{ℕ_discrete}
use native.Mathlib.Omega.{arith}
use mathlib.Core.Bool.{Bool, true, false}
use Rattle.std.specs.Prelude.{Option}
use mathlib.Core.List.{List, [], ◌∷◌}
use lib.Dec.{eqb}
use lib.ListN.{length}
use borrow.Author.Tests.{eq-eqb, ne_eqb, lt-leb, le-ltb}
use Rattle.columns.specs.Lists.{pick, joined, range}
use Rattle.buckets.specs.declared.Line.{Line}
use Rattle.buckets.specs.declared.Pair.{Pair}
use Rattle.cycle.specs.Tree.{layout_number, Plan, width, children}
use Rattle.cycle.specs.Layouts.{Slot, slot, slots, subtree}
use Rattle.cycle.specs.Cycle.{to_next, has_pairs, first_pair, pairs}
use Rattle.cycle.specs.declared.Figures.{Figures}
use Rattle.cycle.specs.declared.Segment.{Segment}
use Rattle.cycle.specs.declared.Source.{Source}
use Rattle.cycle.specs.Judging.{tree_at, tree_height}
use Rattle.cycle.specs.Inner.Held.{plan_of, StandsAt, HoldsSegment, lines_held, plan_in, last_of, last_sent_before, ahead_of}
use Rattle.cycle.specs.Inner.Held.{tree_distance, child_distance, tree_pairs, TreePlace, IndexPlace, Printing}
use Rattle.cycle.proofs.Sequences.Sequence.{Sound}
use Rattle.cycle.proofs.Sequences.Keeping.{keeps}
use Rattle.cycle.proofs.Basics.Ranges.{range_empty}
use Rattle.cycle.proofs.Trees.Readiness.{sound}
use Rattle.cycle.proofs.Trees.Shapes.{width_shape, tree_at_shape, first_place_shape, slots_shape, stand_shape}
use Rattle.cycle.proofs.Segmenting.Positions.{At, stand_at}
use Rattle.cycle.proofs.Reach.NextOccurrence.{to_send}
use Rattle.cycle.proofs.Sequences.DataOnce.{next_data_lem}
use Rattle.cycle.proofs.Buckets.TreeEntries.{next_child}
use Rattle.cycle.proofs.Segmenting.TreePlaces.{tree_before, tree_high}
use Rattle.cycle.proofs.Segmenting.SegmentParts.{seated}
use Rattle.cycle.proofs.Trees.Children.{size_slots, children_count, within, under_data}
use Rattle.cycle.proofs.Buckets.IndexBuckets.{Prints, index_printed}

-- ---- the control pairs

-- those of a bucket in a segment's tree: the root of layout 2 has one
tree_pairs_are :
    (t : Plan) (ahead : List Slot) (last : Option ℕ) (to_cycle e i j : ℕ) → i ≡ t.k + 1 - e → 1 ≤ e → e ≤ t.k →
    1 ≤ t.layout → t.layout ≤ 2 → (t.layout ≡ 1 → t.copies < i) →
    pairs t ahead last to_cycle (slot i j) ≡ pick (eqb t.layout 2) (pick (eqb e t.k) (first_pair last to_cycle ∷ []) []) []
unfolding pairs has_pairs slot
tree_pairs_are t ahead last to_cycle e i j p low high least most below =
    elim (ℕ_discrete t.layout 1) [
      | yes one ↦ rw (eq-eqb t.layout 1 one, lt-leb i t.copies (below one), ne_eqb t.layout 2 (λ z. omega arith))
      | no f ↦
          elim (ℕ_discrete e t.k) [
            | yes k ↦
                rw (
                  ne_eqb t.layout 1 f,
                  eq-eqb t.layout 2 (omega (arith, f)),
                  eq-eqb i 1 (omega arith),
                  eq-eqb e t.k k,
                  range_empty 2 (i + 1) (omega arith),
                )
            | no g ↦ rw (ne_eqb t.layout 1 f, eq-eqb t.layout 2 (omega (arith, f)), ne_eqb i 1 (λ z. g (omega arith)), ne_eqb e t.k g)
          ]
    ]

pub tree_pair_one : (t : Plan) (sent to_cycle e : ℕ) → t.layout ≡ 2 → e ≡ t.k → tree_pairs t sent to_cycle e ≡ first_pair (last_of t sent) to_cycle ∷ []
unfolding tree_pairs
tree_pair_one t sent to_cycle e two root = rw (eq-eqb t.layout 2 two, eq-eqb e t.k root)

pub tree_pair_low : (t : Plan) (sent to_cycle e : ℕ) → t.layout ≡ 2 → (e ≡ t.k → ⊥) → tree_pairs t sent to_cycle e ≡ []
unfolding tree_pairs
tree_pair_low t sent to_cycle e two low = rw (eq-eqb t.layout 2 two, ne_eqb e t.k low)

pub tree_pair_none : (t : Plan) (sent to_cycle e : ℕ) → (t.layout ≡ 2 → ⊥) → tree_pairs t sent to_cycle e ≡ []
unfolding tree_pairs
tree_pair_none t sent to_cycle e other = rw (ne_eqb t.layout 2 other)

pub tree_pairs_few : (t : Plan) (sent to_cycle e : ℕ) → length (tree_pairs t sent to_cycle e) ≤ 1
unfolding tree_pairs
tree_pairs_few t sent to_cycle e = go (eqb t.layout 2) (eqb e t.k)
  where
    go : (b c : Bool) → length (pick b (pick c (first_pair (last_of t sent) to_cycle ∷ []) []) []) ≤ 1
    go true true = omega arith
    go true false = omega arith
    go false c = omega arith

-- ---- the distance to a child

-- a child that is an index bucket comes behind its earlier siblings' subtrees
near_below :
    (t : Plan) {x i j : ℕ} (h : ℕ) (a : At t x i j (joined (λ c. subtree t h (suc i) c) (children t i j))) →
    i ≡ t.k + 1 - suc h → 1 ≤ h → suc h ≤ t.k → (c : ℕ) → j * t.n ≤ c → c < min (j * t.n + t.n) (width t (suc i)) →
    to_next (to_send a) (i + 1) c ≡ 1 + length (joined (tree_at t h) (range (j * t.n) c))
unfolding tree_at
near_below t zero a p low high c u v = absurd (omega arith)
near_below t {x} {i} {j} (suc h) a p low high c u v =
    let level : suc i ≡ t.k + 1 - suc h = omega arith in
    next_child t h i a c u v ∙ near_level level
  where
    near_level : {l m : ℕ} → l ≡ m → 1 + length (joined (λ y. subtree t (suc h) l y) (range (j * t.n) c)) ≡ 1 + length (joined (λ y. subtree t (suc h) m y) (range (j * t.n) c))
    near_level e = ap (λ l. 1 + length (joined (λ y. subtree t (suc h) l y) (range (j * t.n) c))) e

-- ---- the bucket

module _ {f : Figures} {source : Source} {text : List ℕ} {plain : Bool} {s : Segment} (w : Printing f source text plain s) {e j x : ℕ} (p : TreePlace f s e j x) where
  abbrev ls : List Line
  ls = lines_held f source text

  abbrev t : Plan
  t = plan_of f ls

  abbrev i : ℕ
  i = f.k + 1 - e

  abbrev child_count : ℕ
  child_count = length (children (plan_of f []) i j)

  high : e ≤ f.k
  high = tree_high f s w.ready w.placed e j x p

  held : Sound t
  held = sound f ls w.ready.shaped w.ready.copies_fit_lem

  place : HoldsSegment t s
  place = w.placed ls

  tree_at_here : At t x i j (joined (λ c. subtree t (e - 1) (suc i) c) (children t i j))
  unfolding tree_at plan_of
  tree_at_here =
      let more : e ≡ suc (e - 1) = omega (arith, p.low) in
      stand_at (subst (StandsAt t x) (tree_at_shape f [] ls e j ∙ ap (λ z. subtree t z i j) more) (stand_shape f [] ls p.stands))

  abbrev ahead : List Slot
  ahead = to_send tree_at_here

  size : f.size ≡ length (slots t)
  size = size_slots f w.ready ∙ ap length (slots_shape f [] ls)

  pub before_data : x < s.data_at
  before_data = tree_before f s w.ready w.placed e j x p

  pub tree_place : IndexPlace f s e j x
  tree_place =
      record {
        low = p.low;
        inside = p.inside;
        below = let sits = seated f s w.ready w.placed in omega (arith, sits, before_data);
        in_tree = λ h. p;
        on_path_lem = λ h. absurd (omega (arith, p.high));
      }

  -- child m
  distance_is : (m : ℕ) → m < child_count → to_next ahead (i + 1) (j * f.n + m) ≡ tree_distance (plan_of f []) f.size x e j (j * f.n + m)
  unfolding tree_distance plan_of
  distance_is m h =
      let c : ℕ = j * f.n + m in
      elim (ℕ_discrete e 1) [
        | yes one ↦
            let level : i + 1 ≡ f.k + 1 = omega (arith, high) in
            let below : c * f.n ^ (e - 1) < f.d = under_data f w.ready e j p.low p.inside m h in
            let none : e - 1 ≡ 0 = omega arith in
            let l : c < f.d = rw (none, pow-zero, mul-one) at below in
            ap (λ z. to_next ahead z c) level
            ∙ next_data_lem t (keeps t held) tree_at_here c l
            ∙ ap₂ (λ n y. ahead_of n x y) (sym size) (first_place_shape f ls [] (f.k + 1) c)
            ∙ sym (rw (eq-eqb e 1 one))
        | no more ↦
            near_below t (e - 1) tree_at_here (omega (arith, p.low)) (omega (arith, p.low, more)) (omega (arith, p.low, high)) c (omega arith)
            (omega (arith, few_here, width_shape f ls [] (suc i), within f w.ready e j p.low p.inside m h))
            ∙ near_shape c
            ∙ sym (rw (ne_eqb e 1 more))
      ]
    where
      few_here : m < f.n
      few_here = omega (arith, children_count f w.ready e j p.low p.inside)

      near_shape : (c : ℕ) → 1 + length (joined (tree_at t (e - 1)) (range (j * f.n) c)) ≡ 1 + length (joined (tree_at (plan_of f []) (e - 1)) (range (j * f.n) c))
      near_shape c = ap {A = ℕ → List Slot} (λ g. 1 + length (joined g (range (j * f.n) c))) (λ k y. tree_at_shape f ls [] (e - 1) y k)

  reach : (m : ℕ) → m < child_count → to_next ahead (i + 1) (j * f.n + m) ≡ child_distance (plan_of f []) f.size x e j (j * f.n + m)
  unfolding child_distance
  reach m h = distance_is m h ∙ sym (rw (le-ltb (tree_height (plan_of f [])) e (omega (arith, p.high, (w.placed []).height_is))))

  -- the pairs that the code has
  pub tree_printed :
      {ps : List Pair} → ps ≡ tree_pairs (plan_in f source text) s.first (f.size - x) e → Prints f source text e j x ps
  unfolding plan_in plan_of tree_pairs
  tree_printed {ps} are =
      let last_is_lem : last_sent_before t x ≡ last_of t s.first = place.sent_before_lem x (omega (arith, place.path_length, p.behind_path_lem)) before_data in
      let shaped = w.ready.shaped in
      index_printed f source text w.ready e j x p.low p.inside refl tree_at_here ps
      (omega (arith, ap length are, tree_pairs_few t s.first (f.size - x) e))
      (ap₂ (λ l z. pairs t ahead l (z - x) (slot i j)) last_is_lem (sym size)
      ∙ tree_pairs_are t ahead (last_of t s.first) (f.size - x) e i j refl p.low high shaped.layout_low shaped.layout_high above
      ∙ sym are)
      reach
    where
      -- in layout 1, below the copied levels
      above : layout_number f.layout ≡ 1 → f.copies < i
      above one =
          let tall : s.height ≡ f.k - f.copies = place.height_is ∙ rw (eq-eqb (layout_number f.layout) 1 one) in
          omega (arith, p.high, held.path_fits one)
