-- The data buckets of one segment follow those of the segment before it.
-- Assumes nothing.
use mathlib.Core.Path.{◌≡◌, refl, sym, ap, ap₂, ◌∙◌, subst}
use Prim.Native.Nat.{ℕ, suc, ◌+◌, ◌-◌, ◌<◌}
use native.Mathlib.Omega.{arith}
use mathlib.Core.Bool.{Bool, true, false}
use mathlib.Core.List.{List, [], ◌∷◌, ◌++◌, append_assoc}
use lib.Dec.{eqb}
use lib.ListN.{length, take, length-append, length-map}
use lib.Seq.{take_at, take_all}
use borrow.Author.Tests.{eqb-true}
use Rattle.columns.specs.Lists.{pick, range}
use Rattle.cycle.specs.Tree.{Plan}
use Rattle.cycle.specs.Layouts.{Slot, slot, sent, path, slots}
use Rattle.cycle.specs.Cycle.{cycle_size}
use Rattle.cycle.specs.declared.Segment.{Segment}
use Rattle.cycle.specs.Inner.Held.{bare, StandsAt, HoldsSegment, path_of}
use Rattle.cycle.proofs.Sequences.Sequence.{Sound, data_count}
use Rattle.cycle.proofs.Sequences.Keeping.{keeps}
use Rattle.cycle.proofs.Basics.Ranges.{length_range, range_cons}
use Rattle.cycle.proofs.Sequences.Pieces.{count_append, count_sent}
use Rattle.cycle.proofs.Sequences.Blocks.{quiet_path}
use Rattle.cycle.proofs.Segmenting.LayoutSegments.{quiet_tree}
use Rattle.cycle.proofs.Segmenting.SegmentSizes.{length_sent}
use Rattle.cycle.proofs.Sequences.LastSent.{count_bare}
use Rattle.cycle.proofs.Sequences.Pieces.{data_level}
use Rattle.cycle.proofs.Segmenting.Positions.{At, stand_at, at_before}

-- how many data buckets are sent before position x
unfoldable pub sent_by : Plan → ℕ → ℕ
sent_by t x = data_count t (take x (slots t))

pub sent_none : (t : Plan) → sent_by t 0 ≡ 0
unfolding sent_by
sent_none t = refl

pub sent_stand : {t : Plan} {x : ℕ} {xs : List Slot} → StandsAt t x xs → sent_by t (x + length xs) ≡ sent_by t x + data_count t xs
unfolding sent_by
sent_stand {t} {x} {xs} s =
    let long : length s.middle ≡ length xs = sym (length-map s.middle bare) ∙ ap length s.alike in
    let both = length-append s.before s.middle in
    let whole : slots t ≡ (s.before ++ s.middle) ++ s.behind = s.splits ∙ sym (append_assoc s.before s.middle s.behind) in
    let here : take x (slots t) ≡ s.before = ap (take x) s.splits ∙ take_at s.before (s.middle ++ s.behind) x s.here in
    let there : take (x + length xs) (slots t) ≡ s.before ++ s.middle =
    ap (take (x + length xs)) whole ∙ take_at (s.before ++ s.middle) s.behind (x + length xs) (omega (arith, s.here)) in
    ap (data_count t) there
    ∙ (count_append t s.before s.middle
    ∙ ap₂ (λ a b. a + b) (ap (data_count t) (sym here)) (sym (count_bare t s.middle) ∙ ap (data_count t) s.alike))

pub quiet_path_of : (t : Plan) → Sound t → (b : ℕ) → data_count t (path_of t b) ≡ 0
unfolding path_of
quiet_path_of t sound b = by (eqb t.layout 1) refl
  where
    by : (c : Bool) → eqb t.layout 1 ≡ c → data_count t (pick (eqb t.layout 1) (path t b) []) ≡ 0
    by true e = rw e (quiet_path t sound (eqb-true t.layout 1 e) b)
    by false e = rw e

module _ (t : Plan) (sound : Sound t) where
  pub sent_all : sent_by t (cycle_size t) ≡ t.d
  unfolding sent_by cycle_size
  sent_all = ap (data_count t) (take_all (length (slots t)) (slots t) (omega arith)) ∙ (keeps t sound).all_sent

  module _ (s : Segment) (p : HoldsSegment t s) where
    -- none before its data buckets
    pub sent_before_data : sent_by t s.data_at ≡ sent_by t s.start
    sent_before_data =
        let up = sent_stand p.path_stands in
        let down = sent_stand p.tree_stands in
        let quiet = quiet_path_of t sound s.number in
        let still = quiet_tree t s.height s.root p.high in
        let tree_at_lem = ap (sent_by t) p.path_length in
        let data_at_lem = ap (sent_by t) p.tree_length in
        omega arith

    pub sent_behind : sent_by t s.end ≡ sent_by t s.start + (s.last - s.first)
    sent_behind =
        let all = sent_stand p.data_stands in
        let long : length (sent t (range s.first s.last)) ≡ s.last - s.first =
        length_sent t (range s.first s.last) ∙ length_range s.first s.last in
        ap (sent_by t) (p.ends ∙ ap (λ c. s.data_at + c) (sym long))
        ∙ (all ∙ ap₂ (λ a b. a + b) sent_before_data (count_sent t s.first (s.last - s.first)))

    pub first_sent : s.first < s.last → s.first ≡ sent_by t s.start
    unfolding sent_by sent
    first_sent h =
        let row : sent t (range s.first s.last) ≡ slot (t.k + 1) s.first ∷ sent t (range (suc s.first) s.last) =
        ap (sent t) (range_cons s.first s.last h) in
        let a : At t s.data_at (t.k + 1) s.first (sent t (range (suc s.first) s.last)) =
        stand_at (subst (StandsAt t s.data_at) row p.data_stands) in
        sym a.place_is
        ∙ ((keeps t sound).in_order a.before a.it (a.next ++ a.behind) a.splits (data_level t a.it a.level_is)
        ∙ (ap (data_count t) (sym (at_before a)) ∙ sent_before_data))
