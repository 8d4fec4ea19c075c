-- Where a hearing ends, case by case of the segment start that it comes to: a bucket of tune-in's cycle, or the start of the
-- coming one.
-- Assumes nothing.
use mathlib.Core.Path.{◌≡◌, refl, sym, ◌∙◌, ap}
use Prim.Native.Nat.{ℕ, suc, ◌+◌, ◌≤◌, ◌<◌}
use mathlib.Core.Bool.{Bool, true, false}
use mathlib.Core.List.{List, [], ◌∷◌, ◌++◌, append-nil}
use native.Mathlib.Omega.{arith}
use lib.ListN.{length, drop, drop_of_length-le}
use lib.Seq.{drop_at, drop-append-add}
use borrow.Author.Tests.{lt-ltb, le-ltb, ne_eqb}
use Rattle.columns.specs.Lists.{any}
use Rattle.cycle.specs.Tree.{Plan}
use Rattle.cycle.specs.Layouts.{Slot, slots}
use Rattle.cycle.specs.Cycle.{distance_to, occurs, to_next, to_next_segment, cycle_size}
use Rattle.cycle.specs.Cycle.{first_place}
use Rattle.cycle.proofs.Lines.DataTags.{AcceptedPlan}
use Rattle.cycle.proofs.Reach.Distances.{First, some_left, distance_past, distance_within, distance_none, distance_near, distance_low}
use Rattle.cycle.proofs.Sequences.DataOnce.{data_sent, none_before, none_behind}
use Rattle.listener.specs.EndPlace.{target, last_heard, position, segment_behind, sent_before, root_from, end_from, end_place}
use Rattle.listener.proofs.Walks.Places.{distance_first}
use Rattle.listener.proofs.Walks.Ways.{Spot, here, sent_to, further, further_here}
use Rattle.listener.proofs.Walks.Roots.{rest_length}

-- the slots from a spot on, and those behind it
pub drop_here : {t : Plan} (s : Spot t) → drop (here s) (slots t) ≡ s.slot ∷ s.rest
unfolding here
drop_here s = rw s.splits (drop_at s.before (s.slot ∷ s.rest) (length s.before) refl)

pub drop_behind : {t : Plan} (s : Spot t) → drop (suc (here s)) (slots t) ≡ s.rest
unfolding here
drop_behind s =
    let e : suc (length s.before) ≡ length s.before + 1 = omega arith in
    rw (s.splits, e) (drop-append-add s.before (s.slot ∷ s.rest) 1)

-- ---- data buckets sent before a segment start

module _ (t : Plan) (a : AcceptedPlan t) where
  position_among :
      (pre post : List Slot) → slots t ≡ pre ++ post → (q : ℕ) → any (occurs (t.k + 1) q) pre ≡ true →
      position t q < length pre
  unfolding position first_place
  position_among pre post e q h =
      let d : distance_to (occurs (t.k + 1) q) (slots t) ≡ distance_to (occurs (t.k + 1) q) pre =
      ap (distance_to (occurs (t.k + 1) q)) e ∙ distance_within (occurs (t.k + 1) q) pre post h in
      omega (arith, distance_near (occurs (t.k + 1) q) pre h, distance_low (occurs (t.k + 1) q) pre)

  pub position_below : (q : ℕ) → q < t.d → position t q < cycle_size t
  unfolding cycle_size
  position_below q l = position_among (slots t) [] (sym (append-nil (slots t))) q (data_sent t a.keeps q l)

  -- all are sent before the coming cycle
  pub sent_all : (q : ℕ) → q < t.d → sent_before t q (cycle_size t) ≡ true
  unfolding sent_before
  sent_all q l = lt-ltb (position t q) (cycle_size t) (position_below q l)

  module _ (s : Spot t) (q : ℕ) (l : q < t.d) where
    pub sent_here : q < sent_to s → sent_before t q (here s) ≡ true
    unfolding sent_before sent_to here
    sent_here h =
        lt-ltb (position t q) (length s.before)
        (position_among s.before (s.slot ∷ s.rest) s.splits q
        (some_left (occurs (t.k + 1) q) s.before (s.slot ∷ s.rest)
        (ap (any (occurs (t.k + 1) q)) (sym s.splits) ∙ data_sent t a.keeps q l)
        (none_behind t a.keeps s.before (s.slot ∷ s.rest) s.splits q h)))

    pub unsent_here : sent_to s ≤ q → sent_before t q (here s) ≡ false
    unfolding sent_before position first_place sent_to here
    unsent_here h =
        let f : Slot → Bool = occurs (t.k + 1) q in
        let d : distance_to f (slots t) ≡ length s.before + distance_to f (s.slot ∷ s.rest) =
        ap (distance_to f) s.splits ∙
        distance_past f s.before (s.slot ∷ s.rest)
        (none_before t a.keeps s.before (s.slot ∷ s.rest) s.splits q h) in
        le-ltb (first_place t (t.k + 1) q) (length s.before) (omega (arith, distance_low f (s.slot ∷ s.rest)))

  -- ---- the cases

  module _ (tag : ℕ) where
    pub end_unsent :
        (s : Spot t) → target t tag < t.d → sent_to s ≤ target t tag →
        end_from t tag (here s) ≡ position t (last_heard t tag)
    unfolding end_from
    end_unsent s l h = rw (lt-ltb (target t tag) t.d l, unsent_here s (target t tag) l h)

    pub end_sent :
        (s : Spot t) → target t tag < t.d → target t tag < sent_to s →
        end_from t tag (here s) ≡ cycle_size t + position t (last_heard t tag)
    unfolding end_from
    end_sent s l h = rw (lt-ltb (target t tag) t.d l, sent_here s (target t tag) l h)

    pub end_coming : target t tag < t.d → end_from t tag (cycle_size t) ≡ cycle_size t + position t (last_heard t tag)
    unfolding end_from
    end_coming l = rw (lt-ltb (target t tag) t.d l, sent_all (target t tag) l)

    pub end_over : target t tag ≡ t.d → (x : ℕ) → end_from t tag x ≡ root_from t x
    unfolding end_from
    end_over e x = rw (le-ltb (target t tag) t.d (omega arith))

    -- from the tune-in
    pub end_behind : (u x : ℕ) → segment_behind t u ≡ x → end_from t tag x ≡ end_place t tag u
    unfolding end_place
    end_behind u x e = ap (end_from t tag) (sym e)

  -- ---- the first segment start behind a bucket

  module _ (s : Spot t) where
    segment_behind_lem : segment_behind t (here s) ≡ here s + to_next_segment s.rest
    unfolding segment_behind
    segment_behind_lem = rw (drop_behind s)

    module _ (f : First (λ x. x.starts) s.rest) where
      pub to_start : to_next_segment s.rest ≡ suc (length f.skipped)
      unfolding to_next_segment
      to_start = distance_first f

      pub behind_within : segment_behind t (here s) ≡ here (further s f.skipped f.hit f.behind f.splits)
      behind_within =
          omega (arith, segment_behind_lem, to_start, further_here s f.skipped f.hit f.behind f.splits)

    module _ (none_left : any (λ x. x.starts) s.rest ≡ false) where
      pub to_coming : to_next_segment s.rest ≡ suc (length s.rest)
      unfolding to_next_segment
      to_coming = distance_none (λ x. x.starts) s.rest none_left

      pub behind_round : segment_behind t (here s) ≡ cycle_size t
      behind_round = omega (arith, segment_behind_lem, to_coming, rest_length s)

  -- ---- the first root

  pub root_at : (s : Spot t) → occurs 1 0 s.slot ≡ true → root_from t (here s) ≡ here s
  unfolding root_from to_next
  root_at s h = rw (drop_here s, h) (omega arith)

  pub root_on : (s : Spot t) → 1 < s.slot.level → root_from t (here s) ≡ here s + to_next s.rest 1 0
  unfolding root_from to_next occurs
  root_on s h = rw (drop_here s, ne_eqb s.slot.level 1 (λ e. omega arith)) (omega arith)

  pub root_coming : root_from t (cycle_size t) ≡ cycle_size t
  unfolding root_from to_next cycle_size
  root_coming =
      rw (drop_of_length-le (slots t) {i = length (slots t)} (omega arith)) (omega arith)
