-- Every bucket of an accepted plan's cycle keeps the rules of "A bucket".
-- Assumes nothing.
use mathlib.Core.Path.{◌≡◌, refl, sym, ap, subst, ◌∙◌}
use Prim.Native.Nat.{ℕ, suc, ◌+◌, ◌-◌, ◌≤◌, ◌<◌}
use native.Mathlib.Omega.{arith}
use mathlib.Core.Bool.{Bool, true, false}
use mathlib.Core.List.{List, ◌∷◌, ◌++◌}
use lib.ListN.{length, length-append}
use Rattle.columns.specs.Lists.{pick}
use Rattle.buckets.specs.Bucket.{index_body, data_body, good}
use Rattle.buckets.specs.Lengths.{buckets_most}
use Rattle.buckets.proofs.Good.{Reaches, GoodIndex, GoodBody, Good, good_bucket}
use Rattle.cycle.specs.Tree.{Plan, lines_of, last_tag}
use Rattle.cycle.specs.Layouts.{Slot, slots}
use Rattle.cycle.specs.Cycle.{to_next_segment, is_data, pairs, entries, follow_on_from, body_of, bucket_of, cycle_size}
use Rattle.cycle.specs.Inner.Held.{last_of, cycle_bucket}
use Rattle.cycle.proofs.Sequences.Sequence.{data_count}
use Rattle.cycle.proofs.Reach.Distances.{distance_reaches}
use Rattle.cycle.proofs.Segmenting.BucketAt.{Place, place_of, bucket_at_lem}
use Rattle.cycle.proofs.Building.Accepted.{Accepted, laid}
use Rattle.cycle.proofs.Buckets.DataGood.{good_data}
use Rattle.cycle.proofs.Buckets.IndexGood.{good_index}

module _
    (t : Plan) (a : Accepted t) (short : cycle_size t ≤ buckets_most) (before : List Slot) (x : Slot) (rest : List Slot)
    (splits : slots t ≡ before ++ (x ∷ rest))
  where
    pub size_split : cycle_size t ≡ length before + suc (length rest)
    unfolding cycle_size
    size_split = ap length splits ∙ length-append before (x ∷ rest)

    -- the next cycle's start
    to_start : suc (length rest) ≡ cycle_size t - length before
    to_start = omega (arith, size_split)

    pub segment_reached : Reaches (suc (length rest)) (to_next_segment rest)
    unfolding to_next_segment
    segment_reached = distance_reaches (λ y. y.starts) rest

    pub good_rest : (s : ℕ) → GoodBody (cycle_size t - length before) (body_of t (cycle_size t - length before) (last_of t s) x rest)
    unfolding body_of
    good_rest s = by (is_data t x) refl
      where
        by :
            (b : Bool) → is_data t x ≡ b →
            GoodBody (cycle_size t - length before)
            (pick b (data_body (follow_on_from t (last_tag t x.place) 1 rest) (lines_of t x.place))
            (index_body (pairs t rest (last_of t s) (cycle_size t - length before) x) (entries t rest x)))
        by true e = good_data t a before x rest splits e
        by false e =
            subst (λ c. GoodIndex c (pairs t rest (last_of t s) (cycle_size t - length before) x) (entries t rest x)) to_start
            (good_index t a before x rest splits e s (cycle_size t - length before)
            (record { onward = omega (arith, size_split); near = omega (arith, size_split) }))

    pub good_at : (s : ℕ) → Good (bucket_of t (length (slots t)) (length before) (last_of t s) x rest)
    unfolding bucket_of cycle_size
    good_at s =
        record {
          short_cycle = omega (arith, short, size_split);
          cycle_onward = omega (arith, size_split);
          segment_reached = subst (λ c. Reaches c (to_next_segment rest)) to_start segment_reached;
          good_rest = good_rest s;
        }

pub built_good : (t : Plan) → Accepted t → cycle_size t ≤ buckets_most → (x : ℕ) → x < cycle_size t → good (cycle_bucket t x) ≡ true
built_good t a short x h =
    let p : Place t x = place_of t x h in
    let is : cycle_bucket t x ≡ bucket_of t (length (slots t)) (length p.before) (last_of t (data_count t p.before)) p.slot p.rest =
    ap (cycle_bucket t) (sym p.is) ∙ bucket_at_lem t (laid t a).keeps p.before p.slot p.rest p.splits in
    rw is
    (good_bucket (bucket_of t (length (slots t)) (length p.before) (last_of t (data_count t p.before)) p.slot p.rest)
    (good_at t a short p.before p.slot p.rest p.splits (data_count t p.before)))
