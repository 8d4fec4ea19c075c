-- The bucket at a place of the cycle: the slot there, and what was sent before it.
-- Assumes nothing.
use mathlib.Core.Path.{◌≡◌, sym, ◌∙◌, ap}
use Prim.Native.Nat.{ℕ, suc, ◌<◌}
use mathlib.Core.Bool.{false}
use Rattle.std.specs.Prelude.{None}
use mathlib.Core.List.{List, ◌∷◌, ◌++◌}
use native.Mathlib.Nat.{zero-add}
use native.Mathlib.Omega.{arith}
use lib.ListN
use lib.ListN.{length, drop, get_or}
use lib.Seq.{split_at, length-take-le}
use Rattle.buckets.specs.Bucket.{cycle_length}
use Rattle.cycle.specs.Tree.{Plan}
use Rattle.cycle.specs.Layouts.{Slot, slots}
use Rattle.cycle.specs.Cycle.{bucket_of, buckets_from, buckets, cycle_size}
use Rattle.cycle.specs.Inner.Held.{last_of, no_bucket, cycle_bucket}
use Rattle.cycle.proofs.Sequences.Sequence.{Keeps, data_count}
use Rattle.cycle.proofs.Segmenting.Positions.{get_d_buckets_from}
use Rattle.cycle.proofs.Sequences.LastSent.{last_behind}

pub bucket_at_lem :
    (t : Plan) → Keeps t → (before : List Slot) (x : Slot) (rest : List Slot) → slots t ≡ before ++ (x ∷ rest) →
    cycle_bucket t (length before) ≡ bucket_of t (length (slots t)) (length before) (last_of t (data_count t before)) x rest
unfolding cycle_bucket buckets
bucket_at_lem t keeps before x rest e =
    ap (λ s. get_or (buckets_from t (length (slots t)) 0 None s) (length before) no_bucket) e ∙
    (get_d_buckets_from t (length (slots t)) 0 None before x rest ∙
    rw (zero-add, last_behind t keeps before (x ∷ rest) e))

-- a place of the cycle, with the slot there
pub record Place (t : Plan) (x : ℕ) : Type 0 where
  pub before : List Slot
  pub slot : Slot
  pub rest : List Slot
  pub splits : slots t ≡ before ++ (slot ∷ rest)
  pub is : length before ≡ x

pub place_of : (t : Plan) (x : ℕ) → x < cycle_size t → Place t x
unfolding cycle_size
place_of t x h =
    let z : Slot = record { level = 0; place = 0; starts = false } in
    record {
      before = ListN.take x (slots t);
      slot = get_or (slots t) x z;
      rest = drop (suc x) (slots t);
      splits = split_at (slots t) x z h;
      is = length-take-le x (slots t) (omega arith);
    }

module _ (t : Plan) (keeps : Keeps t) where
  pub position_of : (x : ℕ) → x < cycle_size t → (cycle_bucket t x).position ≡ x
  unfolding bucket_of
  position_of x h =
      let p : Place t x = place_of t x h in
      ap (λ y. (cycle_bucket t y).position) (sym p.is) ∙
      (ap (λ b. b.position) (bucket_at_lem t keeps p.before p.slot p.rest p.splits) ∙ p.is)

  pub cycle_of : (x : ℕ) → x < cycle_size t → cycle_length (cycle_bucket t x) ≡ cycle_size t
  unfolding bucket_of cycle_length cycle_size
  cycle_of x h =
      let p : Place t x = place_of t x h in
      ap (λ y. cycle_length (cycle_bucket t y)) (sym p.is) ∙
      (ap cycle_length (bucket_at_lem t keeps p.before p.slot p.rest p.splits) ∙ omega (arith, p.is))
