-- The image of an accepted plan: its length, and each bucket reads strictly as itself.
-- Assumes nothing.
use mathlib.Core.Path.{◌≡◌, refl, ap, ◌∙◌}
use Prim.Native.Nat.{ℕ, suc, ◌*◌, ◌≤◌, ◌<◌}
use native.Mathlib.Nat.{mul_comm}
use native.Mathlib.Omega.{arith}
use mathlib.Core.Bool.{Bool, true}
use Rattle.std.specs.Prelude.{Some}
use mathlib.Core.List.{List, [], ◌∷◌, append-nil}
use lib.ListN
use lib.ListN.{length, drop, get_or}
use Rattle.columns.specs.Lists.{joined, every}
use Rattle.columns.proofs.Joined.{length_joined_if, joined_at_if}
use Rattle.buckets.specs.Bucket.{Bucket, print_bucket, good, read_bucket, cycle_length}
use Rattle.buckets.specs.Lengths.{bucket_length, buckets_most}
use Rattle.buckets.proofs.Buckets.{length_print_bucket, read_of_print_bucket}
use Rattle.cycle.specs.Tree.{Plan}
use Rattle.cycle.specs.Cycle.{buckets, cycle_size, image}
use Rattle.cycle.specs.Inner.Held.{no_bucket, cycle_bucket}
use Rattle.cycle.proofs.Segmenting.Positions.{length_buckets}
use Rattle.cycle.proofs.Segmenting.BucketAt.{position_of, cycle_of}
use Rattle.cycle.proofs.Building.Accepted.{Accepted, laid}
use Rattle.cycle.proofs.Buckets.BuiltGood.{built_good}

-- what passes at each place passes everywhere
pub every_by_place :
    {A : Type 0} (f : A → Bool) (z : A) (xs : List A) → ((i : ℕ) → i < length xs → f (get_or xs i z) ≡ true) → every f xs ≡ true
every_by_place f z [] h = refl
every_by_place f z (x ∷ xs) h = rw (h 0 (omega arith)) (every_by_place f z xs (λ i l. h (suc i) (omega arith)))

module _ (t : Plan) (a : Accepted t) (short : cycle_size t ≤ buckets_most) where
  pub all_good : every good (buckets t) ≡ true
  unfolding cycle_bucket
  all_good = every_by_place good no_bucket (buckets t) (λ i l. built_good t a short i (rw length_buckets at l))

  pub read_bucket_lem : (x : ℕ) → x < cycle_size t → read_bucket (print_bucket (cycle_bucket t x)) ≡ Some (cycle_bucket t x)
  read_bucket_lem x h = read_of_print_bucket (cycle_bucket t x) (built_good t a short x h)

  pub length_image : length (image t) ≡ bucket_length * cycle_size t
  unfolding image
  length_image =
      length_joined_if print_bucket good bucket_length length_print_bucket (buckets t) all_good
      ∙ (ap (λ c. c * bucket_length) (length_buckets t) ∙ mul_comm (cycle_size t) bucket_length)

  pub image_bucket : (x : ℕ) → x < cycle_size t → ListN.take bucket_length (drop (bucket_length * x) (image t)) ≡ print_bucket (cycle_bucket t x)
  unfolding image cycle_bucket
  image_bucket x h =
      rw (mul_comm bucket_length x, ← append-nil (joined print_bucket (buckets t)))
      (joined_at_if print_bucket good bucket_length length_print_bucket no_bucket (buckets t) [] x all_good (rw length_buckets h))

  pub image_reads : (x : ℕ) → x < cycle_size t → read_bucket (ListN.take bucket_length (drop (bucket_length * x) (image t))) ≡ Some (cycle_bucket t x)
  image_reads x h = rw (image_bucket x h) (read_bucket_lem x h)

-- ---- what building wrote

-- image is a cycle of n buckets, and reads as bk
pub record CycleOf (bytes : List ℕ) (n : ℕ) (bk : ℕ → Bucket) : Type 0 where
  pub small : n ≤ buckets_most
  pub long : length bytes ≡ bucket_length * n
  pub part : (x : ℕ) → x < n → ListN.take bucket_length (drop (bucket_length * x) bytes) ≡ print_bucket (bk x)
  pub read : (x : ℕ) → x < n → read_bucket (ListN.take bucket_length (drop (bucket_length * x) bytes)) ≡ Some (bk x)
  pub position_is : (x : ℕ) → x < n → (bk x).position ≡ x
  pub cycle_is : (x : ℕ) → x < n → cycle_length (bk x) ≡ n

pub cycle_of_plan : (t : Plan) → Accepted t → cycle_size t ≤ buckets_most → CycleOf (image t) (cycle_size t) (cycle_bucket t)
cycle_of_plan t a short =
    record {
      small = short;
      long = length_image t a short;
      part = image_bucket t a short;
      read = image_reads t a short;
      position_is = position_of t (laid t a).keeps;
      cycle_is = cycle_of t (laid t a).keeps;
    }
