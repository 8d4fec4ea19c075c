-- A bucket's head and body make it again.
-- Assumes nothing.
use mathlib.Core.Path.{◌≡◌, refl}
use Rattle.buckets.specs.Bucket.{Bucket}
use Rattle.buckets.specs.Inner.Held.{bucket_with, head_of}

pub bucket_whole : (b : Bucket) → bucket_with (head_of b) b.body ≡ b
unfolding head_of bucket_with
bucket_whole b = refl
