-- A bucket that was read as `read_bucket` hands it back: its items in arrays, with their number.
-- Assumes nothing.
use Rattle.std.specs.Prelude.{ℕ, ◌-◌, List, ◌++◌, length, replicate, None}
use Rattle.buckets.specs.declared.Pair.{Pair}
use Rattle.buckets.specs.declared.Entry.{Entry}
use Rattle.buckets.specs.declared.ControlPairs.{ControlPairs}
use Rattle.buckets.specs.declared.IndexEntries.{IndexEntries}
use Rattle.buckets.specs.declared.LineTags.{LineTags}
use Rattle.buckets.specs.declared.Contents.{Contents}
use Rattle.buckets.specs.declared.Contents.TheVariants.{Index, Data}
use Rattle.buckets.specs.declared.Reading.{Reading}
use Rattle.buckets.specs.Bucket.{Bucket}
use Rattle.buckets.specs.Inner.Held as Held
use Rattle.buckets.specs.Inner.Held.{reading_of}
use Rattle.buckets.specs.Lengths.{pairs_most, entries_most, bucket_lines_most}

-- xs in an array of w, x in the unused places
unfoldable pub filled : {A : Type 0} → ℕ → A → List A → List A
filled w x xs = xs ++ replicate (w - length xs) x

unfoldable pub pairs_in : List Pair → ControlPairs
pairs_in ps = record { items = filled pairs_most (record { tag = None; distance = 1 }) ps; count = length ps }

unfoldable pub entries_in : List Entry → IndexEntries
entries_in es = record { items = filled entries_most (record { tag = 0; distance = 0 }) es; count = length es }

unfoldable pub tags_in : List ℕ → LineTags
tags_in ts = record { items = filled bucket_lines_most 0 ts; count = length ts }

abbrev pub contents_in : Held.Contents → Contents
contents_in (Held.Index ps es) = Index (pairs_in ps.items) (entries_in es.items)
contents_in (Held.Data f ts) = Data f (tags_in ts.items)

unfoldable pub in_arrays : Held.Reading → Reading
in_arrays r = record { head = r.head; contents = contents_in r.contents }

-- a strict reading of a bucket as the code answers it
unfoldable pub held_reading : Bucket → Reading
held_reading b = in_arrays (reading_of b)
