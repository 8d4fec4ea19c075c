-- Document 01, "The tree", with document 02, C-12: the control pairs, and each bucket of the cycle with its distances; the
-- cycle as bytes.
-- Assumes nothing.
use Rattle.std.specs.Prelude.{ℕ, suc, ◌+◌, ◌-◌, ◌*◌, Bool, ◌&&◌, List, [], ◌∷◌, map, leb, eqb, length, take, drop}
use Rattle.std.specs.Prelude.{Option, None, Some}
use Rattle.columns.specs.Lists.{pick, joined, range}
use Rattle.buckets.specs.declared.Line.{Line}
use Rattle.buckets.specs.Lengths.{bucket_length}
use Rattle.buckets.specs.declared.Pair.{Pair}
use Rattle.buckets.specs.declared.Entry.{Entry}
use Rattle.buckets.specs.Bucket.{Body, index_body, data_body, Bucket, print_bucket}
use Rattle.buckets.specs.BucketLines.{body_lines}
use Rattle.cycle.specs.Tree.{Plan, children, above, lines_of, first_tag, last_tag, largest_tag}
use Rattle.cycle.specs.Layouts.{Slot, slots}

-- The distance to the first bucket of a cycle's rest that passes f. Where none does, it is the distance to the next cycle's
-- start, which comes behind the last of them.
abbrev pub distance_to : (Slot → Bool) → List Slot → ℕ
distance_to f [] = 1
distance_to f (x ∷ xs) = pick (f x) 1 (suc (distance_to f xs))

-- an occurrence of bucket j of level i
unfoldable pub occurs : ℕ → ℕ → Slot → Bool
occurs i j x = eqb x.level i && eqb x.place j

-- A pair or entry distance reaches the next occurrence in this cycle. Document 02, C-12: "every pair or entry distance that
-- would pass into the coming cycle becomes the distance to that cycle's start": rest is the rest of this cycle.
unfoldable pub to_next : List Slot → ℕ → ℕ → ℕ
to_next rest i j = distance_to (occurs i j) rest

-- "distance to the next index segment's start", which the next cycle's start is too
unfoldable pub to_next_segment : List Slot → ℕ
to_next_segment rest = distance_to (λ x. x.starts) rest

unfoldable pub is_data : Plan → Slot → Bool
is_data t x = eqb x.level (t.k + 1)

-- "Control pairs stand in path buckets of layout 1 and in each root of layout 2, nowhere else."
unfoldable pub has_pairs : Plan → Slot → Bool
has_pairs t x = pick (eqb t.layout 1) (leb x.level t.copies) (eqb x.level 1)

-- "The first: the tag of the last line sent earlier in this cycle (blank if none), and the distance to the next cycle."
unfoldable pub first_pair : Option ℕ → ℕ → Pair
first_pair last to_cycle = record { tag = last; distance = to_cycle }

-- "its pair j, from 2 to i, has the largest tag under the path's level j bucket, and the distance to the next occurrence
-- of the level j - 1 bucket"
unfoldable pub later_pair : Plan → List Slot → Slot → ℕ → Pair
later_pair t rest x j =
    record {
      tag = Some (largest_tag t j (above t.n (x.level - j) x.place));
      distance = to_next rest (j - 1) (above t.n (x.level - (j - 1)) x.place);
    }

-- "A path bucket on level i has i pairs"
unfoldable pub pairs : Plan → List Slot → Option ℕ → ℕ → Slot → List Pair
pairs t rest last to_cycle x =
    pick (has_pairs t x) (first_pair last to_cycle ∷ map (later_pair t rest x) (range 2 (x.level + 1))) []

-- "Every entry holds the largest tag below it."
unfoldable pub entry : Plan → List Slot → ℕ → ℕ → Entry
entry t rest i j = record { tag = largest_tag t i j; distance = to_next rest i j }

unfoldable pub entries : Plan → List Slot → Slot → List Entry
entries t rest x = map (entry t rest (x.level + 1)) (children t x.level x.place)

-- "In a data bucket it is the distance to the next data bucket of this cycle if that one's first tag equals this one's
-- last, else 0": rest is the rest of this cycle, and d the distance to its first bucket
abbrev pub follow_on_from : Plan → ℕ → ℕ → List Slot → ℕ
follow_on_from t last d [] = 0
follow_on_from t last d (x ∷ xs) =
    pick (is_data t x) (pick (eqb (first_tag t x.place) last) d 0) (follow_on_from t last (suc d) xs)

-- bucket x of a cycle: the distance to the next cycle's start, the tag of the last line sent before it, the rest of the cycle
unfoldable pub body_of : Plan → ℕ → Option ℕ → Slot → List Slot → Body
body_of t to_cycle last x rest =
    pick (is_data t x)
    (data_body (follow_on_from t (last_tag t x.place) 1 rest) (lines_of t x.place))
    (index_body (pairs t rest last to_cycle x) (entries t rest x))

-- "The position plus the second is N" (size)
unfoldable pub bucket_of : Plan → ℕ → ℕ → Option ℕ → Slot → List Slot → Bucket
bucket_of t size position last x rest =
    record {
      position = position;
      to_cycle = size - position;
      to_segment = to_next_segment rest;
      body = body_of t (size - position) last x rest;
    }

-- the tag of the last line sent, behind bucket x
unfoldable pub last_sent : Plan → Slot → Option ℕ → Option ℕ
last_sent t x last = pick (is_data t x) (Some (last_tag t x.place)) last

-- the buckets from a position on
abbrev pub buckets_from : Plan → ℕ → ℕ → Option ℕ → List Slot → List Bucket
buckets_from t size position last [] = []
buckets_from t size position last (x ∷ rest) =
    bucket_of t size position last x rest ∷ buckets_from t size (suc position) (last_sent t x last) rest

-- the cycle
unfoldable pub buckets : Plan → List Bucket
buckets t = buckets_from t (length (slots t)) 0 None (slots t)

-- the first position of bucket j of level i in the cycle
unfoldable pub first_place : Plan → ℕ → ℕ → ℕ
first_place t i j = distance_to (occurs i j) (slots t) - 1

-- N
unfoldable pub cycle_size : Plan → ℕ
cycle_size t = length (slots t)

-- the bytes of the cycle, 240 for each bucket
abbrev pub image_length : Plan → ℕ
image_length t = bucket_length * cycle_size t

-- the cycle as bytes
unfoldable pub image : Plan → List ℕ
image t = joined print_bucket (buckets t)

-- bucket x of an image
unfoldable pub bucket_at : List ℕ → ℕ → List ℕ
bucket_at image x = take bucket_length (drop (bucket_length * x) image)

-- the lines that a bucket carries: those of a data bucket
abbrev pub carried : Bucket → List Line
carried b = body_lines b.body
