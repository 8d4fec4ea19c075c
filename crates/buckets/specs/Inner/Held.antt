-- How the code holds what "A bucket" describes: its structs and enums against those definitions.
-- Assumes nothing.
use Rattle.std.specs.Prelude.{◌≡◌, ℕ, ◌+◌, ◌*◌, ◌<◌, List, [], ◌++◌, map, length, take, drop}
use Rattle.std.specs.Prelude.{Some}
use Rattle.arrayvec.specs.ArrayVec.{ArrayVec}
use Rattle.columns.specs.Lists.{joined, padded}
use Rattle.columns.specs.PrintedNumbers.{blanks}
use Rattle.buckets.specs.declared.Line.{Line}
use Rattle.buckets.specs.declared.Head.{Head}
use Rattle.buckets.specs.declared.Kind.{Kind}
use Rattle.buckets.specs.declared.Kind.TheVariants as KindVariants
use Rattle.buckets.specs.declared.Frame.{Frame}
use Rattle.buckets.specs.declared.Pair.{Pair}
use Rattle.buckets.specs.declared.Entry.{Entry}
use Rattle.buckets.specs.declared.Items.{Items}
use Rattle.buckets.specs.Bucket.{Body, index_body, data_body, Bucket, head_columns, print_pair}
use Rattle.buckets.specs.Lengths.{letter_index, place_width, distance_start, entry_width, pairs_width, entries_start, entries_most}

abbrev pub printed_pair : Entry → Pair
printed_pair e = record { tag = Some e.tag; distance = e.distance }

unfoldable pub bucket_with : Head → Body → Bucket
bucket_with h b = record { position = h.position; to_cycle = h.to_cycle; to_segment = h.to_segment; body = b }

unfoldable pub head_of : Bucket → Head
head_of b = record { position = b.position; to_cycle = b.to_cycle; to_segment = b.to_segment }

-- ---- a bucket that was read

-- what it holds behind its head, the items in vectors
pub data Contents : Type 0 where
  Index : ArrayVec Pair → ArrayVec Entry → Contents
  Data : ℕ → ArrayVec ℕ → Contents

pub record Reading : Type 0 where
  pub head : Head
  pub contents : Contents

abbrev pub vector : {A : Type 0} → List A → ArrayVec A
vector xs = record { items = xs }

-- lines by their tags
abbrev pub tags_held : List Line → ArrayVec ℕ
tags_held ls = vector (map (λ l. l.tag) ls)

abbrev pub contents_of : Body → Contents
contents_of (index_body ps es) = Index (vector ps) (vector es)
contents_of (data_body f ls) = Data f (tags_held ls)

unfoldable pub reading_of : Bucket → Reading
reading_of b = record { head = head_of b; contents = contents_of b.body }

abbrev pub frame : Head → Kind → Frame
frame h k = record { head = h; kind = k }

-- none of any kind
abbrev pub no_items : Items
no_items = record { pairs = vector []; entries = vector []; tags = vector [] }

-- the reading whose items stand in those that were lent
abbrev pub contents_with : Items → Kind → Contents
contents_with items KindVariants.Index = Index items.pairs items.entries
contents_with items (KindVariants.Data f) = Data f items.tags

unfoldable pub reading_with : Items → Frame → Reading
reading_with items f = record { head = f.head; contents = contents_with items f.kind }

-- ---- an index bucket while it is written

-- the columns before its entries, of which there are `count`
unfoldable pub index_front : Head → List Pair → ℕ → List ℕ
index_front h ps count =
    head_columns h.position h.to_cycle h.to_segment 0 letter_index (length ps) count
    ++ padded pairs_width (joined print_pair ps)

-- the column where entry i starts
abbrev pub entry_start : ℕ → ℕ
entry_start i = entries_start + i * entry_width

-- the columns of its distance are blank
abbrev pub EntryBlank : List ℕ → ℕ → Type 0
EntryBlank bucket i = take place_width (drop (entry_start i + distance_start) bucket) ≡ blanks place_width

-- those of all of them
abbrev pub EntriesBlank : List ℕ → Type 0
EntriesBlank bucket = (i : ℕ) → i < entries_most → EntryBlank bucket i
