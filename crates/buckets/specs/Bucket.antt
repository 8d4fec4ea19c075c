-- Document 01, "A bucket".
-- Assumes nothing.
use Rattle.std.specs.Prelude.{ℕ, ◌+◌, Bool, true, false, ◌&&◌, List, [], ◌∷◌, ◌++◌, map, leb, ltb, eqb, length, take, drop, get_or}
use Rattle.std.specs.Prelude.{Option, None, Some}
use Rattle.columns.specs.Lists.{pick, joined, every, parts, same, strict, padded}
use Rattle.columns.specs.PrintedNumbers.{print, blanks, value}
use Rattle.buckets.specs.declared.Line.{Line}
use Rattle.buckets.specs.declared.Pair.{Pair}
use Rattle.buckets.specs.declared.Entry.{Entry}
use Rattle.buckets.specs.ListLine.{tag_fits, fits, line_columns, spelled_columns}
use Rattle.buckets.specs.Lengths.{newline, letter_index, letter_data, tag_width, tag_start, line_columns_width, place_width}
use Rattle.buckets.specs.Lengths.{position_start, to_cycle_start, to_segment_start, follow_on_start, letter_column, count_width}
use Rattle.buckets.specs.Lengths.{pair_count_start, item_count_start, pairs_most, entries_most, bucket_lines_most, distance_start}
use Rattle.buckets.specs.Lengths.{entry_width, pairs_start, pairs_width, entries_start, entries_width, lines_start, lines_width}
use Rattle.buckets.specs.Lengths.{buckets_most}

-- what tells the two kinds of bucket apart: control pairs and entries, or follow-on and lines
pub data Body : Type 0 where
  index_body : List Pair → List Entry → Body
  data_body : ℕ → List Line → Body

-- a bucket; a distance is counted from it
pub record Bucket : Type 0 where
  pub position : ℕ
  pub to_cycle : ℕ
  pub to_segment : ℕ
  pub body : Body

-- "The position plus the second is N"
unfoldable pub cycle_length : Bucket → ℕ
cycle_length b = b.position + b.to_cycle

-- ---- printed

-- "The follow-on is 0 in an index bucket."
abbrev pub follow_on : Body → ℕ
follow_on (index_body ps es) = 0
follow_on (data_body f ls) = f

-- "Column 24: letter I (index) or D (data)."
abbrev pub letter : Body → ℕ
letter (index_body ps es) = letter_index
letter (data_body f ls) = letter_data

-- "25-26: number of control pairs"; a data bucket has "No control pairs"
abbrev pub pair_count : Body → ℕ
pair_count (index_body ps es) = length ps
pair_count (data_body f ls) = 0

-- "27-28: number of entries or of lines"
abbrev pub item_count : Body → ℕ
item_count (index_body ps es) = length es
item_count (data_body f ls) = length ls

-- "Columns 0-5: position in the cycle. 6-11: distance to the next cycle's start. 12-17: distance to the next index
-- segment's start. 18-23: follow-on." and columns 24 to 28: the head of these seven values
abbrev pub head_columns : (position to_cycle to_segment follow kind pairs items : ℕ) → List ℕ
head_columns position to_cycle to_segment follow kind pairs items =
    print place_width position ++
    (print place_width to_cycle ++
    (print place_width to_segment ++
    (print place_width follow ++
    (kind ∷
    (print count_width pairs ++ print count_width items)))))

unfoldable pub print_head : Bucket → List ℕ
print_head b =
    head_columns b.position b.to_cycle b.to_segment
    (follow_on b.body) (letter b.body) (pair_count b.body) (item_count b.body)

-- the tag columns of a pair, which may be blank
abbrev pub print_tag : Option ℕ → List ℕ
print_tag None = blanks tag_width
print_tag (Some t) = print tag_width t

-- "each a tag (10 ..) and a distance (6)"
unfoldable pub print_pair : Pair → List ℕ
print_pair p = print_tag p.tag ++ print place_width p.distance

unfoldable pub print_entry : Entry → List ℕ
print_entry e = print tag_width e.tag ++ print place_width e.distance

-- "Index: control pairs from column 29, entries from column 93" "Data: lines without newline, 26 columns each, from
-- column 29.", "unused columns blank"
abbrev pub print_body : Body → List ℕ
print_body (index_body ps es) = padded pairs_width (joined print_pair ps) ++ padded entries_width (joined print_entry es)
print_body (data_body f ls) = padded lines_width (joined line_columns ls)

-- "240 bytes, byte 239 a newline"
unfoldable pub print_bucket : Bucket → List ℕ
print_bucket b = print_head b ++ (print_body b.body ++ newline ∷ [])

-- ---- the rules

-- a distance, "counted from this bucket", is at least 1; document 02, C-12: the furthest it reaches is the next cycle's start,
-- c buckets on, "and no distance exceeds it"
unfoldable pub reaches : ℕ → ℕ → Bool
reaches c d = leb 1 d && leb d c

-- a printed tag is in range; a blank one has none
abbrev pub pair_tag_fits : Option ℕ → Bool
pair_tag_fits None = true
pair_tag_fits (Some t) = tag_fits t

abbrev pub printed_tag : Option ℕ → Bool
printed_tag None = false
printed_tag (Some t) = true

unfoldable pub pair_fits : ℕ → Pair → Bool
pair_fits c p = pair_tag_fits p.tag && reaches c p.distance

unfoldable pub entry_fits : ℕ → Entry → Bool
entry_fits c e = tag_fits e.tag && reaches c e.distance

-- "Only one field may be blank: the tag of an index bucket's first control pair."
abbrev pub later_printed : List Pair → Bool
later_printed [] = true
later_printed (p ∷ ps) = every (λ q. printed_tag q.tag) ps

-- "Entry tags never fall." "Tags never fall.": from m on
abbrev pub rising : ℕ → List ℕ → Bool
rising m [] = true
rising m (t ∷ ts) = leb m t && rising t ts

-- "number of control pairs, 0 to 4", "number of entries (0 to 8) or of lines (1 to 8)", and the rules for each; the
-- follow-on "is below the distance to the next cycle" (c)
abbrev pub body_good : ℕ → Body → Bool
body_good c (index_body ps es) =
    leb (length ps) pairs_most &&
    (leb (length es) entries_most &&
    (every (pair_fits c) ps &&
    (later_printed ps &&
    (every (entry_fits c) es && rising 0 (map (λ e. e.tag) es)))))
body_good c (data_body f ls) =
    leb 1 (length ls) &&
    (leb (length ls) bucket_lines_most &&
    (every fits ls &&
    (rising 0 (map (λ l. l.tag) ls) && ltb f c)))

-- "N, at most 99,999"; the distance to the next cycle's start is 1 to N, and that to the next segment's start reaches it at most
unfoldable pub good : Bucket → Bool
good b =
    leb (cycle_length b) buckets_most &&
    (leb 1 b.to_cycle &&
    (reaches b.to_cycle b.to_segment && body_good b.to_cycle b.body))

-- ---- read

-- the columns of s from place k on, w of them
unfoldable pub columns : ℕ → ℕ → List ℕ → List ℕ
columns k w s = take w (drop k s)

-- the number that those columns spell
unfoldable pub field : ℕ → ℕ → List ℕ → ℕ
field k w s = value 0 (columns k w s)

unfoldable pub spelled_pair : List ℕ → Pair
spelled_pair s =
    record {
      tag = pick (same (take tag_width s) (blanks tag_width)) None (Some (field tag_start tag_width s));
      distance = field distance_start place_width s;
    }

unfoldable pub spelled_entry : List ℕ → Entry
spelled_entry s = record { tag = field tag_start tag_width s; distance = field distance_start place_width s }

-- a line of a data bucket
abbrev pub spelled_line : List ℕ → Line
spelled_line s = spelled_columns s

-- what stands behind the head, by the letter
unfoldable pub spelled_body : List ℕ → Body
spelled_body s =
    pick (eqb (get_or s letter_column 0) letter_index)
    (index_body
    (map spelled_pair (parts (field pair_count_start count_width s) entry_width (columns pairs_start pairs_width s)))
    (map spelled_entry (parts (field item_count_start count_width s) entry_width (columns entries_start entries_width s))))
    (data_body (field follow_on_start place_width s)
    (map spelled_line (parts (field item_count_start count_width s) line_columns_width (columns lines_start lines_width s))))

unfoldable pub spelled_bucket : List ℕ → Bucket
spelled_bucket s =
    record {
      position = field position_start place_width s;
      to_cycle = field to_cycle_start place_width s;
      to_segment = field to_segment_start place_width s;
      body = spelled_body s;
    }

-- "A single bucket is misprinted exactly if it breaks a rule of this section or of "Printed numbers" that its own 240
-- bytes can show": none where it is misprinted, also where it is not 240 bytes
unfoldable pub read_bucket : List ℕ → Option Bucket
read_bucket s = strict spelled_bucket good print_bucket s
