-- Lines and buckets read field by field, each column once: what each function of the reader answers. That this is the strict
-- reading of `ListLine` and `Bucket` is a law.
-- Assumes nothing.
use Rattle.std.specs.Prelude.{ℕ, zero, suc, ◌-◌, ◌*◌, ◌≡◌, ◌&&◌, List, [], ◌∷◌, ◌++◌, leb, eqb, length, take, drop, get_or}
use Rattle.std.specs.Prelude.{Option, None, Some}
use Rattle.std.specs.Option.{option_map}
use Rattle.columns.specs.Lists.{pick, joined, strict}
use Rattle.columns.specs.PrintedNumbers.{all_blank, read_number, blank_zeros}
use Rattle.columns.specs.declared.Place.{Place}
use Rattle.columns.specs.Inner.Places.{places}
use Rattle.buckets.specs.declared.Line.{Line}
use Rattle.buckets.specs.declared.Head.{Head}
use Rattle.buckets.specs.ListLine.{fits, print_line, spelled, line_fields, list_lines}
use Rattle.buckets.specs.declared.Pair.{Pair}
use Rattle.buckets.specs.declared.Entry.{Entry}
use Rattle.buckets.specs.Bucket.{index_body, data_body, Bucket, columns}
use Rattle.buckets.specs.Inner.Held.{printed_pair, bucket_with}
use Rattle.buckets.specs.Lengths.{newline, letter_index, letter_data, tag_width, tare_width, code_width, weighing_width}
use Rattle.buckets.specs.Lengths.{tag_start, tare_start, code_start, weighing_start, line_columns_width, tag_most, tare_most}
use Rattle.buckets.specs.Lengths.{code_most, weighing_most, place_width, position_start, to_cycle_start, to_segment_start}
use Rattle.buckets.specs.Lengths.{follow_on_start, letter_column, count_width, pair_count_start, item_count_start, pairs_most}
use Rattle.buckets.specs.Lengths.{entries_most, bucket_lines_most, distance_start, entry_width, bucket_end, bucket_length}
use Rattle.buckets.specs.Lengths.{pairs_start, pairs_width, entries_start, entries_width, lines_start, lines_width, buckets_most}

-- a reading that goes on with what the one before it found
abbrev pub and_then : {A B : Type 0} → Option A → (A → Option B) → Option B
and_then None k = None
and_then (Some a) k = k a

-- a number from low to high
unfoldable pub number_within : ℕ → ℕ → List ℕ → Option ℕ
number_within low high s = and_then (read_number s) (λ x. pick (leb low x && leb x high) (Some x) None)

-- a line's columns, its tag at least m
unfoldable pub read_line_columns : ℕ → List ℕ → Option Line
read_line_columns m s =
    and_then (number_within m tag_most (columns tag_start tag_width s))
    (λ t.
    and_then (number_within 0 tare_most (columns tare_start tare_width s))
    (λ k.
    and_then (number_within 0 code_most (columns code_start code_width s))
    (λ c.
    and_then (number_within 0 weighing_most (columns weighing_start weighing_width s))
    (λ w. Some (record { tag = t; tare = k; code = c; weighing = w })))))

-- its tag alone
abbrev pub read_line_tag : ℕ → List ℕ → Option ℕ
read_line_tag m s = option_map (λ l. l.tag) (read_line_columns m s)

-- a list line without leading zeros, read as a bucket's are
unfoldable pub read_plain : List ℕ → Option Line
read_plain s = strict spelled fits print_line s

-- a list whose lines all are so: it is the print of its numbers
abbrev pub PlainList : List ℕ → Type 0
PlainList s = s ≡ joined print_line (list_lines s)

-- a line's columns with the leading zeros of its four fields made blank
abbrev pub blanked_columns : List ℕ → List ℕ
blanked_columns s = joined blank_zeros (line_fields s)

-- the places of the columns behind a line's tag in their fields: tare, material code and weighing number
abbrev pub rest_places : List Place
rest_places = places (tare_width - 2) ++ (places (code_width - 2) ++ places (weighing_width - 2))

-- those of all its columns
abbrev pub line_places : List Place
line_places = places (tag_width - 2) ++ rest_places

-- an entry's columns, its tag at least m, its distance at most n
unfoldable pub read_entry : ℕ → ℕ → List ℕ → Option Entry
read_entry n m s =
    and_then (number_within m tag_most (columns tag_start tag_width s))
    (λ t. and_then (number_within 1 n (columns distance_start place_width s)) (λ d. Some (record { tag = t; distance = d })))

-- a pair whose tag is blank
unfoldable pub read_blank_pair : ℕ → List ℕ → Option Pair
read_blank_pair n s =
    and_then (number_within 1 n (columns distance_start place_width s)) (λ d. Some (record { tag = None; distance = d }))

-- a pair whose tag is printed
unfoldable pub read_printed_pair : ℕ → List ℕ → Option Pair
read_printed_pair n s = and_then (read_entry n 0 s) (λ e. Some (printed_pair e))

-- pair i: only the first one's tag may be blank
unfoldable pub read_pair : ℕ → ℕ → List ℕ → Option Pair
read_pair n i s = pick (eqb i 0 && all_blank (columns tag_start tag_width s)) (read_blank_pair n s) (read_printed_pair n s)

-- c items in w columns each, one behind the other; an item is read by what those before it leave (next), at first m
abbrev pub read_run : {A : Type 0} → (ℕ → List ℕ → Option A) → (ℕ → A → ℕ) → ℕ → ℕ → ℕ → List ℕ → Option (List A)
read_run read next w m zero s = Some []
read_run read next w m (suc c) s =
    and_then (read m (take w s)) (λ a. and_then (read_run read next w (next m a) c (drop w s)) (λ xs. Some (a ∷ xs)))

-- the same, with the unused columns behind them blank
unfoldable pub read_items : {A : Type 0} → (ℕ → List ℕ → Option A) → (ℕ → A → ℕ) → ℕ → ℕ → List ℕ → Option (List A)
read_items read next w c s = pick (all_blank (drop (c * w) s)) (read_run read next w 0 c s) None

unfoldable pub read_pairs : ℕ → ℕ → List ℕ → Option (List Pair)
read_pairs n c s = read_items (read_pair n) (λ i p. suc i) entry_width c s

unfoldable pub read_entries : ℕ → ℕ → List ℕ → Option (List Entry)
read_entries n c s = read_items (read_entry n) (λ m e. e.tag) entry_width c s

unfoldable pub read_lines : ℕ → List ℕ → Option (List Line)
read_lines c s = read_items read_line_columns (λ m l. l.tag) line_columns_width c s

unfoldable pub read_head : List ℕ → Option Head
read_head s =
    and_then (number_within 0 buckets_most (columns position_start place_width s))
    (λ p.
    and_then (number_within 1 (buckets_most - p) (columns to_cycle_start place_width s))
    (λ c.
    and_then (number_within 1 c (columns to_segment_start place_width s))
    (λ g. Some (record { position = p; to_cycle = c; to_segment = g }))))

-- behind the head h of an index bucket s
unfoldable pub read_index : Head → List ℕ → Option Bucket
read_index h s =
    and_then (number_within 0 0 (columns follow_on_start place_width s))
    (λ f.
    and_then (number_within 0 pairs_most (columns pair_count_start count_width s))
    (λ k.
    and_then (number_within 0 entries_most (columns item_count_start count_width s))
    (λ c.
    and_then (read_pairs h.to_cycle k (columns pairs_start pairs_width s))
    (λ ps.
    and_then (read_entries h.to_cycle c (columns entries_start entries_width s))
    (λ es. Some (bucket_with h (index_body ps es)))))))

-- behind the head h of a data bucket s
unfoldable pub read_data : Head → List ℕ → Option Bucket
read_data h s =
    and_then (number_within 0 (h.to_cycle - 1) (columns follow_on_start place_width s))
    (λ f.
    and_then (number_within 0 0 (columns pair_count_start count_width s))
    (λ k.
    and_then (number_within 1 bucket_lines_most (columns item_count_start count_width s))
    (λ c. and_then (read_lines c (columns lines_start lines_width s)) (λ ls. Some (bucket_with h (data_body f ls))))))

-- behind the head, by the letter
unfoldable pub read_by_letter : ℕ → Head → List ℕ → Option Bucket
read_by_letter x h s = pick (eqb x letter_index) (read_index h s) (pick (eqb x letter_data) (read_data h s) None)

unfoldable pub read_fields : List ℕ → Option Bucket
read_fields s =
    pick (eqb (length s) bucket_length && eqb (get_or s bucket_end 0) newline)
    (and_then (read_head s) (λ h. read_by_letter (get_or s letter_column 0) h s))
    None
