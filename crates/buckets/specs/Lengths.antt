-- Document 01, "A list line" and "A bucket": every length, column start and range, each named once. The code has the same as
-- constants of `Line` and `Bucket`.
-- Assumes nothing.
use Rattle.std.specs.Prelude.{ℕ, ◌+◌, ◌-◌, ◌*◌}

-- ---- the bytes of columns

-- "newline (byte 10)"
abbrev pub newline : ℕ
newline = 10

-- "letter I (index) or D (data)"
abbrev pub letter_index : ℕ
letter_index = 73

abbrev pub letter_data : ℕ
letter_data = 68

-- ---- "A list line": "tag (10 columns), tare in kg (6), material code (4), weighing number (6), newline"

abbrev pub tag_width : ℕ
tag_width = 10

abbrev pub tare_width : ℕ
tare_width = 6

abbrev pub code_width : ℕ
code_width = 4

abbrev pub weighing_width : ℕ
weighing_width = 6

-- where each number starts
abbrev pub tag_start : ℕ
tag_start = 0

abbrev pub tare_start : ℕ
tare_start = tag_start + tag_width

abbrev pub code_start : ℕ
code_start = tare_start + tare_width

abbrev pub weighing_start : ℕ
weighing_start = code_start + code_width

-- a line without its newline
abbrev pub line_columns_width : ℕ
line_columns_width = weighing_start + weighing_width

-- the columns behind the tag
abbrev pub rest_width : ℕ
rest_width = line_columns_width - tare_start

-- "27 bytes"
abbrev pub line_length : ℕ
line_length = line_columns_width + 1

-- "tag 0 to 4,294,967,295", "tare in kg 0 to 99,999", "material code 0 to 9,999", "weighing number 0 to 999,999"
abbrev pub tag_most : ℕ
tag_most = 4294967295

abbrev pub tare_most : ℕ
tare_most = 99999

abbrev pub code_most : ℕ
code_most = 9999

abbrev pub weighing_most : ℕ
weighing_most = 999999

-- "At most 40,000 lines"
abbrev pub lines_most : ℕ
lines_most = 40000

-- ---- "A bucket"

-- "Columns 0-5: position in the cycle. 6-11: distance to the next cycle's start. 12-17: distance to the next index segment's
-- start. 18-23: follow-on."
abbrev pub place_width : ℕ
place_width = 6

abbrev pub position_start : ℕ
position_start = 0

abbrev pub to_cycle_start : ℕ
to_cycle_start = position_start + place_width

abbrev pub to_segment_start : ℕ
to_segment_start = to_cycle_start + place_width

abbrev pub follow_on_start : ℕ
follow_on_start = to_segment_start + place_width

-- "Column 24: letter", "25-26: number of control pairs", "27-28: number of entries or of lines"
abbrev pub letter_column : ℕ
letter_column = follow_on_start + place_width

abbrev pub count_width : ℕ
count_width = 2

abbrev pub pair_count_start : ℕ
pair_count_start = letter_column + 1

abbrev pub item_count_start : ℕ
item_count_start = pair_count_start + count_width

-- the columns before pairs or lines
abbrev pub head_width : ℕ
head_width = item_count_start + count_width

-- the last digit of the number of entries or of lines
abbrev pub item_digit_column : ℕ
item_digit_column = head_width - 1

-- "number of control pairs, 0 to 4", "number of entries (0 to 8) or of lines (1 to 8)"
abbrev pub pairs_most : ℕ
pairs_most = 4

abbrev pub entries_most : ℕ
entries_most = 8

abbrev pub bucket_lines_most : ℕ
bucket_lines_most = 8

-- "each a tag (10, range as in a list line) and a distance (6)"
abbrev pub distance_start : ℕ
distance_start = tag_start + tag_width

abbrev pub entry_width : ℕ
entry_width = distance_start + place_width

-- "240 bytes, byte 239 a newline"
abbrev pub bucket_end : ℕ
bucket_end = 239

abbrev pub bucket_length : ℕ
bucket_length = bucket_end + 1

-- what stands between head and newline
abbrev pub body_width : ℕ
body_width = bucket_end - head_width

-- "Index: control pairs from column 29, entries from column 93"
abbrev pub pairs_start : ℕ
pairs_start = head_width

abbrev pub pairs_width : ℕ
pairs_width = pairs_most * entry_width

abbrev pub entries_start : ℕ
entries_start = pairs_start + pairs_width

abbrev pub entries_width : ℕ
entries_width = bucket_end - entries_start

-- "Data: lines without newline, 26 columns each, from column 29."
abbrev pub lines_start : ℕ
lines_start = head_width

abbrev pub lines_width : ℕ
lines_width = bucket_end - lines_start

-- "N, at most 99,999"
abbrev pub buckets_most : ℕ
buckets_most = 99999
