-- A bucket read field by field is the bucket read strictly.
-- Assumes nothing.
use Prim.Native.Nat.{ℕ, ◌+◌, ◌-◌, ◌<◌, ◌≤◌}
use mathlib.Core.Path.{◌≡◌, refl, sym, ap, ap₂, ◌∙◌}
use mathlib.Core.Bool.{Bool, true, false, ◌&&◌}
use Rattle.std.specs.Prelude.{Option, None, Some}
use mathlib.Core.List.{List, [], ◌∷◌, ◌++◌, map, append_assoc}
use native.Mathlib.Omega.{arith}
use lib.Dec.{eqb}
use lib.ListN.{length, get_or, length-append}
use lib.Seq.{take_at, get_or_at}
use borrow.Author.Tests.{eqb-true}
use Rattle.columns.specs.Lists.{pick, every, joined, padded}
use Rattle.columns.specs.PrintedNumbers.{print}
use Rattle.columns.proofs.Strict.{both}
use Rattle.buckets.specs.declared.Line.{Line}
use Rattle.buckets.specs.declared.Head.{Head}
use Rattle.buckets.specs.ListLine.{fits, line_columns}
use Rattle.buckets.specs.declared.Pair.{Pair}
use Rattle.buckets.specs.declared.Entry.{Entry}
use Rattle.buckets.specs.Bucket.{Body, index_body, data_body, Bucket, follow_on, letter, pair_count, item_count, print_head, print_pair, print_entry, print_body, print_bucket, pair_fits, entry_fits, later_printed, rising, good, columns, read_bucket}
use Rattle.buckets.specs.Inner.Held.{bucket_with, head_of}
use Rattle.buckets.specs.Inner.Columns.{number_within, read_pairs, read_entries, read_lines, read_head, read_index, read_data, read_by_letter, read_fields}
use Rattle.buckets.specs.Lengths.{newline, letter_index, letter_data, place_width, position_start, to_cycle_start}
use Rattle.buckets.specs.Lengths.{to_segment_start, follow_on_start, letter_column, count_width, pair_count_start, item_count_start}
use Rattle.buckets.specs.Lengths.{head_width, pairs_most, entries_most, bucket_lines_most, bucket_end, bucket_length, pairs_start}
use Rattle.buckets.specs.Lengths.{pairs_width, entries_start, entries_width, lines_start, lines_width, body_width, buckets_most}
use Rattle.buckets.proofs.Good.{Reaches, GoodIndex, GoodData, GoodBody, Good, bucket_good, good_bucket}
use Rattle.buckets.proofs.Buckets.{length_pairs, length_entries, length_lines, length_print_head, length_print_body, room, first_part, second_part, length_print_bucket, read_of_print_bucket, print_of_read_bucket}
use Rattle.buckets.proofs.Chained.{then_found, pick_found, same_reading}
use Rattle.buckets.proofs.Within.{within_back, columns_split, columns_all, columns_one, length_columns, field_only}
use Rattle.buckets.proofs.BodyItems.{pairs_back, entries_back, lines_back, pairs_only, entries_only, lines_only}

-- ---- a printed bucket reads

head_back : (b : Bucket) → Good b → read_head (print_bucket b) ≡ Some (head_of b)
unfolding read_head head_of print_bucket print_head columns
head_back b g =
    rw (
      within_back 0 buckets_most place_width b.position (omega arith) (omega arith) (omega arith),
      within_back 1 (buckets_most - b.position) place_width b.to_cycle (omega arith) (omega arith) (omega arith),
      within_back 1 b.to_cycle place_width b.to_segment (omega arith) (omega arith) (omega arith),
    )

index_back : (h : Head) (ps : List Pair) (es : List Entry) → h.to_cycle ≤ buckets_most → GoodIndex h.to_cycle ps es
    → read_index h (print_bucket (bucket_with h (index_body ps es))) ≡ Some (bucket_with h (index_body ps es))
unfolding read_index bucket_with print_bucket print_head columns
index_back h ps es small g =
    let n = h.to_cycle in
    let front = padded pairs_width (joined print_pair ps) in
    let back = padded entries_width (joined print_entry es) in
    let nl : List ℕ = newline ∷ [] in
    rw (
      within_back 0 0 place_width 0 (omega arith) (omega arith) (omega arith),
      within_back 0 pairs_most count_width (length ps) (omega arith) (omega arith) (omega arith),
      within_back 0 entries_most count_width (length es) (omega arith) (omega arith) (omega arith),
      first_part front back nl pairs_width (length_pairs ps g.few_pairs_lem),
      pairs_back n ps small g.pairs_fit g.later_printed_lem,
      second_part front back nl pairs_width entries_width (length_pairs ps g.few_pairs_lem) (length_entries es g.few_entries_lem),
      entries_back n es small g.entries_fit g.in_order,
    )

data_back : (h : Head) (f : ℕ) (ls : List Line) → h.to_cycle ≤ buckets_most → GoodData h.to_cycle f ls
    → read_data h (print_bucket (bucket_with h (data_body f ls))) ≡ Some (bucket_with h (data_body f ls))
unfolding read_data bucket_with print_bucket print_head columns
data_back h f ls small g =
    rw (
      within_back 0 (h.to_cycle - 1) place_width f (omega arith) (omega arith) (omega arith),
      within_back 0 0 count_width 0 (omega arith) (omega arith) (omega arith),
      within_back 1 bucket_lines_most count_width (length ls) (omega arith) (omega arith) (omega arith),
      take_at (padded lines_width (joined line_columns ls)) (newline ∷ []) lines_width (length_lines ls g.few_lines_lem),
      lines_back ls g.lines_fit g.in_order,
    )

index_letter : (h : Head) (ps : List Pair) (es : List Entry) {o : Option Bucket}
    → read_index h (print_bucket (bucket_with h (index_body ps es))) ≡ o
    → read_by_letter (get_or (print_bucket (bucket_with h (index_body ps es))) letter_column 0) h (print_bucket (bucket_with h (index_body ps es))) ≡ o
unfolding read_by_letter bucket_with print_bucket print_head
index_letter h ps es e = e

data_letter : (h : Head) (f : ℕ) (ls : List Line) {o : Option Bucket}
    → read_data h (print_bucket (bucket_with h (data_body f ls))) ≡ o
    → read_by_letter (get_or (print_bucket (bucket_with h (data_body f ls))) letter_column 0) h (print_bucket (bucket_with h (data_body f ls))) ≡ o
unfolding read_by_letter bucket_with print_bucket print_head
data_letter h f ls e = e

body_back : (h : Head) (x : Body) → h.to_cycle ≤ buckets_most → GoodBody h.to_cycle x
    → read_by_letter (get_or (print_bucket (bucket_with h x)) letter_column 0) h (print_bucket (bucket_with h x)) ≡ Some (bucket_with h x)
body_back h (index_body ps es) small g = index_letter h ps es (index_back h ps es small g)
body_back h (data_body f ls) small g = data_letter h f ls (data_back h f ls small g)

newline_back : (b : Bucket) → GoodBody b.to_cycle b.body → get_or (print_bucket b) bucket_end 0 ≡ newline
unfolding print_bucket
newline_back b g =
    let wide : length (print_head b ++ print_body b.body) ≡ bucket_end =
    simp length-append (rw (length_print_head b, length_print_body b.body (room b.to_cycle b.body g))) in
    rw (← append_assoc (print_head b) (print_body b.body) (newline ∷ []))
    (get_or_at (print_head b ++ print_body b.body) newline [] 0 bucket_end wide)

own_body_back : (b : Bucket) → Good b → read_by_letter (get_or (print_bucket b) letter_column 0) (head_of b) (print_bucket b) ≡ Some b
unfolding head_of bucket_with
own_body_back b g = body_back (head_of b) b.body (omega (arith, g.short_cycle)) g.good_rest

fields_back : (b : Bucket) → good b ≡ true → read_fields (print_bucket b) ≡ Some b
unfolding read_fields
fields_back b h =
    let g = bucket_good b h in
    rw (length_print_bucket b h, newline_back b g.good_rest, head_back b g) (own_body_back b g)

-- ---- what reads is a printed bucket

-- what a head that was read tells of its columns
record HeadRead (s : List ℕ) (h : Head) : Type 0 where
  position_shown : columns position_start place_width s ≡ print place_width h.position
  cycle_shown : columns to_cycle_start place_width s ≡ print place_width h.to_cycle
  segment_shown : columns to_segment_start place_width s ≡ print place_width h.to_segment
  short : h.position + h.to_cycle ≤ buckets_most
  onward : 1 ≤ h.to_cycle
  segment_near_lem : Reaches h.to_cycle h.to_segment

head_only : (s : List ℕ) {h : Head} → length s ≡ bucket_length → read_head s ≡ Some h → HeadRead s h
unfolding read_head
head_only s {h} long e =
    let first = then_found (number_within 0 buckets_most (columns position_start place_width s)) _ e in
    let p = first.0 in
    let second = then_found (number_within 1 (buckets_most - p) (columns to_cycle_start place_width s)) _ first.2 in
    let c = second.0 in
    let third = then_found (number_within 1 c (columns to_segment_start place_width s)) _ second.2 in
    let found : Head = record { position = p; to_cycle = c; to_segment = third.0 } in
    let is : found ≡ h = cc in
    let position = field_only 0 buckets_most position_start place_width s (omega arith) first.1 in
    let cycle = field_only 1 (buckets_most - p) to_cycle_start place_width s (omega arith) second.1 in
    let segment = field_only 1 c to_segment_start place_width s (omega arith) third.1 in
    rw (← is)
    (record {
      position_shown = position.printed;
      cycle_shown = cycle.printed;
      segment_shown = segment.printed;
      short = omega (arith, position.most, cycle.most);
      onward = cycle.least;
      segment_near_lem = record { onward = segment.least; near = segment.most };
    })

-- a head that was read is before the next cycle's start
pub head_onward : (s : List ℕ) {h : Head} → length s ≡ bucket_length → read_head s ≡ Some h → 1 ≤ h.to_cycle
head_onward s long e = (head_only s long e).onward

-- the columns of a bucket, by its fields
bucket_shown : (s : List ℕ) (h : Head) (x : Body) → length s ≡ bucket_length → HeadRead s h
    → columns follow_on_start place_width s ≡ print place_width (follow_on x) → get_or s letter_column 0 ≡ letter x → columns pair_count_start count_width s ≡ print count_width (pair_count x)
    → columns item_count_start count_width s ≡ print count_width (item_count x) → columns head_width body_width s ≡ print_body x → get_or s bucket_end 0 ≡ newline
    → s ≡ print_bucket (bucket_with h x)
unfolding print_bucket print_head bucket_with
bucket_shown s h x long r follow kind pairs items body ended =
    columns_all bucket_length s long
    ∙ columns_split position_start head_width (bucket_length - head_width) s
    ∙ ap₂ {C = List ℕ} ◌++◌
    (columns_split position_start place_width (head_width - to_cycle_start) s
    ∙ ap₂ {C = List ℕ} ◌++◌ r.position_shown
    (columns_split to_cycle_start place_width (head_width - to_segment_start) s
    ∙ ap₂ {C = List ℕ} ◌++◌ r.cycle_shown
    (columns_split to_segment_start place_width (head_width - follow_on_start) s
    ∙ ap₂ {C = List ℕ} ◌++◌ r.segment_shown
    (columns_split follow_on_start place_width (head_width - letter_column) s
    ∙ ap₂ {C = List ℕ} ◌++◌ follow
    (columns_split letter_column 1 (head_width - pair_count_start) s
    ∙ ap₂ {C = List ℕ} ◌++◌ (one letter_column (letter x) (omega arith) kind)
    (columns_split pair_count_start count_width count_width s ∙ ap₂ {C = List ℕ} ◌++◌ pairs items))))))
    (columns_split head_width body_width 1 s ∙ ap₂ {C = List ℕ} ◌++◌ body (one bucket_end newline (omega arith) ended))
  where
    one : (k c : ℕ) → k < length s → get_or s k 0 ≡ c → columns k 1 s ≡ c ∷ []
    one k c h e = columns_one k s h ∙ ap (λ (d : ℕ). d ∷ []) e

good_with : (s : List ℕ) (h : Head) (x : Body) → HeadRead s h → GoodBody h.to_cycle x
    → good (bucket_with h x) ≡ true
unfolding bucket_with
good_with s h x r g =
    good_bucket (bucket_with h x)
    (record { short_cycle = r.short; cycle_onward = r.onward; segment_reached = r.segment_near_lem; good_rest = g })

index_only : (h : Head) (s : List ℕ) {b : Bucket} → length s ≡ bucket_length → HeadRead s h → get_or s letter_column 0 ≡ letter_index → get_or s bucket_end 0 ≡ newline
    → read_index h s ≡ Some b → (s ≡ print_bucket b) × (good b ≡ true)
unfolding read_index
index_only h s {b} long r kind ended e =
    let n = h.to_cycle in
    let first = then_found (number_within 0 0 (columns follow_on_start place_width s)) _ e in
    let second = then_found (number_within 0 pairs_most (columns pair_count_start count_width s)) _ first.2 in
    let third = then_found (number_within 0 entries_most (columns item_count_start count_width s)) _ second.2 in
    let fourth = then_found (read_pairs n second.0 (columns pairs_start pairs_width s)) _ third.2 in
    let fifth = then_found (read_entries n third.0 (columns entries_start entries_width s)) _ fourth.2 in
    let ps = fourth.0 in
    let es = fifth.0 in
    let is : bucket_with h (index_body ps es) ≡ b = cc in
    let follow = field_only 0 0 follow_on_start place_width s (omega arith) first.1 in
    let none_follows : first.0 ≡ 0 = omega (arith, follow.most) in
    let count = field_only 0 pairs_most pair_count_start count_width s (omega arith) second.1 in
    let items = field_only 0 entries_most item_count_start count_width s (omega arith) third.1 in
    let pairs = pairs_only n second.0 (columns pairs_start pairs_width s) (length_columns pairs_start pairs_width s (omega arith)) count.most fourth.1 in
    let entries = entries_only n third.0 (columns entries_start entries_width s) (length_columns entries_start entries_width s (omega arith)) items.most fifth.1 in
    let pair_rules = both (every (pair_fits n) ps) (later_printed ps) pairs.1 in
    let entry_rules = both (every (entry_fits n) es) (rising 0 (map (λ (x : Entry). x.tag) es)) entries.1 in
    rw (← is) (
      bucket_shown s h (index_body ps es) long r
          (follow.printed ∙ ap (print place_width) none_follows)
          kind
          (count.printed ∙ ap (print count_width) (sym pairs.0))
          (items.printed ∙ ap (print count_width) (sym entries.0))
          (columns_split pairs_start pairs_width entries_width s ∙ ap₂ {C = List ℕ} ◌++◌ pairs.2 entries.2)
          ended,
      good_with s h (index_body ps es) r
          (record {
            few_pairs_lem = omega (arith, count.most, pairs.0);
            few_entries_lem = omega (arith, items.most, entries.0);
            pairs_fit = pair_rules.0;
            later_printed_lem = pair_rules.1;
            entries_fit = entry_rules.0;
            in_order = entry_rules.1;
          }),
    )

data_only : (h : Head) (s : List ℕ) {b : Bucket} → length s ≡ bucket_length → HeadRead s h → get_or s letter_column 0 ≡ letter_data → get_or s bucket_end 0 ≡ newline
    → read_data h s ≡ Some b → (s ≡ print_bucket b) × (good b ≡ true)
unfolding read_data
data_only h s {b} long r kind ended e =
    let first = then_found (number_within 0 (h.to_cycle - 1) (columns follow_on_start place_width s)) _ e in
    let second = then_found (number_within 0 0 (columns pair_count_start count_width s)) _ first.2 in
    let third = then_found (number_within 1 bucket_lines_most (columns item_count_start count_width s)) _ second.2 in
    let fourth = then_found (read_lines third.0 (columns lines_start lines_width s)) _ third.2 in
    let ls = fourth.0 in
    let is : bucket_with h (data_body first.0 ls) ≡ b = cc in
    let follow = field_only 0 (h.to_cycle - 1) follow_on_start place_width s (omega arith) first.1 in
    let count = field_only 0 0 pair_count_start count_width s (omega arith) second.1 in
    let no_pairs : second.0 ≡ 0 = omega (arith, count.most) in
    let items = field_only 1 bucket_lines_most item_count_start count_width s (omega arith) third.1 in
    let lines = lines_only third.0 (columns lines_start lines_width s) (length_columns lines_start lines_width s (omega arith)) items.most fourth.1 in
    let rules = both (every fits ls) (rising 0 (map (λ (x : Line). x.tag) ls)) lines.1 in
    rw (← is) (
      bucket_shown s h (data_body first.0 ls) long r
          follow.printed
          kind
          (count.printed ∙ ap (print count_width) no_pairs)
          (items.printed ∙ ap (print count_width) (sym lines.0))
          lines.2
          ended,
      good_with s h (data_body first.0 ls) r
          (record {
            one_line = omega (arith, items.least, lines.0);
            few_lines_lem = omega (arith, items.most, lines.0);
            lines_fit = rules.0;
            in_order = rules.1;
            follow_on_near = omega (arith, follow.most, r.onward);
          }),
    )

letter_only : (h : Head) (s : List ℕ) {b : Bucket} → length s ≡ bucket_length → HeadRead s h → get_or s bucket_end 0 ≡ newline
    → read_by_letter (get_or s letter_column 0) h s ≡ Some b → (s ≡ print_bucket b) × (good b ≡ true)
unfolding read_by_letter
letter_only h s {b} long r ended e = by_test (eqb (get_or s letter_column 0) letter_index) refl e
  where
    by_test : (t : Bool) → eqb (get_or s letter_column 0) letter_index ≡ t
        → pick t (read_index h s) (pick (eqb (get_or s letter_column 0) letter_data) (read_data h s) None) ≡ Some b
        → (s ≡ print_bucket b) × (good b ≡ true)
    by_test true q k = index_only h s long r (eqb-true (get_or s letter_column 0) letter_index q) ended k
    by_test false q k =
        let test = pick_found (eqb (get_or s letter_column 0) letter_data) (read_data h s) k in
        data_only h s long r (eqb-true (get_or s letter_column 0) letter_data test.0) ended test.1

fields_only : (s : List ℕ) {b : Bucket} → read_fields s ≡ Some b → (s ≡ print_bucket b) × (good b ≡ true)
unfolding read_fields
fields_only s {b} e =
    let test = pick_found (eqb (length s) bucket_length && eqb (get_or s bucket_end 0) newline) _ e in
    let two = both (eqb (length s) bucket_length) (eqb (get_or s bucket_end 0) newline) test.0 in
    let long : length s ≡ bucket_length = eqb-true (length s) bucket_length two.0 in
    let head = then_found (read_head s) _ test.1 in
    letter_only head.0 s long (head_only s long head.1) (eqb-true (get_or s bucket_end 0) newline two.1) head.2

-- a bucket read field by field is the bucket read strictly
pub read_bucket_fields : (s : List ℕ) → read_bucket s ≡ read_fields s
read_bucket_fields =
    same_reading print_bucket good read_bucket read_fields read_of_print_bucket
    (λ s b e. let told = print_of_read_bucket s e in (told.0, told.1)) fields_back (λ s b e. fields_only s e)
