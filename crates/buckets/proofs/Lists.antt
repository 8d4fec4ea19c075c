-- The laws of a list: its lines as bytes and as numbers, and that a list whose lines all read is the print of its lines.
-- Assumes nothing.
use Prim.Native.Nat.{ℕ, zero, suc, ◌+◌, ◌*◌, ◌/◌, ◌%◌, ◌≤◌, ◌<◌}
use mathlib.Core.Path.{◌≡◌, refl, sym, ap, ap₂, ◌∙◌}
use mathlib.Core.Bool.{Bool, true, false, ◌&&◌}
use Rattle.std.specs.Prelude.{None, Some}
use mathlib.Core.List.{List, [], ◌∷◌, ◌++◌, map, append-nil}
use native.Mathlib.Omega.{arith}
use native.Mathlib.Nat.{zero-add, suc-add, zero-mul, suc-mul, mul-div_cancel, mul-mod_left}
use lib.Dec.{leb, lit<, lit≤}
use lib.ListN.{length, take, drop, get_or, length-map}
use lib.Seq.{take_all, take-take, take-nil, drop-drop}
use borrow.Author.Tests.{eq-eqb}
use Rattle.columns.specs.Lists.{pick, joined, every, parts}
use Rattle.columns.proofs.Strict.{both}
use Rattle.columns.proofs.Put.{length_part}
use Rattle.columns.proofs.Joined.{length_joined, parts_joined, length_parts, parts_at, joined_parts, map_at, map_undone, every_at}
use Rattle.buckets.specs.declared.Line.{Line}
use Rattle.buckets.specs.ListLine.{fits, print_line, line_columns, spelled, read_line, cut_lines, list_lines, taken, misprint_from, fall_from, blanked_line, blanked_list}
use Rattle.buckets.specs.Bucket.{rising}
use Rattle.buckets.specs.Inner.Columns.{read_plain, PlainList, blanked_columns}
use Rattle.buckets.specs.Lengths.{line_columns_width, line_length}
use Rattle.buckets.proofs.ListLines.{length_print_line, spelled_print_line, plain_spelled}
use Rattle.buckets.proofs.LenientLines.{line_reads, read_of_print_line}
use Rattle.buckets.proofs.ListParts.{every_take, every_drop, map_take, map_drop}
use Rattle.buckets.proofs.Blanked.{blanked_line_of, blanked_columns_of}

pub length_cut_lines : (s : List ℕ) → length (cut_lines s) ≡ length s / line_length
unfolding cut_lines
length_cut_lines s = length_parts (length s / line_length) line_length s

pub length_list_lines : (s : List ℕ) → length (list_lines s) ≡ length s / line_length
unfolding list_lines
length_list_lines s = length-map (cut_lines s) spelled ∙ length_cut_lines s

pub length_printed : (ls : List Line) → length (joined print_line ls) ≡ length ls * line_length
length_printed ls = length_joined print_line line_length length_print_line ls

-- line i of a list as bytes
pub cut_at : (s : List ℕ) (d : List ℕ) (i : ℕ) → i < length s / line_length → get_or (cut_lines s) i d ≡ take line_length (drop (i * line_length) s)
unfolding cut_lines
cut_at s d i h = parts_at (length s / line_length) line_length s d i h

-- line i of a list as numbers
pub line_at : (s : List ℕ) (d : Line) (i : ℕ) → i < length s / line_length → get_or (list_lines s) i d ≡ spelled (take line_length (drop (i * line_length) s))
unfolding list_lines
line_at s d i h =
    map_at spelled (cut_lines s) i [] d (rw length_cut_lines h) ∙ ap spelled (cut_at s [] i h)

-- ---- printed lines

pub cut_of_printed : (ls : List Line) → cut_lines (joined print_line ls) ≡ map print_line ls
unfolding cut_lines
cut_of_printed ls =
    let count : length (joined print_line ls) / line_length ≡ length ls =
    rw (length_printed ls) (mul-div_cancel (length ls) {n = line_length} (lit< tt)) in
    rw (count, ← append-nil (joined print_line ls)) (parts_joined print_line line_length length_print_line ls [])

pub lines_of_printed : (ls : List Line) → every fits ls ≡ true → list_lines (joined print_line ls) ≡ ls
unfolding list_lines
lines_of_printed ls h =
    rw (cut_of_printed ls) (map_undone print_line spelled fits (λ l e. spelled_print_line l e) ls h)

-- ---- lines that read

-- 3 of "Refused inputs" does not hold exactly if every line reads
pub none_misprinted : (i : ℕ) (ss : List (List ℕ)) → misprint_from i ss ≡ None → every (λ s. taken (read_line s)) ss ≡ true
none_misprinted i [] h = refl
none_misprinted i (s ∷ ss) h = go (taken (read_line s)) (none_misprinted (suc i) ss) h
  where
    go : (t : Bool) → (misprint_from (suc i) ss ≡ None → every (λ r. taken (read_line r)) ss ≡ true)
        → pick t (misprint_from (suc i) ss) (Some i) ≡ None → t && every (λ r. taken (read_line r)) ss ≡ true
    go true rest k = rest k
    go false rest k = cc

pub all_read : (i : ℕ) (ss : List (List ℕ)) → every (λ s. taken (read_line s)) ss ≡ true → misprint_from i ss ≡ None
all_read i [] h = refl
all_read i (s ∷ ss) h =
    let told = both (taken (read_line s)) (every (λ r. taken (read_line r)) ss) h in
    rw told.0 (all_read (suc i) ss told.1)

-- lines that fit are printed so that they read
pub printed_read : (ls : List Line) → every fits ls ≡ true → every (λ s. taken (read_line s)) (map print_line ls) ≡ true
printed_read [] h = refl
printed_read (l ∷ ls) h =
    let told = both (fits l) (every fits ls) h in
    rw (read_of_print_line l told.0) (printed_read ls told.1)

pub none_misprinted_of_printed : (ls : List Line) → every fits ls ≡ true → misprint_from 0 (cut_lines (joined print_line ls)) ≡ None
none_misprinted_of_printed ls h = rw (cut_of_printed ls) (all_read 0 (map print_line ls) (printed_read ls h))

-- parts that read, with their leading zeros made blank, are the prints of the lines that they spell, and these fit
print_of_parts : (ss : List (List ℕ)) → every (λ s. taken (read_line s)) ss ≡ true
    → (joined blanked_line ss ≡ joined print_line (map spelled ss)) × (every fits (map spelled ss) ≡ true)
print_of_parts [] h = (refl, refl)
print_of_parts (s ∷ ss) h =
    let told = both (taken (read_line s)) (every (λ r. taken (read_line r)) ss) h in
    let r = line_reads s told.0 in
    let rest = print_of_parts ss told.1 in
    (ap₂ {C = List ℕ} ◌++◌ (blanked_line_of s r) rest.0, rw r.in_range rest.1)

-- a list of whole lines that all read, with its leading zeros made blank, is the print of its lines, and these fit
pub print_of_list : (s : List ℕ) → length s % line_length ≡ 0 → misprint_from 0 (cut_lines s) ≡ None
    → (blanked_list s ≡ joined print_line (list_lines s)) × (every fits (list_lines s) ≡ true)
unfolding list_lines blanked_list
print_of_list s whole h =
    let told = print_of_parts (cut_lines s) (none_misprinted 0 (cut_lines s) h) in
    (rw (eq-eqb (length s % line_length) 0 whole) told.0, told.1)

-- printed lines have no leading zeros
pub printed_stays : (ls : List Line) → every fits ls ≡ true → blanked_list (joined print_line ls) ≡ joined print_line ls
printed_stays ls h =
    let whole : length (joined print_line ls) % line_length ≡ 0 = rw (length_printed ls) (mul-mod_left (length ls) line_length) in
    (print_of_list (joined print_line ls) whole (none_misprinted_of_printed ls h)).0 ∙ ap (joined print_line) (lines_of_printed ls h)

-- ---- lines without leading zeros

plain_parts : (ss : List (List ℕ)) → every (λ s. taken (read_plain s)) ss ≡ true → joined (λ s. s) ss ≡ joined print_line (map spelled ss)
plain_parts [] h = refl
plain_parts (s ∷ ss) h =
    let told = both (taken (read_plain s)) (every (λ r. taken (read_plain r)) ss) h in
    ap₂ {C = List ℕ} ◌++◌ (plain_spelled s told.0).0 (plain_parts ss told.1)

-- a list of whole lines
pub plain_list : (s : List ℕ) → length s % line_length ≡ 0 → every (λ r. taken (read_plain r)) (cut_lines s) ≡ true → PlainList s
unfolding list_lines cut_lines
plain_list s whole h =
    let all : take (length s / line_length * line_length) s ≡ s = take_all (length s / line_length * line_length) s (omega arith) in
    sym all ∙ sym (joined_parts (length s / line_length) line_length s) ∙ plain_parts (parts (length s / line_length) line_length s) h

-- ---- the columns of line i

module _ (s : List ℕ) (d : Line) (i : ℕ) (h : i < length s / line_length) where
  -- its columns are the first of its bytes
  front : take line_columns_width (drop (i * line_length) s) ≡ take line_columns_width (get_or (cut_lines s) i [])
  front = sym (take-take line_columns_width line_length (drop (i * line_length) s) (lit≤ tt)) ∙ ap (take line_columns_width) (sym (cut_at s [] i h))

  -- with leading zeros made blank they are its print, if it reads
  pub columns_of_line : misprint_from 0 (cut_lines s) ≡ None → blanked_columns (take line_columns_width (drop (i * line_length) s)) ≡ line_columns (get_or (list_lines s) i d)
  columns_of_line reads =
      let line : List ℕ = get_or (cut_lines s) i [] in
      let there : i < length (cut_lines s) = rw (length_cut_lines s) h in
      let r = line_reads line (every_at (λ t. taken (read_line t)) [] (cut_lines s) i (none_misprinted 0 (cut_lines s) reads) there) in
      ap blanked_columns front
      ∙ blanked_columns_of line r
      ∙ ap line_columns (ap spelled (cut_at s [] i h) ∙ sym (line_at s d i h))

-- ---- a part of a list, c lines from line a on

drop_front : (w m : ℕ) (t : List ℕ) → drop w (take (w + m) t) ≡ take m (drop w t)
drop_front zero m t = ap (λ k. take k t) (zero-add m)
drop_front (suc w) m [] = ap (drop (suc w)) (take-nil (suc w + m)) ∙ sym (take-nil m)
drop_front (suc w) m (x ∷ t) = rw (suc-add w m) (drop_front w m t)

parts_part : (n w : ℕ) (s : List ℕ) (a c : ℕ) → a + c ≤ n → parts c w (take (c * w) (drop (a * w) s)) ≡ take c (drop a (parts n w s))
parts_part n w s a zero h = refl
parts_part zero w s a (suc c) h = absurd (omega arith)
parts_part (suc n) w s zero (suc c) h =
    let on : suc c * w ≡ w + c * w = rw suc-mul (omega arith) in
    rw (zero-mul w, on)
    (ap₂ {C = List (List ℕ)} ◌∷◌ (take-take w (w + c * w) s (omega arith))
    (ap (parts c w) (drop_front w (c * w) s) ∙ (rw zero-mul at (parts_part n w (drop w s) zero c (omega arith)))))
parts_part (suc n) w s (suc a) (suc c) h =
    let on : suc a * w ≡ w + a * w = rw suc-mul (omega arith) in
    rw (on, ← drop-drop (a * w) w s) (parts_part n w (drop w s) a (suc c) (omega arith))

module _ (s : List ℕ) (a c : ℕ) (h : a + c ≤ length s / line_length) where
  abbrev part : List ℕ
  part = take (c * line_length) (drop (a * line_length) s)

  long_part : length part ≡ c * line_length
  long_part = length_part s (a * line_length) (c * line_length) (omega arith)

  pub part_whole : length part % line_length ≡ 0
  part_whole = ap (λ k. k % line_length) long_part ∙ mul-mod_left c line_length

  pub cut_part : cut_lines part ≡ take c (drop a (cut_lines s))
  unfolding cut_lines
  cut_part =
      let count : length part / line_length ≡ c = ap (λ k. k / line_length) long_part ∙ mul-div_cancel c {n = line_length} (lit< tt) in
      rw count (parts_part (length s / line_length) line_length s a c h)

  pub lines_part : list_lines part ≡ take c (drop a (list_lines s))
  unfolding list_lines
  lines_part =
      ap (map spelled) cut_part
      ∙ map_take spelled c (drop a (cut_lines s))
      ∙ ap (take c) (map_drop spelled a (cut_lines s))

  pub part_reads : misprint_from 0 (cut_lines s) ≡ None → misprint_from 0 (cut_lines part) ≡ None
  part_reads e =
      rw cut_part
      (all_read 0 (take c (drop a (cut_lines s)))
      (every_take (λ r. taken (read_line r)) c (drop a (cut_lines s)) (every_drop (λ r. taken (read_line r)) a (cut_lines s) (none_misprinted 0 (cut_lines s) e))))

-- ---- order

-- 4 of "Refused inputs" does not hold exactly if the tags never fall
pub none_falls : (i m : ℕ) (ls : List Line) → fall_from i m ls ≡ None → rising m (map (λ l. l.tag) ls) ≡ true
none_falls i m [] h = refl
none_falls i m (l ∷ ls) h = go (leb m l.tag) (none_falls (suc i) l.tag ls) h
  where
    go : (t : Bool) → (fall_from (suc i) l.tag ls ≡ None → rising l.tag (map (λ r. r.tag) ls) ≡ true)
        → pick t (fall_from (suc i) l.tag ls) (Some i) ≡ None → t && rising l.tag (map (λ r. r.tag) ls) ≡ true
    go true rest k = rest k
    go false rest k = cc

pub rising_none_falls : (i m : ℕ) (ls : List Line) → rising m (map (λ l. l.tag) ls) ≡ true → fall_from i m ls ≡ None
rising_none_falls i m [] h = refl
rising_none_falls i m (l ∷ ls) h =
    let told = both (leb m l.tag) (rising l.tag (map (λ r. r.tag) ls)) h in
    rw told.0 (rising_none_falls (suc i) l.tag ls told.1)
