-- A list with a line arrived or one taken out, as bytes: it cuts into the changed lines, is again a list that building does not
-- refuse by 3 or 4, stays without leading zeros, and is what stands in front of the place and behind it.
--     cut_arrived, arrived_listed, arrived_plain, arrived_bytes   a line arrived
--     place_within, equal_found, equal_nowhere                    where an equal line stands, if there is one
--     cut_taken, taken_listed, taken_plain, taken_bytes           a line taken out
-- Assumes nothing.
use mathlib.Core.Path.{◌≡◌, refl, sym, ap, ap₂, ◌∙◌, subst}
use Prim.Native.Nat.{ℕ, suc, ◌+◌, ◌-◌, ◌*◌, ◌/◌, ◌%◌, ◌≤◌, ◌<◌}
use native.Mathlib.Nat.{mul_comm, mul-div_cancel, mul-mod_left}
use native.Mathlib.Omega.{arith}
use mathlib.Core.Bool.{Bool, true, false}
use mathlib.Core.List.{List, [], ◌∷◌, ◌++◌, map, map-id, append-nil}
use lib.Dec.{lit<}
use lib.ListN.{length, take, drop, length-map}
use lib.Seq.{take_all}
use Rattle.columns.specs.Lists.{joined, every, any}
use Rattle.columns.proofs.Strict.{both}
use Rattle.columns.proofs.Joined.{joined_append, joined_parts, length_joined_if, parts_joined_if, take_joined_if, drop_joined_if}
use Rattle.buckets.specs.declared.Line.{Line}
use Rattle.buckets.specs.Lengths.{line_length}
use Rattle.buckets.specs.ListLine.{fits, print_line, spelled, taken, read_line, cut_lines, list_lines}
use Rattle.buckets.specs.Inner.Columns.{read_plain, PlainList}
use Rattle.buckets.proofs.ListLines.{read_of_print_plain}
use Rattle.buckets.proofs.LenientLines.{line_reads, reads_length}
use Rattle.buckets.proofs.Lists.{length_cut_lines, cut_of_printed, none_misprinted, all_read, print_of_list, plain_list, none_falls, rising_none_falls}
use Rattle.cycle.specs.Size.{Listed}
use Rattle.cycle.specs.Changes.{arrived, same_numbers, equals, taken_out}
use Rattle.cycle.specs.Inner.Changing.{first_from, tag_over}
use Rattle.cycle.proofs.Lines.Rising.{Rising, rising_tags, tags_rising}
use Rattle.cycle.proofs.Changing.Places.{place_or, place, place_most, first_place_lem, passes_within, passes_nowhere, place_map}
use Rattle.cycle.proofs.Changing.ChangedLines.{over, arrived_at, length_arrived, every_arrived, rising_arrived}
use Rattle.cycle.proofs.Changing.ChangedLines.{taken_at, length_taken, every_taken, rising_taken}

abbrev reads : List ℕ → Bool
reads s = taken (read_line s)

abbrev reads_plain : List ℕ → Bool
reads_plain s = taken (read_plain s)

reads_long : (s : List ℕ) → reads s ≡ true → length s ≡ line_length
reads_long s h = reads_length s (line_reads s h)

-- lines one behind the other
abbrev whole : List (List ℕ) → List ℕ
whole ss = joined (λ s. s) ss

-- ---- lines that read, one behind the other

module _ (ss : List (List ℕ)) (read : every reads ss ≡ true) where
  length_whole : length (whole ss) ≡ length ss * line_length
  length_whole = length_joined_if (λ s. s) reads line_length reads_long ss read

  cut_whole : cut_lines (whole ss) ≡ ss
  unfolding cut_lines
  cut_whole =
      let count : length (whole ss) / line_length ≡ length ss = rw length_whole (mul-div_cancel (length ss) {n = line_length} (lit< tt)) in
      rw (count, ← append-nil (whole ss)) (parts_joined_if (λ s. s) reads line_length reads_long ss [] read ∙ map-id ss)

  -- with tags that never fall, they are a list
  whole_listed : Rising 0 (map spelled ss) → Listed (length ss) (whole ss)
  unfolding list_lines
  whole_listed r =
      record {
        count = length_whole ∙ mul_comm (length ss) line_length;
        printed = rw cut_whole (all_read 0 ss read);
        rising = rw cut_whole (rising_none_falls 0 0 (map spelled ss) (tags_rising 0 (map spelled ss) r));
      }

  whole_plain : every reads_plain ss ≡ true → PlainList (whole ss)
  whole_plain h =
      let lines : length (whole ss) % line_length ≡ 0 = rw length_whole (mul-mod_left (length ss) line_length) in
      plain_list (whole ss) lines (rw cut_whole h)

-- ---- the lines of a list

prints_plain : (ls : List Line) → every fits ls ≡ true → every reads_plain (map print_line ls) ≡ true
prints_plain [] h = refl
prints_plain (l ∷ ls) h =
    let told = both (fits l) (every fits ls) h in
    rw (read_of_print_plain l told.0) (prints_plain ls told.1)

module _ (list : List ℕ) (lines : ℕ) (l : Listed lines list) where
  abbrev ss : List (List ℕ)
  ss = cut_lines list

  pub length_cut : length ss ≡ lines
  length_cut = length_cut_lines list ∙ omega (arith, l.count)

  cut_reads : every reads ss ≡ true
  cut_reads = none_misprinted 0 ss l.printed

  pub cut_rises : Rising 0 (map spelled ss)
  unfolding list_lines
  cut_rises = rising_tags 0 (map spelled ss) (none_falls 0 0 (map spelled ss) l.rising)

  pub whole_cut : whole ss ≡ list
  unfolding cut_lines
  whole_cut =
      joined_parts (length list / line_length) line_length list
      ∙ take_all (length list / line_length * line_length) list (omega (arith, l.count))

  cut_plain : PlainList list → every reads_plain ss ≡ true
  cut_plain plain =
      let fit : every fits (list_lines list) ≡ true = (print_of_list list (omega (arith, l.count)) l.printed).1 in
      ap (every reads_plain) (ap cut_lines plain ∙ cut_of_printed (list_lines list)) ∙ prints_plain (list_lines list) fit

  -- the lines in front of line i, and those from it on
  module _ (i : ℕ) (h : i ≤ lines) where
    whole_front : whole (take i ss) ≡ take (line_length * i) list
    whole_front =
        sym (take_joined_if (λ s. s) reads line_length reads_long ss i cut_reads (omega (arith, length_cut)))
        ∙ ap₂ (λ k s. take k s) (mul_comm i line_length) whole_cut

    whole_rest : whole (drop i ss) ≡ drop (line_length * i) list
    whole_rest =
        sym (drop_joined_if (λ s. s) reads line_length reads_long ss i cut_reads (omega (arith, length_cut)))
        ∙ ap₂ (λ k s. drop k s) (mul_comm i line_length) whole_cut

  -- the place that a search of the lines as numbers finds
  module _ (f : Line → Bool) (i : ℕ) (found : i ≡ place_or lines (first_from f 0 (list_lines list))) where
    place_found : i ≡ place (λ s. f (spelled s)) ss
    unfolding list_lines
    place_found =
        let long : lines ≡ 0 + length (map spelled ss) = sym length_cut ∙ sym (length-map ss spelled) ∙ omega arith in
        let at : 0 + place f (map spelled ss) ≡ place f (map spelled ss) = omega arith in
        found ∙ first_place_lem f 0 (map spelled ss) lines long ∙ at ∙ place_map f spelled ss

    found_within : i ≤ lines
    found_within = omega (arith, place_found, place_most (λ s. f (spelled s)) ss, length_cut)

-- ---- a line arrived

module _ (given list : List ℕ) (lines : ℕ) (l : Listed lines list) (read : taken (read_line given) ≡ true) where
  arrived_reads : every reads (arrived given (cut_lines list)) ≡ true
  arrived_reads = every_arrived given reads (cut_lines list) read (cut_reads list lines l)

  pub cut_arrived : cut_lines (joined (λ s. s) (arrived given (cut_lines list))) ≡ arrived given (cut_lines list)
  cut_arrived = cut_whole (arrived given (cut_lines list)) arrived_reads

  pub arrived_listed : Listed (suc lines) (joined (λ s. s) (arrived given (cut_lines list)))
  arrived_listed =
      let long : length (arrived given (cut_lines list)) ≡ suc lines = length_arrived given (cut_lines list) ∙ ap suc (length_cut list lines l) in
      subst (λ c. Listed c (joined (λ s. s) (arrived given (cut_lines list)))) long
      (whole_listed (arrived given (cut_lines list)) arrived_reads (rising_arrived given 0 (cut_lines list) (omega arith) (cut_rises list lines l)))

  pub arrived_plain : PlainList list → taken (read_plain given) ≡ true → PlainList (joined (λ s. s) (arrived given (cut_lines list)))
  arrived_plain plain h =
      whole_plain (arrived given (cut_lines list)) arrived_reads (every_arrived given reads_plain (cut_lines list) h (cut_plain list lines l plain))

  pub arrived_bytes :
      (i : ℕ) → i ≡ place_or lines (first_from (tag_over (spelled given).tag) 0 (list_lines list)) →
      (i ≤ lines) ×
      (joined (λ s. s) (arrived given (cut_lines list)) ≡ take (line_length * i) list ++ (given ++ drop (line_length * i) list))
  arrived_bytes i found =
      let within : i ≤ lines = found_within list lines l (tag_over (spelled given).tag) i found in
      let at : place (over given) (cut_lines list) ≡ i = sym (place_found list lines l (tag_over (spelled given).tag) i found) in
      let split : arrived given (cut_lines list) ≡ take i (cut_lines list) ++ given ∷ drop i (cut_lines list) = rw at at (arrived_at given (cut_lines list)) in (
        within,
        ap whole split
            ∙ joined_append (λ s. s) (take i (cut_lines list)) (given ∷ drop i (cut_lines list))
            ∙ ap₂ (λ a b. a ++ (given ++ b)) (whole_front list lines l i within) (whole_rest list lines l i within),
      )

-- ---- a line taken out

module _ (given list : List ℕ) (lines : ℕ) (l : Listed lines list) where
  module _ (i : ℕ) (found : i ≡ place_or lines (first_from (same_numbers (spelled given)) 0 (list_lines list))) where
    equal_place : place (equals given) (cut_lines list) ≡ i
    unfolding equals
    equal_place = sym (place_found list lines l (same_numbers (spelled given)) i found)

    pub place_within : i ≤ lines
    place_within = found_within list lines l (same_numbers (spelled given)) i found

    pub equal_found : i < lines → any (equals given) (cut_lines list) ≡ true
    equal_found h = passes_within (equals given) (cut_lines list) (omega (arith, equal_place, length_cut list lines l))

    pub equal_nowhere : i ≡ lines → any (equals given) (cut_lines list) ≡ false
    equal_nowhere e = passes_nowhere (equals given) (cut_lines list) (equal_place ∙ e ∙ sym (length_cut list lines l))

  taken_reads : every reads (taken_out given (cut_lines list)) ≡ true
  taken_reads = every_taken given reads (cut_lines list) (cut_reads list lines l)

  pub cut_taken : cut_lines (joined (λ s. s) (taken_out given (cut_lines list))) ≡ taken_out given (cut_lines list)
  cut_taken = cut_whole (taken_out given (cut_lines list)) taken_reads

  pub taken_listed : any (equals given) (cut_lines list) ≡ true → Listed (lines - 1) (joined (λ s. s) (taken_out given (cut_lines list)))
  taken_listed h =
      let long : length (taken_out given (cut_lines list)) ≡ lines - 1 = length_taken given (cut_lines list) h ∙ ap (λ c. c - 1) (length_cut list lines l) in
      subst (λ c. Listed c (joined (λ s. s) (taken_out given (cut_lines list)))) long
      (whole_listed (taken_out given (cut_lines list)) taken_reads (rising_taken given 0 (cut_lines list) (cut_rises list lines l)))

  pub taken_plain : PlainList list → PlainList (joined (λ s. s) (taken_out given (cut_lines list)))
  taken_plain plain =
      whole_plain (taken_out given (cut_lines list)) taken_reads (every_taken given reads_plain (cut_lines list) (cut_plain list lines l plain))

  pub taken_bytes :
      (i : ℕ) → i ≡ place_or lines (first_from (same_numbers (spelled given)) 0 (list_lines list)) → i < lines →
      joined (λ s. s) (taken_out given (cut_lines list)) ≡ take (line_length * i) list ++ drop (line_length * i + line_length) list
  taken_bytes i found h =
      let split : taken_out given (cut_lines list) ≡ take i (cut_lines list) ++ drop (suc i) (cut_lines list) =
      rw (equal_place i found) at (taken_at given (cut_lines list)) in
      let on : line_length * suc i ≡ line_length * i + line_length = omega arith in
      ap whole split
      ∙ joined_append (λ s. s) (take i (cut_lines list)) (drop (suc i) (cut_lines list))
      ∙ ap₂ {C = List ℕ} ◌++◌ (whole_front list lines l i (omega arith))
      (whole_rest list lines l (suc i) (omega arith) ∙ ap (λ k. drop k list) on)
