-- An index bucket whose entries are put into it one by one.
--     started_blank               with none of them, their columns are blank
--     put_wide, next_blank, one_more    with the first of them: its length, the columns of the next, and that one put there
--     all_put                     with all of them: the printed bucket
-- Assumes nothing.
use Prim.Native.Nat.{ℕ, ◌+◌, ◌-◌, ◌*◌, ◌≤◌, ◌<◌}
use mathlib.Core.Path.{◌≡◌, sym, ap, ◌∙◌}
use mathlib.Core.List.{List, [], ◌∷◌, ◌++◌, append_assoc}
use native.Mathlib.Omega.{arith}
use lib.Dec.{lit≤}
use lib.ListN.{length, take, drop, length-append, length-drop}
use lib.Seq.{take-append-le, drop-append-le}
use Rattle.columns.specs.Lists.{joined, padded, put}
use Rattle.columns.specs.PrintedNumbers.{blanks}
use Rattle.columns.proofs.FromTheRight.{length_blanks}
use Rattle.columns.proofs.Printed.{length_padded}
use Rattle.columns.proofs.Put.{length_put, part_behind, put_put, put_front}
use Rattle.columns.proofs.Padded.{padded_on, padded_blank, padded_behind, put_padded}
use Rattle.columns.proofs.Joined.{length_joined}
use Rattle.buckets.specs.declared.Head.{Head}
use Rattle.buckets.specs.declared.Pair.{Pair}
use Rattle.buckets.specs.declared.Entry.{Entry}
use Rattle.buckets.specs.Bucket.{index_body, print_entry, print_bucket}
use Rattle.buckets.specs.Inner.Held.{bucket_with, index_front, entry_start, EntryBlank, EntriesBlank}
use Rattle.buckets.specs.Lengths.{newline, letter_index, tag_width, place_width, head_width, entry_width, entries_start, entries_width}
use Rattle.buckets.specs.Lengths.{pairs_most, entries_most, bucket_end, bucket_length}
use Rattle.buckets.proofs.Buckets.{length_print_entry, length_pairs}
use Rattle.buckets.proofs.Fronts.{joined_next}
use Rattle.buckets.proofs.Pages.{front_of, pair_columns, bucket_parts}

module _ (h : Head) (ps : List Pair) (count : ℕ) (few : length ps ≤ pairs_most) where
  abbrev front : List ℕ
  front = index_front h ps count

  front_wide : length front ≡ entries_start
  unfolding index_front
  front_wide =
      length-append (front_of h 0 letter_index (length ps) count) (pair_columns ps)
      ∙ ap (λ (k : ℕ). head_width + k) (length_pairs ps few)

  blank_entries : EntriesBlank (padded bucket_end front ++ newline ∷ [])
  blank_entries i room =
      let w : ℕ = i * entry_width + tag_width in
      let at : ℕ = entry_start i + tag_width in
      let before : List ℕ = front ++ blanks w in
      let long : length before ≡ at = length-append front (blanks w) ∙ omega (arith, front_wide, length_blanks w) in
      let all : length (padded bucket_end before) ≡ bucket_end = length_padded bucket_end before (omega arith) in
      let rest : length (drop at (padded bucket_end before)) ≡ bucket_end - at = length-drop at (padded bucket_end before) ∙ ap (λ (k : ℕ). k - at) all in
      ap (λ (s : List ℕ). take place_width (drop at (s ++ newline ∷ []))) (padded_on bucket_end entries_start front front_wide w (omega arith))
      ∙ ap (take place_width) (drop-append-le at (padded bucket_end before) (newline ∷ []) (omega arith))
      ∙ take-append-le place_width (drop at (padded bucket_end before)) (newline ∷ []) (omega arith)
      ∙ padded_blank bucket_end at before long place_width (omega arith)

pub started_blank : {d : List ℕ} (h : Head) (ps : List Pair) (count : ℕ) → length ps ≤ pairs_most →
    d ≡ padded bucket_end (index_front h ps count) ++ newline ∷ [] → EntriesBlank d
started_blank h ps count few e i room = rw e (blank_entries h ps count few i room)

-- bucket d with these entries put into it
module _ (d : List ℕ) (long : length d ≡ bucket_length) (es : List Entry) where
  abbrev columns : List ℕ
  columns = joined print_entry es

  wide : length columns ≡ length es * entry_width
  wide = length_joined print_entry entry_width length_print_entry es

  pub put_wide : length es ≤ entries_most → length (put d entries_start columns) ≡ bucket_length
  put_wide room = length_put d entries_start columns (omega (arith, wide)) ∙ long

  module _ (i : ℕ) (is : length es ≡ i) (room : i < entries_most) where
    pub next_blank : EntriesBlank d → EntryBlank (put d entries_start columns) i
    next_blank blank =
        part_behind d entries_start columns (entry_start i + tag_width) place_width (omega arith) (omega (arith, wide)) ∙ blank i room

    pub one_more : (e : Entry) → put (put d entries_start columns) (entry_start i) (print_entry e) ≡ put d entries_start (joined print_entry (es ++ e ∷ []))
    one_more e =
        put_put d entries_start columns (entry_start i) (print_entry e) (omega (arith, wide)) (omega (arith, wide))
        ∙ ap (put d entries_start) (sym (joined_next print_entry es e))

pub all_put : (h : Head) (ps : List Pair) (es : List Entry) → length ps ≤ pairs_most → length es ≤ entries_most →
    put (padded bucket_end (index_front h ps (length es)) ++ newline ∷ []) entries_start (joined print_entry es)
    ≡ print_bucket (bucket_with h (index_body ps es))
unfolding index_front
all_put h ps es few room =
    let front : List ℕ = front_of h 0 letter_index (length ps) (length es) in
    let start : List ℕ = front ++ pair_columns ps in
    let columns : List ℕ = joined print_entry es in
    let at : length start ≡ entries_start = front_wide h ps (length es) few in
    let long : length columns ≡ length es * entry_width = length_joined print_entry entry_width length_print_entry es in
    let all : length (padded bucket_end start) ≡ bucket_end = length_padded bucket_end start (omega arith) in
    put_front (padded bucket_end start) (newline ∷ []) entries_start columns (omega arith)
    ∙ ap (λ (s : List ℕ). s ++ newline ∷ [])
    (put_padded bucket_end entries_start start at columns (omega arith) ∙ sym (padded_behind bucket_end entries_start start at columns (lit≤ tt)))
    ∙ regroup front (pair_columns ps) (padded entries_width columns) (newline ∷ [])
    ∙ sym (bucket_parts h (index_body ps es))
  where
    regroup : (a b c d : List ℕ) → ((a ++ b) ++ c) ++ d ≡ a ++ ((b ++ c) ++ d)
    regroup a b c d = simp append_assoc
