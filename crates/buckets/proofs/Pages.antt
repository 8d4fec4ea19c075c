-- A bucket as its parts: the head's columns, the body's, and the newline.
--     bucket_parts                 a printed bucket
--     index_front_lem              the columns before an index bucket's entries
--     data_parts                   a printed data bucket
--     newline_filled               a bucket's last column
--     front_started                an index bucket with blank entries
-- Assumes nothing.
use Prim.Native.Nat.{ℕ, ◌+◌, ◌-◌}
use mathlib.Core.Path.{◌≡◌, refl, sym, ap, ◌∙◌}
use mathlib.Core.List.{List, [], ◌∷◌, ◌++◌, append_assoc}
use native.Mathlib.Omega.{arith}
use lib.Dec.{lit<, lit≤}
use lib.ListN.{length, set, length-append}
use Rattle.columns.specs.Lists.{joined, padded}
use Rattle.columns.specs.PrintedNumbers.{blanks}
use Rattle.columns.proofs.Printed.{length_padded}
use Rattle.columns.proofs.Padded.{padded_blanks, padded_full, padded_on, set_padded}
use Rattle.buckets.specs.declared.Line.{Line}
use Rattle.buckets.specs.declared.Head.{Head}
use Rattle.buckets.specs.ListLine.{line_columns}
use Rattle.buckets.specs.declared.Pair.{Pair}
use Rattle.buckets.specs.Bucket.{Body, data_body, follow_on, letter, pair_count, item_count, head_columns, print_head, print_body, print_bucket, print_pair}
use Rattle.buckets.specs.Inner.Held.{bucket_with, index_front}
use Rattle.buckets.specs.Lengths.{newline, letter_index, letter_data, bucket_end, bucket_length}
use Rattle.buckets.specs.Lengths.{pairs_width, entries_start, entries_width, lines_width}

-- the columns before the body, their first three numbers in h
abbrev pub front_of : Head → ℕ → ℕ → ℕ → ℕ → List ℕ
front_of h f l p i = head_columns h.position h.to_cycle h.to_segment f l p i

pub bucket_parts : (h : Head) (b : Body) →
    print_bucket (bucket_with h b) ≡ front_of h (follow_on b) (letter b) (pair_count b) (item_count b) ++ (print_body b ++ newline ∷ [])
unfolding print_bucket bucket_with print_head
bucket_parts h b = refl

-- the columns before an index bucket's entries
abbrev pub pair_columns : List Pair → List ℕ
pair_columns ps = padded pairs_width (joined print_pair ps)

pub index_front_lem : (h : Head) (ps : List Pair) (count : ℕ) →
    front_of h 0 letter_index (length ps) count ++ pair_columns ps ≡ index_front h ps count
unfolding index_front
index_front_lem h ps count = refl

pub data_parts : (h : Head) (f n : ℕ) (ls : List Line) → length ls ≡ n →
    (front_of h f letter_data 0 n ++ padded lines_width (joined line_columns ls)) ++ newline ∷ [] ≡ print_bucket (bucket_with h (data_body f ls))
data_parts h f n ls e =
    append_assoc (front_of h f letter_data 0 n) (padded lines_width (joined line_columns ls)) (newline ∷ [])
    ∙ ap (λ (k : ℕ). front_of h f letter_data 0 k ++ (padded lines_width (joined line_columns ls) ++ newline ∷ [])) (sym e)
    ∙ sym (bucket_parts h (data_body f ls))

-- the newline behind a bucket's other columns
pub newline_filled : {d : List ℕ} (s : List ℕ) → d ≡ padded bucket_length s → length s ≡ bucket_end → set d bucket_end newline ≡ s ++ newline ∷ []
newline_filled s e h =
    let all : length (s ++ newline ∷ []) ≡ bucket_length = length-append s (newline ∷ []) ∙ ap (λ (k : ℕ). k + 1) h in
    rw e (set_padded bucket_length bucket_end s h newline (lit< tt)) ∙ padded_full bucket_length (s ++ newline ∷ []) all

-- the columns s before the entries, blank entries, and the newline
module _ (s : List ℕ) (h : length s ≡ entries_start) where
  blank_entries : padded bucket_end s ≡ s ++ blanks entries_width
  blank_entries = padded_blanks bucket_end s ∙ ap (λ (k : ℕ). s ++ blanks (bucket_end - k)) h

  pub front_started : {d : List ℕ} → d ≡ padded bucket_length s → set d bucket_end newline ≡ padded bucket_end s ++ newline ∷ []
  front_started e =
      newline_filled (padded bucket_end s) (e ∙ padded_on bucket_length entries_start s h entries_width (lit≤ tt) ∙ ap (padded bucket_length) (sym blank_entries))
      (length_padded bucket_end s (omega arith))
