-- The list's buffer when a line was put in or taken out: it holds the changed list at its front. And when 15 and 16 hold.
-- Assumes nothing.
use mathlib.Core.Path.{◌≡◌, sym, ap, ◌∙◌}
use Prim.Native.Nat.{ℕ, suc, ◌+◌, ◌-◌, ◌*◌, ◌≤◌, ◌<◌}
use native.Mathlib.Omega.{arith}
use mathlib.Core.Bool.{true, false}
use Rattle.std.specs.Prelude.{None, Some}
use mathlib.Core.List.{List, ◌++◌, append-nil}
use lib.ListN.{length, take}
use borrow.Author.Tests.{eq-eqb, ne_eqb}
use Rattle.columns.specs.Lists.{any, onto}
use Rattle.columns.specs.PrintedNumbers.{blanks}
use Rattle.buckets.specs.Lengths.{line_length, lines_most}
use Rattle.buckets.specs.ListLine.{spelled, taken, read_line, cut_lines, list_lines}
use Rattle.cycle.specs.Size.{Listed}
use Rattle.cycle.specs.Changes.{same_numbers, equals, list_in, places_for, not_in_list, no_place, arrival, departure}
use Rattle.cycle.proofs.Changing.Places.{place_or}
use Rattle.cycle.specs.Inner.Changing.{first_from, tag_over, with_line, without_line}
use Rattle.cycle.proofs.Changing.ChangedLists.{arrived_listed, arrived_bytes, taken_listed, taken_bytes, equal_found}
use Rattle.cycle.proofs.Changing.Moves.{line_put, line_removed, onto_front_of}

-- ---- 15 and 16

module _ (buffer : List ℕ) (lines : ℕ) where
  pub full_list : lines ≡ lines_most → (no_place buffer lines).holds ≡ Some 0
  unfolding no_place
  full_list e = rw (eq-eqb lines lines_most e)

  pub full_buffer : (lines ≡ lines_most → ⊥) → places_for buffer (suc lines) ≡ false → (no_place buffer lines).holds ≡ Some 0
  unfolding no_place
  full_buffer h e = rw (ne_eqb lines lines_most h, e)

  pub place_left : (lines ≡ lines_most → ⊥) → places_for buffer (suc lines) ≡ true → (no_place buffer lines).holds ≡ None
  unfolding no_place
  place_left h e = rw (ne_eqb lines lines_most h, e)

module _ (given list : List ℕ) where
  pub line_absent : any (equals given) (cut_lines list) ≡ false → (not_in_list given list).holds ≡ Some 0
  unfolding not_in_list
  line_absent e = rw e

  pub line_present : any (equals given) (cut_lines list) ≡ true → (not_in_list given list).holds ≡ None
  unfolding not_in_list
  line_present e = rw e

-- ---- the buffer

module _ (buffer : List ℕ) (lines : ℕ) (given : List ℕ) (places : line_length * lines ≤ length buffer) (l : Listed lines (list_in buffer lines)) where
  -- a line arrived in front of line i
  module _ (reads : taken (read_line given) ≡ true) (i : ℕ)
      (found : i ≡ place_or lines (first_from (tag_over (spelled given).tag) 0 (list_lines (list_in buffer lines)))) where
    pub within : line_length * i ≤ line_length * lines
    within = let h : i ≤ lines = (arrived_bytes given (list_in buffer lines) lines l reads i found).0 in omega arith

    pub line_arrived :
        with_line buffer (line_length * i) (line_length * lines) given
        ≡ onto ((arrival buffer lines given).list ++ (arrival buffer lines given).behind) buffer
    unfolding arrival list_in
    line_arrived =
        line_put buffer (line_length * i) (line_length * lines) given within places
        ∙ ap (λ (t : List ℕ). onto t buffer)
        (sym (arrived_bytes given (list_in buffer lines) lines l reads i found).1 ∙ sym (append-nil (arrival buffer lines given).list))

    pub arrived_front : take (line_length * lines + line_length) (with_line buffer (line_length * i) (line_length * lines) given) ≡ (arrival buffer lines given).list
    unfolding arrival
    arrived_front =
        let long : length (arrival buffer lines given).list ≡ line_length * suc lines = (arrived_listed given (list_in buffer lines) lines l reads).count in
        ap (take (line_length * lines + line_length)) line_arrived
        ∙ onto_front_of (arrival buffer lines given).list (arrival buffer lines given).behind buffer (line_length * lines + line_length) (omega (arith, long))

  -- line i was taken out
  module _ (i : ℕ) (found : i ≡ place_or lines (first_from (same_numbers (spelled given)) 0 (list_lines (list_in buffer lines)))) (h : i < lines) where
    pub line_within : line_length * i + line_length ≤ line_length * lines
    line_within = omega arith

    pub line_gone :
        without_line buffer (line_length * i) (line_length * lines)
        ≡ onto ((departure buffer lines given).list ++ (departure buffer lines given).behind) buffer
    unfolding departure list_in
    line_gone =
        line_removed buffer (line_length * i) (line_length * lines) line_within places
        ∙ ap (λ (t : List ℕ). onto (t ++ blanks line_length) buffer) (sym (taken_bytes given (list_in buffer lines) lines l i found h))

    pub gone_front : take (line_length * lines - line_length) (without_line buffer (line_length * i) (line_length * lines)) ≡ (departure buffer lines given).list
    unfolding departure
    gone_front =
        let there = equal_found given (list_in buffer lines) lines l i found h in
        let long : length (departure buffer lines given).list ≡ line_length * (lines - 1) = (taken_listed given (list_in buffer lines) lines l there).count in
        ap (take (line_length * lines - line_length)) line_gone
        ∙ onto_front_of (departure buffer lines given).list (departure buffer lines given).behind buffer (line_length * lines - line_length) (omega (arith, long))
