-- The lines of a list by their number: line i, the first misprinted one, the first whose tag falls, and a tag that is greater or not.
-- Assumes nothing.
use mathlib.Core.Path.{◌≡◌, sym, ◌∙◌}
use Prim.Native.Nat.{ℕ, ◌+◌, ◌*◌, ◌/◌, ◌≤◌, ◌<◌}
use native.Mathlib.Nat.{mul_comm}
use native.Mathlib.Numerals.{add-one}
use native.Mathlib.Omega.{arith}
use mathlib.Core.Bool.{true, false}
use Rattle.std.specs.Prelude.{None, Some}
use mathlib.Core.List.{List, [], ◌∷◌}
use lib.Dec.{leb}
use lib.ListN.{length, take, drop, drop_of_length-le}
use lib.Seq.{drop-cons}
use borrow.Author.Tests.{lt-leb, lt-ltb, le-ltb}
use Rattle.columns.specs.PrintedNumbers.{value}
use Rattle.buckets.specs.declared.Line.{Line}
use Rattle.buckets.specs.ListLine.{read_line, spelled, cut_lines, list_lines, misprint_from, fall_from}
use Rattle.buckets.specs.Lengths.{tag_width, line_length}
use Rattle.buckets.proofs.Lists.{length_cut_lines, length_list_lines, cut_at, line_at}
use Rattle.cycle.specs.Inner.Changing.{tag_over}
use Rattle.cycle.proofs.Building.Refusals.{count_lines}
use Rattle.cycle.proofs.ReadingBack.ImageLines.{spelled_front}

module _ (list : List ℕ) (lines : ℕ) (whole : length list ≡ line_length * lines) (i : ℕ) where
  -- ---- 3

  module _ (so : misprint_from 0 (cut_lines list) ≡ misprint_from i (drop i (cut_lines list))) where
    cut_here : i < lines → drop i (cut_lines list) ≡ take line_length (drop (line_length * i) list) ∷ drop (i + 1) (cut_lines list)
    cut_here h =
        let there : i < length list / line_length = omega (arith, count_lines list lines whole) in
        drop-cons (cut_lines list) i [] (omega (arith, length_cut_lines list))
        ∙ rw (cut_at list [] i there, mul_comm i line_length, add-one i)

    pub line_misprinted_lem :
        i < lines → read_line (take line_length (drop (line_length * i) list)) ≡ None → Some i ≡ misprint_from 0 (cut_lines list)
    line_misprinted_lem h e = let found : misprint_from 0 (cut_lines list) ≡ Some i = so ∙ rw (cut_here h, e) in sym found

    pub lines_read_lem : lines ≤ i → None ≡ misprint_from 0 (cut_lines list)
    lines_read_lem h =
        let found : misprint_from 0 (cut_lines list) ≡ None =
        so ∙ rw (drop_of_length-le (cut_lines list) {i = i} (omega (arith, length_cut_lines list, count_lines list lines whole))) in
        sym found

  -- ---- 4

  -- line i, and those behind it
  pub line_here :
      i < lines → drop i (list_lines list) ≡ spelled (drop (line_length * i) list) ∷ drop (i + 1) (list_lines list)
  line_here h =
      let none_there : Line = spelled [] in
      let there : i < length list / line_length = omega (arith, count_lines list lines whole) in
      drop-cons (list_lines list) i none_there (omega (arith, length_list_lines list))
      ∙ rw (line_at list none_there i there, spelled_front line_length (drop (i * line_length) list) (omega arith), mul_comm i line_length, add-one i)

  module _ (m : ℕ) (so : fall_from 0 0 (list_lines list) ≡ fall_from i m (drop i (list_lines list))) where
    pub tag_falls_lem :
        i < lines → (x : ℕ) → x ≡ value 0 (take tag_width (drop (line_length * i) list)) → x < m → Some i ≡ fall_from 0 0 (list_lines list)
    unfolding spelled
    tag_falls_lem h x e l =
        let down : leb m (value 0 (take tag_width (drop (line_length * i) list))) ≡ false = lt-leb m (value 0 (take tag_width (drop (line_length * i) list))) (omega arith) in
        let found : fall_from 0 0 (list_lines list) ≡ Some i = so ∙ rw (line_here h, down) in
        sym found

-- ---- a greater tag, and one that is not

module _ (tag : ℕ) (s : List ℕ) (x : ℕ) (read : x ≡ value 0 (take tag_width s)) where
  pub tag_over_lem : tag < x → tag_over tag (spelled s) ≡ true
  unfolding spelled
  tag_over_lem h = lt-ltb tag (value 0 (take tag_width s)) (omega arith)

  pub tag_not_over : x ≤ tag → tag_over tag (spelled s) ≡ false
  unfolding spelled
  tag_not_over h = le-ltb tag (value 0 (take tag_width s)) (omega arith)
