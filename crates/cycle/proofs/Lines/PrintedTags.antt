-- Tags that stand in a list: the ten columns of a line's tag, with leading zeros made blank, are its tag, printed.
--     tag_printed                     the tag of a line of a list that can be sent
--     same_columns, other_columns     two lines' tags, compared by their columns
--     list_tags                       the largest tag under each bucket
-- Assumes nothing.
use mathlib.Core.Path.{◌≡◌, refl, sym, ap, ◌∙◌}
use Prim.Native.Nat.{ℕ, ◌+◌, ◌-◌, ◌*◌, ◌^◌, ◌<◌, min}
use native.Mathlib.Nat.{mul_comm}
use native.Mathlib.Omega.{arith}
use mathlib.Core.Bool.{Bool, true}
use mathlib.Core.List.{List, []}
use lib.Dec.{lit≤}
use lib.ListN.{length, take, drop, get_or}
use lib.Seq.{take-take}
use Rattle.columns.specs.PrintedNumbers.{print, value, blanks_digits, blank_zeros}
use Rattle.columns.proofs.Joined.{every_at}
use Rattle.columns.proofs.Put.{length_part}
use Rattle.columns.proofs.Lenient.{value_digits, blanked_print, blank_print, same_digits}
use Rattle.buckets.specs.declared.Line.{Line}
use Rattle.buckets.specs.Lengths.{tag_width, line_columns_width, line_length}
use Rattle.buckets.specs.ListLine.{fits, line_columns, spelled, list_lines}
use Rattle.buckets.specs.Inner.Columns.{PlainList}
use Rattle.buckets.proofs.ListLines.{line_fits}
use Rattle.buckets.proofs.Fronts.{line_columns_at}
use Rattle.cycle.specs.declared.Figures.{Figures}
use Rattle.cycle.specs.declared.Source.TheVariants.{List as InList}
use Rattle.cycle.specs.Inner.Held.{AcceptedList, tag_at, tag_place, TagsStand}
use Rattle.cycle.specs.Inner.Comparing.{SameDigits}
use Rattle.cycle.proofs.Building.AcceptedPlans.{sending_lines}
use Rattle.cycle.proofs.Building.AcceptedLists.{line_in, lines_fit}
use Rattle.cycle.proofs.Trees.LargestTags.{lines_some, largest_tag_lem}

pub first_ten : (l : Line) → take tag_width (line_columns l) ≡ print tag_width l.tag
unfolding line_columns
first_ten l = refl

module _ (f : Figures) (list : List ℕ) (s : AcceptedList f list) where
  -- the tag's columns of line l hold a number
  tag_number : (l : ℕ) → l < f.lines → blanks_digits (take tag_width (drop (line_length * l) list)) ≡ true
  tag_number l h =
      ap (λ k. blanks_digits (take tag_width (drop k list))) (mul_comm line_length l)
      ∙ ap blanks_digits (sym (take-take tag_width line_length (drop (l * line_length) list) (lit≤ tt)))
      ∙ (line_in f list s l h).tag_number

  tag_wide : (l : ℕ) → l < f.lines → length (take tag_width (drop (line_length * l) list)) ≡ tag_width
  tag_wide l h = length_part list (line_length * l) tag_width (omega (arith, s.whole))

  pub tag_printed : (l : ℕ) → l < f.lines → blank_zeros (take tag_width (drop (line_length * l) list)) ≡ print tag_width (tag_at f InList list l)
  unfolding tag_at
  tag_printed l h =
      blanked_print (take tag_width (drop (line_length * l) list)) (tag_number l h)
      ∙ ap (λ w. print w (value 0 (take tag_width (drop (line_length * l) list)))) (tag_wide l h)

  -- in a list without leading zeros they are its print
  tag_plain : PlainList list → (l : ℕ) → l < f.lines → blank_zeros (take tag_width (drop (line_length * l) list)) ≡ take tag_width (drop (line_length * l) list)
  tag_plain plain l h =
      let ls : List Line = list_lines list in
      let none_there : Line = spelled [] in
      let x : Line = get_or ls l none_there in
      let there : l < length ls = omega (arith, sending_lines f list s) in
      let fit = line_fits x (every_at fits none_there ls l (lines_fit f list s) there) in
      let columns : take tag_width (drop (line_length * l) list) ≡ print tag_width x.tag =
      ap (λ k. take tag_width (drop k list)) (mul_comm line_length l)
      ∙ sym (take-take tag_width line_columns_width (drop (l * line_length) list) (lit≤ tt))
      ∙ ap (take tag_width) (line_columns_at list ls none_there l plain there)
      ∙ first_ten x in
      ap blank_zeros columns ∙ blank_print tag_width x.tag (omega arith) (omega (arith, fit.small_tag)) ∙ sym columns

  -- two lines' tags are the same exactly if their columns add the same digits
  module _ (l m : ℕ) (hl : l < f.lines) (hm : m < f.lines) where
    pub same_columns : SameDigits (take tag_width (drop (line_length * l) list)) (take tag_width (drop (line_length * m) list)) → tag_at f InList list l ≡ tag_at f InList list m
    unfolding tag_at
    same_columns e = value_digits 0 (take tag_width (drop (line_length * l) list)) (take tag_width (drop (line_length * m) list)) e

    pub other_columns :
        (SameDigits (take tag_width (drop (line_length * l) list)) (take tag_width (drop (line_length * m) list)) → ⊥) → tag_at f InList list l ≡ tag_at f InList list m → ⊥
    unfolding tag_at
    other_columns differ e =
        differ
        (same_digits (take tag_width (drop (line_length * l) list)) (take tag_width (drop (line_length * m) list)) (tag_number l hl) (tag_number m hm)
        (tag_wide l hl ∙ sym (tag_wide m hm)) e)

  -- the last line under each bucket
  pub list_tags : (plain : Bool) → (plain ≡ true → PlainList list) → TagsStand f InList list plain
  unfolding tag_place
  list_tags plain no_zeros =
      let last : ℕ → ℕ → ℕ = λ e j. min f.lines ((j + 1) * f.n ^ e * f.p) - 1 in
      record {
        within = λ e j some inside. omega (arith, s.whole, lines_some f e j s.ready.shaped some inside);
        printed = λ e j some inside.
            tag_printed (last e j) (omega (arith, lines_some f e j s.ready.shaped some inside))
            ∙ ap (print tag_width) (sym (largest_tag_lem f e j s.ready.shaped some inside InList list));
        no_zeros = λ told e j some inside. tag_plain (no_zeros told) (last e j) (omega (arith, lines_some f e j s.ready.shaped some inside));
      }
