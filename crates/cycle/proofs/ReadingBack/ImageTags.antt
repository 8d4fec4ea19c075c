-- The tags of an image whose data buckets match: each stands printed at its line's place.
-- Assumes nothing.
use mathlib.Core.Path.{◌≡◌, sym, ap, ◌∙◌}
use Prim.Native.Nat.{ℕ, ◌+◌, ◌-◌, ◌*◌, ◌%◌, ◌^◌, ◌<◌, min}
use native.Mathlib.Nat.{mod-lt}
use native.Mathlib.Omega.{arith}
use mathlib.Core.Bool.{Bool}
use mathlib.Core.List.{List, []}
use lib.Dec.{lit≤}
use lib.ListN.{take, drop}
use lib.Seq.{take-take}
use Rattle.columns.specs.PrintedNumbers.{print, value, blank_zeros}
use Rattle.columns.proofs.Printed.{ten_pos, value_columns}
use Rattle.columns.proofs.Lenient.{blank_print}
use Rattle.buckets.specs.ListLine.{spelled}
use Rattle.buckets.specs.Lengths.{tag_width, line_columns_width}
use Rattle.cycle.specs.declared.Figures.{Figures}
use Rattle.cycle.specs.declared.Source.TheVariants.{Image as InImage}
use Rattle.cycle.specs.Inner.Held.{plan_of, plan_in, line_at, tag_at, tag_place, TagsStand}
use Rattle.cycle.specs.Inner.Comparing.{DataMatches, Holding}
use Rattle.cycle.proofs.Trees.LargestTags.{lines_some, largest_tag_lem}
use Rattle.cycle.proofs.Lines.PrintedTags.{first_ten}
use Rattle.cycle.proofs.ReadingBack.ImageText.{line_room, line_text}

module _ (f : Figures) (bytes : List ℕ) (w : Holding f bytes) (datas : DataMatches (plan_in f InImage bytes) bytes 0 f.d) where
  tag_there : (i : ℕ) → i < f.lines → take tag_width (drop (line_at (plan_of f []) InImage i) bytes) ≡ print tag_width (tag_at f InImage bytes i)
  unfolding tag_at spelled
  tag_there i h =
      sym (take-take tag_width line_columns_width (drop (line_at (plan_of f []) InImage i) bytes) (lit≤ tt))
      ∙ ap (take tag_width) (line_text f bytes w datas i h)
      ∙ first_ten (spelled (drop (line_at (plan_of f []) InImage i) bytes))

  tag_small : (i : ℕ) → i < f.lines → tag_at f InImage bytes i < 10 ^ tag_width
  unfolding tag_at
  tag_small i h =
      let x : ℕ = tag_at f InImage bytes i in
      let cut : x ≡ 0 * 10 ^ tag_width + x % 10 ^ tag_width = ap (value 0) (tag_there i h) ∙ value_columns 0 tag_width x in
      omega (arith, cut, mod-lt x (ten_pos tag_width))

  -- a printed tag has no leading zeros
  tag_own : (i : ℕ) → i < f.lines → blank_zeros (take tag_width (drop (line_at (plan_of f []) InImage i) bytes)) ≡ take tag_width (drop (line_at (plan_of f []) InImage i) bytes)
  tag_own i h =
      ap blank_zeros (tag_there i h)
      ∙ blank_print tag_width (tag_at f InImage bytes i) (omega arith) (tag_small i h)
      ∙ sym (tag_there i h)

  -- the last line under each bucket
  pub image_tags : (plain : Bool) → TagsStand f InImage bytes plain
  unfolding tag_place
  image_tags plain =
      let last : ℕ → ℕ → ℕ = λ e j. min f.lines ((j + 1) * f.n ^ e * f.p) - 1 in
      record {
        within = λ e j some inside.
            omega (
              arith,
              line_room f bytes w (min f.lines ((j + 1) * f.n ^ e * f.p) - 1) (omega (arith, lines_some f e j w.ready.shaped some inside)),
            );
        no_zeros = λ told e j some inside. tag_own (last e j) (omega (arith, lines_some f e j w.ready.shaped some inside));
        printed = λ e j some inside.
            tag_own (last e j) (omega (arith, lines_some f e j w.ready.shaped some inside))
            ∙ tag_there (last e j) (omega (arith, lines_some f e j w.ready.shaped some inside))
            ∙ ap (print tag_width) (sym (largest_tag_lem f e j w.ready.shaped some inside InImage bytes));
      }
