-- The lines of an image: where data buckets stand, and what their columns spell.
-- Assumes nothing.
use mathlib.Core.Path.{◌≡◌, refl, sym, ap, ◌∙◌}
use Prim.Native.Nat.{ℕ, zero, suc, ◌+◌, ◌-◌, ◌*◌, ◌/◌, ◌%◌, ◌≤◌, ◌<◌}
use native.Mathlib.Nat.{mod-lt}
use native.Mathlib.Omega.{arith}
use mathlib.Core.Bool.{true}
use mathlib.Core.List.{List, [], ◌∷◌, ◌++◌}
use lib.ListN
use lib.ListN.{length, drop, get_or, length-map}
use lib.Seq.{take-take, drop-drop}
use borrow.Author.Tests.{eqb-true}
use Rattle.columns.specs.Lists.{range}
use Rattle.columns.specs.PrintedNumbers.{value}
use Rattle.columns.proofs.Joined.{map_at, every_at}
use Rattle.buckets.specs.declared.Line.{Line}
use Rattle.buckets.specs.ListLine.{fits, spelled}
use Rattle.buckets.specs.Bucket.{data_body, Bucket, print_bucket, good}
use Rattle.buckets.specs.Lengths.{tag_width, tare_width, code_width, weighing_width, tag_start, tare_start, code_start}
use Rattle.buckets.specs.Lengths.{weighing_start, line_columns_width, bucket_lines_most, bucket_length, lines_start}
use Rattle.buckets.proofs.ListLines.{spelled_alone}
use Rattle.buckets.proofs.Good.{GoodData, bucket_good}
use Rattle.buckets.specs.BucketLines.{line_bytes}
use Rattle.buckets.proofs.BucketLines.{printed_line}
use Rattle.cycle.specs.Tree.{Plan}
use Rattle.cycle.specs.Layouts.{Slot, slots}
use Rattle.cycle.specs.Cycle.{is_data, bucket_at}
use Rattle.cycle.specs.declared.Figures.{Figures}
use Rattle.cycle.specs.declared.Source.TheVariants.{Image as InImage}
use Rattle.cycle.specs.Cycle.{first_place}
use Rattle.cycle.specs.Inner.Held.{plan_of, line_at, lines_held}
use Rattle.cycle.proofs.Basics.Ranges.{length_range, get_d_range}
use Rattle.cycle.proofs.Sequences.Sequence.{data_count, Keeps}
use Rattle.cycle.proofs.Sequences.Suffixes.{data_occurs}
use Rattle.cycle.proofs.Segmenting.Positions.{At}
use Rattle.cycle.proofs.Reach.NextOccurrence.{first_hit}
use Rattle.cycle.proofs.Sequences.DataOnce.{Counted, counted, none_before}

-- ---- where data buckets stand

module _ (t : Plan) (keeps : Keeps t) where
  -- a data bucket stands at its first place
  pub data_first :
      (before : List Slot) (y : Slot) (rest : List Slot) (q : ℕ) → slots t ≡ before ++ (y ∷ rest) → is_data t y ≡ true →
      data_count t before ≡ q → first_place t (t.k + 1) q ≡ length before
  data_first before y rest q e d c =
      first_hit t (t.k + 1) q before y rest e (none_before t keeps before (y ∷ rest) e q (omega arith))
      (data_occurs t y q d (keeps.in_order before y rest e d ∙ c))

  pub data_placed : (q : ℕ) → q < t.d → At t (first_place t (t.k + 1) q) (t.k + 1) q []
  unfolding is_data
  data_placed q h =
      let g : Counted t q (slots t) = counted t q (slots t) (omega (arith, keeps.all_sent)) in
      record {
        before = g.skipped;
        it = g.hit;
        next = [];
        behind = g.behind;
        splits = g.splits;
        here = sym (data_first g.skipped g.hit g.behind q g.splits g.passes g.count);
        level_is = eqb-true g.hit.level (t.k + 1) g.passes;
        place_is = keeps.in_order g.skipped g.hit g.behind g.splits g.passes ∙ g.count;
        alike = refl;
      }

-- ---- the columns of a line

pub part_of_front : (j w m : ℕ) (s : List ℕ) → j + w ≤ m → ListN.take w (drop j (ListN.take m s)) ≡ ListN.take w (drop j s)
part_of_front zero w m s h = take-take w m s (omega arith)
part_of_front (suc j) w zero s h = absurd (omega arith)
part_of_front (suc j) w (suc m) [] h = refl
part_of_front (suc j) w (suc m) (x ∷ s) h = part_of_front j w m s (omega arith)

pub spelled_front : (w : ℕ) (s : List ℕ) → line_columns_width ≤ w → spelled (ListN.take w s) ≡ spelled s
unfolding spelled
spelled_front w s h =
    λ i. record {
      tag = value 0 (part_of_front tag_start tag_width w s (omega arith) i);
      tare = value 0 (part_of_front tare_start tare_width w s (omega arith) i);
      code = value 0 (part_of_front code_start code_width w s (omega arith) i);
      weighing = value 0 (part_of_front weighing_start weighing_width w s (omega arith) i);
    }

-- a bucket lent as a part of the image
pub part_bytes : (image : List ℕ) (x : ℕ) → ListN.take (bucket_length * x + bucket_length - bucket_length * x) (drop (bucket_length * x) image) ≡ bucket_at image x
unfolding bucket_at
part_bytes image x = let e : bucket_length * x + bucket_length - bucket_length * x ≡ bucket_length = omega arith in rw e

-- the same, of the image
pub image_line : (image : List ℕ) (x m : ℕ) → m < bucket_lines_most → ListN.take line_columns_width (drop (bucket_length * x + (lines_start + line_columns_width * m)) image) ≡ line_bytes (bucket_at image x) m
unfolding line_bytes bucket_at
image_line image x m h =
    ap (ListN.take line_columns_width) (sym (drop-drop (lines_start + line_columns_width * m) (bucket_length * x) image))
    ∙ sym (part_of_front (lines_start + line_columns_width * m) line_columns_width bucket_length (drop (bucket_length * x) image) (omega arith))

pub printed_spells :
    (b : Bucket) (f : ℕ) (ls : List Line) (z : Line) (m : ℕ) → good b ≡ true → b.body ≡ data_body f ls → m < length ls →
    spelled (line_bytes (print_bucket b) m) ≡ get_or ls m z
printed_spells b f ls z m g e h =
    let told : GoodData b.to_cycle f ls = rw e at (bucket_good b g).good_rest in
    ap spelled (printed_line b f ls z m e h) ∙ spelled_alone (get_or ls m z) (every_at fits z ls m told.lines_fit h)

-- ---- the lines held

module _ (f : Figures) (image : List ℕ) where
  pub length_held : length (lines_held f InImage image) ≡ f.lines
  unfolding lines_held
  length_held = length-map (range 0 f.lines) (λ i. spelled (drop (line_at (plan_of f []) InImage i) image)) ∙ (length_range 0 f.lines ∙ omega arith)

  pub held_line :
      (z : Line) (i : ℕ) → i < f.lines → 1 ≤ f.p → f.p ≤ bucket_lines_most →
      get_or (lines_held f InImage image) i z ≡ spelled (line_bytes (bucket_at image (first_place (plan_of f []) (f.k + 1) (i / f.p))) (i % f.p))
  unfolding lines_held plan_of
  held_line z i h low high =
      let g : ℕ → Line = λ j. spelled (drop (line_at (plan_of f []) InImage j) image) in
      let x : ℕ = first_place (plan_of f []) (f.k + 1) (i / f.p) in
      let long : length (range 0 f.lines) ≡ f.lines = length_range 0 f.lines ∙ omega arith in
      let small : i % f.p < f.p = mod-lt i (omega arith) in
      let same : 0 + i ≡ i = omega arith in
      map_at g (range 0 f.lines) i 0 z (omega arith)
      ∙ ap g (get_d_range 0 0 f.lines i (omega arith) ∙ same)
      ∙ sym (spelled_front line_columns_width (drop (bucket_length * x + (lines_start + line_columns_width * (i % f.p))) image) (omega arith))
      ∙ ap spelled (image_line image x (i % f.p) (omega arith))
