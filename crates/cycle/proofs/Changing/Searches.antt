-- The two tests that are asked of a line's four numbers.
-- Assumes nothing.
use mathlib.Core.Path.{◌≡◌, sym, ◌∙◌}
use Prim.Native.Nat.{ℕ}
use native.Mathlib.Omega.{arith}
use mathlib.Core.Bool.{false}
use mathlib.Core.List.{List}
use lib.ListN.{take}
use borrow.Author.Tests.{ne_eqb}
use Rattle.columns.specs.PrintedNumbers.{value}
use Rattle.buckets.specs.declared.Line.{Line}
use Rattle.buckets.specs.ListLine.{spelled}
use Rattle.buckets.specs.Lengths.{tag_width, line_columns_width}
use Rattle.buckets.specs.Bucket.{spelled_line}
use Rattle.cycle.specs.Changes.{same_numbers}
use Rattle.cycle.proofs.ReadingBack.ImageLines.{spelled_front}

-- another tag
pub other_tag :
    (l : Line) (s : List ℕ) (x : ℕ) → x ≡ value 0 (take tag_width s) → (x ≡ l.tag → ⊥) → same_numbers l (spelled s) ≡ false
unfolding same_numbers spelled
other_tag l s x read h = rw (ne_eqb l.tag (value 0 (take tag_width s)) (λ e. h (read ∙ sym e)))

-- the numbers of a list line are those of its columns
pub spelled_part : (s : List ℕ) → spelled_line (take line_columns_width s) ≡ spelled s
unfolding spelled
spelled_part s = spelled_front line_columns_width s (omega arith)
