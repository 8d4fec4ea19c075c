-- The laws of a list line: its width, and, of a line without leading zeros, that reading undoes printing and printing undoes
-- reading.
-- Assumes nothing.
use Prim.Native.Nat.{ℕ, ◌≤◌}
use mathlib.Core.Path.{◌≡◌, refl, ap, ◌∙◌}
use mathlib.Core.Bool.{true, ◌&&◌}
use Rattle.std.specs.Prelude.{Option, None, Some}
use mathlib.Core.List.{List, [], ◌∷◌, ◌++◌, append-nil}
use native.Mathlib.Omega.{arith}
use lib.Dec.{leb}
use lib.ListN.{length}
use borrow.Author.Tests.{leb-true, le-leb}
use Rattle.columns.proofs.Strict.{both, strict_back, strict_only}
use Rattle.columns.proofs.Printed.{value_print}
use Rattle.buckets.specs.declared.Line.{Line}
use Rattle.buckets.specs.ListLine.{tag_fits, fits, line_columns, print_line, spelled_columns, spelled, taken}
use Rattle.buckets.specs.Inner.Columns.{read_plain}
use Rattle.buckets.specs.Lengths.{newline, tag_width, tare_width, code_width, weighing_width, line_columns_width, line_length}
use Rattle.buckets.specs.Lengths.{tag_most, tare_most, code_most, weighing_most}

-- what `fits` tests
pub record Fits (l : Line) : Type 0 where
  pub small_tag : l.tag ≤ tag_most
  pub small_tare : l.tare ≤ tare_most
  pub small_code : l.code ≤ code_most
  pub small_weighing : l.weighing ≤ weighing_most

pub tag_small : (t : ℕ) → tag_fits t ≡ true → t ≤ tag_most
unfolding tag_fits
tag_small t h = leb-true t tag_most h

pub small_tag : (t : ℕ) → t ≤ tag_most → tag_fits t ≡ true
unfolding tag_fits
small_tag t h = le-leb t tag_most h

pub line_fits : (l : Line) → fits l ≡ true → Fits l
unfolding fits
line_fits l h =
    let w = leb l.weighing weighing_most in
    let c = leb l.code code_most in
    let t = leb l.tare tare_most in
    let first = both (tag_fits l.tag) (t && (c && w)) h in
    let second = both t (c && w) first.1 in
    let third = both c w second.1 in
    record {
      small_tag = tag_small l.tag first.0;
      small_tare = leb-true l.tare tare_most second.0;
      small_code = leb-true l.code code_most third.0;
      small_weighing = leb-true l.weighing weighing_most third.1;
    }

pub length_line_columns : (l : Line) → length (line_columns l) ≡ line_columns_width
unfolding line_columns
length_line_columns l = refl

pub length_print_line : (l : Line) → length (print_line l) ≡ line_length
unfolding line_columns print_line
length_print_line l = refl

-- a line's columns spell the line, whatever stands behind them
pub line_columns_spelled : (l : Line) (rest : List ℕ) → fits l ≡ true → spelled_columns (line_columns l ++ rest) ≡ l
unfolding line_columns
line_columns_spelled l rest h =
    let f = line_fits l h in
    λ i.
    record {
      tag = value_print tag_width l.tag (omega arith) i;
      tare = value_print tare_width l.tare (omega arith) i;
      code = value_print code_width l.code (omega arith) i;
      weighing = value_print weighing_width l.weighing (omega arith) i;
    }

pub spelled_line_columns : (l : Line) (rest : List ℕ) → fits l ≡ true → spelled (line_columns l ++ rest) ≡ l
unfolding spelled
spelled_line_columns l rest h = line_columns_spelled l rest h

pub spelled_alone : (l : Line) → fits l ≡ true → spelled (line_columns l) ≡ l
spelled_alone l h = rw append-nil at (spelled_line_columns l [] h)

pub spelled_print_line : (l : Line) → fits l ≡ true → spelled (print_line l) ≡ l
unfolding print_line
spelled_print_line l h = spelled_line_columns l (newline ∷ []) h

-- ---- without leading zeros

pub read_of_print_plain : (l : Line) → fits l ≡ true → read_plain (print_line l) ≡ Some l
unfolding read_plain
read_of_print_plain l h = strict_back spelled fits print_line l h (spelled_print_line l h)

pub print_of_read_plain : (s : List ℕ) {l : Line} → read_plain s ≡ Some l → (s ≡ print_line l) × (fits l ≡ true) × (l ≡ spelled s)
unfolding read_plain
print_of_read_plain s h = strict_only spelled fits print_line s h

-- bytes that read so are the print of what they spell
pub plain_spelled : (s : List ℕ) → taken (read_plain s) ≡ true → (s ≡ print_line (spelled s)) × (fits (spelled s) ≡ true)
plain_spelled s h = go (read_plain s) refl h
  where
    go : (o : Option Line) → read_plain s ≡ o → taken o ≡ true → (s ≡ print_line (spelled s)) × (fits (spelled s) ≡ true)
    go None e k = absurd (let z : ◌≡◌ {A = ℕ} 0 1 = cc in omega arith)
    go (Some l) e k =
        let told = print_of_read_plain s e in
        (told.0 ∙ ap print_line told.2, rw told.2 at told.1)
