-- The fields one after the other.
use Rattle.std.proofs.Common.{ℕ, List, Option, Some, map, sym, ap, ◌∙◌, arith}
use Rattle.columns.proofs.Put.{length_part}
use Rattle.buckets.specs.declared.Line.{Line}
use Rattle.buckets.specs.Bucket.{columns}
use Rattle.buckets.specs.Lengths.{line_columns_width, bucket_lines_most, lines_start, lines_width}
use Rattle.buckets.specs.Inner.Held.{Reading, Data, vector, head_of, bucket_with, reading_of, reading_with}
use Rattle.buckets.specs.Inner.Columns.{read_line_columns, read_lines, read_data}
use Rattle.buckets.proofs.Bounds.{number_most}
use Rattle.buckets.proofs.Chained.{map_found, map_none}
use Rattle.buckets.proofs.Progress.{keys_read}
use Rattle.buckets.proofs.reader.read_data.Goals as goal

pub read_items-requires-clause-fits : goal.read_items-requires-clause-fits
read_items-requires-clause-fits c =
    let few = number_most 1 bucket_lines_most _ c.in_ok-count.count (sym c.in_ok-count.ensures) in
    (omega (arith, few, length_part c.args.part.now lines_start lines_width (omega arith)), few)

pub returns-in_err-read_items : goal.returns-in_err-read_items
unfolding read_data read_lines columns
returns-in_err-read_items c =
    let none = map_none (map (λ (l : Line). l.tag)) _ (c.in_err-read_items.ensures ∙ keys_read read_line_columns (λ l. l.tag) line_columns_width _ _) in
    rw (
      c.from_residual-in_err-read_items.ensures,
      ← c.in_ok-follow_on.ensures,
      ← c.in_ok-number_within.ensures,
      ← c.in_ok-count.ensures,
      ← none,
    )

pub returns : goal.returns
unfolding read_data read_lines columns reading_of reading_with bucket_with head_of
returns c =
    let lines = map_found (map (λ (l : Line). l.tag)) _ c.read_items.new.items.items
    (c.in_ok-read_items.ensures ∙ keys_read read_line_columns (λ l. l.tag) line_columns_width _ _) in
    rw (
      ← c.in_ok-follow_on.ensures,
      ← c.in_ok-number_within.ensures,
      ← c.in_ok-count.ensures,
      ← lines.1,
    )
    (ap {B = Option Reading}
    (λ (t : List ℕ). Some (record { head = c.args.head; contents = Data c.in_ok-follow_on.follow_on (vector t) })) lines.2)
