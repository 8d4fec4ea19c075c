-- The fields one after the other.
use Rattle.std.proofs.Common.{sym, arith}
use Rattle.columns.proofs.Put.{length_part}
use Rattle.buckets.specs.Bucket.{columns}
use Rattle.buckets.specs.Lengths.{pairs_most, entries_most, pairs_start, pairs_width, entries_start, entries_width}
use Rattle.buckets.specs.Inner.Held.{head_of, bucket_with, reading_of, reading_with}
use Rattle.buckets.specs.Inner.Columns.{read_index, read_entries}
use Rattle.buckets.proofs.Bounds.{number_most}
use Rattle.buckets.proofs.Progress.{pairs_read}
use Rattle.buckets.proofs.reader.read_index.Goals as goal

pub read_items-requires-clause-fits : goal.read_items-requires-clause-fits
read_items-requires-clause-fits c =
    let few = number_most 0 pairs_most _ c.in_ok-pair_count.pair_count (sym c.in_ok-pair_count.ensures) in
    (omega (arith, few, length_part c.args.part.now pairs_start pairs_width (omega arith)), few)

pub read_items-requires-2-clause-fits : goal.read_items-requires-2-clause-fits
read_items-requires-2-clause-fits c =
    let few = number_most 0 entries_most _ c.in_ok-entry_count.entry_count (sym c.in_ok-entry_count.ensures) in
    (omega (arith, few, length_part c.args.part.now entries_start entries_width (omega arith)), few)

pub returns-in_err-read_items : goal.returns-in_err-read_items
unfolding read_index columns
returns-in_err-read_items c =
    rw (
      c.from_residual-in_err-read_items.ensures,
      ← c.in_ok-number_within.ensures,
      ← c.in_ok-pair_count.ensures,
      ← c.in_ok-entry_count.ensures,
      ← pairs_read c.args.head.to_cycle c.in_ok-pair_count.pair_count (columns pairs_start pairs_width c.args.part.now),
      ← c.in_err-read_items.ensures,
    )

pub returns-in_err-read_items-2 : goal.returns-in_err-read_items-2
unfolding read_index read_entries columns
returns-in_err-read_items-2 c =
    rw (
      c.from_residual-in_err-read_items-2.ensures,
      ← c.in_ok-number_within.ensures,
      ← c.in_ok-pair_count.ensures,
      ← c.in_ok-entry_count.ensures,
      ← pairs_read c.args.head.to_cycle c.in_ok-pair_count.pair_count (columns pairs_start pairs_width c.args.part.now),
      ← c.in_ok-read_items.ensures,
      ← c.in_err-read_items-2.ensures,
    )

pub returns : goal.returns
unfolding read_index read_entries columns reading_of reading_with bucket_with head_of
returns c =
    rw (
      ← c.in_ok-number_within.ensures,
      ← c.in_ok-pair_count.ensures,
      ← c.in_ok-entry_count.ensures,
      ← pairs_read c.args.head.to_cycle c.in_ok-pair_count.pair_count (columns pairs_start pairs_width c.args.part.now),
      ← c.in_ok-read_items.ensures,
      ← c.in_ok-read_items-2.ensures,
    )
