-- Length, newline, head, letter, and what is behind the head.
use Rattle.std.proofs.Common.{sym, ap, ◌∙◌}
use Rattle.std.specs.Option.{option_map}
use Rattle.buckets.specs.Inner.Held.{reading_of}
use Rattle.buckets.specs.Inner.Columns.{read_fields}
use Rattle.buckets.proofs.ByField.{head_onward, read_bucket_fields}
use Rattle.buckets.proofs.Chained.{both_on, first_out, second_out}
use Rattle.buckets.proofs.reader.read_into.Goals as goal
use Rattle.buckets.proofs.reader.read_into.Goals.{then-part-ne-LENGTH-via-then-part-ne-LENGTH, then-part-ne-LENGTH-via-else-part-ne-LENGTH+then-part-ne-NEWLINE}

pub returns-then-part-ne-LENGTH : goal.returns-then-part-ne-LENGTH
unfolding read_fields
returns-then-part-ne-LENGTH c =
    sym
    (ap (option_map reading_of)
    (read_bucket_fields c.args.part.now
    ∙ elim c.then-part-ne-LENGTH.branch [
      | then-part-ne-LENGTH-via-then-part-ne-LENGTH w ↦ first_out _ _ _ _ _ w.if-part-ne-LENGTH.true
      | then-part-ne-LENGTH-via-else-part-ne-LENGTH+then-part-ne-NEWLINE w ↦
          second_out _ _ _ _ _ w.if-part-ne-LENGTH.false w.if-part-ne-NEWLINE.true
    ]))

pub returns-in_err-head : goal.returns-in_err-head
unfolding read_fields
returns-in_err-head c =
    rw (
      c.from_residual.ensures,
      read_bucket_fields c.args.part.now,
      both_on _ _ _ _ _ c.if-part-ne-LENGTH.false c.if-part-ne-NEWLINE.false,
      ← c.in_err-head.ensures,
    )

pub read_behind-requires-clause-ahead : goal.read_behind-requires-clause-ahead
read_behind-requires-clause-ahead c = head_onward c.args.part.now c.if-part-ne-LENGTH.false (sym c.in_ok-head.ensures)

pub returns-in_err-kind : goal.returns-in_err-kind
unfolding read_fields
returns-in_err-kind c =
    rw (
      c.from_residual-in_err-kind.ensures,
      read_bucket_fields c.args.part.now,
      both_on _ _ _ _ _ c.if-part-ne-LENGTH.false c.if-part-ne-NEWLINE.false,
      ← c.in_ok-head.ensures,
    )
    c.in_err-kind.ensures

pub returns : goal.returns
unfolding read_fields
returns c =
    rw (
      read_bucket_fields c.args.part.now,
      both_on _ _ _ _ _ c.if-part-ne-LENGTH.false c.if-part-ne-NEWLINE.false,
      ← c.in_ok-head.ensures,
    )
    c.in_ok-kind.ensures
