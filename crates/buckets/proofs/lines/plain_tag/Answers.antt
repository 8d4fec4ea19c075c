-- Length, newline, columns.
use Rattle.std.proofs.Common.{sym, ap, ◌∙◌}
use Rattle.std.specs.Option.{option_map}
use Rattle.buckets.specs.declared.Line.{Line}
use Rattle.buckets.proofs.Chained.{both_on, first_out, second_out}
use Rattle.buckets.proofs.LineColumns.{read_line_fields, read_line_fields_lem}
use Rattle.buckets.proofs.lines.plain_tag.Goals as goal
use Rattle.buckets.proofs.lines.plain_tag.Goals.{then-part-ne-LENGTH-via-then-part-ne-LENGTH, then-part-ne-LENGTH-via-else-part-ne-LENGTH+then-part-ne-NEWLINE}

pub returns-then-part-ne-LENGTH : goal.returns-then-part-ne-LENGTH
unfolding read_line_fields
returns-then-part-ne-LENGTH c =
    sym
    (ap (option_map (λ (l : Line). l.tag))
    (read_line_fields_lem c.args.part.now
    ∙ elim c.then-part-ne-LENGTH.branch [
      | then-part-ne-LENGTH-via-then-part-ne-LENGTH w ↦ first_out _ _ _ _ _ w.if-part-ne-LENGTH.true
      | then-part-ne-LENGTH-via-else-part-ne-LENGTH+then-part-ne-NEWLINE w ↦
          second_out _ _ _ _ _ w.if-part-ne-LENGTH.false w.if-part-ne-NEWLINE.true
    ]))

pub returns : goal.returns
unfolding read_line_fields
returns c =
    c.read_tag.ensures
    ∙ sym
    (ap (option_map (λ (l : Line). l.tag))
    (read_line_fields_lem c.args.part.now ∙ both_on _ _ _ _ _ c.if-part-ne-LENGTH.false c.if-part-ne-NEWLINE.false))
