-- The tag, and the columns behind it.
use Rattle.std.proofs.Common.{sym}
use Rattle.buckets.specs.Bucket.{columns}
use Rattle.buckets.specs.Inner.Columns.{read_line_columns}
use Rattle.buckets.proofs.PrintedRest.{rest_misprinted, tare_too_long, tag_answered}
use Rattle.buckets.proofs.lines.read_tag.Goals as goal
use Rattle.buckets.proofs.lines.read_tag.Goals.{else-part-eq-BLANK-via-then-part-eq-BLANK+else-rest_printed, else-part-eq-BLANK-via-else-part-eq-BLANK}

pub returns-in_err-tag : goal.returns-in_err-tag
unfolding read_line_columns columns
returns-in_err-tag c = rw (c.from_residual.ensures, ← c.in_err-tag.ensures)

pub returns-then-rest_printed : goal.returns-then-rest_printed
unfolding columns
returns-then-rest_printed c =
    tag_answered c.args.low c.args.part.now c.requires c.in_ok-tag.tag (sym c.in_ok-tag.ensures) c.if-part-eq-BLANK.true c.if-rest_printed.ensures

pub returns-else-part-eq-BLANK : goal.returns-else-part-eq-BLANK
unfolding columns
returns-else-part-eq-BLANK c =
    elim c.else-part-eq-BLANK.branch [
      | else-part-eq-BLANK-via-then-part-eq-BLANK+else-rest_printed w ↦
          rest_misprinted c.args.low c.args.part.now c.requires w.if-rest_printed.ensures
      | else-part-eq-BLANK-via-else-part-eq-BLANK w ↦
          tare_too_long c.args.low c.args.part.now c.requires c.in_ok-tag.tag (sym c.in_ok-tag.ensures) w.if-part-eq-BLANK.false
    ]
