-- Length, newline, columns, and the ranges of tare and tag.
use Rattle.buckets.proofs.LenientLines.{no_line_length, no_newline, no_numbers, tare_over, tag_holds, tag_over_lem, tag_read}
use Rattle.buckets.proofs.lines.line_tag.Goals as goal
use Rattle.buckets.proofs.lines.line_tag.Goals.{then-part-ne-LENGTH-via-then-part-ne-LENGTH, then-part-ne-LENGTH-via-else-part-ne-LENGTH+then-part-ne-NEWLINE}
use Rattle.buckets.proofs.lines.line_tag.Goals.{then-not-has_numbers-via-then-not-has_numbers, then-not-has_numbers-via-else-not-has_numbers+then-part-gt48}

pub returns-then-part-ne-LENGTH : goal.returns-then-part-ne-LENGTH
returns-then-part-ne-LENGTH c =
    elim c.then-part-ne-LENGTH.branch [
      | then-part-ne-LENGTH-via-then-part-ne-LENGTH w ↦ no_line_length c.args.part.now w.if-part-ne-LENGTH.true
      | then-part-ne-LENGTH-via-else-part-ne-LENGTH+then-part-ne-NEWLINE w ↦ no_newline c.args.part.now w.if-part-ne-NEWLINE.true
    ]

pub returns-then-not-has_numbers : goal.returns-then-not-has_numbers
returns-then-not-has_numbers c =
    elim c.then-not-has_numbers.branch [
      | then-not-has_numbers-via-then-not-has_numbers w ↦ no_numbers c.args.part.now c.if-part-ne-LENGTH.false w.if-not-has_numbers.ensures
      | then-not-has_numbers-via-else-not-has_numbers+then-part-gt48 w ↦ tare_over c.args.part.now c.if-part-ne-LENGTH.false w.if-part-gt48.true
    ]

pub lenient_number-tag-requires : goal.lenient_number-tag-requires
lenient_number-tag-requires c = tag_holds c.args.part.now c.if-part-ne-LENGTH.false c.if-not-has_numbers.ensures

pub returns-then-tag-gt-TAG_MOST : goal.returns-then-tag-gt-TAG_MOST
returns-then-tag-gt-TAG_MOST c =
    tag_over_lem c.args.part.now c.if-part-ne-LENGTH.false c.lenient_number-tag.ensures c.if-tag-gt-TAG_MOST.true

pub returns-else-tag-gt-TAG_MOST : goal.returns-else-tag-gt-TAG_MOST
returns-else-tag-gt-TAG_MOST c =
    tag_read c.args.part.now c.if-part-ne-LENGTH.false c.if-part-ne-NEWLINE.false c.if-not-has_numbers.ensures c.if-part-gt48.false
    c.lenient_number-tag.ensures c.if-tag-gt-TAG_MOST.false
