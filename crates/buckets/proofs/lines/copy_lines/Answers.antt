-- One more line behind those copied.
use Rattle.std.proofs.Common.{◌+◌, ◌*◌, drop, sym, ap, ◌∙◌, arith}
use Rattle.columns.specs.Lists.{put}
use Rattle.buckets.specs.Lengths.{line_columns_width, line_length}
use Rattle.buckets.specs.ListLine.{ended_line}
use Rattle.buckets.proofs.CopiedLines.{none_copied, copied_more}
use Rattle.buckets.proofs.lines.copy_lines.Goals as goal

pub loop-i-init : goal.loop-i-init
loop-i-init c = sym (none_copied c.args.out.now c.args.text.now c.args.from c.args.to)

pub loop-i-preserved : goal.loop-i-preserved
loop-i-preserved c =
    let i = c.loop-i.i in
    c.copy_line.ensures
    ∙ ap (λ o. put o (c.args.to + line_length * i) (ended_line (drop (c.args.from + line_columns_width * i) c.args.text.now))) c.loop-i.invariant
    ∙ copied_more c.args.out.now c.args.text.now c.args.from c.args.to i (omega arith) (omega arith)
