-- The columns and their newline are a line with its end.
use Rattle.buckets.proofs.CopiedLines.{copied_line}
use Rattle.buckets.proofs.lines.copy_line.Goals as goal

pub returns : goal.returns
returns c =
    copied_line c.args.out.now c.args.text.now c.args.from c.args.to c.copy_columns.new.part c.requires.1 c.requires.0 c.copy_columns.ensures
