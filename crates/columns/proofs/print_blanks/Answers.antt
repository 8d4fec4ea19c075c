-- Assumes nothing.
use Rattle.std.proofs.Common.{rules}
use Rattle.columns.specs.PrintedNumbers.{blanks}
use Rattle.columns.proofs.print_blanks.Goals as goal

pub returns : goal.returns
unfolding blanks
returns c = c.fill.ensures.after (λ y e. search rules)
