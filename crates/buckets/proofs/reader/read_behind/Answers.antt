-- By the letter.
use Rattle.std.proofs.Common.{get_or, arith}
use borrow.Author.Tests.{ne_eqb}
use Rattle.buckets.specs.Lengths.{letter_column, letter_index, letter_data}
use Rattle.buckets.specs.Inner.Columns.{read_by_letter}
use Rattle.buckets.proofs.reader.read_behind.Goals as goal

pub returns-in_default : goal.returns-in_default
unfolding read_by_letter
returns-in_default c =
    rw (
      ne_eqb (get_or c.args.part.now letter_column 0) letter_index (omega arith),
      ne_eqb (get_or c.args.part.now letter_column 0) letter_data (omega arith),
    )
