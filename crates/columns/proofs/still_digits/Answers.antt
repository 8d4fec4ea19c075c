use Rattle.std.proofs.Common.{eqb}
use Rattle.columns.specs.Inner.Places.{leading, column_digits}
use Rattle.columns.proofs.Strict.{and_comm}
use Rattle.columns.proofs.still_digits.Goals as goal

pub returns : goal.returns
unfolding column_digits
returns c = rw (c.is_ascii_digit.ensures.value, c.may_be_blank.ensures, and_comm (leading c.args.place c.args.before) (eqb c.args.c 32))
