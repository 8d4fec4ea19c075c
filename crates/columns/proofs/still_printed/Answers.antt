use Rattle.std.proofs.Common.{◌≡◌, Bool, true, false, not, ◌&&◌, ◌||◌, eqb}
use Rattle.columns.specs.Lists.{pick}
use Rattle.columns.specs.PrintedNumbers.{digit}
use Rattle.columns.specs.Inner.Places.{leading, column_printed}
use Rattle.columns.proofs.Strict.{and_true, or_false, or_comm}
use Rattle.columns.proofs.still_printed.Goals as goal

-- a digit, a 0 and a blank, where the column may be blank and where it may not
put_together : (d zero blank leading : Bool)
    → ((d && not (leading && zero)) || (leading && blank)) ≡ pick leading (blank || (d && not zero)) d
put_together d zero blank true = or_comm (d && not zero) blank
put_together d zero blank false = rw (and_true d) (or_false d)

pub returns : goal.returns
unfolding column_printed
returns c =
    rw (
      c.is_ascii_digit.ensures.value,
      c.may_be_blank-leading.ensures,
      put_together (digit c.args.c) (eqb c.args.c 48) (eqb c.args.c 32) (leading c.args.place c.args.before),
    )
