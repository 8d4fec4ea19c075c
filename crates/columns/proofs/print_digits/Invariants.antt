-- The columns from i on hold the number as far as it goes, those before are blank, and the rest is the number without the columns
-- that are written.
-- Assumes nothing.
use Rattle.std.proofs.Common.{length}
use Rattle.columns.proofs.FromTheRight.{Open}
use Rattle.columns.proofs.print_digits.Given as goal

abbrev pub invariant-loop-i : goal.invariant-loop-i
invariant-loop-i l = Open l.part l.x (length l.fn.part) l.i l.rest
