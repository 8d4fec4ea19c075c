-- The entries of the children before i are put.
use Rattle.std.proofs.Common.{◌≡◌}
use Rattle.cycle.proofs.Buckets.ChildEntries.{columns_to}
use Rattle.cycle.proofs.index.Printer.put_entries.Given as goal

abbrev pub invariant-loop-i : goal.invariant-loop-i
invariant-loop-i l = l.part ≡ columns_to l.self.part.now.cycle.now.f l.self.source l.self.text.now l.e l.j l.x l.fn.part l.i
