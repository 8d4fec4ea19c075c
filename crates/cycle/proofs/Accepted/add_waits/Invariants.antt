-- What the lines before i tell of the tags that ended, and of the tag of the line before i.
use Rattle.cycle.proofs.Waiting.ListPass.{ListPass}
use Rattle.cycle.proofs.Accepted.add_waits.Given as goal

abbrev pub invariant-loop-i : goal.invariant-loop-i
invariant-loop-i l = ListPass l.self.cycle.f l.self.list.now l.tag l.first l.tags l.sum l.i
