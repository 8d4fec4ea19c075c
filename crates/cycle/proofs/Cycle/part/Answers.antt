-- The segment is one of its layout, placed as its function says.
use Rattle.cycle.proofs.Cycle.part.Goals as goal
use Rattle.cycle.proofs.Cycle.part.Goals.{in-Distributed, in-OneM}

pub invariant_of-result : goal.invariant_of-result
invariant_of-result c =
    elim c.match-self.branch [
      | in-Distributed w ↦ record { placed = λ ls. rw w.s-is (w.distributed_segment-s.ensures.0 ls) }
      | in-OneM w ↦ record { placed = λ ls. rw w.s-is (w.whole_segment-s.ensures.0 ls) }
    ]
