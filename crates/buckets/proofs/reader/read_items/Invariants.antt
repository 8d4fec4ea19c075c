-- The items read so far.
use Rattle.buckets.proofs.Progress.{ReadSoFar}
use Rattle.buckets.proofs.reader.read_items.Given as goal

abbrev pub invariant-loop-i : goal.invariant-loop-i
invariant-loop-i g l =
    ReadSoFar (g.V.ItemVec.reads l.n) (λ m x. g.V.ItemVec.leaves x) g.V.ItemVec.WIDTH l.count l.part (g.V.ItemVec.items l.items) l.before l.i
