-- The lines of the segments before i are written.
use Rattle.std.proofs.Common.{◌≡◌}
use Rattle.columns.specs.Lists.{put}
use Rattle.cycle.proofs.Segmenting.SegmentLoops.{Through}
use Rattle.cycle.proofs.ReadingBack.ListWritten.{text_to}
use Rattle.cycle.proofs.read_back.Held.write_list.Given as goal

abbrev pub invariant-loop-i : goal.invariant-loop-i
invariant-loop-i l = Through l.self.cycle.f (λ x. l.out ≡ put l.fn.out 0 (text_to l.self.cycle.f l.self.image.now x)) l.i-end l.i
