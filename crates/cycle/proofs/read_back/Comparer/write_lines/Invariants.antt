-- The lines of the data buckets before q are written.
use Rattle.std.proofs.Common.{◌≡◌, ◌*◌, min}
use Rattle.columns.specs.Lists.{put}
use Rattle.buckets.specs.Lengths.{line_length}
use Rattle.cycle.specs.Inner.Comparing.{list_text}
use Rattle.cycle.proofs.read_back.Comparer.write_lines.Given as goal

abbrev pub invariant-loop-q : goal.invariant-loop-q
invariant-loop-q l =
    let f = l.self.part.cycle.now.f in
    let s = l.self.part.s in
    l.out
    ≡ put l.fn.out (line_length * (s.first * f.p)) (list_text f l.self.image.now (s.first * f.p) (min f.lines (l.q * f.p)))
