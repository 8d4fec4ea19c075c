use Rattle.std.proofs.Common.{[]}
use Rattle.listener.specs.Inner.OnRun.{run_on}
use Rattle.listener.proofs.Lookups.Runs.{to_go}
use Rattle.listener.proofs.Lookups.WritingRuns.{Written}
use Rattle.listener.proofs.image.Image.write_found.Given as goal

-- the lines got so far stand at the front of the buffer
abbrev pub invariant-loop-d : goal.invariant-loop-d
invariant-loop-d l =
    Written l.self.bytes.now l.self.count (run_on l.self.bytes.now l.self.count l.fn.from []) l.initial.out l.out l.h l.lines

abbrev pub decreases-loop-d : goal.decreases-loop-d
decreases-loop-d l = to_go l.h
