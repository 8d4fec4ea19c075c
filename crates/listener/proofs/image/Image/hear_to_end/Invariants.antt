use Rattle.listener.specs.Lookup.{whole_run}
use Rattle.listener.specs.Inner.OnRun.{Begins}
use Rattle.listener.proofs.Lookups.Runs.{SoFar, to_go}
use Rattle.listener.proofs.image.Image.hear_to_end.Given as goal

-- what is left of the run is that of the definition, and the writing can begin where no lines were got before
abbrev pub invariant-loop-h : goal.invariant-loop-h
invariant-loop-h l = record {
  so_far : SoFar l.self.bytes.now l.self.count (whole_run l.self.bytes.now l.self.count l.tag l.t) l.h l.lines;
  begins : Begins l.self.bytes.now l.self.count (whole_run l.self.bytes.now l.self.count l.tag l.t) l.from;
}

abbrev pub decreases-loop-h : goal.decreases-loop-h
decreases-loop-h l = to_go l.h
