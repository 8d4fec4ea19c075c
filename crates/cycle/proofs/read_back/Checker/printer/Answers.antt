-- Where the data buckets match, the tags of the lines stand in the image.
use Rattle.cycle.proofs.ReadingBack.Comparisons.{printing}
use Rattle.cycle.proofs.read_back.Checker.printer.Goals as goal

pub invariant_of-result : goal.invariant_of-result
invariant_of-result c =
    let v = c.args.self.now in
    record { printing = printing v.part.cycle.now.f v.image.now v.part.s v.checking }
