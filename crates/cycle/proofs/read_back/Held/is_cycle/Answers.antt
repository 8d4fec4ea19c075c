-- Where a data bucket does not stand, the cycle does not.
use Rattle.std.proofs.Common.{refl}
use Rattle.cycle.proofs.Basics.Deciding.{decides_no}
use Rattle.cycle.proofs.ReadingBack.MatchingBuilt.{held_datas}
use Rattle.cycle.proofs.read_back.Held.is_cycle.Goals as goal

pub returns-else-all_datas : goal.returns-else-all_datas
returns-else-all_datas c =
    let v = c.args.self.now in
    rw c.if-all_datas.false
    (decides_no (λ whole. c.if-all_datas.ensures.no refl (held_datas v.cycle.f v.image.now v.cycle.ready whole)))
