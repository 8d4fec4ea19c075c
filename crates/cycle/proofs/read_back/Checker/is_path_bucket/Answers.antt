-- The columns at x are those of the cycle's bucket x.
use Rattle.std.proofs.Common.{◌≡◌, ◌<◌, subst, arith}
use Rattle.cycle.specs.Cycle.{bucket_at}
use Rattle.cycle.specs.Inner.Comparing.{Decides}
use Rattle.cycle.proofs.ReadingBack.Comparisons.{seats, room_at, path_below, path_decided}
use Rattle.cycle.proofs.read_back.Checker.is_path_bucket.Goals as goal

pub is_at-requires : goal.is_at-requires
is_at-requires c =
    let v = c.args.self.now in
    let f = v.part.cycle.now.f in
    let w = v.checking.comparing in
    let p = c.requires in
    let below : c.args.x < v.part.s.end =
    omega (arith, p.here, seats f v.image.now v.part.s w, path_below f v.image.now v.part.s w c.args.i p.from_top p.high) in
    let room = room_at f v.image.now v.part.s w c.args.x below in
    (room.0, room.1, c.print_path_bucket.auto.part)

pub returns : goal.returns
returns c =
    let v = c.args.self.now in
    let p = c.requires in
    path_decided v.part.cycle.now.f v.image.now v.part.s v.checking c.args.i c.args.x p.from_top p.high p.here c.is_at.result
    (subst (λ b. Decides (bucket_at v.image.now c.args.x ≡ b) c.is_at.result) (cc) c.is_at.ensures)
