-- The columns at x are those of the cycle's bucket x.
use Rattle.std.proofs.Common.{◌≡◌, subst, arith}
use Rattle.cycle.specs.Cycle.{bucket_at}
use Rattle.cycle.specs.Inner.Comparing.{Decides}
use Rattle.cycle.proofs.Segmenting.TreePlaces.{tree_before}
use Rattle.cycle.proofs.ReadingBack.Comparisons.{seats, room_at, tree_decided}
use Rattle.cycle.proofs.read_back.Checker.is_tree_bucket.Goals as goal

pub is_at-requires : goal.is_at-requires
is_at-requires c =
    let v = c.args.self.now in
    let f = v.part.cycle.now.f in
    let w = v.checking.comparing in
    let below = tree_before f v.part.s w.holding.ready w.placed c.args.e c.args.j c.args.x c.requires.0 in
    let room = room_at f v.image.now v.part.s w c.args.x (omega (arith, seats f v.image.now v.part.s w, below)) in
    (room.0, room.1, c.print_tree_bucket.auto.part)

pub returns : goal.returns
returns c =
    let v = c.args.self.now in
    tree_decided v.part.cycle.now.f v.image.now v.part.s v.checking c.args.e c.args.j c.args.x c.requires.0 c.is_at.result
    (subst (λ b. Decides (bucket_at v.image.now c.args.x ≡ b) c.is_at.result) (cc) c.is_at.ensures)
