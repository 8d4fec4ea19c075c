-- The bucket is lent as a part of the image.
use Rattle.std.proofs.Common.{◌≡◌, subst}
use Rattle.cycle.specs.Inner.Comparing.{Decides}
use Rattle.cycle.proofs.ReadingBack.ImageLines.{part_bytes}
use Rattle.cycle.proofs.read_back.is_at.Goals as goal

pub returns : goal.returns
returns c =
    subst (λ b. Decides (b ≡ c.args.wanted.now) c.same_bucket.result) (part_bytes c.args.image.now c.args.x) c.same_bucket.ensures
