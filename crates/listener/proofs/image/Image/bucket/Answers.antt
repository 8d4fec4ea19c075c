-- `listener::image::Image::bucket` meets its contract: the part of the image that is lent.
-- Assumes nothing.
use Rattle.cycle.proofs.ReadingBack.ImageLines.{part_bytes}
use Rattle.listener.proofs.image.Image.bucket.Goals as goal

pub returns-clause-bytes : goal.returns-clause-bytes
returns-clause-bytes c = part_bytes c.args.self.now.bytes.now c.args.x
