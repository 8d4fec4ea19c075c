-- `listener::image::Image::hear_next` meets its contract: the next bucket lies in the image.
-- Assumes nothing.
use Rattle.listener.specs.Inner.OnRun.{heard_next}
use Rattle.listener.proofs.image.Image.hear_next.Goals as goal

pub returns : goal.returns
unfolding heard_next
returns c = c.hear.ensures
