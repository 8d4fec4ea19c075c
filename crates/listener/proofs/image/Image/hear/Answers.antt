-- `listener::image::Image::hear` meets its contract: a step is told by its listener and its numbers.
-- Assumes nothing.
use Rattle.std.proofs.Common.{ap, ◌∙◌}
use Rattle.listener.specs.Listener.{step}
use Rattle.listener.proofs.Steps.Told.{step_told}
use Rattle.listener.proofs.image.Image.hear.Goals as goal

pub returns : goal.returns
returns c =
    let told = step_told c.step.result (step c.args.l _) c.step.ensures.0 c.step.ensures.1 ∙ ap (step c.args.l) c.bucket.ensures.bytes in
    λ i. record { x = c.args.x; step = told i }
