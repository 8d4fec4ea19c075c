-- The listener's step from the saved state, handed back.
use Rattle.std.proofs.Common.{ap, ◌∙◌}
use Rattle.listener.specs.Listener.{step}
use Rattle.listener.proofs.Steps.Told.{step_told}
use Rattle.pansdaoh.specs.Calls.{step_answer, step_from, state_after}
use Rattle.pansdaoh.proofs.pansdaoh_step.Goals as goal

pub returns : goal.returns
unfolding step_from
returns c =
    let taken =
    step_told c.step-r.result (step c.restored-l.result c.args.bucket.now) c.step-r.ensures.0 c.step-r.ensures.1
    ∙ ap (λ l. step l c.args.bucket.now) c.restored-l.ensures in
    (c.hand_back.ensures.0 ∙ ap step_answer taken, c.hand_back.ensures.1 ∙ ap (state_after c.args.state.now) taken)
