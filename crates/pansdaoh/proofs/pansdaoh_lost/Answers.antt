-- The lost bucket from the saved state, handed back.
use Rattle.std.proofs.Common.{ap, ◌∙◌}
use Rattle.listener.specs.Listener.{lost}
use Rattle.listener.proofs.Steps.Told.{step_told}
use Rattle.pansdaoh.specs.Calls.{step_answer, lost_from, state_after}
use Rattle.pansdaoh.proofs.pansdaoh_lost.Goals as goal

pub returns : goal.returns
unfolding lost_from
returns c =
    let taken =
    step_told c.lost-r.result (lost c.restored-l.result) c.lost-r.ensures.0 c.lost-r.ensures.1
    ∙ ap lost c.restored-l.ensures in
    (c.hand_back.ensures.0 ∙ ap step_answer taken, c.hand_back.ensures.1 ∙ ap (state_after c.args.state.now) taken)
