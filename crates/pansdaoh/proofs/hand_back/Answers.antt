-- The listener is saved unless nothing changes.
use Rattle.std.proofs.Common.{sym, ap, ◌∙◌}
use Rattle.columns.specs.Lists.{pick}
use Rattle.listener.specs.State.{saved}
use Rattle.pansdaoh.specs.Calls.{state_after}
use Rattle.pansdaoh.proofs.hand_back.Goals as goal
use Rattle.pansdaoh.proofs.hand_back.Goals.{then-not-was_ended, else-not-was_ended}

pub returns : goal.returns
unfolding state_after
returns c = (
  c.into.ensures,
  elim c.if-not-was_ended.branch [
    | then-not-was_ended w ↦
        w.state-is
        ∙ (w.saved.ensures ∙ ap (λ b. pick b c.args.state.now (saved c.args.r.listener)) (sym w.if-not-was_ended.true ∙ c.was_ended.ensures))
    | else-not-was_ended w ↦
        w.state-is ∙ ap (λ b. pick b c.args.state.now (saved c.args.r.listener)) (sym w.if-not-was_ended.false ∙ c.was_ended.ensures)
  ],
)
