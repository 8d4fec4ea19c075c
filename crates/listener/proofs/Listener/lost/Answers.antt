-- `listener::Listener::lost` meets its contract: 14, or a doze by 1 of the listener that starts over.
-- Assumes nothing.
use Rattle.std.proofs.Common.{sym, ap, ◌∙◌}
use Rattle.listener.specs.Listener.{stepped}
use Rattle.listener.specs.declared.Answer.TheVariants.{Doze}
use Rattle.listener.proofs.Steps.States.{lost_ended, lost_open}
use Rattle.listener.proofs.Steps.Told.{step_tells}
use Rattle.listener.proofs.Listener.lost.Goals as goal

pub returns-then-is_ended : goal.returns-then-is_ended
returns-then-is_ended c =
    step_tells (c.refused_ended.ensures ∙ sym (lost_ended c.args.self (sym c.is_ended.ensures ∙ c.if-is_ended.true)))

pub returns : goal.returns
unfolding stepped
returns c =
    step_tells
    (ap (λ l. stepped l (Doze 1) 0 0) c.starts_over.ensures ∙
    sym (lost_open c.args.self (sym c.is_ended.ensures ∙ c.if-is_ended.false)))
