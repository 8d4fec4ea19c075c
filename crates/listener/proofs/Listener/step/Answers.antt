-- 14, or what was read.
use Rattle.std.proofs.Common.{sym, ◌∙◌}
use Rattle.listener.proofs.Steps.States.{step_ended, step_read}
use Rattle.listener.proofs.Steps.Told.{step_tells}
use Rattle.listener.proofs.Listener.step.Goals as goal

pub returns-then-is_ended : goal.returns-then-is_ended
returns-then-is_ended c =
    step_tells
    (c.refused_ended.ensures ∙ sym (step_ended c.args.self c.args.bucket.now (sym c.is_ended.ensures ∙ c.if-is_ended.true)))

pub returns : goal.returns
returns c =
    step_tells
    (c.take_reading.ensures c.args.bucket.now c.read_into-frame.ensures
    ∙ sym (step_read c.args.self c.args.bucket.now (sym c.is_ended.ensures ∙ c.if-is_ended.false)))
