-- 9, else at tune-in or later.
use Rattle.std.proofs.Common.{refl}
use Rattle.buckets.specs.Bucket.{data_body}
use Rattle.buckets.specs.Inner.Held.{bucket_with}
use Rattle.listener.specs.Inner.OnReading.{tagged_lines}
use Rattle.listener.proofs.Steps.States.{heeds_not, heeds_first, heeds_later}
use Rattle.listener.proofs.step.At.take_data.Goals as goal

pub returns-then-not-awaits : goal.returns-then-not-awaits
returns-then-not-awaits c = heeds_not _ _ (c.if-not-awaits.ensures (data_body c.args.follow_on (tagged_lines c.args.tags.now)) refl) refl c.refused.ensures

pub returns-then-is_tune_in : goal.returns-then-is_tune_in
unfolding bucket_with
returns-then-is_tune_in c =
    heeds_first _ _ (c.if-not-awaits.ensures (data_body c.args.follow_on (tagged_lines c.args.tags.now)) refl) refl c.is_tune_in.ensures
    c.if-is_tune_in.true (c.doze_by.ensures (data_body c.args.follow_on (tagged_lines c.args.tags.now)))

pub returns : goal.returns
unfolding bucket_with
returns c =
    heeds_later _ _ (c.if-not-awaits.ensures (data_body c.args.follow_on (tagged_lines c.args.tags.now)) refl) refl c.is_tune_in.ensures
    c.if-is_tune_in.false c.data_step.ensures
