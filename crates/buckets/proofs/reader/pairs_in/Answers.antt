-- The items stand in front.
use Rattle.std.proofs.Common.{length, ap, ◌∙◌, None}
use Rattle.buckets.specs.declared.ControlPairs.{ControlPairs}
use Rattle.buckets.specs.Lengths.{pairs_most}
use Rattle.buckets.specs.Inner.Arrays.{pairs_in}
use Rattle.buckets.proofs.Filled.{filled_by}
use Rattle.buckets.proofs.reader.pairs_in.Goals as goal

pub returns : goal.returns
unfolding pairs_in
returns c =
    let xs = c.as_slice-pairs.result.now in
    ap {B = ControlPairs} (λ ys. record { items = ys; count = length xs }) (filled_by pairs_most (record { tag = None; distance = 1 }) xs _ c.copy_from_slice.ensures.after)
    ∙ ap pairs_in c.as_slice-pairs.ensures.value
