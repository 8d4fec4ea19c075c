-- The items stand in front.
use Rattle.std.proofs.Common.{length, ap, ◌∙◌}
use Rattle.buckets.specs.declared.IndexEntries.{IndexEntries}
use Rattle.buckets.specs.Lengths.{entries_most}
use Rattle.buckets.specs.Inner.Arrays.{entries_in}
use Rattle.buckets.proofs.Filled.{filled_by}
use Rattle.buckets.proofs.reader.entries_in.Goals as goal

pub returns : goal.returns
unfolding entries_in
returns c =
    let xs = c.as_slice-entries.result.now in
    ap {B = IndexEntries} (λ ys. record { items = ys; count = length xs }) (filled_by entries_most (record { tag = 0; distance = 0 }) xs _ c.copy_from_slice.ensures.after)
    ∙ ap entries_in c.as_slice-entries.ensures.value
