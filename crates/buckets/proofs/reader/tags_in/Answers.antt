-- The items stand in front.
use Rattle.std.proofs.Common.{length, ap, ◌∙◌}
use Rattle.buckets.specs.declared.LineTags.{LineTags}
use Rattle.buckets.specs.Lengths.{bucket_lines_most}
use Rattle.buckets.specs.Inner.Arrays.{tags_in}
use Rattle.buckets.proofs.Filled.{filled_by}
use Rattle.buckets.proofs.reader.tags_in.Goals as goal

pub returns : goal.returns
unfolding tags_in
returns c =
    let xs = c.as_slice-tags.result.now in
    ap {B = LineTags} (λ ys. record { items = ys; count = length xs }) (filled_by bucket_lines_most 0 xs _ c.copy_from_slice.ensures.after)
    ∙ ap tags_in c.as_slice-tags.ensures.value
