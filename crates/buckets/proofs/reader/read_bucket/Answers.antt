-- The reading into items lent, with these.
use Rattle.std.proofs.Common.{Some, ap, ◌∙◌}
use Rattle.std.specs.Option.{option_map}
use Rattle.buckets.specs.Bucket.{read_bucket}
use Rattle.buckets.specs.Inner.Held.{reading_of}
use Rattle.buckets.specs.Inner.Arrays.{in_arrays, held_reading}
use Rattle.buckets.proofs.Chained.{map_found}
use Rattle.buckets.proofs.reader.read_bucket.Goals as goal

pub returns : goal.returns
unfolding held_reading
returns c =
    let found = map_found reading_of (read_bucket c.args.part.now) _ c.in_ok-frame.ensures in
    ap Some (c.with_items.ensures ∙ ap in_arrays found.2) ∙ ap (option_map held_reading) found.1
