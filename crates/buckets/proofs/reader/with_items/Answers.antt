-- By the kind.
use Rattle.std.proofs.Common.{sym, ap, ap₂, ◌∙◌}
use Rattle.buckets.specs.declared.Contents.TheVariants.{Index, Data}
use Rattle.buckets.specs.declared.Contents.{Contents}
use Rattle.buckets.specs.declared.Reading.{Reading}
use Rattle.buckets.specs.Inner.Held.{contents_with, reading_with}
use Rattle.buckets.specs.Inner.Arrays.{contents_in, in_arrays}
use Rattle.buckets.proofs.reader.with_items.Goals as goal
use Rattle.buckets.proofs.reader.with_items.Goals.{in-Index, in-Data}

pub returns : goal.returns
unfolding reading_with in_arrays
returns c =
    ap {B = Reading} (λ x. record { head = c.args.frame.head; contents = x })
    (elim c.match-frame.branch [
      | in-Index w ↦
          w.contents-is
          ∙ ap₂ {C = Contents} Index w.pairs_in.ensures w.entries_in.ensures
          ∙ ap (λ k. contents_in (contents_with c.args.items.now k)) (sym w.in-Index.is)
      | in-Data w ↦
          w.contents-is
          ∙ ap (Data w.in-Data.follow_on) w.tags_in.ensures
          ∙ ap (λ k. contents_in (contents_with c.args.items.now k)) (sym w.in-Data.is)
    ])
