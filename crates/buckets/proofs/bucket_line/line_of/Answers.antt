-- By what stands in the bucket, and then by the number of its lines.
use Rattle.std.proofs.Common.{◌≡◌, ℕ, List, Some, Ok, length, sym, ap, ◌∙◌, arith}
use Rattle.std.specs.Option.{option_map}
use Rattle.buckets.specs.declared.Items.{Items}
use Rattle.buckets.specs.declared.Kind.TheVariants.{Data}
use Rattle.buckets.specs.declared.Frame.{Frame}
use Rattle.buckets.specs.Bucket.{read_bucket}
use Rattle.buckets.specs.BucketLines.{bucket_line}
use Rattle.buckets.specs.Inner.Held.{Reading, reading_of, contents_with, reading_with}
use Rattle.buckets.proofs.Chained.{map_found}
use Rattle.buckets.proofs.BucketLines.{DataRead, of_index, of_data}
use Rattle.buckets.proofs.bucket_line.line_of.Goals as goal

-- a data bucket of so many lines
told : (s : List ℕ) (items : Items) (frame : Frame) (f : ℕ)
    → Some (reading_with items frame) ≡ option_map reading_of (read_bucket s) → frame.kind ≡ Data f → DataRead s (length items.tags.items)
unfolding reading_of reading_with
told s items frame f e is =
    let found = map_found reading_of (read_bucket s) (reading_with items frame) e in
    of_data s found.0 f items.tags (sym found.1) (ap (λ (x : Reading). x.contents) (sym found.2) ∙ ap (contents_with items) is)

pub line_at-requires : goal.line_at-requires
line_at-requires c =
    let d = told c.args.bucket.now c.read_into.new.items c.in-Some.frame c.in-Data.follow_on c.in-Some.ensures c.in-Data.is in
    (d.long, omega (arith, d.few, c.len.ensures.value, c.if-i-len.true))

pub returns-in-Data : goal.returns-in-Data
returns-in-Data c =
    let d = told c.args.bucket.now c.read_into.new.items c.in-Some.frame c.in-Data.follow_on c.in-Some.ensures c.in-Data.is in
    let l = d.there c.args.i (omega (arith, c.len.ensures.value, c.if-i-len.true)) in
    ap (λ x. Ok (Some x)) (c.line_at.ensures ∙ l.spells) ∙ sym l.is

pub returns-in_default-kind : goal.returns-in_default-kind
returns-in_default-kind c =
    let d = told c.args.bucket.now c.read_into.new.items c.in-Some.frame c.in-Data.follow_on c.in-Some.ensures c.in-Data.is in
    sym (d.past c.args.i (omega (arith, c.len.ensures.value, c.if-i-len.false)))

pub returns-in_default-kind-2 : goal.returns-in_default-kind-2
unfolding reading_of reading_with
returns-in_default-kind-2 c =
    let found = map_found reading_of (read_bucket c.args.bucket.now) _ c.in-Some.ensures in
    sym
    (ap (bucket_line c.args.i) (sym found.1)
    ∙ of_index c.args.i found.0 _ _
    (ap (λ (x : Reading). x.contents) (sym found.2) ∙ ap (contents_with c.read_into.new.items) c.in_default-kind.is))
