-- What was read, by its kind.
use Rattle.std.proofs.Common.{◌≡◌, ℕ, List, Option, Some, sym, ap, ◌∙◌}
use Rattle.std.specs.Option.{option_map}
use Rattle.buckets.specs.declared.Items.{Items}
use Rattle.buckets.specs.declared.Kind.TheVariants as Kinds
use Rattle.buckets.specs.declared.Frame.{Frame}
use Rattle.buckets.specs.Bucket.{read_bucket}
use Rattle.buckets.specs.Inner.Held.{contents_with, reading_of, reading_with}
use Rattle.listener.proofs.Steps.Readings.{IndexRead, DataRead, index_read, data_read}
use Rattle.listener.proofs.Listener.take_reading.Goals as goal

-- an index bucket, whose tags are none of it
index_told : (bytes : List ℕ) (items : Items) (o : Option Frame) (f : Frame) → o ≡ Some f → f.kind ≡ Kinds.Index
    → option_map (reading_with items) o ≡ option_map reading_of (read_bucket bytes)
    → IndexRead f.head items.pairs.items items.entries.items (read_bucket bytes)
unfolding reading_with
index_told bytes items o f some kind e =
    index_read bytes (reading_with items f) (sym (ap (option_map (reading_with items)) some) ∙ e) items.pairs items.entries
    (ap (contents_with items) kind)

-- a data bucket, whose pairs and entries are none of it
data_told : (bytes : List ℕ) (items : Items) (o : Option Frame) (f : Frame) (d : ℕ) → o ≡ Some f → f.kind ≡ Kinds.Data d
    → option_map (reading_with items) o ≡ option_map reading_of (read_bucket bytes)
    → DataRead f.head d items.tags.items (read_bucket bytes)
unfolding reading_with
data_told bytes items o f d some kind e =
    data_read bytes (reading_with items f) (sym (ap (option_map (reading_with items)) some) ∙ e) d items.tags
    (ap (contents_with items) kind)

pub invariant_of-at : goal.invariant_of-at
invariant_of-at c =
    record {
      sound = (index_told c.requires.bytes c.args.items.now c.args.frame c.in-Some.frame c.in-Some.is c.in-Index.is c.requires.is).head;
    }

pub take_index-requires : goal.take_index-requires
take_index-requires c =
    rw (c.as_slice-in-Index.ensures.value, c.as_slice.ensures.value)
    (index_told c.requires.bytes c.args.items.now c.args.frame c.in-Some.frame c.in-Some.is c.in-Index.is c.requires.is).near

pub invariant_of-at-in-Data : goal.invariant_of-at-in-Data
invariant_of-at-in-Data c =
    record {
      sound =
          (data_told c.requires.bytes c.args.items.now c.args.frame c.in-Some.frame c.in-Data.follow_on c.in-Some.is c.in-Data.is
          c.requires.is).head;
    }

pub take_data-requires : goal.take_data-requires
take_data-requires c =
    let read = data_told c.requires.bytes c.args.items.now c.args.frame c.in-Some.frame c.in-Data.follow_on c.in-Some.is c.in-Data.is
    c.requires.is in
    rw c.as_slice-in-Data.ensures.value (read.near, read.few)

pub returns-in-Index : goal.returns-in-Index
returns-in-Index c bytes e =
    rw (c.as_slice-in-Index.ensures.value, c.as_slice.ensures.value) at c.take_index.ensures
    ∙ (index_told bytes c.args.items.now c.args.frame c.in-Some.frame c.in-Some.is c.in-Index.is e).is c.args.self

pub returns-in-Data : goal.returns-in-Data
returns-in-Data c bytes e =
    rw c.as_slice-in-Data.ensures.value at c.take_data.ensures
    ∙ (data_told bytes c.args.items.now c.args.frame c.in-Some.frame c.in-Data.follow_on c.in-Some.is c.in-Data.is e).is c.args.self
