-- The tag over its columns, and the distance over those behind.
use Rattle.std.proofs.Common.{arith, ℕ, ◌+◌, ◌-◌, ◌≤◌, ◌<◌, ◌≡◌, ap, ◌∙◌, List, ◌++◌, length, take, drop, Bool, true}
use Rattle.columns.specs.Lists.{put}
use Rattle.columns.specs.PrintedNumbers.{print, blanks, blank_zeros}
use Rattle.columns.proofs.Lenient.{length_blanked}
use Rattle.columns.proofs.Put.{length_part, length_put, put_part, put_put, part_behind}
use Rattle.buckets.specs.Inner.Held.{entry_start, EntryBlank}
use Rattle.buckets.specs.Lengths.{tag_width, place_width, distance_start, entry_width, entries_most, bucket_length}
use Rattle.buckets.proofs.writer.put_entry.Goals as goal

lent_width : (k w : ℕ) → k + w - k ≡ w
lent_width k w = omega arith

-- bucket d, and the tag's columns from a place of the text on, with leading zeros made blank
module _ (d text : List ℕ) (i from : ℕ) (long : length d ≡ bucket_length) (few : i < entries_most) (within : from + tag_width ≤ length text) where
  abbrev tag : List ℕ
  tag = blank_zeros (take tag_width (drop from text))

  tag_wide : length tag ≡ tag_width
  tag_wide = length_blanked (take tag_width (drop from text)) ∙ length_part text from tag_width within

  -- what `put_tag` asks
  tag_ready : {plain : Bool} → (plain ≡ true → tag ≡ take tag_width (drop from text)) →
      (length (take (entry_start i + distance_start - entry_start i) (drop (entry_start i) d)) ≡ tag_width) × ((length (take (from + tag_width - from) (drop from text)) ≡ tag_width) × (plain ≡ true → blank_zeros (take (from + tag_width - from) (drop from text)) ≡ take (from + tag_width - from) (drop from text)))
  tag_ready none_leading =
      rw (lent_width from tag_width, lent_width (entry_start i) distance_start)
      (length_part d (entry_start i) distance_start (omega arith), (length_part text from tag_width within, none_leading))

  tag_put : {last : List ℕ} → last ≡ blank_zeros (take (from + tag_width - from) (drop from text)) →
      take (entry_start i) d ++ (last ++ drop (entry_start i + distance_start - entry_start i) (drop (entry_start i) d)) ≡ put d (entry_start i) tag
  tag_put e =
      rw (e, lent_width from tag_width, lent_width (entry_start i) distance_start) (put_part d (entry_start i) distance_start tag tag_wide)

  behind_width : entry_start i + entry_width - (entry_start i + distance_start) ≡ place_width
  behind_width = omega arith

  distance_ready : EntryBlank d i → {d' : List ℕ} → d' ≡ put d (entry_start i) tag →
      (entry_start i + distance_start ≤ entry_start i + entry_width) × ((entry_start i + entry_width ≤ length d') × (take (entry_start i + entry_width - (entry_start i + distance_start)) (drop (entry_start i + distance_start) d') ≡ blanks (entry_start i + entry_width - (entry_start i + distance_start))))
  distance_ready blank e = (
    omega arith,
    (
      omega (arith, ap length e, length_put d (entry_start i) tag (omega (arith, tag_wide))),
      rw (behind_width, e) (part_behind d (entry_start i) tag (entry_start i + distance_start) place_width (omega arith) (omega (arith, tag_wide)) ∙ blank),
    ),
  )

  distance_put : (x : ℕ) {d' last : List ℕ} → d' ≡ put d (entry_start i) tag →
      last ≡ put d' (entry_start i + distance_start) (print (entry_start i + entry_width - (entry_start i + distance_start)) x) →
      last ≡ put d (entry_start i) (tag ++ print place_width x)
  distance_put x e p =
      p
      ∙ rw (behind_width, e) (put_put d (entry_start i) tag (entry_start i + distance_start) (print place_width x) (omega (arith, tag_wide)) (omega (arith, tag_wide)))

pub put_tag-requires : goal.put_tag-requires
put_tag-requires c =
    tag_ready c.args.part.now c.args.text.now c.args.i c.args.from c.requires.0 c.requires.1.0 c.requires.1.1.0 c.requires.1.1.1.1

pub print_at-requires : goal.print_at-requires
print_at-requires c =
    distance_ready c.args.part.now c.args.text.now c.args.i c.args.from c.requires.0 c.requires.1.0 c.requires.1.1.0 c.requires.1.1.1.0
    (tag_put c.args.part.now c.args.text.now c.args.i c.args.from c.requires.0 c.requires.1.0 c.requires.1.1.0 c.put_tag.ensures)

pub returns : goal.returns
returns c =
    distance_put c.args.part.now c.args.text.now c.args.i c.args.from c.requires.0 c.requires.1.0 c.requires.1.1.0 c.args.distance
    (tag_put c.args.part.now c.args.text.now c.args.i c.args.from c.requires.0 c.requires.1.0 c.requires.1.1.0 c.put_tag.ensures)
    c.print_at.ensures
