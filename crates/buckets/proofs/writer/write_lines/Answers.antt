-- A turn writes the next line behind those that stand at the front.
use Rattle.std.proofs.Common.{arith, ℕ, ◌+◌, ◌-◌, ◌*◌, ◌/◌, ◌%◌, ◌≡◌, ◌≤◌, ◌<◌, sym, ap, ◌∙◌, List, [], ◌++◌, length, take, drop, Bool, true, None}
use lib.ListN.{get_or}
use lib.Seq.{take-length}
use Rattle.columns.specs.Lists.{every, padded}
use Rattle.columns.proofs.FromTheRight.{length_blanks}
use Rattle.columns.proofs.Put.{length_part}
use Rattle.columns.proofs.Joined.{every_at}
use Rattle.columns.proofs.Padded.{padded_nil, back_padded}
use Rattle.buckets.specs.declared.Line.{Line}
use Rattle.buckets.specs.ListLine.{fits, line_columns, spelled, cut_lines, list_lines, misprint_from}
use Rattle.buckets.specs.Inner.Columns.{PlainList, blanked_columns}
use Rattle.buckets.specs.Lengths.{line_columns_width, line_length, bucket_lines_most, lines_width}
use Rattle.buckets.proofs.ListLines.{length_line_columns}
use Rattle.buckets.proofs.Lists.{length_list_lines, print_of_list, columns_of_line}
use Rattle.buckets.proofs.Blanked.{plain_columns}
use Rattle.buckets.proofs.Fronts.{lines_to, length_lines_to, line_written, line_columns_at}
use Rattle.buckets.proofs.writer.write_lines.Goals as goal

-- s is a list of at most as many lines as a bucket has, which all read, without leading zeros where `plain` says so
record Printed (s : List ℕ) (plain : Bool) : Type 0 where
  reads : misprint_from 0 (cut_lines s) ≡ None
  fit : every fits (list_lines s) ≡ true
  no_zeros : plain ≡ true → PlainList s
  count : length s ≡ length (list_lines s) * line_length
  few : length s ≤ bucket_lines_most * line_length

printed :
    (s : List ℕ) (plain : Bool) → length s % line_length ≡ 0 → length s ≤ bucket_lines_most * line_length →
    misprint_from 0 (cut_lines s) ≡ None → (plain ≡ true → PlainList s) → Printed s plain
printed s plain whole few reads no_zeros = record {
  reads = reads;
  fit = (print_of_list s whole reads).1;
  no_zeros = no_zeros;
  count = omega (arith, length_list_lines s, whole);
  few = few;
}

-- a turn
module _ (s part : List ℕ) (i : ℕ) (plain : Bool) (l : Printed s plain) (is : part ≡ padded lines_width (lines_to (list_lines s) i)) (h : i < length s / line_length) where
  more : i < length (list_lines s)
  more = omega (arith, h, length_list_lines s)

  source_end : i * line_length + line_columns_width ≤ length s
  source_end = omega (arith, more, l.count)

  place_end : i * line_columns_width + line_columns_width ≤ lines_width
  place_end = omega (arith, more, l.count, l.few)

  wide : length (lines_to (list_lines s) i) ≡ i * line_columns_width
  wide = length_lines_to (list_lines s) i (omega (arith, more))

  lent : (k : ℕ) → k + line_columns_width - k ≡ line_columns_width
  lent k = omega arith

  line_wide : length (take (i * line_length + line_columns_width - i * line_length) (drop (i * line_length) s)) ≡ line_columns_width
  line_wide = rw (lent (i * line_length)) (length_part s (i * line_length) line_columns_width source_end)

  lent_wide :
      length part ≡ lines_width →
      length (take (i * line_columns_width + line_columns_width - i * line_columns_width) (drop (i * line_columns_width) part)) ≡ line_columns_width
  lent_wide e = rw (lent (i * line_columns_width)) (length_part part (i * line_columns_width) line_columns_width (omega (arith, e, place_end)))

  abbrev empty : Line
  empty = spelled []

  -- the line's columns have no leading zeros where `plain` says so
  stays :
      plain ≡ true →
      blanked_columns (take (i * line_length + line_columns_width - i * line_length) (drop (i * line_length) s))
      ≡ take (i * line_length + line_columns_width - i * line_length) (drop (i * line_length) s)
  stays e =
      let line : Line = get_or (list_lines s) i empty in
      let same : take (i * line_length + line_columns_width - i * line_length) (drop (i * line_length) s) ≡ line_columns line =
      rw (lent (i * line_length)) (line_columns_at s (list_lines s) empty i (l.no_zeros e) more) in
      ap blanked_columns same ∙ plain_columns line (every_at fits empty (list_lines s) i l.fit more) ∙ sym same

  next :
      (last : List ℕ) → last ≡ blanked_columns (take (i * line_length + line_columns_width - i * line_length) (drop (i * line_length) s)) →
      take (i * line_columns_width) part
      ++ (last ++ drop (i * line_columns_width + line_columns_width - i * line_columns_width) (drop (i * line_columns_width) part))
      ≡ padded lines_width (lines_to (list_lines s) (i + 1))
  next last e =
      let line : last ≡ line_columns (get_or (list_lines s) i empty) =
      e ∙ rw (lent (i * line_length)) (columns_of_line s empty i (omega (arith, h)) l.reads) in
      rw (lent (i * line_columns_width))
      (back_padded lines_width (i * line_columns_width) line_columns_width (lines_to (list_lines s) i) is wide place_end
      (line_columns (get_or (list_lines s) i empty)) line (length_line_columns (get_or (list_lines s) i empty)))
      ∙ ap (padded lines_width) (line_written (list_lines s) empty i more)

pub loop-i-init : goal.loop-i-init
loop-i-init c = c.requires.0 ∙ sym (padded_nil lines_width)

pub slice_bounds-put_columns-end : goal.slice_bounds-put_columns-end
slice_bounds-put_columns-end c =
    let l = printed c.args.lines.now c.args.plain c.requires.1.0 c.requires.1.1.0 c.requires.1.1.1.0 c.requires.1.1.1.1 in
    omega (
      arith,
      c.loop-i.auto.part,
      ap length c.requires.0,
      length_blanks lines_width,
      place_end c.args.lines.now c.loop-i.part c.loop-i.i c.args.plain l c.loop-i.invariant c.loop-i-test.true,
    )

pub put_columns-requires : goal.put_columns-requires
put_columns-requires c =
    let l = printed c.args.lines.now c.args.plain c.requires.1.0 c.requires.1.1.0 c.requires.1.1.1.0 c.requires.1.1.1.1 in (
      lent_wide c.args.lines.now c.loop-i.part c.loop-i.i c.args.plain l c.loop-i.invariant c.loop-i-test.true
          (c.loop-i.auto.part ∙ ap length c.requires.0 ∙ length_blanks lines_width),
      (
        line_wide c.args.lines.now c.loop-i.part c.loop-i.i c.args.plain l c.loop-i.invariant c.loop-i-test.true,
        stays c.args.lines.now c.loop-i.part c.loop-i.i c.args.plain l c.loop-i.invariant c.loop-i-test.true,
      ),
    )

pub loop-i-preserved : goal.loop-i-preserved
loop-i-preserved c =
    let l = printed c.args.lines.now c.args.plain c.requires.1.0 c.requires.1.1.0 c.requires.1.1.1.0 c.requires.1.1.1.1 in
    next c.args.lines.now c.loop-i.part c.loop-i.i c.args.plain l c.loop-i.invariant c.loop-i-test.true c.put_columns.new.part c.put_columns.ensures

pub returns : goal.returns
returns c =
    let l = printed c.args.lines.now c.args.plain c.requires.1.0 c.requires.1.1.0 c.requires.1.1.1.0 c.requires.1.1.1.1 in
    let end : c.loop-i.i ≡ length (list_lines c.args.lines.now) = omega (arith, c.loop-i.auto.i-end, c.loop-i-test.false, length_list_lines c.args.lines.now) in
    c.loop-i.invariant ∙ rw (end, take-length (list_lines c.args.lines.now))
