-- What fills the columns after each part is written.
use Rattle.std.proofs.Common.{ℕ, ◌+◌, ◌/◌, ◌≡◌, refl, sym, ap, ◌∙◌, List, [], ◌∷◌, ◌++◌, length, take, drop, set}
use lib.Dec.{lit≤}
use lib.ListN.{length-append}
use Rattle.columns.specs.Lists.{joined, padded}
use Rattle.columns.specs.PrintedNumbers.{blanks}
use Rattle.columns.proofs.FromTheRight.{length_blanks}
use Rattle.columns.proofs.Padded.{padded_nil, lent_blank, back_padded}
use Rattle.buckets.specs.declared.Head.{Head}
use Rattle.buckets.specs.ListLine.{line_columns, list_lines}
use Rattle.buckets.specs.Lengths.{newline, letter_data, line_length, position_start, head_width, bucket_end, bucket_length}
use Rattle.buckets.specs.Lengths.{lines_start, lines_width}
use Rattle.buckets.proofs.Lists.{length_list_lines}
use Rattle.buckets.proofs.Pages.{front_of, data_parts, newline_filled}
use Rattle.buckets.proofs.writer.write_data.Goals as goal

-- the head of a bucket with the lines of s, and their columns
module _ (head : Head) (follow_on : ℕ) (s : List ℕ) where
  abbrev front : List ℕ
  front = front_of head follow_on letter_data 0 (length s / line_length)

  abbrev lines_columns : List ℕ
  lines_columns = padded lines_width (joined line_columns (list_lines s))

  module _ (d : List ℕ) {blank : List ℕ} (long : length d ≡ bucket_length) (one : blank ≡ blanks (length d)) where
    blanked : blank ≡ padded bucket_length []
    blanked = one ∙ ap blanks long ∙ sym (padded_nil bucket_length)

    head_lent : take head_width (drop position_start blank) ≡ blanks head_width
    head_lent = lent_blank bucket_length position_start head_width [] blanked refl (lit≤ tt)

    module _ {fields : List ℕ} (two : fields ≡ front) where
      abbrev headed : List ℕ
      headed = fields ++ drop lines_start blank

      filled : headed ≡ padded bucket_length front
      filled = back_padded bucket_length position_start head_width [] blanked refl (lit≤ tt) front two refl

      lines_lent : take lines_width (drop lines_start headed) ≡ blanks lines_width
      lines_lent = lent_blank bucket_length lines_start lines_width front filled refl (lit≤ tt)

      module _ {text : List ℕ} (kept : length text ≡ length (take lines_width (drop lines_start headed))) (three : text ≡ lines_columns) where
        abbrev lined : List ℕ
        lined = take lines_start headed ++ (text ++ drop lines_width (drop lines_start headed))

        lines_wide : length lines_columns ≡ lines_width
        lines_wide = sym (ap length three) ∙ kept ∙ ap length lines_lent ∙ length_blanks lines_width

        to_newline : length (front ++ lines_columns) ≡ bucket_end
        to_newline = length-append front lines_columns ∙ ap (λ (k : ℕ). head_width + k) lines_wide

        whole : set lined bucket_end newline ≡ (front ++ lines_columns) ++ newline ∷ []
        whole =
            newline_filled (front ++ lines_columns)
            (back_padded bucket_length lines_start lines_width front filled refl (lit≤ tt) lines_columns three lines_wide)
            to_newline

pub write_head-requires : goal.write_head-requires
write_head-requires c = head_lent c.args.head c.args.follow_on c.args.lines.now c.args.part.now c.requires.0 c.print_blanks.ensures

pub write_lines-requires : goal.write_lines-requires
write_lines-requires c = (
  lines_lent c.args.head c.args.follow_on c.args.lines.now c.args.part.now c.requires.0 c.print_blanks.ensures c.write_head.ensures,
  c.requires.1,
)

pub returns : goal.returns
returns c =
    whole c.args.head c.args.follow_on c.args.lines.now c.args.part.now c.requires.0 c.print_blanks.ensures c.write_head.ensures c.write_lines.auto.part c.write_lines.ensures
    ∙ data_parts c.args.head c.args.follow_on (length c.args.lines.now / line_length) (list_lines c.args.lines.now)
    (length_list_lines c.args.lines.now)
