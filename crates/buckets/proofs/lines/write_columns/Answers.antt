-- The numbers over blank columns: where these begin, as the numbers are written.
use Rattle.std.proofs.Common.{ℕ, ◌-◌, ◌≡◌, refl, List}
use Rattle.columns.specs.Lists.{put}
use Rattle.columns.specs.PrintedNumbers.{print, blanks}
use Rattle.columns.proofs.Blank.{BlankFrom, all_blank_lem, blank_behind, ready}
use Rattle.buckets.specs.ListLine.{line_columns}
use Rattle.buckets.specs.Lengths.{tag_start, tare_start, code_start, weighing_start, line_columns_width}
use Rattle.buckets.proofs.lines.write_columns.Goals as goal

abbrev Blank : ℕ → List ℕ → Type 0
Blank a d = BlankFrom line_columns_width a d

module _ {d last : List ℕ} (x : ℕ) where
  tag_written : Blank tag_start d → last ≡ put d tag_start (print (tare_start - tag_start) x) → Blank tare_start last
  tag_written h e = blank_behind _ _ _ _ _ e h refl refl

  tare_written : Blank tare_start d → last ≡ put d tare_start (print (code_start - tare_start) x) → Blank code_start last
  tare_written h e = blank_behind _ _ _ _ _ e h refl refl

  code_written : Blank code_start d → last ≡ put d code_start (print (weighing_start - code_start) x) → Blank weighing_start last
  code_written h e = blank_behind _ _ _ _ _ e h refl refl

pub print_at-requires : goal.print_at-requires
print_at-requires c = ready _ _ _ _ (all_blank_lem _ _ _ c.print_blanks.ensures c.requires) refl

pub print_at-requires-2 : goal.print_at-requires-2
print_at-requires-2 c = ready _ _ _ _ (tag_written c.args.l.tag (all_blank_lem _ _ _ c.print_blanks.ensures c.requires) c.print_at.ensures) refl

pub print_at-requires-3 : goal.print_at-requires-3
print_at-requires-3 c =
    let tag = tag_written c.args.l.tag (all_blank_lem _ _ _ c.print_blanks.ensures c.requires) c.print_at.ensures in
    ready _ _ _ _ (tare_written c.args.l.tare tag c.print_at-2.ensures) refl

pub print_at-requires-4 : goal.print_at-requires-4
print_at-requires-4 c =
    let tag = tag_written c.args.l.tag (all_blank_lem _ _ _ c.print_blanks.ensures c.requires) c.print_at.ensures in
    ready _ _ _ _ (code_written c.args.l.code (tare_written c.args.l.tare tag c.print_at-2.ensures) c.print_at-3.ensures) refl

pub returns : goal.returns
unfolding line_columns put blanks
returns c =
    rw (
      c.print_at-4.ensures,
      c.print_at-3.ensures,
      c.print_at-2.ensures,
      c.print_at.ensures,
      c.print_blanks.ensures,
      c.requires,
    )
