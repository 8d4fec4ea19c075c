-- Document 02, C-13, by example: each row as wanted, computed.
-- Assumes nothing.
use mathlib.Core.Path.{◌≡◌, refl}
use Rattle.columns.specs.Lists.{strict}
use Rattle.columns.specs.PrintedNumbers.{read_number, read_lenient}
use Rattle.buckets.specs.ListLine.{tag_fits, fits, line_columns, print_line, spelled, has_numbers, read_line, blanked_field, blanked_line}
use Rattle.buckets.specs.Bridges.{table, wanted, FullLine}

pub bridges : table ≡ wanted
unfolding strict read_number read_lenient blanked_field
bridges = refl

pub full_line_lem : FullLine
unfolding read_lenient tag_fits fits line_columns print_line spelled has_numbers read_line blanked_field blanked_line
full_line_lem = record { reads = refl; blanked = refl }
