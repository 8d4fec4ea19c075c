-- Document 02, C-13, "Leading zeros from two old bridges": what holds of a list and of the list with its leading zeros made blank
-- (`ListLine.blanked_list`), for every list, settings and room.
-- Assumes nothing.
use Rattle.std.specs.Prelude.{◌≡◌, ℕ, ◌%◌, ◌≤◌, List, length}
use Rattle.std.specs.Prelude.{None}
use Rattle.columns.specs.Lists.{joined}
use Rattle.buckets.specs.Lengths.{line_length}
use Rattle.buckets.specs.ListLine.{print_line, list_lines, blanked_list}
use Rattle.cycle.specs.declared.Settings.{Settings}
use Rattle.cycle.specs.Building.{build, line_misprinted}
use Rattle.cycle.specs.ReadingBack.{handed, read_back, Builds}

pub record LeadingZeros : Type 0 where
  -- "building either gives the same image": the same answer, with its place, and the same bytes
  pub builds_same : (s : Settings) (list : List ℕ) (room : ℕ) → build s (blanked_list list) room ≡ build s list room
  -- "A list read back from an image is the list with its leading zeros made blank"
  pub read_back_blanked :
      (s : Settings) (list image : List ℕ) (room : ℕ) → Builds s list image → length list ≤ room →
      read_back s image room ≡ handed (blanked_list list)
  -- lists that build one image differ in leading zeros alone
  pub one_image : (s : Settings) (list other image : List ℕ) → Builds s list image → Builds s other image → blanked_list list ≡ blanked_list other
  -- a list without leading zeros stays
  pub blanked_stays : (list : List ℕ) → blanked_list (blanked_list list) ≡ blanked_list list
  -- every line has the same four numbers as before
  pub same_numbers_lem : (list : List ℕ) → list_lines (blanked_list list) ≡ list_lines list
  -- and where no line is misprinted each number stands as on air, without leading zeros, zero as one 0
  pub printed_plain : (list : List ℕ) → length list % line_length ≡ 0 → (line_misprinted list).holds ≡ None → blanked_list list ≡ joined print_line (list_lines list)
