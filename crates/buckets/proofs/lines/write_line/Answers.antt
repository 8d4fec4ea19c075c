-- The columns, and the newline behind them.
use Rattle.std.proofs.Common.{arith, ℕ, ◌≡◌, List, ◌++◌, length, drop, set}
use lib.ListN.{length-drop}
use Rattle.columns.proofs.Put.{set_last}
use Rattle.buckets.specs.declared.Line.{Line}
use Rattle.buckets.specs.ListLine.{line_columns, print_line}
use Rattle.buckets.specs.Lengths.{newline, line_columns_width, line_length}
use Rattle.buckets.proofs.ListLines.{length_line_columns}
use Rattle.buckets.proofs.lines.write_line.Goals as goal

ended : (d : List ℕ) (l : Line) {last : List ℕ} → length d ≡ line_length → last ≡ line_columns l → set (last ++ drop line_columns_width d) line_columns_width newline ≡ print_line l
unfolding print_line
ended d l h e =
    let one : length (drop line_columns_width d) ≡ 1 = simp length-drop (omega arith) in
    rw e (set_last (line_columns l) (drop line_columns_width d) line_columns_width newline (length_line_columns l) one)

pub returns : goal.returns
returns c = ended c.args.part.now c.args.l c.requires c.write_columns.ensures
