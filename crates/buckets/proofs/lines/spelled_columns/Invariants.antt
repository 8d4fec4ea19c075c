-- What the columns spell is what those from c on spell behind x, and x has as many columns as were passed.
use Rattle.std.proofs.Common.{◌≡◌, ◌+◌, ◌*◌, ◌^◌, ◌≤◌, take, drop}
use Rattle.columns.specs.PrintedNumbers.{value}
use Rattle.buckets.proofs.lines.spelled_columns.Given as goal

abbrev pub invariant-loop-c : goal.invariant-loop-c
invariant-loop-c l =
    (l.x + 23 ≤ 23 * 10 ^ l.c-index)
    × (value 0 (take l.width (drop l.at l.text)) ≡ value l.x (drop l.c-index (take l.width (drop l.at l.text))))
