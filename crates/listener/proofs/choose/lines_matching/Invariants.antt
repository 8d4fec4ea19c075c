-- Found are those of our tag among the lines passed.
use Rattle.std.proofs.Common.{◌≡◌, ◌+◌, ◌≤◌, drop, length}
use Rattle.listener.specs.Listener.{matching}
use Rattle.listener.specs.Inner.OnReading.{tagged_lines}
use Rattle.listener.proofs.choose.lines_matching.Given as goal

abbrev pub invariant-loop-own : goal.invariant-loop-own
invariant-loop-own l =
    (l.found ≤ l.own-index)
    × (length (matching l.tag (tagged_lines l.tags)) ≡ l.found + length (matching l.tag (tagged_lines (drop l.own-index l.tags))))
