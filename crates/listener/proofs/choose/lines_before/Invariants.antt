-- The i lines passed are not of our tag.
use Rattle.std.proofs.Common.{◌≡◌, ◌+◌, drop}
use Rattle.listener.specs.Listener.{before}
use Rattle.listener.specs.Inner.OnReading.{tagged_lines}
use Rattle.listener.proofs.choose.lines_before.Given as goal

abbrev pub invariant-loop-i : goal.invariant-loop-i
invariant-loop-i l = before l.tag (tagged_lines l.tags) ≡ l.i + before l.tag (tagged_lines (drop l.i l.tags))
