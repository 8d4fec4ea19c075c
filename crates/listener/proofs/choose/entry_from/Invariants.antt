-- What is chosen from place i on is what is chosen from the first place on.
use Rattle.std.proofs.Common.{◌≡◌, ◌-◌, ◌≤◌, leb, drop, length}
use Rattle.buckets.specs.declared.Entry.{Entry}
use Rattle.listener.specs.Inner.OnReading.{chosen}
use Rattle.listener.proofs.choose.entry_from.Given as goal

abbrev pub invariant-loop-i : goal.invariant-loop-i
invariant-loop-i l =
    (l.i ≤ length l.entries)
    × (chosen (λ (e : Entry). leb l.tag e.tag) (λ e. e.distance) l.entries
    ≡ chosen (λ (e : Entry). leb l.tag e.tag) (λ e. e.distance) (drop l.i l.entries))

abbrev pub decreases-loop-i : goal.decreases-loop-i
decreases-loop-i l = length l.entries - l.i
