-- What is chosen from place i on is what is chosen from the first place on.
use Rattle.std.proofs.Common.{◌≡◌, ◌+◌, ◌-◌, ◌≤◌, drop, length}
use Rattle.buckets.specs.declared.Pair.{Pair}
use Rattle.listener.specs.Listener.{tag_below}
use Rattle.listener.specs.Inner.OnReading.{chosen}
use Rattle.listener.proofs.choose.pair_below.Given as goal

abbrev pub invariant-loop-i : goal.invariant-loop-i
invariant-loop-i l =
    (l.i ≤ length l.pairs + 1)
    × (chosen (λ (p : Pair). tag_below p.tag l.tag) (λ p. p.distance) (drop 1 l.pairs)
    ≡ chosen (λ (p : Pair). tag_below p.tag l.tag) (λ p. p.distance) (drop l.i l.pairs))

abbrev pub decreases-loop-i : goal.decreases-loop-i
decreases-loop-i l = length l.pairs + 1 - l.i
