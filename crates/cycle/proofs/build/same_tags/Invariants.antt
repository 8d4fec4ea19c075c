-- The columns from i on add the same digits.
use Rattle.std.proofs.Common.{◌≡◌, ℕ, ◌+◌, ◌-◌, ◌≤◌, ◌<◌, get_or}
use Rattle.buckets.specs.Lengths.{tag_width}
use Rattle.cycle.proofs.build.same_tags.Given as goal

abbrev pub invariant-loop-i : goal.invariant-loop-i
invariant-loop-i l = (k : ℕ) → l.i ≤ k → k < tag_width → get_or l.list (l.a + k) 0 - 48 ≡ get_or l.list (l.b + k) 0 - 48
