-- The bytes so far are as they are to be, and x is the next one.
use Rattle.std.proofs.Common.{◌≡◌, ℕ, ◌+◌, ◌*◌, ◌%◌, ◌<◌, slice_index}
use Rattle.cases.proofs.lent.fill.Given as goal

abbrev pub invariant-loop-byte : goal.invariant-loop-byte
invariant-loop-byte l = (l.x ≡ (7 + 31 * l.byte-index) % 256) × ((i : ℕ) → i < l.byte-index → slice_index l.byte-items i ≡ (7 + 31 * i) % 256)
