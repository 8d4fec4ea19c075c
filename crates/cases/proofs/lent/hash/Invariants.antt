-- The hash is that of the bytes so far, below what it is counted by.
use Rattle.std.proofs.Common.{◌≡◌, ◌+◌, ◌*◌, ◌%◌, ◌<◌, take}
use Rattle.std.specs.List.{fold}
use Rattle.cases.proofs.lent.hash.Given as goal

abbrev pub invariant-loop-byte : goal.invariant-loop-byte
invariant-loop-byte l = (l.h < 2147483647) × (l.h ≡ fold (λ h x. (h * 257 + x + 1) % 2147483647) 0 (take l.byte-index l.lent))
