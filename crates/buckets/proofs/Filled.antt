-- Items at the front of an array, one value behind them.
-- Assumes nothing.
use Rattle.std.proofs.Common.{◌≡◌, ℕ, List, ◌++◌, length, drop}
use Rattle.std.specs.Prelude.{replicate}
use Rattle.std.proofs.lemmas.List.{drop-replicate}
use Rattle.buckets.specs.Inner.Arrays.{filled}

pub filled_by : {A : Type 0} (w : ℕ) (x : A) (xs new : List A) → new ≡ xs → new ++ drop (length xs) (replicate w x) ≡ filled w x xs
unfolding filled
filled_by w x xs new e = rw (e, drop-replicate (length xs) w x)
