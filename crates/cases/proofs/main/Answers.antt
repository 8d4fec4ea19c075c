-- Each buffer is as long as it is made: by the law of lists of one number, since such a list is too long to be computed.
use Rattle.std.proofs.Common.{ℕ, sym}
use Rattle.std.proofs.Math.ListN.{length-replicate}
use Rattle.cases.proofs.main.Goals as goal

pub slice_bounds-serve-end : goal.slice_bounds-serve-end
slice_bounds-serve-end c = sym (length-replicate {A = ℕ} 2400000 0)

pub slice_bounds-serve-end-2 : goal.slice_bounds-serve-end-2
slice_bounds-serve-end-2 c = sym (length-replicate {A = ℕ} 2400000 0)
