-- Either layout's cycle keeps what listeners rest on.
-- Assumes nothing.
use native.Mathlib.Decide.{ℕ_discrete}
use Rattle.cycle.specs.Tree.{Plan}
use Rattle.cycle.proofs.Sequences.Sequence.{Sound, Keeps}
use Rattle.cycle.proofs.Sequences.Distributed.{keeps_distributed}
use Rattle.cycle.proofs.Sequences.OneM.{keeps_one_m}

pub keeps : (t : Plan) → Sound t → Keeps t
keeps t sound = elim (ℕ_discrete t.layout 1) [ yes e ↦ keeps_distributed t sound e | no f ↦ keeps_one_m t sound f ]
