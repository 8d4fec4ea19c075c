-- How far ahead in the cycle a bucket stands, and how many data buckets are sent up to it.
-- Assumes nothing.
use mathlib.Core.Path.{◌≡◌, ◌∙◌, ap}
use Prim.Native.Nat.{suc}
use mathlib.Core.Bool.{Bool, true, false}
use mathlib.Core.List.{List, ◌∷◌}
use native.Mathlib.Numerals.{add-one}
use native.Mathlib.Omega.{arith}
use lib.ListN.{length}
use Rattle.cycle.specs.Tree.{Plan}
use Rattle.cycle.specs.Layouts.{Slot}
use Rattle.cycle.specs.Cycle.{distance_to, is_data}
use Rattle.cycle.proofs.Sequences.Sequence.{data_count}
use Rattle.cycle.proofs.Reach.Distances.{First, distance_hit}

-- the first hit of the rest of this cycle
pub distance_first : {f : Slot → Bool} {rest : List Slot} (r : First f rest) → distance_to f rest ≡ suc (length r.skipped)
distance_first {f} r =
    ap (distance_to f) r.splits ∙
    (distance_hit f r.skipped r.hit r.behind r.fresh r.is ∙ add-one (length r.skipped))

-- ---- what was sent

pub count_data : (t : Plan) (x : Slot) (xs : List Slot) → is_data t x ≡ true → data_count t (x ∷ xs) ≡ suc (data_count t xs)
count_data t x xs h = rw h (omega arith)

pub count_index : (t : Plan) (x : Slot) (xs : List Slot) → is_data t x ≡ false → data_count t (x ∷ xs) ≡ data_count t xs
count_index t x xs h = rw h (omega arith)
