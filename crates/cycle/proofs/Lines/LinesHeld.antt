-- Lines in the text that the code reads: which data bucket holds a line, and that the text holds it whole.
-- Assumes nothing.
use Prim.Native.Nat.{ℕ, ◌+◌, ◌*◌, ◌/◌, ◌%◌, ◌≤◌, ◌<◌}
use native.Mathlib.Nat.{div-mul-le_self, mod-lt}
use native.Mathlib.Omega.{arith}
use mathlib.Core.List.{[]}
use Rattle.cycle.specs.declared.Figures.{Figures}
use Rattle.cycle.specs.declared.Source.{Source}
use Rattle.cycle.specs.declared.Source.TheVariants.{List as InList, Image as InImage}
use Rattle.cycle.specs.Inner.Held.{plan_of, Shaped, Ready, line_at, TextFits}
use Rattle.cycle.proofs.Trees.TreeLaws.{lt_up}
use Rattle.cycle.proofs.Reach.DataHeld.{data_ends}
use Rattle.buckets.specs.Lengths.{tag_width}

-- the data bucket of line i
pub line_bucket : (f : Figures) (i : ℕ) → Shaped f → i < f.lines → i / f.p < f.d
line_bucket f i s h =
    let low : i / f.p * f.p ≤ i = div-mul-le_self i f.p in
    rw s.d_is (lt_up f.lines f.p (i / f.p) s.p_low (omega arith))

pub line_column : (f : Figures) (i : ℕ) → Shaped f → i % f.p ≤ 7
line_column f i s = let l = mod-lt i {m = f.p} s.p_low in omega (arith, s.p_high)

-- a line's tag lies within the text
pub line_fits :
    (f : Figures) (source : Source) (i c : ℕ) → Ready f → i < f.lines → TextFits f source c → line_at (plan_of f []) source i + tag_width ≤ c
unfolding plan_of
line_fits f InList i c ready h fits = omega arith
line_fits f InImage i c ready h fits =
    let place = data_ends f (i / f.p) ready (line_bucket f i ready.shaped h) in
    let column = line_column f i ready.shaped in
    omega arith
