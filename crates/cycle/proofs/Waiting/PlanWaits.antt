-- The waits of a tag by its first and its last data bucket: they do not look at the lines, and how large they grow.
-- Assumes nothing.
use mathlib.Core.Path.{◌≡◌, ap}
use Prim.Native.Nat.{ℕ, ◌+◌, ◌-◌, ◌*◌, ◌/◌, ◌≤◌, ◌<◌}
use native.Mathlib.Nat.{mul-le-mul}
use native.Mathlib.Omega.{arith}
use mathlib.Core.List.{List, []}
use lib.ListN.{length, get_or}
use Rattle.columns.specs.Lists.{only, last_or, range}
use Rattle.buckets.specs.declared.Line.{Line}
use Rattle.cycle.specs.Tree.{Plan}
use Rattle.cycle.specs.Layouts.{Slot, slot}
use Rattle.cycle.specs.Cycle.{occurs, distance_to, first_place, cycle_size}
use Rattle.cycle.specs.Waits.{starts_at, segment_start, waits_between}
use Rattle.cycle.specs.declared.Figures.{Figures}
use Rattle.cycle.specs.Inner.Held.{plan_of, Ready}
use Rattle.cycle.proofs.Trees.Shapes.{slots_shape}
use Rattle.cycle.proofs.Reach.DataHeld.{data_ends}

-- no tag's waits are more: 2 * N * N with N up to 99,999
abbrev pub waits_most : ℕ
waits_most = 20000000000

pub waits_shape :
    (f : Figures) (ls ms : List Line) (first last : ℕ) →
    waits_between (plan_of f ls) first last ≡ waits_between (plan_of f ms) first last
unfolding waits_between segment_start starts_at first_place cycle_size plan_of
waits_shape f ls ms first last =
    let place : List Slot → ℕ → ℕ = λ xs q. distance_to (occurs (f.k + 1) q) xs - 1 in
    let start : List Slot → ℕ = λ xs. last_or 0 (only (λ x. (get_or xs x (slot 0 0)).starts) (range 0 (place xs first))) in
    let waits : List Slot → ℕ =
    λ xs. length xs * (place xs last + 1) + length xs * (length xs - start xs) - length xs * (length xs - 1) / 2 in
    ap waits (slots_shape f ls ms)

pub waits_high : (f : Figures) (first last : ℕ) → Ready f → last < f.d → waits_between (plan_of f []) first last ≤ waits_most
unfolding waits_between plan_of
waits_high f first last ready inside =
    let t : Plan = plan_of f [] in
    let n : ℕ = cycle_size t in
    let end : ℕ = first_place t (f.k + 1) last in
    let start : ℕ = segment_start t first in
    let size : n ≤ 99999 = omega (arith, ready.size_is, ready.size_high) in
    let ends : end + 1 ≤ 99999 = omega (arith, ready.size_high, data_ends f last ready inside) in
    let one : n * (end + 1) ≤ 99999 * 99999 = mul-le-mul {n₁ = n} {m₁ = end + 1} {n₂ = 99999} {m₂ = 99999} size ends in
    let two : n * (n - start) ≤ 99999 * 99999 = mul-le-mul {n₁ = n} {m₁ = n - start} {n₂ = 99999} {m₂ = 99999} size (omega arith) in
    omega arith
