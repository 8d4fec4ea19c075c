-- A level whose full bucket has too few data buckets is passed.
use Rattle.std.proofs.Common.{◌≡◌, ℕ, suc, refl, sym, ap, ◌∙◌, ◌+◌, ◌-◌, ◌*◌, ◌^◌, ◌≤◌, ◌<◌, nat_le, ⊎_elim, arith}
use native.Mathlib.Numerals.{add-one}
use borrow.Author.Tests.{le-leb, lt-leb}
use Rattle.std.proofs.Math.Nat.{pow-succ', pow-zero, mul-one, mul_comm, mul-le-mul}
use Rattle.buckets.specs.Lengths.{lines_most, entries_most}
use Rattle.cycle.specs.Tree.{levels, levels_most}
use Rattle.cycle.proofs.Basics.Ranges.{le_or_lt}
use Rattle.cycle.proofs.Basics.Least.{least_found, least_next}
use Rattle.cycle.proofs.Basics.Powers.{power_reaches}
use Rattle.cycle.proofs.Trees.Levels.{levels_from}
use Rattle.cycle.proofs.measures.levels_of.Goals as goal

-- one level more is looked at
look : (n d k : ℕ) → 2 ≤ n → d ≤ lines_most → n ^ k + 1 ≤ d → (k + 1 ≤ levels_most) × (levels_from n d k ≡ levels_from n d (k + 1))
look n d k low few l =
    ⊎_elim
    (λ (g : levels_most ≤ k). let r = power_reaches n k low g in absurd (omega arith))
    (λ (g : k < levels_most).
    let e : levels_most + 1 - k ≡ suc (levels_most + 1 - suc k) = omega arith in
    (omega arith, rw (e, add-one k) (least_next (levels_most + 1 - suc k) k (λ x. nat_le d (n ^ x)) (lt-leb d (n ^ k) (omega arith)))))
    (le_or_lt levels_most k)

pub loop-power-init : goal.loop-power-init
unfolding levels
loop-power-init c =
    let n = c.args.n in
    let one : n ^ 1 ≡ n = pow-succ' n 0 ∙ rw pow-zero (mul-one n) in
    record { low = omega arith; high = omega arith; is_power = sym one; left = refl }

pub overflow_mul-power : goal.overflow_mul-power
overflow_mul-power c =
    let m : c.loop-power.power * c.args.n ≤ lines_most * entries_most = mul-le-mul {n₂ = lines_most} {m₂ = entries_most} (omega arith) (omega arith) in
    omega arith

pub loop-power-smaller : goal.loop-power-smaller
loop-power-smaller c =
    let l = c.loop-power.invariant in
    let p = l.is_power in
    let g = look c.args.n c.args.d c.loop-power.k c.requires.0 c.requires.2 (omega arith) in
    omega arith

pub loop-power-preserved : goal.loop-power-preserved
loop-power-preserved c =
    let n = c.args.n in
    let k = c.loop-power.k in
    let l = c.loop-power.invariant in
    let p = l.is_power in
    let g = look n c.args.d k c.requires.0 c.requires.2 (omega arith) in
    let grown : n ^ (k + 1) ≡ n ^ k * n = rw (add-one k) (pow-succ' n k ∙ mul_comm n (n ^ k)) in
    record { low = omega arith; high = g.0; is_power = ap (λ x. x * n) p ∙ sym grown; left = l.left ∙ g.1 }

pub returns : goal.returns
returns c =
    let n = c.args.n in
    let d = c.args.d in
    let k = c.loop-power.k in
    let l = c.loop-power.invariant in
    let p = l.is_power in
    sym (l.left ∙ least_found (levels_most + 1 - k) k (λ x. nat_le d (n ^ x)) (le-leb d (n ^ k) (omega arith)))
