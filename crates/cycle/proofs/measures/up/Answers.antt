-- Both are the least number of groups of b that a fit into.
use Rattle.std.proofs.Common.{◌≡◌, ◌∙◌, ℕ, suc, ◌+◌, ◌*◌, ◌/◌, ◌%◌, ◌≤◌, ◌<◌, min, arith, ⊎_elim}
use Rattle.std.proofs.Math.Nat.{mul-le-mul_right, suc-mul}
use Rattle.std.proofs.lemmas.Grind.{div_ceil_times}
use Rattle.columns.specs.Lists
use Rattle.cycle.proofs.Basics.Ranges.{le_or_lt}
use Rattle.cycle.proofs.Trees.TreeLaws.{up_least, up_covers}
use Rattle.cycle.proofs.measures.up.Goals as goal

rounded : (a b : ℕ) → 1 ≤ b → a / b + min 1 (a % b) ≡ Lists.up a b
rounded a b h =
    let q : ℕ = a / b + min 1 (a % b) in
    let around = div_ceil_times a b h in
    let least = up_least a b q h around.0 in
    let covers = up_covers a b h in
    ⊎_elim
    (λ (l : q ≤ Lists.up a b). omega (arith, least))
    (λ (l : Lists.up a b < q).
    let more : suc (Lists.up a b) * b ≤ q * b = mul-le-mul_right b l in
    let grown = suc-mul (Lists.up a b) b in
    absurd (omega (arith, around, covers)))
    (le_or_lt q (Lists.up a b))

pub returns : goal.returns
returns c = c.div_ceil.ensures ∙ rounded c.args.a c.args.b c.requires.0
