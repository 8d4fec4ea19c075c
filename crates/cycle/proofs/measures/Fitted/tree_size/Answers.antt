-- The bucket is full where its last place has a data bucket below.
use mathlib.Core.Path.{sym, ◌∙◌}
use mathlib.Core.List.{[]}
use native.Mathlib.Numerals.{add-one}
use native.Mathlib.Omega.{arith}
use Rattle.cycle.specs.Inner.Held.{plan_of, InTree}
use Rattle.cycle.proofs.Trees.TreeSizes.{tree_full}
use Rattle.cycle.proofs.measures.Fitted.tree_size.Goals as goal

pub returns-then-j-power : goal.returns-then-j-power
unfolding plan_of InTree
returns-then-j-power c =
    let e = c.args.e in
    let j = c.args.j in
    c.full_size.ensures
    ∙ sym
    (tree_full (plan_of c.args.self.now.f.now []) (omega (arith, c.args.self.now.shaped.n_low)) e j c.requires.1.0
    (rw (← add-one j) (rw c.power.ensures at c.if-j-power.true)))
