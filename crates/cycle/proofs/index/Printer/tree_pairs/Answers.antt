-- The root of layout 2 has a pair.
use Rattle.std.proofs.Common.{◌-◌, [], ◌∷◌, ◌++◌, sym, ap, ap₂, ◌∙◌, List, arith, rules}
use denote.Enum.Bare.{same_true, same_false}
use Rattle.buckets.specs.declared.Pair.{Pair}
use Rattle.cycle.specs.Tree.{layout_number}
use Rattle.cycle.specs.contracts.Layout.{the_type}
use Rattle.cycle.specs.declared.Layout.TheVariants.{OneM}
use Rattle.cycle.specs.Inner.Held.{plan_of, plan_in}
use Rattle.cycle.proofs.Basics.LayoutKinds.{is_one_m}
use Rattle.cycle.proofs.Buckets.TreeBuckets.{tree_pair_one, tree_pair_low, tree_pair_none}
use Rattle.cycle.proofs.index.Printer.tree_pairs.Goals as goal
use Rattle.cycle.proofs.index.Printer.tree_pairs.Goals.{else-eq-via-then-eq+else-e-f, else-eq-via-else-eq}

pub returns-then-e-f : goal.returns-then-e-f
unfolding plan_in plan_of
returns-then-e-f c =
    let p = c.args.self.now in
    let f = p.part.now.cycle.now.f in
    c.push.ensures.items
    ∙ ap₂ (λ (ps : List Pair) (q : Pair). ps ++ q ∷ []) c.new-pairs.ensures c.first_pair.ensures
    ∙ sym
    (tree_pair_one (plan_in f p.source p.text.now) p.part.now.s.first (f.size - c.args.x) c.args.e
    (ap layout_number {y = OneM} (same_true the_type (search rules) _ _ (sym c.if-eq.ensures))) c.if-e-f.true)

pub returns-else-eq : goal.returns-else-eq
unfolding plan_in plan_of
returns-else-eq c =
    let p = c.args.self.now in
    let f = p.part.now.cycle.now.f in
    let t = plan_in f p.source p.text.now in
    let first = p.part.now.s.first in
    c.new-pairs.ensures
    ∙ sym
    (elim c.else-eq.branch [
      | else-eq-via-then-eq+else-e-f w ↦
          tree_pair_low t first (f.size - c.args.x) c.args.e
          (ap layout_number {y = OneM} (same_true the_type (search rules) _ _ (sym w.if-eq.ensures))) w.if-e-f.false
      | else-eq-via-else-eq w ↦
          tree_pair_none t first (f.size - c.args.x) c.args.e
          (λ two. same_false the_type _ _ (sym w.if-eq.ensures) (is_one_m f.layout (λ one. omega (arith, one, two))))
    ])
