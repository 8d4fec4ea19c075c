-- Layout 1 copies pairs of the levels above the data, layout 2 copies the tree.
use Rattle.std.proofs.Common.{◌≡◌, [], true, false, sym, ap, ◌∙◌, ◌-◌, min, max, arith}
use lib.Dec.{leb}
use borrow.Author.Tests.{le-leb, lt-leb}
use Rattle.buckets.specs.Lengths.{pairs_most}
use Rattle.cycle.specs.Tree.{layout_number}
use Rattle.cycle.specs.Inner.Held.{plan_of}
use Rattle.cycle.proofs.Basics.LayoutKinds.{not_one}
use Rattle.cycle.proofs.Trees.Readiness.{copies_distributed, copies_whole, same_ltb_leb, levels_are}
use Rattle.cycle.proofs.measures.copies_fit.Goals as goal

pub returns-then-f : goal.returns-then-f
unfolding plan_of
returns-then-f c =
    let f = c.args.f.now in
    let l = levels_are f c.requires in
    same_ltb_leb f.copies f.k f.copies (min pairs_most (f.k - 1)) (λ h. omega (arith, l.low)) (λ h. omega (arith, l.low))
    ∙ sym (copies_distributed (plan_of f []) (ap layout_number c.in-Distributed.is))

pub returns-else-f : goal.returns-else-f
unfolding plan_of
returns-else-f c =
    let f = c.args.f.now in
    lt-leb f.copies pairs_most c.if-f.false
    ∙ sym
    (copies_distributed (plan_of f []) (ap layout_number c.in-Distributed.is)
    ∙ lt-leb f.copies (min pairs_most (f.k - 1)) (omega arith))

pub returns-then-f-ge1 : goal.returns-then-f-ge1
unfolding plan_of
returns-then-f-ge1 c =
    let f = c.args.f.now in
    let some : leb 1 f.copies ≡ true = le-leb 1 f.copies (omega arith) in
    let most : c.max.result ≡ max 1 f.d = omega (arith, c.max.ensures) in
    ap (leb f.copies) most ∙ sym (copies_whole (plan_of f []) (not_one c.in-OneM.is) ∙ rw some)

pub returns-else-f-ge1 : goal.returns-else-f-ge1
unfolding plan_of
returns-else-f-ge1 c =
    let f = c.args.f.now in
    let none : leb 1 f.copies ≡ false = lt-leb 1 f.copies (omega arith) in
    none ∙ sym (copies_whole (plan_of f []) (not_one c.in-OneM.is) ∙ rw none)
