-- A segment with all its data buckets has a full tree, and the one that ends before has the last.
use Rattle.std.proofs.Common.{[], sym, ◌∙◌, ◌-◌, arith, add-one}
use Rattle.cycle.specs.Inner.Held.{plan_of, InTree}
use Rattle.cycle.proofs.Trees.TreeSizes.{tree_full}
use Rattle.cycle.proofs.Trees.Readiness.{block_trees}
use Rattle.cycle.proofs.Trees.Segmented.{block_in, block_reached}
use Rattle.cycle.proofs.Cycle.segment_tree.Goals as goal

pub overflow_add-b : goal.overflow_add-b
overflow_add-b c = omega (arith, (block_reached c.args.self.now.f c.args.b c.args.self.now.ready c.requires.0 c.requires.1).place)

pub overflow_mul-b : goal.overflow_mul-b
overflow_mul-b c =
    rw (block_trees c.args.self.now.f c.args.self.now.ready.shaped c.args.self.now.ready.trees c.requires.0).span
    (omega (arith, (block_reached c.args.self.now.f c.args.b c.args.self.now.ready c.requires.0 c.requires.1).end))

pub returns-then-b-self : goal.returns-then-b-self
unfolding plan_of InTree
returns-then-b-self c =
    let f = c.args.self.now.f in
    let t = block_trees f c.args.self.now.ready.shaped c.args.self.now.ready.trees c.requires.0 in
    t.full
    ∙ sym
    (tree_full (plan_of f []) (omega (arith, c.args.self.now.ready.shaped.n_low)) (f.k - f.copies) c.args.b (omega arith)
    (rw (← add-one c.args.b) (rw t.span at c.if-b-self.true)))

pub returns : goal.returns
unfolding InTree
returns c =
    let t = block_trees c.args.self.now.f c.args.self.now.ready.shaped c.args.self.now.ready.trees c.requires.0 in
    let behind = rw (t.span, add-one c.args.b) at c.if-b-self.false in
    t.last c.args.b (block_in c.args.self.now.f c.args.b c.args.self.now.ready c.requires.0 c.requires.1).1 (omega arith)
