-- Path, tree and data buckets adjoin.
use Rattle.std.proofs.Common.{◌≡◌, ◌+◌, [], length, sym, ap, ◌∙◌, arith}
use Rattle.cycle.specs.Judging.{tree_at}
use Rattle.cycle.specs.Inner.Held.{plan_of, plan_in, written}
use Rattle.cycle.specs.declared.Source.TheVariants.{List as InList}
use Rattle.cycle.proofs.Building.Writings.{seats, own_tree, grown}
use Rattle.cycle.proofs.build.Sender.write_segment.Goals as goal

pub write_subtree-requires : goal.write_subtree-requires
write_subtree-requires c = (omega arith, own_tree c.args.self.now)

pub returns : goal.returns
returns c =
    let w = c.args.self.now in
    let f = w.part.cycle.now.f in
    let list = w.list.now in
    let image = c.args.image.now in
    let s = w.part.s in
    let seated = seats w in
    let tree_end : s.tree_at + length (tree_at (plan_of f []) s.height s.root) ≡ s.data_at =
    sym (w.part.placed []).tree_length in
    grown f list w.sending image c.requires s.start _ _ s.data_at s.end
    (omega (arith, seated)) (omega (arith, seated)) (omega (arith, seated))
    (grown f list w.sending image c.requires s.start _ _ s.tree_at s.data_at
    (omega (arith, seated)) (omega (arith, seated)) (omega (arith, seated)) c.write_path.ensures
    (c.write_subtree.ensures.1 ∙ ap (written (plan_in f InList list) _ s.tree_at) tree_end))
    c.write_datas.ensures
