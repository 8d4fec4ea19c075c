-- It is an index bucket of the segment, and its pairs are the tree's.
use Rattle.std.proofs.Common.{refl, ◌∙◌, arith}
use Rattle.cycle.proofs.Segmenting.SegmentParts.{seated}
use Rattle.cycle.proofs.Buckets.TreeBuckets.{before_data, tree_place, tree_printed}
use Rattle.cycle.proofs.index.Printer.print_tree_bucket.Goals as goal

pub tree_pairs-pairs-requires : goal.tree_pairs-pairs-requires
tree_pairs-pairs-requires c = (tree_place c.args.self.now.printing c.requires.tree_place).below

pub print_index_bucket-requires-clause-index_place : goal.print_index_bucket-requires-clause-index_place
print_index_bucket-requires-clause-index_place c = tree_place c.args.self.now.printing c.requires.tree_place

pub print_index_bucket-requires-clause-start_le_x : goal.print_index_bucket-requires-clause-start_le_x
print_index_bucket-requires-clause-start_le_x c =
    let part = c.args.self.now.part.now in
    let p = c.requires.tree_place in
    let sits = seated part.cycle.now.f part.s part.cycle.now.ready part.placed in
    (omega (arith, sits, p.behind_path_lem), omega (arith, sits, before_data c.args.self.now.printing p))

pub returns : goal.returns
returns c =
    tree_printed c.args.self.now.printing c.requires.tree_place (c.as_slice.ensures.value ∙ c.tree_pairs-pairs.ensures)
    _ _ _ _ refl c.requires.count_value refl c.print_index_bucket.ensures
