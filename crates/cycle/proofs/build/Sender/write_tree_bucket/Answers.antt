-- The columns at x are those of the cycle's bucket x.
use Rattle.std.proofs.Common.{arith}
use Rattle.cycle.proofs.Building.Writings.{bucket_written, tree_below}
use Rattle.cycle.proofs.build.Sender.write_tree_bucket.Goals as goal

pub overflow_mul-at : goal.overflow_mul-at
overflow_mul-at c = omega (arith, tree_below c.args.self.now c.requires.1)

pub overflow_add-to : goal.overflow_add-to
overflow_add-to c = omega (arith, tree_below c.args.self.now c.requires.1)

pub slice_bounds-print_tree_bucket-end : goal.slice_bounds-print_tree_bucket-end
slice_bounds-print_tree_bucket-end c = omega (arith, tree_below c.args.self.now c.requires.1)

pub returns : goal.returns
returns c =
    let w = c.args.self.now in (
      c.child_count-count.ensures,
      bucket_written w c.args.image.now c.requires.0 c.args.x (tree_below w c.requires.1).0 c.printer.result c.printer.ensures
          c.print_tree_bucket.auto.part c.print_tree_bucket.ensures,
    )
