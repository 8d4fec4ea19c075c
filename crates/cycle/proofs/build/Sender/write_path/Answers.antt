-- The path bucket at x is written over those before it.
use Rattle.std.proofs.Common.{◌+◌, arith}
use Rattle.cycle.proofs.Building.Writings.{on_path, path_below, bucket_written, begun, grown}
use Rattle.cycle.proofs.build.Sender.write_path.Goals as goal

pub loop-x-init : goal.loop-x-init
loop-x-init c =
    let w = c.args.self.now in
    begun w.part.cycle.now.f w.list.now w.sending c.args.image.now c.requires w.part.s.start

pub overflow_add-i : goal.overflow_add-i
overflow_add-i c = omega (arith, path_below c.args.self.now c.loop-x.x (omega arith) c.loop-x-test.true)

pub overflow_mul-at : goal.overflow_mul-at
overflow_mul-at c = omega (arith, path_below c.args.self.now c.loop-x.x (omega arith) c.loop-x-test.true)

pub overflow_add-to : goal.overflow_add-to
overflow_add-to c = omega (arith, path_below c.args.self.now c.loop-x.x (omega arith) c.loop-x-test.true)

pub slice_bounds-print_path_bucket-end : goal.slice_bounds-print_path_bucket-end
slice_bounds-print_path_bucket-end c = omega (arith, path_below c.args.self.now c.loop-x.x (omega arith) c.loop-x-test.true)

pub print_path_bucket-requires-clause-path_place : goal.print_path_bucket-requires-clause-path_place
print_path_bucket-requires-clause-path_place c =
    rw c.printer.ensures.0 (on_path c.args.self.now c.loop-x.x (omega arith) c.loop-x-test.true)

pub loop-x-preserved : goal.loop-x-preserved
loop-x-preserved c =
    let w = c.args.self.now in
    let x = c.loop-x.x in
    let inside = (path_below w x (omega arith) c.loop-x-test.true).0 in
    grown w.part.cycle.now.f w.list.now w.sending c.args.image.now c.requires w.part.s.start c.loop-x.image _ x (x + 1)
    (omega arith) (omega arith) (omega arith) c.loop-x.invariant
    (bucket_written w c.loop-x.image (omega arith) x inside c.printer.result c.printer.ensures c.print_path_bucket.auto.part
    c.print_path_bucket.ensures)
