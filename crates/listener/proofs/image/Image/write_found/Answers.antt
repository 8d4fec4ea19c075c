-- `listener::image::Image::write_found` meets its contract: the lines got so far stand at the front of the buffer, and the run
-- ends where it finds.
-- Assumes nothing.
use Rattle.std.proofs.Common.{arith}
use Rattle.listener.proofs.Lookups.Runs.{named_few, lines_few, doze_few, fewer_to_go}
use Rattle.listener.proofs.Lookups.WritingRuns.{nothing_written, room_with, wrote_at_end, written_onward}
use Rattle.listener.proofs.image.Image.write_found.Goals as goal

pub loop-d-init : goal.loop-d-init
loop-d-init c = nothing_written _ _ c.args.out.now c.requires.was_heard

pub copy_named-requires-clause-count_bound : goal.copy_named-requires-clause-count_bound
copy_named-requires-clause-count_bound c =
    let w = c.loop-d.invariant in
    (named_few w.so_far, room_with (record { written = w; finds = c.requires.found_within }))

pub overflow_add-lines : goal.overflow_add-lines
overflow_add-lines c = omega (arith, lines_few c.loop-d.invariant.so_far)

pub returns-in_default : goal.returns-in_default
returns-in_default c =
    wrote_at_end (record { written = c.loop-d.invariant; finds = c.requires.found_within }) c.in_default.not-Doze
    c.copy_named.ensures

pub hear_next-h-requires : goal.hear_next-h-requires
hear_next-h-requires c =
    let f = c.loop-d.invariant.so_far in
    (f.heard.inside, doze_few f c.in-Doze.is)

pub loop-d-smaller : goal.loop-d-smaller
loop-d-smaller c = fewer_to_go c.loop-d.invariant.so_far c.in-Doze.d c.in-Doze.is c.hear_next-h.ensures

pub loop-d-preserved : goal.loop-d-preserved
loop-d-preserved c =
    written_onward (record { written = c.loop-d.invariant; finds = c.requires.found_within }) c.in-Doze.d c.in-Doze.is
    c.hear_next-h.ensures c.copy_named.auto.out c.copy_named.ensures
