-- `listener::image::Image::hear_to_end` meets its contract: what is left of the run is that of the definition, and the writing
-- can begin where no lines were got before.
-- Assumes nothing.
use Rattle.std.proofs.Common.{refl, ap, Ok, ◌∙◌, arith}
use Rattle.listener.specs.Lookup.{as_ending}
use Rattle.listener.specs.declared.Ending.TheVariants.{Found}
use Rattle.listener.proofs.Lookups.Runs.{at_start, counted_with, lines_few, after_step, doze_few, onward, fewer_to_go, begins}
use Rattle.listener.proofs.image.Image.hear_to_end.Goals as goal

pub loop-h-init : goal.loop-h-init
loop-h-init c =
    let f = at_start _ _ c.args.tag c.args.t c.new.ensures c.hear-h.ensures c.requires in
    record { so_far = f; begins = begins f refl }

pub overflow_add-lines : goal.overflow_add-lines
overflow_add-lines c = omega (arith, lines_few c.loop-h.invariant.so_far)

pub hear_next-h-requires : goal.hear_next-h-requires
hear_next-h-requires c =
    let f = c.loop-h.invariant.so_far in
    (f.heard.inside, doze_few f c.in-Doze.is)

pub loop-h-smaller : goal.loop-h-smaller
loop-h-smaller c = fewer_to_go c.loop-h.invariant.so_far c.in-Doze.d c.in-Doze.is c.hear_next-h.ensures

pub loop-h-preserved : goal.loop-h-preserved
loop-h-preserved c =
    record {
      so_far = rw c.hear_next-h.ensures (onward c.loop-h.invariant.so_far c.in-Doze.d c.in-Doze.is);
      begins = c.loop-h.invariant.begins;
    }

pub loop-h-smaller-then-lines-eq0 : goal.loop-h-smaller-then-lines-eq0
loop-h-smaller-then-lines-eq0 c = fewer_to_go c.loop-h.invariant.so_far c.in-Doze.d c.in-Doze.is c.hear_next-h.ensures

pub loop-h-preserved-then-lines-eq0 : goal.loop-h-preserved-then-lines-eq0
loop-h-preserved-then-lines-eq0 c =
    rw c.hear_next-h.ensures
    (let f = onward c.loop-h.invariant.so_far c.in-Doze.d c.in-Doze.is in
    record { so_far = f; begins = begins f c.if-lines-eq0.true })

pub returns-in-Found : goal.returns-in-Found
returns-in-Found c =
    let f = c.loop-h.invariant.so_far in (
      c.loop-h.invariant.begins,
      ap as_ending (after_step f c.in-Found.is) ∙ ap (λ n. Ok (Found c.loop-h.h.step.listener n)) (counted_with f),
    )

pub returns-in-Absent : goal.returns-in-Absent
returns-in-Absent c = (c.loop-h.invariant.begins, ap as_ending (after_step c.loop-h.invariant.so_far c.in-Absent.is))

pub returns-in-Refused : goal.returns-in-Refused
returns-in-Refused c = ap as_ending (after_step c.loop-h.invariant.so_far c.in-Refused.is)
