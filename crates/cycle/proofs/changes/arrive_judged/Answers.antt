-- 16, then 5 to 7 of the changed list's figures; and then the line is put in and the cycle written.
use Rattle.std.proofs.Common.{◌≡◌, ℕ, ◌*◌, List, Option, Ok, Err, unwrap_or, length, take, sym, ap, ◌∙◌, refl, arith, add-one}
use Rattle.std.proofs.lemmas.Result.{err_from_is_err_and}
use lib.Seq.{length-take-le}
use Rattle.columns.specs.PrintedNumbers.{value}
use Rattle.buckets.specs.Lengths.{tag_width, line_length}
use Rattle.buckets.specs.ListLine.{spelled, list_lines}
use Rattle.cycle.specs.Changes.{list_in, places_for}
use Rattle.cycle.specs.Inner.Changing.{first_from, tag_over}
use Rattle.cycle.proofs.Building.Accepted
use Rattle.cycle.proofs.Changing.Places.{place_or}
use Rattle.cycle.proofs.Changing.ChangedBuffers.{full_list, full_buffer}
use Rattle.cycle.proofs.Changing.Arriving.{known, refused_16, few, long, judged, refused, inside, sending, sent}
use Rattle.cycle.proofs.changes.arrive_judged.Goals as goal

-- where the line is put in
placed :
    (buffer : List ℕ) (lines : ℕ) (given : List ℕ) {tag i : ℕ} {o : Option ℕ} → i ≡ unwrap_or o lines →
    o ≡ first_from (tag_over tag) 0 (list_lines (take (line_length * lines) buffer)) → tag ≡ value 0 (take tag_width given) →
    i ≡ place_or lines (first_from (tag_over (spelled given).tag) 0 (list_lines (list_in buffer lines)))
unfolding list_in spelled
placed buffer lines given i found read =
    i ∙ ap (λ o. unwrap_or o lines) (found ∙ ap (λ t. first_from (tag_over t) 0 (list_lines (take (line_length * lines) buffer))) read)

pub returns-then-lines-eq-LINES_MOST : goal.returns-then-lines-eq-LINES_MOST
returns-then-lines-eq-LINES_MOST c =
    refused_16 c.args.settings c.args.buffer.now c.args.lines c.args.given.now (length c.args.out.now) c.requires.0
    c.from.result c.args.out.now c.from.ensures
    (full_list c.args.buffer.now c.args.lines c.if-lines-eq-LINES_MOST.true)

pub overflow_add-lines : goal.overflow_add-lines
overflow_add-lines c =
    let k = known c.args.settings c.args.buffer.now c.args.lines c.args.given.now (length c.args.out.now) c.requires.0 in
    omega (arith, k.few)

pub places_for-requires : goal.places_for-requires
places_for-requires c =
    let k = known c.args.settings c.args.buffer.now c.args.lines c.args.given.now (length c.args.out.now) c.requires.0 in
    omega (arith, k.few)

pub returns-then-not-places_for : goal.returns-then-not-places_for
returns-then-not-places_for c =
    refused_16 c.args.settings c.args.buffer.now c.args.lines c.args.given.now (length c.args.out.now) c.requires.0
    c.from-then-not-places_for.result c.args.out.now c.from-then-not-places_for.ensures
    (full_buffer c.args.buffer.now c.args.lines c.if-lines-eq-LINES_MOST.false
    (sym (ap (places_for c.args.buffer.now) (add-one c.args.lines)) ∙ (sym c.places_for.ensures ∙ c.if-not-places_for.true)))

pub overflow_add-lines-2 : goal.overflow_add-lines-2
overflow_add-lines-2 c =
    let k = known c.args.settings c.args.buffer.now c.args.lines c.args.given.now (length c.args.out.now) c.requires.0 in
    omega (arith, k.few)

pub figures_of-requires : goal.figures_of-requires
figures_of-requires c =
    let k = known c.args.settings c.args.buffer.now c.args.lines c.args.given.now (length c.args.out.now) c.requires.0 in (
      Accepted.settings_fit_lem c.args.settings k.settings,
      few c.args.settings c.args.buffer.now c.args.lines c.args.given.now (length c.args.out.now) c.requires.0
          c.if-lines-eq-LINES_MOST.false (sym c.places_for.ensures ∙ c.if-not-places_for.false),
    )

pub returns-in_err-f : goal.returns-in_err-f
returns-in_err-f c =
    let told = err_from_is_err_and c.from_residual.result c.from_residual.ensures.1 in
    let all =
    refused c.args.settings c.args.buffer.now c.args.lines c.args.given.now (length c.args.out.now) c.requires.0
    c.if-lines-eq-LINES_MOST.false (sym c.places_for.ensures ∙ c.if-not-places_for.false) _ c.args.out.now
    (judged c.args.settings c.args.buffer.now c.args.lines c.args.given.now (length c.args.out.now) c.requires.0
    c.if-lines-eq-LINES_MOST.false (sym c.places_for.ensures ∙ c.if-not-places_for.false) c.figures_of.result c.figures_of.ensures _ c.in_err-f.ensures) in
    (told.1 ∙ ap Err told.2 ∙ all.0, all.1, all.2)

pub slice_bounds-first_over-end : goal.slice_bounds-first_over-end
slice_bounds-first_over-end c = (known c.args.settings c.args.buffer.now c.args.lines c.args.given.now (length c.args.out.now) c.requires.0).places

pub slice_bounds-first_over-end-2 : goal.slice_bounds-first_over-end-2
slice_bounds-first_over-end-2 c =
    let k = known c.args.settings c.args.buffer.now c.args.lines c.args.given.now (length c.args.out.now) c.requires.0 in
    sym (length-take-le (line_length * c.args.lines) c.args.buffer.now k.places)

pub spelled_tag-requires : goal.spelled_tag-requires
spelled_tag-requires c =
    let k = known c.args.settings c.args.buffer.now c.args.lines c.args.given.now (length c.args.out.now) c.requires.0 in
    omega (arith, k.long)

pub overflow_mul-place : goal.overflow_mul-place
overflow_mul-place c =
    let k = known c.args.settings c.args.buffer.now c.args.lines c.args.given.now (length c.args.out.now) c.requires.0 in
    let h =
    inside c.args.settings c.args.buffer.now c.args.lines c.args.given.now (length c.args.out.now) c.requires.0
    c.if-lines-eq-LINES_MOST.false (sym c.places_for.ensures ∙ c.if-not-places_for.false) c.unwrap_or-place.result
    (placed c.args.buffer.now c.args.lines c.args.given.now c.unwrap_or-place.ensures c.first_over.ensures c.spelled_tag.ensures) in
    omega (arith, h, k.few)

pub put_line-requires : goal.put_line-requires
put_line-requires c =
    let k = known c.args.settings c.args.buffer.now c.args.lines c.args.given.now (length c.args.out.now) c.requires.0 in (
      inside c.args.settings c.args.buffer.now c.args.lines c.args.given.now (length c.args.out.now) c.requires.0
          c.if-lines-eq-LINES_MOST.false (sym c.places_for.ensures ∙ c.if-not-places_for.false) c.unwrap_or-place.result
          (placed c.args.buffer.now c.args.lines c.args.given.now c.unwrap_or-place.ensures c.first_over.ensures c.spelled_tag.ensures),
      long c.args.settings c.args.buffer.now c.args.lines c.args.given.now (length c.args.out.now) c.requires.0
          c.if-lines-eq-LINES_MOST.false (sym c.places_for.ensures ∙ c.if-not-places_for.false),
      k.long,
    )

pub slice_bounds-changed-end : goal.slice_bounds-changed-end
slice_bounds-changed-end c =
    let h =
    long c.args.settings c.args.buffer.now c.args.lines c.args.given.now (length c.args.out.now) c.requires.0
    c.if-lines-eq-LINES_MOST.false (sym c.places_for.ensures ∙ c.if-not-places_for.false) in
    omega (arith, h, c.put_line.auto.list)

pub slice_bounds-changed-end-2 : goal.slice_bounds-changed-end-2
slice_bounds-changed-end-2 c =
    let h =
    long c.args.settings c.args.buffer.now c.args.lines c.args.given.now (length c.args.out.now) c.requires.0
    c.if-lines-eq-LINES_MOST.false (sym c.places_for.ensures ∙ c.if-not-places_for.false) in
    sym (length-take-le _ c.put_line.new.list (omega (arith, h, c.put_line.auto.list)))

pub invariant_of-changed : goal.invariant_of-changed
invariant_of-changed c =
    let sent =
    sending c.args.settings c.args.buffer.now c.args.lines c.args.given.now (length c.args.out.now) c.requires.0
    c.if-lines-eq-LINES_MOST.false (sym c.places_for.ensures ∙ c.if-not-places_for.false) c.unwrap_or-place.result
    (placed c.args.buffer.now c.args.lines c.args.given.now c.unwrap_or-place.ensures c.first_over.ensures c.spelled_tag.ensures)
    c.put_line.new.list c.put_line.ensures c.in_ok-f.f
    (judged c.args.settings c.args.buffer.now c.args.lines c.args.given.now (length c.args.out.now) c.requires.0
    c.if-lines-eq-LINES_MOST.false (sym c.places_for.ensures ∙ c.if-not-places_for.false) c.figures_of.result c.figures_of.ensures _ c.in_ok-f.ensures)
    c.args.plain c.plain_with.result c.requires.1 c.plain_with.ensures in
    record { ready = sent.0.ready }

pub invariant_of-changed-2 : goal.invariant_of-changed-2
invariant_of-changed-2 c =
    let sent =
    sending c.args.settings c.args.buffer.now c.args.lines c.args.given.now (length c.args.out.now) c.requires.0
    c.if-lines-eq-LINES_MOST.false (sym c.places_for.ensures ∙ c.if-not-places_for.false) c.unwrap_or-place.result
    (placed c.args.buffer.now c.args.lines c.args.given.now c.unwrap_or-place.ensures c.first_over.ensures c.spelled_tag.ensures)
    c.put_line.new.list c.put_line.ensures c.in_ok-f.f
    (judged c.args.settings c.args.buffer.now c.args.lines c.args.given.now (length c.args.out.now) c.requires.0
    c.if-lines-eq-LINES_MOST.false (sym c.places_for.ensures ∙ c.if-not-places_for.false) c.figures_of.result c.figures_of.ensures _ c.in_ok-f.ensures)
    c.args.plain c.plain_with.result c.requires.1 c.plain_with.ensures in
    record { sending = sent.0; no_zeros = sent.2 }

pub send-requires : goal.send-requires
send-requires c =
    let sent =
    sending c.args.settings c.args.buffer.now c.args.lines c.args.given.now (length c.args.out.now) c.requires.0
    c.if-lines-eq-LINES_MOST.false (sym c.places_for.ensures ∙ c.if-not-places_for.false) c.unwrap_or-place.result
    (placed c.args.buffer.now c.args.lines c.args.given.now c.unwrap_or-place.ensures c.first_over.ensures c.spelled_tag.ensures)
    c.put_line.new.list c.put_line.ensures c.in_ok-f.f
    (judged c.args.settings c.args.buffer.now c.args.lines c.args.given.now (length c.args.out.now) c.requires.0
    c.if-lines-eq-LINES_MOST.false (sym c.places_for.ensures ∙ c.if-not-places_for.false) c.figures_of.result c.figures_of.ensures _ c.in_ok-f.ensures)
    c.args.plain c.plain_with.result c.requires.1 c.plain_with.ensures in
    sent.1

pub returns : goal.returns
returns c =
    let all =
    sent c.args.settings c.args.buffer.now c.args.lines c.args.given.now (length c.args.out.now) c.requires.0
    c.if-lines-eq-LINES_MOST.false (sym c.places_for.ensures ∙ c.if-not-places_for.false) c.unwrap_or-place.result
    (placed c.args.buffer.now c.args.lines c.args.given.now c.unwrap_or-place.ensures c.first_over.ensures c.spelled_tag.ensures)
    c.put_line.new.list c.put_line.ensures c.in_ok-f.f
    (judged c.args.settings c.args.buffer.now c.args.lines c.args.given.now (length c.args.out.now) c.requires.0
    c.if-lines-eq-LINES_MOST.false (sym c.places_for.ensures ∙ c.if-not-places_for.false) c.figures_of.result c.figures_of.ensures _ c.in_ok-f.ensures)
    c.args.out.now refl in
    (ap Ok c.send.ensures.0 ∙ all.0, all.1, c.send.ensures.1 ∙ all.2)
