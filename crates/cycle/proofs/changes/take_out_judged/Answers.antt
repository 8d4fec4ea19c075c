-- 15, then 5 to 7 of the changed list's figures; and then the line is removed and the cycle written.
use Rattle.std.proofs.Common.{◌≡◌, ℕ, ◌*◌, List, Option, Ok, Err, length, take, sym, ap, ◌∙◌, refl, arith}
use Rattle.std.proofs.lemmas.Result.{err_from_is_err_and}
use lib.Seq.{length-take-le}
use Rattle.buckets.specs.declared.Line.{Line}
use Rattle.buckets.specs.Lengths.{line_columns_width, line_length}
use Rattle.buckets.specs.ListLine.{spelled, list_lines}
use Rattle.buckets.specs.Bucket.{spelled_line}
use Rattle.cycle.specs.Changes.{same_numbers, list_in}
use Rattle.cycle.specs.Inner.Changing.{first_from}
use Rattle.cycle.proofs.Building.Accepted
use Rattle.cycle.proofs.Changing.Searches.{spelled_part}
use Rattle.cycle.proofs.Changing.Departing.{known, refused_15, inside, few, judged, refused, within, sending, sent}
use Rattle.cycle.proofs.changes.take_out_judged.Goals as goal

-- where the line stands
searched :
    (buffer : List ℕ) (lines : ℕ) (given : List ℕ) {line : Line} {o r : Option ℕ} →
    o ≡ first_from (same_numbers line) 0 (list_lines (take (line_length * lines) buffer)) →
    line ≡ spelled_line (take line_columns_width given) → o ≡ r →
    first_from (same_numbers (spelled given)) 0 (list_lines (list_in buffer lines)) ≡ r
unfolding list_in
searched buffer lines given found line is =
    sym (found ∙ ap (λ l. first_from (same_numbers l) 0 (list_lines (take (line_length * lines) buffer))) (line ∙ spelled_part given)) ∙ is

pub overflow_mul-end : goal.overflow_mul-end
overflow_mul-end c =
    let k = known c.args.settings c.args.buffer.now c.args.lines c.args.given.now (length c.args.out.now) c.requires.0 in
    omega (arith, k.few)

pub slice_bounds-spelled_line-end : goal.slice_bounds-spelled_line-end
slice_bounds-spelled_line-end c =
    let k = known c.args.settings c.args.buffer.now c.args.lines c.args.given.now (length c.args.out.now) c.requires.0 in
    omega (arith, k.long)

pub slice_bounds-first_equal-end : goal.slice_bounds-first_equal-end
slice_bounds-first_equal-end c = (known c.args.settings c.args.buffer.now c.args.lines c.args.given.now (length c.args.out.now) c.requires.0).places

pub slice_bounds-first_equal-end-2 : goal.slice_bounds-first_equal-end-2
slice_bounds-first_equal-end-2 c =
    let k = known c.args.settings c.args.buffer.now c.args.lines c.args.given.now (length c.args.out.now) c.requires.0 in
    sym (length-take-le (line_length * c.args.lines) c.args.buffer.now k.places)

pub returns-in_default : goal.returns-in_default
returns-in_default c =
    refused_15 c.args.settings c.args.buffer.now c.args.lines c.args.given.now (length c.args.out.now) c.requires.0
    c.from.result c.args.out.now c.from.ensures
    (searched c.args.buffer.now c.args.lines c.args.given.now c.first_equal.ensures c.spelled_line-line.ensures c.in_default.is)

pub overflow_sub-lines : goal.overflow_sub-lines
overflow_sub-lines c =
    let h =
    inside c.args.settings c.args.buffer.now c.args.lines c.args.given.now (length c.args.out.now) c.requires.0
    c.in-Some.place (searched c.args.buffer.now c.args.lines c.args.given.now c.first_equal.ensures c.spelled_line-line.ensures c.in-Some.is) in
    omega (arith, h)

pub figures_of-requires : goal.figures_of-requires
figures_of-requires c =
    let k = known c.args.settings c.args.buffer.now c.args.lines c.args.given.now (length c.args.out.now) c.requires.0 in (
      Accepted.settings_fit_lem c.args.settings k.settings,
      few c.args.settings c.args.buffer.now c.args.lines c.args.given.now (length c.args.out.now) c.requires.0
          c.in-Some.place (searched c.args.buffer.now c.args.lines c.args.given.now c.first_equal.ensures c.spelled_line-line.ensures c.in-Some.is),
    )

pub returns-in_err-f : goal.returns-in_err-f
returns-in_err-f c =
    let told = err_from_is_err_and c.from_residual.result c.from_residual.ensures.1 in
    let all =
    refused c.args.settings c.args.buffer.now c.args.lines c.args.given.now (length c.args.out.now) c.requires.0
    c.in-Some.place (searched c.args.buffer.now c.args.lines c.args.given.now c.first_equal.ensures c.spelled_line-line.ensures c.in-Some.is)
    _ c.args.out.now
    (judged c.args.settings c.args.buffer.now c.args.lines c.args.given.now (length c.args.out.now) c.requires.0
    c.in-Some.place (searched c.args.buffer.now c.args.lines c.args.given.now c.first_equal.ensures c.spelled_line-line.ensures c.in-Some.is)
    c.figures_of.result c.figures_of.ensures _ c.in_err-f.ensures) in
    (told.1 ∙ ap Err told.2 ∙ all.0, all.1, all.2)

pub overflow_mul-place : goal.overflow_mul-place
overflow_mul-place c =
    let k = known c.args.settings c.args.buffer.now c.args.lines c.args.given.now (length c.args.out.now) c.requires.0 in
    let h =
    inside c.args.settings c.args.buffer.now c.args.lines c.args.given.now (length c.args.out.now) c.requires.0
    c.in-Some.place (searched c.args.buffer.now c.args.lines c.args.given.now c.first_equal.ensures c.spelled_line-line.ensures c.in-Some.is) in
    omega (arith, h, k.few)

pub remove_line-requires : goal.remove_line-requires
remove_line-requires c =
    let k = known c.args.settings c.args.buffer.now c.args.lines c.args.given.now (length c.args.out.now) c.requires.0 in (
      within c.args.settings c.args.buffer.now c.args.lines c.args.given.now (length c.args.out.now) c.requires.0
          c.in-Some.place (searched c.args.buffer.now c.args.lines c.args.given.now c.first_equal.ensures c.spelled_line-line.ensures c.in-Some.is),
      k.places,
    )

pub slice_bounds-changed-count : goal.slice_bounds-changed-count
slice_bounds-changed-count c =
    let h =
    inside c.args.settings c.args.buffer.now c.args.lines c.args.given.now (length c.args.out.now) c.requires.0
    c.in-Some.place (searched c.args.buffer.now c.args.lines c.args.given.now c.first_equal.ensures c.spelled_line-line.ensures c.in-Some.is) in
    omega (arith, h)

pub slice_bounds-changed-end : goal.slice_bounds-changed-end
slice_bounds-changed-end c =
    let k = known c.args.settings c.args.buffer.now c.args.lines c.args.given.now (length c.args.out.now) c.requires.0 in
    omega (arith, k.places, c.remove_line.auto.list)

pub slice_bounds-changed-length : goal.slice_bounds-changed-length
slice_bounds-changed-length c =
    let k = known c.args.settings c.args.buffer.now c.args.lines c.args.given.now (length c.args.out.now) c.requires.0 in
    sym (length-take-le _ c.remove_line.new.list (omega (arith, k.places, c.remove_line.auto.list)))

pub invariant_of-changed : goal.invariant_of-changed
invariant_of-changed c =
    let sent =
    sending c.args.settings c.args.buffer.now c.args.lines c.args.given.now (length c.args.out.now) c.requires.0
    c.in-Some.place (searched c.args.buffer.now c.args.lines c.args.given.now c.first_equal.ensures c.spelled_line-line.ensures c.in-Some.is)
    c.remove_line.new.list c.remove_line.ensures c.in_ok-f.f
    (judged c.args.settings c.args.buffer.now c.args.lines c.args.given.now (length c.args.out.now) c.requires.0
    c.in-Some.place (searched c.args.buffer.now c.args.lines c.args.given.now c.first_equal.ensures c.spelled_line-line.ensures c.in-Some.is)
    c.figures_of.result c.figures_of.ensures _ c.in_ok-f.ensures)
    c.args.plain c.requires.1 in
    record { ready = sent.0.ready }

pub invariant_of-changed-2 : goal.invariant_of-changed-2
invariant_of-changed-2 c =
    let sent =
    sending c.args.settings c.args.buffer.now c.args.lines c.args.given.now (length c.args.out.now) c.requires.0
    c.in-Some.place (searched c.args.buffer.now c.args.lines c.args.given.now c.first_equal.ensures c.spelled_line-line.ensures c.in-Some.is)
    c.remove_line.new.list c.remove_line.ensures c.in_ok-f.f
    (judged c.args.settings c.args.buffer.now c.args.lines c.args.given.now (length c.args.out.now) c.requires.0
    c.in-Some.place (searched c.args.buffer.now c.args.lines c.args.given.now c.first_equal.ensures c.spelled_line-line.ensures c.in-Some.is)
    c.figures_of.result c.figures_of.ensures _ c.in_ok-f.ensures)
    c.args.plain c.requires.1 in
    record { sending = sent.0; no_zeros = sent.2 }

pub send-requires : goal.send-requires
send-requires c =
    let sent =
    sending c.args.settings c.args.buffer.now c.args.lines c.args.given.now (length c.args.out.now) c.requires.0
    c.in-Some.place (searched c.args.buffer.now c.args.lines c.args.given.now c.first_equal.ensures c.spelled_line-line.ensures c.in-Some.is)
    c.remove_line.new.list c.remove_line.ensures c.in_ok-f.f
    (judged c.args.settings c.args.buffer.now c.args.lines c.args.given.now (length c.args.out.now) c.requires.0
    c.in-Some.place (searched c.args.buffer.now c.args.lines c.args.given.now c.first_equal.ensures c.spelled_line-line.ensures c.in-Some.is)
    c.figures_of.result c.figures_of.ensures _ c.in_ok-f.ensures)
    c.args.plain c.requires.1 in
    sent.1

pub returns : goal.returns
returns c =
    let all =
    sent c.args.settings c.args.buffer.now c.args.lines c.args.given.now (length c.args.out.now) c.requires.0
    c.in-Some.place (searched c.args.buffer.now c.args.lines c.args.given.now c.first_equal.ensures c.spelled_line-line.ensures c.in-Some.is)
    c.remove_line.new.list c.remove_line.ensures c.in_ok-f.f
    (judged c.args.settings c.args.buffer.now c.args.lines c.args.given.now (length c.args.out.now) c.requires.0
    c.in-Some.place (searched c.args.buffer.now c.args.lines c.args.given.now c.first_equal.ensures c.spelled_line-line.ensures c.in-Some.is)
    c.figures_of.result c.figures_of.ensures _ c.in_ok-f.ensures)
    c.args.out.now refl in
    (ap Ok c.send.ensures.0 ∙ all.0, all.1, c.send.ensures.1 ∙ all.2)
