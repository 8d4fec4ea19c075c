-- 13, 7 and the list.
use Rattle.std.proofs.Common.{◌≡◌, ◌%◌, ◌/◌, ◌≤◌, ℕ, List, [], Err, length, sym, ap, ◌∙◌, refl, arith}
use Rattle.cycle.specs.Tree.{layout_number, settings}
use Rattle.cycle.specs.Refusals.{refusal}
use Rattle.cycle.specs.ReadingBack.{refused, read_back, NoneBuilds}
use Rattle.cycle.specs.declared.Settings.{Settings}
use Rattle.cycle.specs.declared.Reason.TheVariants.{NoListBuilds}
use Rattle.cycle.specs.declared.Figures.{Figures}
use Rattle.cycle.specs.declared.measures.Fitted.{Fitted}
use Rattle.cycle.specs.Cycle.{cycle_size}
use Rattle.cycle.specs.Inner.Held.{plan_of, Shaped, sized}
use Rattle.cycle.specs.Inner.Comparing.{counted, Holding}
use Rattle.cycle.specs.Inner.Settings.{Figured}
use Rattle.cycle.proofs.Building.PlanFigures.{copies_passed, sized_of}
use Rattle.cycle.proofs.ReadingBack.Demand2.{every_read_back}
use Rattle.cycle.proofs.ReadingBack.ReadBackAnswers
use Rattle.cycle.proofs.ReadingBack.ReadBackAnswers.{Sized, shaped_fits, buckets_whole, refuses, copies_refused, size_refused, cycle_refused, room_refused, list_written, holding}
use Rattle.cycle.proofs.read_back.hand_out.Goals as goal

abbrev set : Figures → Settings
set f = settings f.n f.p (layout_number f.layout) f.copies

-- the figures as given
figured : (f : Figures) → Shaped f → Figured (set f) f
figured f h = record { shaped = h; n_is = refl; p_is = refl; layout_is = refl; copies_is = refl }

-- 13
none_builds_lem :
    (f : Figures) (image : List ℕ) (room : ℕ) → Shaped f → 1 ≤ length image → length image % 240 ≡ 0 → length image / 240 ≤ 99999 →
    NoneBuilds (set f) image → read_back (set f) image room ≡ refused (refusal NoListBuilds 0)
none_builds_lem f image room h some torn few none =
    (every_read_back (set f) image room).refuses_13 (shaped_fits f h) (buckets_whole (length image) some torn few) none

count :
    (f g : Figures) (image : List ℕ) → Sized f g → f.lines ≡ counted f.p image → g.lines ≡ counted g.p image
count f g image z e = z.lines_same ∙ (e ∙ ap (λ p. counted p image) (sym z.p_same))

-- the figures with N, and the image, which is as long as their cycle
module _ (fitted : Fitted) {f g : Figures} (shaped : Shaped f) (same : fitted.f.now ≡ f)
    (is : g ≡ sized fitted.f.now (cycle_size (plan_of fitted.f.now []))) where
  sizes : Sized f g
  sizes = ReadBackAnswers.with_size f g shaped (sized_of fitted same is)

  held : (image : List ℕ) → g.size ≡ length image / 240 → length image % 240 ≡ 0 → length image / 240 ≤ 99999 → Holding g image
  held image size torn few = holding f g image shaped sizes (copies_passed fitted same) size torn few

pub returns-in_default : goal.returns-in_default
returns-in_default c =
    let all =
    refuses _ _ c.args.out.now
    (none_builds_lem c.args.f c.args.image.now (length c.args.out.now) c.requires.0 c.requires.1 c.requires.2 c.requires.3
    (copies_refused (set c.args.f) c.args.f c.args.image.now (figured c.args.f c.requires.0) c.requires.4 c.in_default.ensures)) in
    (ap Err c.from.ensures ∙ all.0, all.1)

pub returns-then-sized-count : goal.returns-then-sized-count
returns-then-sized-count c =
    let all =
    refuses _ _ c.args.out.now
    (none_builds_lem c.args.f c.args.image.now (length c.args.out.now) c.requires.0 c.requires.1 c.requires.2 c.requires.3
    (size_refused (set c.args.f) c.args.f c.args.image.now (figured c.args.f c.requires.0) c.requires.4
    (λ e. c.if-sized-count.true ((sizes c.in-Some.fitted c.requires.0 c.in-Some.ensures c.with_size-sized.ensures).same_size ∙ e)))) in
    (ap Err c.from-then-sized-count.ensures ∙ all.0, all.1)

pub invariant_of-held : goal.invariant_of-held
invariant_of-held c = record { ready = (held c.in-Some.fitted c.requires.0 c.in-Some.ensures c.with_size-sized.ensures c.args.image.now c.if-sized-count.false c.requires.2 c.requires.3).ready }

pub returns-then-not-is_cycle : goal.returns-then-not-is_cycle
returns-then-not-is_cycle c =
    let s = sizes c.in-Some.fitted c.requires.0 c.in-Some.ensures c.with_size-sized.ensures in
    let all =
    refuses _ _ c.args.out.now
    (none_builds_lem c.args.f c.args.image.now (length c.args.out.now) c.requires.0 c.requires.1 c.requires.2 c.requires.3
    (cycle_refused (set c.args.f) c.with_size-sized.result c.args.image.now s.figured
    (count c.args.f c.with_size-sized.result c.args.image.now s c.requires.4) s.size_is (c.is_cycle.ensures.no c.if-not-is_cycle.true))) in
    (ap Err c.from-then-not-is_cycle.ensures ∙ all.0, all.1)

pub returns-then-room-sized : goal.returns-then-room-sized
returns-then-room-sized c =
    let all =
    refuses _ _ c.args.out.now
    (room_refused (set c.args.f) c.with_size-sized.result c.args.image.now (shaped_fits c.args.f c.requires.0) (sizes c.in-Some.fitted c.requires.0 c.in-Some.ensures c.with_size-sized.ensures).figured
    (held c.in-Some.fitted c.requires.0 c.in-Some.ensures c.with_size-sized.ensures c.args.image.now c.if-sized-count.false c.requires.2 c.requires.3) (c.is_cycle.ensures.yes c.if-not-is_cycle.false) (length c.args.out.now)
    (omega (arith, c.if-room-sized.true))) in
    (ap Err c.from-then-room-sized.ensures ∙ all.0, all.1)

pub returns : goal.returns
returns c =
    list_written (set c.args.f) c.with_size-sized.result c.args.image.now (shaped_fits c.args.f c.requires.0) (sizes c.in-Some.fitted c.requires.0 c.in-Some.ensures c.with_size-sized.ensures).figured
    (held c.in-Some.fitted c.requires.0 c.in-Some.ensures c.with_size-sized.ensures c.args.image.now c.if-sized-count.false c.requires.2 c.requires.3) (c.is_cycle.ensures.yes c.if-not-is_cycle.false) c.args.out.now _
    (omega (arith, c.if-room-sized.false)) c.write_list.ensures
