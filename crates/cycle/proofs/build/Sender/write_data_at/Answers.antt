-- The lines of data bucket q lie in the list from line q × p on.
use Rattle.std.proofs.Common.{◌≡◌, ℕ, ◌+◌, ◌-◌, ◌*◌, min, [], ◌∷◌, refl, sym, ap, ◌∙◌, subst, arith}
use Rattle.columns.proofs.Put.{length_part}
use Rattle.buckets.specs.Lengths.{line_length, bucket_length}
use Rattle.cycle.specs.declared.Figures.{Figures}
use Rattle.cycle.specs.declared.build.Sender.{Sender}
use Rattle.cycle.specs.Layouts.{slot}
use Rattle.cycle.specs.Inner.Held.{plan_of, StandsAt, DataPlace}
use Rattle.cycle.proofs.Segmenting.SegmentParts.{data_there}
use Rattle.cycle.proofs.Building.BucketsWritten.{DataText, data_text, data_written}
use Rattle.cycle.proofs.Building.Written.{lent_written}
use Rattle.cycle.proofs.Building.Writings.{seats, data_below, data_small}
use Rattle.cycle.proofs.build.Sender.write_data_at.Goals as goal

module _ (w : Sender) {q x : ℕ} (p : DataPlace w.part.s q x) where
  abbrev f : Figures
  f = w.part.cycle.now.f

  stands : StandsAt (plan_of f []) x (slot (f.k + 1) q ∷ [])
  stands =
      subst (λ y. StandsAt (plan_of f []) y (slot (f.k + 1) q ∷ [])) (sym p.here)
      (data_there f w.part.s w.sending.ready w.part.placed [] q p.low p.high)

  -- the lines, with what `lesser` gave
  text :
      (end : ℕ) → end ≡ min f.lines ((q + 1) * f.p) →
      DataText f w.list.now w.sending q (line_length * (q * f.p)) (line_length * end)
  text end is =
      data_text f w.list.now w.sending q (line_length * (q * f.p)) (line_length * end) (data_small w p).0 refl
      (ap (λ m. line_length * m) is)

pub list_follow_on-follow_on-requires : goal.list_follow_on-follow_on-requires
list_follow_on-follow_on-requires c =
    let w = c.args.self.now in
    ((data_small w c.requires.1).0, stands w c.requires.1)

pub head_at-requires : goal.head_at-requires
head_at-requires c =
    let w = c.args.self.now in
    let high = (data_below w c.requires.1).0 in
    (high, (seats w).within, (w.part.placed []).next_starts c.args.x (omega (arith, seats w, c.requires.1.here)) high)

pub slice_bounds-write_data-count-2 : goal.slice_bounds-write_data-count-2
slice_bounds-write_data-count-2 c = (text c.args.self.now c.requires.1 c.lesser.result c.lesser.ensures).ordered

pub slice_bounds-write_data-start-2 : goal.slice_bounds-write_data-start-2
slice_bounds-write_data-start-2 c =
    let t = text c.args.self.now c.requires.1 c.lesser.result c.lesser.ensures in
    omega (arith, t.ordered, t.within)

pub write_data-requires : goal.write_data-requires
write_data-requires c =
    let w = c.args.self.now in
    let t = text w c.requires.1 c.lesser.result c.lesser.ensures in
    let here = data_below w c.requires.1 in
    let wide : bucket_length * c.args.x + bucket_length - bucket_length * c.args.x ≡ bucket_length = omega arith in (
      length_part c.args.image.now (bucket_length * c.args.x) _ (omega (arith, here, wide)) ∙ wide,
      (t.whole_lines_lem, (t.few, (t.printed, λ told. t.no_zeros (w.no_zeros told)))),
    )

pub returns : goal.returns
returns c =
    let w = c.args.self.now in
    let t = text w c.requires.1 c.lesser.result c.lesser.ensures in
    let here = data_below w c.requires.1 in
    lent_written c.args.image.now (bucket_length * c.args.x) bucket_length _ _ (omega (arith, here)) c.write_data.auto.part
    c.write_data.ensures
    ∙ data_written w.part.cycle.now.f w.list.now w.sending c.args.x here.1 c.args.image.now c.requires.0 _ c.head_at.ensures c.args.q _ _
    (stands w c.requires.1) c.list_follow_on-follow_on.ensures t.lines_are
