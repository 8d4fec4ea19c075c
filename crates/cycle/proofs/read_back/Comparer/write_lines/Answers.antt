-- A data bucket's lines follow those of the data buckets before it.
use Rattle.std.proofs.Common.{◌≡◌, List, ℕ, [], length, sym, ap, ◌∙◌, ◌+◌, ◌*◌, ◌≤◌, ◌<◌, min, arith}
use Rattle.std.proofs.Math.Nat.{mul-le-mul_right}
use Rattle.columns.specs.Lists.{put}
use Rattle.columns.proofs.Put.{put_nil}
use Rattle.buckets.specs.Lengths.{line_length, bucket_length, buckets_most}
use Rattle.cycle.specs.Cycle.{first_place}
use Rattle.cycle.specs.Inner.Held.{plan_of, DataPlace}
use Rattle.cycle.specs.Inner.Comparing.{list_text, Comparing}
use Rattle.cycle.specs.declared.Figures.{Figures}
use Rattle.cycle.specs.declared.Segment.{Segment}
use Rattle.cycle.proofs.Segmenting.TreePlaces.{data_in}
use Rattle.cycle.proofs.Lines.FollowOns.{full_lines}
use Rattle.cycle.proofs.ReadingBack.ImageText.{text_none}
use Rattle.cycle.proofs.ReadingBack.BucketsCompared.{data_here}
use Rattle.cycle.proofs.ReadingBack.Comparisons.{room_at, stands_here}
use Rattle.cycle.proofs.ReadingBack.ListWritten.{bucket_more}
use Rattle.cycle.proofs.read_back.Comparer.write_lines.Goals as goal

pub loop-q-init : goal.loop-q-init
loop-q-init c =
    let v = c.args.self.now in
    let f = v.part.cycle.now.f in
    let a : ℕ = v.part.s.first * f.p in
    sym
    (ap (put c.args.out.now (line_length * a)) (text_none f v.image.now v.comparing.holding a (min f.lines a) (omega arith))
    ∙ put_nil c.args.out.now (line_length * a))

module _ {f : Figures} {bytes : List ℕ} {s : Segment} (w : Comparing f bytes s) (q : ℕ) (high : q < s.last) where
  in_d : q < f.d
  in_d = data_in f s w.holding.ready w.placed q high

  -- its first line
  line_in : (q * f.p < f.lines) × (q * f.p < 100000)
  line_in =
      let l = full_lines f w.holding.ready.shaped q in_d in
      (l, omega (arith, l, w.holding.ready.shaped.lines_high))

  module _ (x : ℕ) (p : DataPlace s q x) where
    room : (bucket_length * x + bucket_length ≤ length bytes) × (x ≤ buckets_most)
    room = room_at f bytes s w x (omega (arith, (w.placed []).ends, p.low, p.here))

    place : x ≡ first_place (plan_of f []) (f.k + 1) q
    place = sym (data_here f bytes w.holding.ready x q (stands_here f bytes s w q x p.low high p.here))

pub overflow_mul-line : goal.overflow_mul-line
overflow_mul-line c = let l = line_in c.args.self.now.comparing c.loop-q.q c.loop-q-test.true in omega arith

pub overflow_sub-f : goal.overflow_sub-f
overflow_sub-f c = let l = line_in c.args.self.now.comparing c.loop-q.q c.loop-q-test.true in omega arith

pub overflow_mul-to : goal.overflow_mul-to
overflow_mul-to c = let l = line_in c.args.self.now.comparing c.loop-q.q c.loop-q-test.true in omega arith

pub overflow_mul-from : goal.overflow_mul-from
overflow_mul-from c =
    let r = room c.args.self.now.comparing c.loop-q.q c.loop-q-test.true c.place_of.result c.place_of.ensures in omega arith

pub overflow_add-from : goal.overflow_add-from
overflow_add-from c =
    let r = room c.args.self.now.comparing c.loop-q.q c.loop-q-test.true c.place_of.result c.place_of.ensures in omega arith

pub copy_lines-requires : goal.copy_lines-requires
copy_lines-requires c =
    let w = c.args.self.now.comparing in
    let l = line_in w c.loop-q.q c.loop-q-test.true in
    let r = room w c.loop-q.q c.loop-q-test.true c.place_of.result c.place_of.ensures in
    (omega (arith, c.requires, c.lesser-count.ensures), omega (arith, c.lesser-count.ensures, w.holding.ready.shaped.p_high))

pub loop-q-preserved : goal.loop-q-preserved
loop-q-preserved c =
    let v = c.args.self.now in
    let f = v.part.cycle.now.f in
    let w = v.comparing in
    let q = c.loop-q.q in
    bucket_more f v.image.now w.holding c.args.out.now c.loop-q.out _
    (v.part.s.first * f.p) q c.place_of.result _ c.requires (in_d w q c.loop-q-test.true) (mul-le-mul_right f.p c.place_of.ensures.low)
    (place w q c.loop-q-test.true c.place_of.result c.place_of.ensures) c.lesser-count.ensures c.loop-q.invariant c.copy_lines.ensures

pub returns : goal.returns
returns c =
    let v = c.args.self.now in
    let f = v.part.cycle.now.f in
    let a : ℕ = v.part.s.first * f.p in
    let all : c.loop-q.q ≡ v.part.s.last = omega (arith, (v.comparing.placed []).first_last) in
    c.loop-q.invariant ∙ ap (λ q. put c.args.out.now (line_length * a) (list_text f v.image.now a (min f.lines (q * f.p)))) all
