-- The last data bucket under the bucket is one of the segment, and the last line in it is the last under the bucket.
use Rattle.std.proofs.Common.{◌≡◌, ℕ, List, ap, sym, ◌∙◌, ◌+◌, ◌-◌, ◌*◌, ◌^◌, ◌≤◌, min, arith, add-one}
use Rattle.std.proofs.Math.Nat.{suc-mul}
use Rattle.buckets.specs.declared.Line.{Line}
use Rattle.buckets.specs.Lengths.{line_columns_width, lines_start, bucket_length}
use Rattle.cycle.specs.Tree.{layout_number}
use Rattle.cycle.specs.declared.Figures.{Figures}
use Rattle.cycle.specs.declared.Segment.{Segment}
use Rattle.cycle.specs.declared.Source.TheVariants.{Image as InImage}
use Rattle.cycle.specs.Inner.Held.{plan_of, Ready, HoldsSegment, SpansIn, tag_place}
use Rattle.cycle.proofs.Trees.LargestTags.{SpanReached, span_reached}
use Rattle.cycle.proofs.ReadingBack.ImagePlaces.{last_data, last_lines, LastLine, Room, last_line_there, place_room, place_there}
use Rattle.cycle.proofs.Part.segment_place.Goals as goal

module _ {f : Figures} {s : Segment} {span j : ℕ} (ready : Ready f) (placed : (ls : List Line) → HoldsSegment (plan_of f ls) s)
    (one : layout_number f.layout ≡ 1) (some : 1 ≤ f.d) (at : SpansIn f s span j) where
  known : SpanReached f span j
  known = span_reached f span j ready.shaped some at.spans

  -- how many data buckets stand up to the bucket's end
  abbrev behind : ℕ
  behind = (j + 1) * f.n ^ at.spans.height

  -- the data bucket
  bucket_is : {x : ℕ} → x ≡ min f.d ((j + 1) * span) → x - 1 ≡ last_data f behind
  bucket_is e = ap (λ z. z - 1) (e ∙ ap (λ m. min f.d ((j + 1) * m)) at.spans.power)

  room : {x : ℕ} → x ≡ min f.d ((j + 1) * span) → Room f s (x - 1)
  room {x} e = place_room f s ready placed one some at.spans.height j at.spans.inside at.under (x - 1) (bucket_is e)

  pos : {x : ℕ} → x ≡ min f.d ((j + 1) * span) → 1 ≤ x
  pos e =
      let wide : (j + 1) * span ≡ j * span + span = ap (λ z. z * span) (add-one j) ∙ suc-mul j span in
      omega (arith, wide, known.some_data)

  -- the lines in it
  lines_are : {x y : ℕ} → x ≡ min f.d ((j + 1) * span) → y ≡ min f.p (f.lines - (x - 1) * f.p) → y ≡ last_lines f behind
  lines_are e l = l ∙ ap (λ q. min f.p (f.lines - q * f.p)) (bucket_is e)

  line_there : LastLine f behind
  line_there = last_line_there f s ready placed one some at.spans.height j at.spans.inside at.under

  there :
      {x y : ℕ} → x ≡ min f.d ((j + 1) * span) → y ≡ min f.p (f.lines - (x - 1) * f.p) →
      bucket_length * (s.data_at + (x - 1 - s.first)) + (lines_start + line_columns_width * (y - 1)) ≡ tag_place f InImage span j
  there {x} {y} e l =
      ap (λ z. bucket_length * (s.data_at + (x - 1 - s.first)) + (lines_start + line_columns_width * (z - 1))) (lines_are e l)
      ∙ ap (λ q. bucket_length * (s.data_at + (q - s.first)) + (lines_start + line_columns_width * (last_lines f behind - 1))) (bucket_is e)
      ∙ place_there f s ready placed one some at.spans.height j at.spans.inside at.under
      ∙ ap (λ m. tag_place f InImage m j) (sym at.spans.power)

pub overflow_add-j : goal.overflow_add-j
overflow_add-j c =
    let p = c.args.self.now in
    let r = c.requires in
    omega (arith, known p.cycle.now.ready p.placed r.layout_value r.le_d r.spans_in)

pub overflow_mul-j : goal.overflow_mul-j
overflow_mul-j c =
    let p = c.args.self.now in
    let r = c.requires in
    omega (arith, known p.cycle.now.ready p.placed r.layout_value r.le_d r.spans_in)

pub overflow_sub-q : goal.overflow_sub-q
overflow_sub-q c =
    let p = c.args.self.now in
    let r = c.requires in
    pos p.cycle.now.ready p.placed r.layout_value r.le_d r.spans_in c.lesser-q.ensures

pub overflow_mul-q : goal.overflow_mul-q
overflow_mul-q c =
    let p = c.args.self.now in
    let r = c.requires in
    omega (arith, room p.cycle.now.ready p.placed r.layout_value r.le_d r.spans_in c.lesser-q.ensures)

pub overflow_sub-f : goal.overflow_sub-f
overflow_sub-f c =
    let p = c.args.self.now in
    let r = c.requires in
    omega (arith, room p.cycle.now.ready p.placed r.layout_value r.le_d r.spans_in c.lesser-q.ensures)

pub overflow_sub-x : goal.overflow_sub-x
overflow_sub-x c =
    let p = c.args.self.now in
    let r = c.requires in
    omega (arith, room p.cycle.now.ready p.placed r.layout_value r.le_d r.spans_in c.lesser-q.ensures)

pub overflow_add-x : goal.overflow_add-x
overflow_add-x c =
    let p = c.args.self.now in
    let r = c.requires in
    omega (arith, room p.cycle.now.ready p.placed r.layout_value r.le_d r.spans_in c.lesser-q.ensures)

pub overflow_mul-result : goal.overflow_mul-result
overflow_mul-result c =
    let p = c.args.self.now in
    let r = c.requires in
    omega (arith, room p.cycle.now.ready p.placed r.layout_value r.le_d r.spans_in c.lesser-q.ensures)

pub overflow_sub-result : goal.overflow_sub-result
overflow_sub-result c =
    let p = c.args.self.now in
    let r = c.requires in
    omega (
      arith,
      lines_are p.cycle.now.ready p.placed r.layout_value r.le_d r.spans_in c.lesser-q.ensures c.lesser-lines.ensures,
      (line_there p.cycle.now.ready p.placed r.layout_value r.le_d r.spans_in).some_lines,
    )

pub overflow_add-result-2 : goal.overflow_add-result-2
overflow_add-result-2 c =
    let p = c.args.self.now in
    let r = c.requires in
    omega (
      arith,
      room p.cycle.now.ready p.placed r.layout_value r.le_d r.spans_in c.lesser-q.ensures,
      c.lesser-lines.ensures,
      p.cycle.now.ready.shaped.p_high,
    )

pub returns : goal.returns
returns c =
    let p = c.args.self.now in
    let r = c.requires in
    there p.cycle.now.ready p.placed r.layout_value r.le_d r.spans_in c.lesser-q.ensures c.lesser-lines.ensures
