-- Head, number of lines and follow-on are those of the cycle's bucket x, and no tag falls from it to the next; the lines are those
-- that stand there.
use Rattle.std.proofs.Common.{◌≡◌, ℕ, true, ◌+◌, ◌-◌, ◌*◌, ◌≤◌, ◌<◌, suc, min, Bool, false, Option, None, Some, List, [], length, take, drop, refl, get_or, sym, ap, ap₂, ◌∙◌, arith}
use mathlib.Core.Bool.{not, ◌&&◌, true≢false}
use lib.Dec.{eqb}
use borrow.Author.Tests.{not-false, eqb-true, eq-eqb}
use Rattle.columns.proofs.Strict.{both}
use Rattle.std.specs.Option.{option_map}
use Rattle.arrayvec.specs.ArrayVec.{ArrayVec}
use Rattle.buckets.specs.declared.Head.{Head}
use Rattle.buckets.specs.declared.Items.{Items}
use Rattle.buckets.specs.declared.Kind.TheVariants as Kinds
use Rattle.buckets.specs.declared.Frame.{Frame}
use Rattle.buckets.specs.Bucket.{read_bucket, follow_on}
use Rattle.buckets.specs.Inner.Held.{Reading, Data, head_of, contents_with, reading_of, reading_with}
use Rattle.buckets.specs.Lengths.{bucket_lines_most, bucket_length, buckets_most}
use Rattle.buckets.proofs.Chained.{none_not_some}
use Rattle.cycle.specs.declared.Figures.{Figures}
use Rattle.cycle.specs.declared.Segment.{Segment}
use Rattle.cycle.specs.declared.read_back.Comparer.{Comparer}
use Rattle.cycle.specs.declared.Source.TheVariants.{Image as InImage}
use Rattle.cycle.specs.Inner.Held.{plan_of, plan_in, cycle_bucket, DataPlace}
use Rattle.cycle.specs.Layouts.{slots}
use Rattle.cycle.specs.Cycle.{bucket_at, to_next_segment}
use Rattle.cycle.specs.Inner.Comparing.{Decides, RisesAt, MatchesAt, Comparing}
use Rattle.cycle.proofs.Trees.TreeLaws.{up_lt}
use Rattle.cycle.proofs.Segmenting.TreePlaces.{head_asked, data_in}
use Rattle.cycle.proofs.ReadingBack.ImageLines.{part_bytes}
use Rattle.cycle.proofs.Basics.Deciding.{decides_no, decides_by}
use Rattle.cycle.proofs.ReadingBack.BucketsCompared.{DataFacts, last_known}
use Rattle.cycle.proofs.ReadingBack.Comparisons.{seats, room_at, data_below, data_bucket_decided, stands_here}
use Rattle.cycle.proofs.read_back.Comparer.is_data.Goals as goal

some_same : {A : Type 0} (a b : A) → Some a ≡ Some b → a ≡ b
some_same a b e = cc

module _ (v : Comparer) (q x : ℕ) (p : DataPlace v.part.s q x) where
  abbrev f : Figures
  f = v.part.cycle.now.f

  abbrev image : List ℕ
  image = v.image.now

  abbrev s : Segment
  s = v.part.s

  abbrev w : Comparing f image s
  w = v.comparing

  below : x < s.end
  below = omega (arith, data_below f image s w q p.low p.high, p.here)

  asked : (x < s.end) × (s.end ≤ f.size) × (to_next_segment (drop (suc x) (slots (plan_of f []))) ≡ s.end - x)
  asked =
      let told = head_asked f s w.holding.ready w.placed x (omega (arith, seats f image s w, p.here)) below in
      (told.1, told.2, told.3)

  room : (bucket_length * x + bucket_length ≤ length image) × (x ≤ buckets_most)
  room = room_at f image s w x below

  lines_low : q * f.p < f.lines
  lines_low =
      let shaped = w.holding.ready.shaped in
      up_lt f.lines f.p q shaped.p_low (omega (arith, data_in f s w.holding.ready w.placed q p.high, shaped.d_is))

  -- some lines, and no more than a bucket's
  some_lines : (n : ℕ) → n ≡ min f.p (f.lines - q * f.p) → (1 ≤ n) × (n ≤ bucket_lines_most)
  some_lines n e =
      let shaped = w.holding.ready.shaped in
      (omega (arith, lines_low, shaped.p_low), omega (arith, shaped.p_high))

  abbrev seen : Option Reading
  seen = option_map reading_of (read_bucket (bucket_at image x))

  read_is :
      {o : Option Reading} →
      o ≡ option_map reading_of (read_bucket (take (bucket_length * x + bucket_length - bucket_length * x) (drop (bucket_length * x) image))) →
      o ≡ seen
  read_is e = e ∙ ap (λ b. option_map reading_of (read_bucket b)) (part_bytes _ _)

  -- the facts decide
  by_facts :
      (head : Head) (count follow : ℕ) (r : Bool) → head ≡ head_of (cycle_bucket (plan_of f []) x) →
      count ≡ min f.p (f.lines - q * f.p) → follow ≡ follow_on (cycle_bucket (plan_in f InImage image) x).body →
      Decides (DataFacts seen head count follow × RisesAt (plan_in f InImage image) q) r →
      Decides (MatchesAt (plan_in f InImage image) image x) r
  by_facts head count follow r a b d = data_bucket_decided f image s w q x p.low p.high p.here head count follow r a b d

  -- nothing that was read decides against it
  none_read : None ≡ seen → Decides (MatchesAt (plan_in f InImage image) image x) false
  none_read e = by_facts _ _ _ false refl refl refl (decides_no (λ d. none_not_some (e ∙ d.0.is)))

  -- so does what is no data bucket
  other_read :
      (r : Reading) → Some r ≡ seen → ((g : ℕ) (t : ArrayVec ℕ) → r.contents ≡ Data g t → ⊥) →
      Decides (MatchesAt (plan_in f InImage image) image x) false
  other_read r e n =
      by_facts _ _ _ false refl refl refl
      (decides_no (λ d. n _ d.0.tags (ap (λ (y : Reading). y.contents) (some_same _ _ (e ∙ d.0.is)))))

-- the heads of two buckets by their numbers
abbrev alike : Head → Head → Bool
alike a b = eqb a.position b.position && (eqb a.to_cycle b.to_cycle && eqb a.to_segment b.to_segment)

head_same : (a b : Head) → false ≡ not (alike a b) → a ≡ b
head_same a b e =
    let first = both (eqb a.position b.position) _ (not-false (alike a b) (sym e)) in
    let rest = both (eqb a.to_cycle b.to_cycle) _ first.1 in
    let position = eqb-true a.position b.position first.0 in
    let cycle = eqb-true a.to_cycle b.to_cycle rest.0 in
    let segment = eqb-true a.to_segment b.to_segment rest.1 in
    λ i. record { position = position i; to_cycle = cycle i; to_segment = segment i }

head_other : (a b : Head) → true ≡ not (alike a b) → a ≡ b → ⊥
head_other a b e same =
    true≢false
    (e
    ∙ rw (
      eq-eqb a.position b.position (ap (λ (h : Head). h.position) same),
      eq-eqb a.to_cycle b.to_cycle (ap (λ (h : Head). h.to_cycle) same),
      eq-eqb a.to_segment b.to_segment (ap (λ (h : Head). h.to_segment) same),
    ))

-- a reading of a data bucket
data_read : {o : Option Reading} (items : Items) (frame : Frame) (g : ℕ) → Some (reading_with items frame) ≡ o
    → frame.kind ≡ Kinds.Data g → Some (record { head = frame.head; contents = Data g items.tags }) ≡ o
unfolding reading_with
data_read items frame g e is =
    ap {B = Option Reading} (λ y. Some (record { head = frame.head; contents = contents_with items y })) (sym is) ∙ e

-- two readings that are one
module _ {o : Option Reading} {h k : Head} {g m : ℕ} {t u : ArrayVec ℕ} (a : Some (record { head = h; contents = Data g t }) ≡ o)
    (b : o ≡ Some (record { head = k; contents = Data m u })) where
  one : ◌≡◌ {A = Reading} (record { head = h; contents = Data g t }) (record { head = k; contents = Data m u })
  one = some_same _ _ (a ∙ b)

  one_contents : Data g t ≡ Data m u
  one_contents = ap (λ (r : Reading). r.contents) one

  one_follow : g ≡ m
  one_follow = let e = one_contents in cc

  one_tags : t ≡ u
  one_tags = let e = one_contents in cc

pub overflow_mul-at : goal.overflow_mul-at
overflow_mul-at c = omega (arith, room c.args.self.now c.args.q c.args.x c.requires)

pub overflow_add-to : goal.overflow_add-to
overflow_add-to c = omega (arith, room c.args.self.now c.args.q c.args.x c.requires)

pub slice_bounds-read_into-end : goal.slice_bounds-read_into-end
slice_bounds-read_into-end c = omega (arith, room c.args.self.now c.args.q c.args.x c.requires)

pub returns-in_default : goal.returns-in_default
returns-in_default c =
    none_read c.args.self.now c.args.q c.args.x c.requires
    (read_is c.args.self.now c.args.q c.args.x c.requires c.in_default.ensures)

pub returns-in_default-kind : goal.returns-in_default-kind
unfolding reading_with
returns-in_default-kind c =
    other_read c.args.self.now c.args.q c.args.x c.requires _
    (read_is c.args.self.now c.args.q c.args.x c.requires c.in-Some.ensures)
    (λ g t e.
    let k = ap (contents_with c.read_into.new.items) c.in_default-kind.is in
    let z : ◌≡◌ {A = ℕ} 0 1 = cc in omega arith)

pub head_at-requires : goal.head_at-requires
head_at-requires c =
    asked c.args.self.now c.args.q c.args.x c.requires

pub returns-then-ne : goal.returns-then-ne
unfolding reading_with
returns-then-ne c =
    let read = read_is c.args.self.now c.args.q c.args.x c.requires c.in-Some.ensures in
    by_facts c.args.self.now c.args.q c.args.x c.requires c.head_at.result _ _ false c.head_at.ensures refl refl
    (decides_no
    (λ d.
    head_other c.in-Some.frame.head c.head_at.result c.if-ne.ensures (ap (λ (r : Reading). r.head) (some_same _ _ (read ∙ d.0.is)))))

pub overflow_mul-q : goal.overflow_mul-q
overflow_mul-q c =
    omega (
      arith,
      lines_low c.args.self.now c.args.q c.args.x c.requires,
      c.args.self.now.comparing.holding.ready.shaped.lines_high,
    )

pub overflow_sub-f : goal.overflow_sub-f
overflow_sub-f c = omega (arith, lines_low c.args.self.now c.args.q c.args.x c.requires)

pub returns-then-tags-lesser : goal.returns-then-tags-lesser
returns-then-tags-lesser c =
    let read =
    data_read c.read_into.new.items c.in-Some.frame c.in-Data.follow_on
    (read_is c.args.self.now c.args.q c.args.x c.requires c.in-Some.ensures) c.in-Data.is in
    let lent : c.as_slice-tags.result.now ≡ c.read_into.new.items.tags.items = c.as_slice-tags.ensures.value in
    by_facts c.args.self.now c.args.q c.args.x c.requires c.head_at.result c.lesser.result _ false c.head_at.ensures c.lesser.ensures refl
    (decides_no
    (λ d.
    c.if-tags-lesser.true (ap length lent ∙ ap (λ (t : ArrayVec ℕ). length t.items) (one_tags read d.0.is) ∙ d.0.count_is)))

pub overflow_sub-tags : goal.overflow_sub-tags
overflow_sub-tags c =
    omega (arith, c.if-tags-lesser.false, some_lines c.args.self.now c.args.q c.args.x c.requires c.lesser.result c.lesser.ensures)

pub bounds-tags-tags : goal.bounds-tags-tags
bounds-tags-tags c =
    omega (arith, c.if-tags-lesser.false, some_lines c.args.self.now c.args.q c.args.x c.requires c.lesser.result c.lesser.ensures)

pub is_followed-requires : goal.is_followed-requires
is_followed-requires c =
    let v = c.args.self.now in
    let f = v.part.cycle.now.f in
    let p = c.requires in
    let read =
    data_read c.read_into.new.items c.in-Some.frame c.in-Data.follow_on
    (read_is c.args.self.now c.args.q c.args.x c.requires c.in-Some.ensures) c.in-Data.is in
    let lent : c.as_slice-tags.result.now ≡ c.read_into.new.items.tags.items = c.as_slice-tags.ensures.value in
    let count : length c.read_into.new.items.tags.items ≡ min f.p (f.lines - c.args.q * f.p) =
    sym (ap length lent) ∙ c.if-tags-lesser.false ∙ c.lesser.ensures in
    let some = some_lines v c.args.q c.args.x p (length c.read_into.new.items.tags.items) count in
    let stands = stands_here f v.image.now v.part.s v.comparing c.args.q c.args.x p.low p.high p.here in (
      p,
      ap (λ (ts : List ℕ). get_or ts (length ts - 1) 0) lent
          ∙ last_known f v.image.now v.comparing.holding.ready c.args.x c.args.q stands
          c.in-Some.frame.head c.in-Data.follow_on c.read_into.new.items.tags read count some.0,
    )

pub returns : goal.returns
returns c =
    let read =
    data_read c.read_into.new.items c.in-Some.frame c.in-Data.follow_on
    (read_is c.args.self.now c.args.q c.args.x c.requires c.in-Some.ensures) c.in-Data.is in
    let lent : c.as_slice-tags.result.now ≡ c.read_into.new.items.tags.items = c.as_slice-tags.ensures.value in
    let head = head_same c.in-Some.frame.head c.head_at.result c.if-ne.ensures in
    by_facts c.args.self.now c.args.q c.args.x c.requires c.head_at.result c.lesser.result _ _ c.head_at.ensures c.lesser.ensures refl
    (decides_by
    (λ o. (
      record {
        tags = c.read_into.new.items.tags;
        is =
            sym read
            ∙ ap₂ {C = Option Reading} (λ (h : Head) g. Some (record { head = h; contents = Data g c.read_into.new.items.tags })) head o.follow_is;
        count_is = sym (ap length lent) ∙ c.if-tags-lesser.false;
      },
      o.in_order,
    ))
    (λ d. record { follow_is = one_follow read d.0.is; in_order = d.1 })
    c.is_followed.ensures)
