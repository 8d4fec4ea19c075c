-- Behind the last data bucket there is none; else the next one's first tag decides.
use Rattle.std.proofs.Common.{◌≡◌, ℕ, ◌+◌, ◌-◌, ◌*◌, ◌≤◌, ◌<◌, List, [], length, take, drop, sym, ap, ◌∙◌, arith}
use borrow.Author.Tests.{eq-eqb, ne_eqb}
use lib.Dec.{eqb}
use Rattle.columns.specs.Lists.{pick}
use Rattle.columns.specs.PrintedNumbers.{value}
use Rattle.buckets.specs.Lengths.{tag_width, bucket_length, lines_start, buckets_most}
use Rattle.cycle.specs.Tree.{last_tag}
use Rattle.cycle.specs.declared.Figures.{Figures}
use Rattle.cycle.specs.declared.Segment.{Segment}
use Rattle.cycle.specs.declared.Source.TheVariants.{Image as InImage}
use Rattle.cycle.specs.Cycle.{first_place}
use Rattle.cycle.specs.Inner.Held.{plan_of, plan_in, DataPlace}
use Rattle.cycle.specs.Inner.Comparing.{Decides, Followed, Comparing}
use Rattle.cycle.proofs.Trees.Readiness.{data_high}
use Rattle.cycle.proofs.Basics.Deciding.{decides_no, decides_by, decides_eqb}
use Rattle.cycle.proofs.Reach.DataHeld.{data_ends}
use Rattle.cycle.proofs.Lines.FollowOns.{follow_far}
use Rattle.cycle.proofs.Segmenting.TreePlaces.{data_in}
use Rattle.cycle.proofs.ReadingBack.Comparisons.{stands_here, last_followed, next_falls, next_followed}
use Rattle.cycle.proofs.read_back.Comparer.is_followed.Goals as goal

module _ {f : Figures} {image : List ℕ} {s : Segment} (w : Comparing f image s) {q x : ℕ} (p : DataPlace s q x) (more : q + 1 ≡ f.d → ⊥) where
  next : q + 1 < f.d
  next = omega (arith, data_in f s w.holding.ready w.placed q p.high, more)

  -- the next data bucket is in the image
  room : (place : ℕ) → place ≡ first_place (plan_of f []) (f.k + 1) (q + 1) → (bucket_length * place + bucket_length ≤ length image) × (place ≤ buckets_most)
  room place is =
      let ends = data_ends f (q + 1) w.holding.ready next in
      (omega (arith, ends, is, w.holding.long), omega (arith, ends, is, w.holding.ready.size_high))

  -- the tag that was spelled
  first_is :
      (place first : ℕ) → place ≡ first_place (plan_of f []) (f.k + 1) (q + 1) →
      first ≡ value 0 (take tag_width (drop (bucket_length * place + lines_start) image)) →
      first ≡ value 0 (take tag_width (drop (bucket_length * first_place (plan_of f []) (f.k + 1) (q + 1) + lines_start) image))
  first_is place first there is = is ∙ ap (λ z. value 0 (take tag_width (drop (bucket_length * z + lines_start) image))) there

  -- the follow-on decides
  decided :
      (last place first follow_on want : ℕ) → last ≡ last_tag (plan_in f InImage image) q →
      place ≡ first_place (plan_of f []) (f.k + 1) (q + 1) →
      first ≡ value 0 (take tag_width (drop (bucket_length * place + lines_start) image)) → last ≤ first →
      want ≡ pick (eqb first last) (first_place (plan_of f []) (f.k + 1) (q + 1) - x) 0 →
      Decides (Followed (plan_in f InImage image) q x follow_on) (eqb follow_on want)
  decided last place first follow_on want last_is there is rises e =
      next_followed f image s w q x p.low p.high p.here last first next last_is (first_is place first there is) follow_on _ rises
      (decides_by (λ h. h ∙ e) (λ h. h ∙ sym e) (decides_eqb follow_on want))

pub overflow_add-next : goal.overflow_add-next
overflow_add-next c =
    let v = c.args.self.now in
    let f = v.part.cycle.now.f in
    let w = v.comparing in
    omega (arith, data_high f w.holding.ready.shaped, data_in f v.part.s w.holding.ready w.placed c.args.q c.requires.0.high)

pub returns-then-next-self : goal.returns-then-next-self
returns-then-next-self c =
    let v = c.args.self.now in
    let p = c.requires.0 in
    last_followed v.part.cycle.now.f v.image.now v.part.s v.comparing c.args.q c.args.x p.low p.high p.here c.args.follow_on _
    c.if-next-self.true (decides_eqb c.args.follow_on 0)

pub next_data-place-requires : goal.next_data-place-requires
next_data-place-requires c = (c.requires.0, next c.args.self.now.comparing c.requires.0 c.if-next-self.false)

pub overflow_mul-at : goal.overflow_mul-at
overflow_mul-at c =
    omega (arith, room c.args.self.now.comparing c.requires.0 c.if-next-self.false c.next_data-place.result c.next_data-place.ensures)

pub overflow_add-at : goal.overflow_add-at
overflow_add-at c =
    omega (arith, room c.args.self.now.comparing c.requires.0 c.if-next-self.false c.next_data-place.result c.next_data-place.ensures)

pub spelled_tag-first-requires : goal.spelled_tag-first-requires
spelled_tag-first-requires c =
    omega (arith, room c.args.self.now.comparing c.requires.0 c.if-next-self.false c.next_data-place.result c.next_data-place.ensures)

pub returns-then-first-last : goal.returns-then-first-last
returns-then-first-last c =
    let v = c.args.self.now in
    let w = v.comparing in
    let p = c.requires.0 in
    decides_no
    (next_falls v.part.cycle.now.f v.image.now v.part.s w c.args.q c.args.x p.low p.high p.here c.args.last c.spelled_tag-first.result
    (next w p c.if-next-self.false) c.requires.1
    (first_is w p c.if-next-self.false c.next_data-place.result c.spelled_tag-first.result c.next_data-place.ensures
    c.spelled_tag-first.ensures)
    c.args.follow_on c.if-first-last.true)

pub overflow_sub-result : goal.overflow_sub-result
overflow_sub-result c =
    let v = c.args.self.now in
    let w = v.comparing in
    let p = c.requires.0 in
    let stands = stands_here v.part.cycle.now.f v.image.now v.part.s w c.args.q c.args.x p.low p.high p.here in
    omega (
      arith,
      c.next_data-place.ensures,
      follow_far v.part.cycle.now.f w.holding.ready InImage v.image.now c.args.q c.args.x stands (next w p c.if-next-self.false),
    )

pub returns-then-first-last-2 : goal.returns-then-first-last-2
returns-then-first-last-2 c =
    decided c.args.self.now.comparing c.requires.0 c.if-next-self.false c.args.last c.next_data-place.result c.spelled_tag-first.result
    c.args.follow_on _ c.requires.1 c.next_data-place.ensures c.spelled_tag-first.ensures c.if-first-last.false
    (rw (eq-eqb c.spelled_tag-first.result c.args.last c.if-first-last-2.true) (ap (λ z. z - c.args.x) c.next_data-place.ensures))

pub returns : goal.returns
returns c =
    decided c.args.self.now.comparing c.requires.0 c.if-next-self.false c.args.last c.next_data-place.result c.spelled_tag-first.result
    c.args.follow_on 0 c.requires.1 c.next_data-place.ensures c.spelled_tag-first.ensures c.if-first-last.false
    (rw (ne_eqb c.spelled_tag-first.result c.args.last c.if-first-last-2.false))
