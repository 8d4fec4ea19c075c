-- The way down: from an index bucket above the unsent target, level by level to the target. Arriving by a pair, by an entry
-- and at the cycle's first bucket is the same.
-- Assumes nothing.
use mathlib.Core.Path.{◌≡◌, refl, sym, ◌∙◌, ap}
use Prim.Native.Nat.{ℕ, zero, suc, ◌+◌, ◌-◌, ◌*◌, ◌/◌, ◌^◌, ◌≤◌, ◌<◌, min, max}
use mathlib.Core.Bool.{true, false}
use mathlib.Core.List.{List}
use native.Mathlib.Nat.{suc-add}
use native.Mathlib.Numerals.{add-one}
use native.Mathlib.Omega.{arith}
use lib.Dec.{ltb}
use lib.ListN.{length}
use borrow.Author.Tests.{le-ltb}
use Rattle.buckets.specs.Bucket.{Bucket}
use Rattle.cycle.specs.Tree.{Plan, above, width, children, largest_tag}
use Rattle.cycle.specs.Layouts.{Slot}
use Rattle.cycle.specs.Cycle.{occurs, to_next, is_data, has_pairs, later_pair, entry, entries}
use Rattle.cycle.specs.Inner.Held.{cycle_bucket}
use Rattle.cycle.proofs.Sequences.Sequence.{IndexKeeps, Comes, place_above}
use Rattle.cycle.proofs.Trees.TreeLaws.{above_add, above_suc, above_le, lt_width, children_bounds}
use Rattle.cycle.proofs.Sequences.Pieces.{index_slot, data_level}
use Rattle.cycle.proofs.Sequences.Occurring.{occurs_is}
use Rattle.cycle.proofs.Lines.DataTags.{AcceptedPlan}
use Rattle.listener.specs.Listener.{dozes, choice, tag_below}
use Rattle.listener.specs.EndPlace.{target}
use Rattle.listener.specs.declared.Phase.{Phase}
use Rattle.listener.specs.declared.Phase.TheVariants.{Index, Either}
use Rattle.listener.proofs.Walks.Target.{entry_test, pair_test}
use Rattle.listener.proofs.Walks.Places.{distance_first, count_index}
use Rattle.listener.proofs.Walks.Walk.{awake, lines_at}
use Rattle.listener.proofs.Walks.Ways.{Spot, here, sent_to, Carries, further, further_sent, hop_within, walk_as}
use Rattle.listener.proofs.Walks.DataRun.{place_sent}
use Rattle.listener.proofs.Walks.Arrival.{runs, Leads, arrives}
use Rattle.listener.proofs.Walks.IndexTells.{TakesIndex, entry_found, entry_choice_lem, index_heard}

-- ---- places above the target

-- what is above the bucket above q is above q
pub above_of :
    (t : Plan) (i j q : ℕ) → j ≤ i → i ≤ t.k + 1 → above t.n (i - j) (place_above t i q) ≡ place_above t j q
unfolding place_above
above_of t i j q h g =
    let e : (t.k + 1 - i) + (i - j) ≡ t.k + 1 - j = omega arith in
    sym (above_add t.n (t.k + 1 - i) (i - j) q) ∙ ap (λ z. above t.n z q) e

pub above_data : (t : Plan) (q : ℕ) → place_above t (t.k + 1) q ≡ q
unfolding place_above
above_data t q = let e : t.k + 1 - (t.k + 1) ≡ 0 = omega arith in rw e

pub above_child : (t : Plan) (i q : ℕ) → i ≤ t.k → place_above t (i + 1) q / t.n ≡ place_above t i q
unfolding place_above
above_child t i q h =
    let e : t.k + 1 - i ≡ suc (t.k + 1 - (i + 1)) = omega arith in
    rw e (sym (above_suc t.n (t.k + 1 - (i + 1)) q))

pub above_width : (t : Plan) → 0 < t.n → (i q : ℕ) → q < t.d → place_above t i q < width t i
unfolding place_above
above_width t pos i q h =
    let b : above t.n (t.k + 1 - i) q * t.n ^ (t.k + 1 - i) ≤ q =
    above_le t.n (t.k + 1 - i) pos (above t.n (t.k + 1 - i) q) q (omega arith) in
    lt_width t pos i (above t.n (t.k + 1 - i) q) (omega arith)

-- ---- slots

pub record Is (i j : ℕ) (x : Slot) : Type 0 where
  pub level_is : x.level ≡ i
  pub place_is : x.place ≡ j

pub named : (i j : ℕ) (x : Slot) → occurs i j x ≡ true → Is i j x
named i j x h = let b = occurs_is i j x h in record { level_is = b.0; place_is = b.1 }

-- the distance to what comes in the rest of the cycle
pub comes_at :
    {t : Plan} {s q i j : ℕ} {rest : List Slot} (c : Comes t s q i j rest) → to_next rest i j ≡ suc (length c.skipped)
unfolding to_next
comes_at c =
    distance_first
    (record { skipped = c.skipped; hit = c.hit; behind = c.behind; splits = c.splits; is = c.is; fresh = c.first })

-- ---- the way down

pub index_keeps : (t : Plan) → AcceptedPlan t → (s : Spot t) → is_data t s.slot ≡ false → IndexKeeps t s.before s.slot s.rest
index_keeps t a s n = a.keeps.each s.before s.slot s.rest s.splits n

-- where a hop to what comes lands
unfoldable pub landing : {t : Plan} (s : Spot t) {n q i j : ℕ} → Comes t n q i j s.rest → Spot t
landing s c = further s c.skipped c.hit c.behind c.splits

pub landing_is : {t : Plan} (s : Spot t) {n q i j : ℕ} (c : Comes t n q i j s.rest) → Is i j (landing s c).slot
unfolding landing further
landing_is s {n} {q} {i} {j} c = named i j c.hit c.is

pub landing_sent :
    {t : Plan} (s : Spot t) {q i j : ℕ} (c : Comes t (sent_to s) q i j s.rest) → is_data t s.slot ≡ false →
    sent_to (landing s c) ≤ q
unfolding landing
landing_sent {t} s {q} c n =
    omega
    (arith, further_sent s c.skipped c.hit c.behind c.splits, count_index t s.slot c.skipped n, c.in_time)

module _ (t : Plan) (a : AcceptedPlan t) (tag : ℕ) (below : target t tag < t.d) where
  pos : 0 < t.n
  pos = omega (arith, a.sound.grows)

  -- a bucket above the unsent target: its child above the target is followed
  pub child_choice :
      (s : Spot t) → is_data t s.slot ≡ false → s.slot.level ≤ t.k → sent_to s ≤ target t tag →
      s.slot.place ≡ place_above t s.slot.level (target t tag) → (ph : Phase) → awake ph ≡ true →
      choice ph tag (cycle_bucket t (here s)) ≡
      dozes (to_next s.rest (s.slot.level + 1) (place_above t (s.slot.level + 1) (target t tag))) Either 0 0
  unfolding entries entry children later_pair
  child_choice s n high unsent is ph w =
      entry_choice_lem t a s n ph tag w unsent quiet ∙
      entry_found tag child (entry t s.rest (i + 1)) (j * t.n) (min (j * t.n + t.n) (width t (suc i)) - j * t.n)
      bounds.0
      (omega (arith, bounds.0, bounds.1))
      (λ c u v. entry_test t a tag (i + 1) c below (omega arith) (rw (add-one i) (omega arith)))
    where
      i : ℕ
      i = s.slot.level

      j : ℕ
      j = s.slot.place

      q : ℕ
      q = target t tag

      child : ℕ
      child = place_above t (i + 1) q

      inside : child < width t (suc i)
      inside = rw (← add-one i) (above_width t pos (i + 1) q below)

      bounds : (j * t.n ≤ child) × (child < min (j * t.n + t.n) (width t (suc i)))
      bounds = children_bounds t pos i j child (above_child t i q high ∙ sym is) inside

      quiet :
          (h : ℕ) → has_pairs t s.slot ≡ true → 2 ≤ h → h ≤ i →
          tag_below (later_pair t s.rest s.slot h).tag tag ≡ false
      quiet h p u v =
          let e : above t.n (i - h) j ≡ place_above t h q = ap (above t.n (i - h)) is ∙ above_of t i h q v (omega arith) in
          let z : ltb (largest_tag t h (place_above t h q)) tag ≡ false =
          pair_test t a tag h (place_above t h q) below (omega arith) (above_width t pos h q below) ∙
          le-ltb (place_above t h q) (place_above t h q) (omega arith) in
          rw e z

  -- one hop down
  pub enters :
      {last : ℕ} {bk : ℕ → Bucket} (on : Carries last bk t) (s : Spot t) (n : is_data t s.slot ≡ false) → sent_to s ≤ target t tag →
      s.slot.place ≡ place_above t s.slot.level (target t tag) → (ph : Phase) → awake ph ≡ true → TakesIndex ph → (h : ℕ) →
      ((c : Comes t (sent_to s) (target t tag) (s.slot.level + 1) (place_above t (s.slot.level + 1) (target t tag)) s.rest) →
      Leads t tag on (here (landing s c)) Either h) →
      Leads t tag on (here s) ph (suc h)
  unfolding landing lines_at sent_to
  enters on s n unsent is ph w takes h more =
      let k : IndexKeeps t s.before s.slot s.rest = index_keeps t a s n in
      let c : Comes t (sent_to s) (target t tag) (s.slot.level + 1) (place_above t (s.slot.level + 1) (target t tag)) s.rest =
      k.child (target t tag) below unsent (sym is) in
      hop_within s c.skipped c.hit c.behind c.splits tag on 0 0
      (index_heard t a s n ph takes)
      (child_choice s n k.high unsent is ph w ∙
      ap (λ z. dozes z Either 0 0)
      (comes_at c))
      refl
      (more c)

  -- one hop down, and then the way from there
  pub goes_down :
      {last : ℕ} {bk : ℕ → Bucket} (on : Carries last bk t) (h : ℕ) (s : Spot t) → s.slot.level + suc h ≡ t.k + 1 → sent_to s ≤ target t tag →
      s.slot.place ≡ place_above t s.slot.level (target t tag) → (ph : Phase) → awake ph ≡ true → TakesIndex ph →
      ((n : Spot t) → n.slot.level + h ≡ t.k + 1 → sent_to n ≤ target t tag →
      n.slot.place ≡ place_above t n.slot.level (target t tag) → Leads t tag on (here n) Either (h + max 1 (runs t tag))) →
      Leads t tag on (here s) ph (suc h + max 1 (runs t tag))
  goes_down on h s e unsent is ph w takes more =
      let n : is_data t s.slot ≡ false = index_slot t s.slot (omega arith) in
      walk_as (sym (suc-add h (max 1 (runs t tag)))) refl refl
      (enters on s n unsent is ph w takes (h + max 1 (runs t tag))
      (λ c.
      let l : Is (s.slot.level + 1) (place_above t (s.slot.level + 1) (target t tag)) (landing s c).slot = landing_is s c in
      more (landing s c) (omega arith) (landing_sent s c n)
      (l.place_is ∙ ap (λ z. place_above t z (target t tag)) (sym l.level_is))))

  -- all the way down, h levels
  pub descends :
      {last : ℕ} {bk : ℕ → Bucket} (on : Carries last bk t) (h : ℕ) (s : Spot t) → s.slot.level + h ≡ t.k + 1 → sent_to s ≤ target t tag →
      s.slot.place ≡ place_above t s.slot.level (target t tag) → Leads t tag on (here s) Either (h + max 1 (runs t tag))
  descends on zero s e unsent is =
      let l : s.slot.level ≡ t.k + 1 = omega arith in
      let d : is_data t s.slot ≡ true = data_level t s.slot l in
      let p : s.slot.place ≡ target t tag = is ∙ (ap (λ z. place_above t z (target t tag)) l ∙ above_data t (target t tag)) in
      walk_as (omega arith) refl refl (arrives t a tag on s d (sym (place_sent t a s d) ∙ p) Either refl (λ f ls. refl))
  descends on (suc h) s e unsent is =
      goes_down on h s e unsent is Either refl (λ ps es. refl) (λ n. descends on h n)

  -- from an index bucket that a pair, a pointer or the cycle's start led to
  pub descends_from :
      {last : ℕ} {bk : ℕ → Bucket} (on : Carries last bk t) (s : Spot t) → s.slot.level ≤ t.k → sent_to s ≤ target t tag →
      s.slot.place ≡ place_above t s.slot.level (target t tag) →
      Leads t tag on (here s) Index (t.k + 1 - s.slot.level + max 1 (runs t tag))
  descends_from on s high unsent is =
      let h : ℕ = t.k - s.slot.level in
      walk_as (omega arith) refl refl
      (goes_down on h s (omega arith) unsent is Index refl (λ ps es. refl) (λ n. descends on h n))
