-- What the functions that compare a segment have at hand: bounds, what they ask of their callees, and buckets decided.
-- Assumes nothing.
use mathlib.Core.Path.{◌≡◌, sym, ap₂, ◌∙◌, subst}
use mathlib.Core.Logic.{⊎_elim}
use Prim.Native.Nat.{ℕ, suc, ◌+◌, ◌-◌, ◌*◌, ◌≤◌, ◌<◌, min}
use native.Mathlib.Nat.{eq-or-lt_of_le}
use native.Mathlib.Omega.{arith}
use mathlib.Core.Bool.{Bool, true}
use mathlib.Core.List.{List, [], ◌∷◌, map}
use lib.Dec.{eqb}
use lib.ListN.{length, take, drop}
use Rattle.columns.specs.Lists.{pick, joined, range}
use Rattle.columns.specs.PrintedNumbers.{value}
use Rattle.buckets.specs.declared.Head.{Head}
use Rattle.buckets.specs.Bucket.{print_bucket, read_bucket, good, follow_on}
use Rattle.std.specs.Option.{option_map}
use Rattle.buckets.specs.Inner.Held.{head_of, reading_of}
use Rattle.buckets.specs.Lengths.{tag_width, bucket_length, lines_start, buckets_most}
use Rattle.cycle.specs.Tree.{layout_number, Plan, above, children, last_tag, first_tag}
use Rattle.cycle.specs.Layouts.{slot}
use Rattle.cycle.specs.Cycle.{cycle_size, bucket_at}
use Rattle.cycle.specs.declared.Figures.{Figures}
use Rattle.cycle.specs.declared.Segment.{Segment}
use Rattle.cycle.specs.declared.Source.TheVariants.{Image as InImage}
use Rattle.cycle.specs.Cycle.{first_place}
use Rattle.cycle.specs.Judging.{tree_at}
use Rattle.cycle.specs.Inner.Held.{plan_of, Ready, StandsAt, lines_held, plan_in, cycle_bucket, TreePlace, Printing}
use Rattle.cycle.specs.Inner.Comparing.{Decides, RisesAt, MatchesAt, Matches, DataMatches, Followed, Comparing, Checking}
use Rattle.cycle.proofs.Segmenting.SegmentParts.{Seated, seated, path_size, path_layout, path_there, path_high, data_there}
use Rattle.cycle.proofs.Segmenting.TreePlaces.{tree_before, bucket_stands}
use Rattle.cycle.proofs.Basics.Deciding.{decides_by}
use Rattle.cycle.proofs.Lines.FollowOns.{follow_last, follow_next}
use Rattle.cycle.proofs.ReadingBack.ImageText.{Seam, seam}
use Rattle.cycle.proofs.ReadingBack.ImageTags.{image_tags}
use Rattle.cycle.proofs.ReadingBack.BucketsCompared.{DataFacts, bucket_decided, held_here, data_decided}
use Rattle.cycle.proofs.Buckets.BuiltGood.{built_good}
use Rattle.cycle.proofs.ReadingBack.Matching.{datas_part, datas_on, datas_to}
use Rattle.cycle.proofs.Trees.Readiness.{sound}
use Rattle.cycle.proofs.Segmenting.SegmentData.{sent_by, sent_behind, first_sent, sent_all}
use Rattle.cycle.proofs.ReadingBack.MatchingBuilt.{held_accepted}
use Rattle.cycle.proofs.Building.AcceptedLists.{size_shape}

-- what holds of some figures and bytes holds of their equals
pub moved :
    {f g : Figures} {a b : List ℕ} → g ≡ f → a ≡ b → (P : Figures → List ℕ → Type 0) → P g a → P f b
moved {f} {g} {a} {b} figures bytes P p = subst (P f) bytes (subst (λ h. P h a) figures p)

module _ (f : Figures) (bytes : List ℕ) (s : Segment) (w : Comparing f bytes s) where
  pub ready_in : Ready f
  ready_in = w.holding.ready

  pub seats : Seated f s
  seats = seated f s ready_in w.placed

  -- a bucket of the segment is in the image
  pub room_at : (x : ℕ) → x < s.end → (bucket_length * x + bucket_length ≤ length bytes) × (x ≤ buckets_most)
  room_at x h = (omega (arith, seats, w.holding.long), omega (arith, seats))

  -- the path bucket of level i
  pub path_below : (i : ℕ) → s.top ≤ i → i ≤ f.copies → s.start + (i - s.top) < s.tree_at
  path_below i low high = omega (arith, path_size f s ready_in w.placed)

  -- data bucket q
  pub data_below : (q : ℕ) → s.first ≤ q → q < s.last → s.data_at + (q - s.first) < s.end
  data_below q low high = omega (arith, (w.placed []).ends)

  pub data_bucket_decided :
      (q x : ℕ) → s.first ≤ q → q < s.last → x ≡ s.data_at + (q - s.first) → (head : Head) (count follow : ℕ) (r : Bool) →
      head ≡ head_of (cycle_bucket (plan_of f []) x) → count ≡ min f.p (f.lines - q * f.p) →
      follow ≡ follow_on (cycle_bucket (plan_in f InImage bytes) x).body →
      Decides (DataFacts (option_map reading_of (read_bucket (bucket_at bytes x))) head count follow × RisesAt (plan_in f InImage bytes) q) r →
      Decides (MatchesAt (plan_in f InImage bytes) bytes x) r
  data_bucket_decided q x low high is head count follow r head_is count_is follow_is d =
      let there = data_there f s ready_in w.placed [] q low high in
      data_decided f bytes ready_in x q (rw (← is) at there) (omega (arith, seats, data_below q low high)) head count follow r head_is count_is follow_is d

  -- its follow-on, and its last tag against the next one's first
  module _ (q x : ℕ) (low : s.first ≤ q) (high : q < s.last) (is : x ≡ s.data_at + (q - s.first)) where
    pub stands_here : StandsAt (plan_of f []) x (slot (f.k + 1) q ∷ [])
    stands_here = let there = data_there f s ready_in w.placed [] q low high in rw (← is) at there

    pub last_followed :
        (follow : ℕ) (r : Bool) → q + 1 ≡ f.d → Decides (follow ≡ 0) r → Decides (Followed (plan_in f InImage bytes) q x follow) r
    unfolding plan_in plan_of
    last_followed follow r end d =
        let none_left : follow_on (cycle_bucket (plan_in f InImage bytes) x).body ≡ 0 = follow_last f ready_in InImage bytes q x stands_here end in
        decides_by (λ e. record { follow_is = e ∙ sym none_left; in_order = λ h. absurd (omega arith) }) (λ g. g.follow_is ∙ none_left) d

    -- the tags that meet
    module _ (last first : ℕ) (next : q + 1 < f.d) (last_is_lem : last ≡ last_tag (plan_in f InImage bytes) q)
        (first_is : first ≡ value 0 (take tag_width (drop (bucket_length * first_place (plan_of f []) (f.k + 1) (q + 1) + lines_start) bytes))) where
      meets : Seam f bytes w.holding q
      meets = seam f bytes w.holding q next

      first_there : first_tag (plan_in f InImage bytes) (q + 1) ≡ first
      first_there = meets.first_is ∙ (meets.stands_at ∙ sym first_is)

      pub next_falls : (follow : ℕ) → first < last → Followed (plan_in f InImage bytes) q x follow → ⊥
      unfolding plan_in plan_of
      next_falls follow h g = let up = g.in_order next in omega (arith, first_there, last_is_lem)

      pub next_followed :
          (follow : ℕ) (r : Bool) → last ≤ first →
          Decides (follow ≡ pick (eqb first last) (first_place (plan_of f []) (f.k + 1) (q + 1) - x) 0) r →
          Decides (Followed (plan_in f InImage bytes) q x follow) r
      next_followed follow r h d =
          let same : follow_on (cycle_bucket (plan_in f InImage bytes) x).body ≡ pick (eqb first last) (first_place (plan_of f []) (f.k + 1) (q + 1) - x) 0 =
          follow_next f ready_in InImage bytes q x stands_here next
          ∙ ap₂ (λ u v. pick (eqb u v) (first_place (plan_of f []) (f.k + 1) (q + 1) - x) 0)
          (sym meets.first_is ∙ first_there) (sym meets.last_is_lem ∙ sym last_is_lem) in
          decides_by (λ e. record { follow_is = e ∙ sym same; in_order = λ i. omega (arith, first_there, last_is_lem) }) (λ g. g.follow_is ∙ same) d

  -- ---- the data buckets of the segment

  place_of : (q : ℕ) → s.first ≤ q → q < s.last → first_place (plan_in f InImage bytes) (f.k + 1) q ≡ s.data_at + (q - s.first)
  place_of q low high = held_here f bytes ready_in (s.data_at + (q - s.first)) q (data_there f s ready_in w.placed [] q low high)

  pub datas_found : Matches (plan_in f InImage bytes) bytes s.data_at s.end → DataMatches (plan_in f InImage bytes) bytes s.first s.last
  unfolding plan_in plan_of
  datas_found m =
      record {
        each = λ q low high.
            subst (MatchesAt (plan_in f InImage bytes) bytes) (sym (place_of q low high))
            (m.each (s.data_at + (q - s.first)) (omega arith) (data_below q low high));
      }

  pub datas_there : DataMatches (plan_in f InImage bytes) bytes s.first s.last → Matches (plan_in f InImage bytes) bytes s.data_at s.end
  unfolding plan_in plan_of
  datas_there d =
      record {
        each = λ z low high.
            let q : ℕ = s.first + (z - s.data_at) in
            let ends = (w.placed []).ends in
            let below : q < s.last = omega (arith, (w.placed []).first_last) in
            let here : s.data_at + (q - s.first) ≡ z = omega arith in
            subst (MatchesAt (plan_in f InImage bytes) bytes) (place_of q (omega arith) below ∙ here) (d.each q (omega arith) below);
      }

  pub datas_within : DataMatches (plan_in f InImage bytes) bytes 0 f.d → Matches (plan_in f InImage bytes) bytes s.data_at s.end
  unfolding plan_of
  datas_within d = datas_there (datas_part s.first s.last (omega arith) (w.placed []).last_in d)

  -- and those of the segments before it
  pub datas_more :
      DataMatches (plan_in f InImage bytes) bytes 0 (sent_by (plan_of f []) s.start) →
      Matches (plan_in f InImage bytes) bytes s.data_at s.end → DataMatches (plan_in f InImage bytes) bytes 0 (sent_by (plan_of f []) s.end)
  datas_more d m =
      let t : Plan = plan_of f [] in
      let p = w.placed [] in
      let fine = sound f [] ready_in.shaped ready_in.copies_fit_lem in
      let sent = sent_behind t fine s p in
      ⊎_elim
      (λ (e : s.first ≡ s.last). let same : sent_by t s.start ≡ sent_by t s.end = omega (arith, sent) in datas_to same d)
      (λ (h : s.first < s.last).
      let first : sent_by t s.start ≡ s.first = sym (first_sent t fine s p h) in
      let last : s.last ≡ sent_by t s.end = omega (arith, sent, first) in
      datas_to last (datas_on (datas_to first d) (datas_found m)))
      (eq-or-lt_of_le p.first_last)

pub all_sent : (f : Figures) → Ready f → sent_by (plan_of f []) (cycle_size (plan_of f [])) ≡ f.d
unfolding plan_of
all_sent f ready = sent_all (plan_of f []) (sound f [] ready.shaped ready.copies_fit_lem)

-- ---- index buckets, where the data buckets match

module _ (f : Figures) (bytes : List ℕ) (s : Segment) (k : Checking f bytes s) where
  abbrev plan_read : Plan
  plan_read = plan_in f InImage bytes

  pub printing : Printing f InImage bytes true s
  printing =
      let w = k.comparing in
      record { ready = w.holding.ready; fits = w.holding.long; placed = w.placed; tags = image_tags f bytes w.holding k.datas true }

  -- every bucket of the cycle is good
  pub good_at : (x : ℕ) → x < f.size → good (cycle_bucket plan_read x) ≡ true
  unfolding plan_in
  good_at x h =
      let ready = k.comparing.holding.ready in
      let size : cycle_size (plan_in f InImage bytes) ≡ f.size = size_shape f (lines_held f InImage bytes) [] ∙ sym ready.size_is in
      built_good plan_read (held_accepted f bytes ready k.datas) (omega (arith, size, ready.size_high)) x (omega (arith, size))

  -- bucket j of height e
  module _ (e j x : ℕ) (p : TreePlace f s e j x) where
    tree_below_lem : x < f.size
    tree_below_lem =
        omega (arith, seats f bytes s k.comparing, tree_before f s k.comparing.holding.ready k.comparing.placed e j x p)

    tree_here :
        StandsAt (plan_of f []) x (slot (f.k + 1 - e) j ∷ joined (tree_at (plan_of f []) (e - 1)) (children (plan_of f []) (f.k + 1 - e) j))
    tree_here = bucket_stands f s k.comparing.holding.ready k.comparing.placed e j x p

    pub tree_decided :
        (r : Bool) → Decides (bucket_at bytes x ≡ print_bucket (cycle_bucket plan_read x)) r → Decides (MatchesAt plan_read bytes x) r
    tree_decided =
        bucket_decided f bytes k.comparing.holding.ready x (f.k + 1 - e) j tree_here (omega (arith, p.low)) (good_at x tree_below_lem)

  -- the path bucket of level i
  module _ (i x : ℕ) (low : s.top ≤ i) (high : i ≤ f.copies) (is : x ≡ s.start + (i - s.top)) where
    path_below_size : x < f.size
    path_below_size = omega (arith, seats f bytes s k.comparing, path_below f bytes s k.comparing i low high)

    one : layout_number f.layout ≡ 1
    one = path_layout f s k.comparing.holding.ready k.comparing.placed i low high

    path_here :
        StandsAt (plan_of f []) x
        (slot i (above f.n (f.copies + 1 - i) s.number) ∷ map (λ l. slot l (above f.n (f.copies + 1 - l) s.number)) (range (suc i) (f.copies + 1)))
    path_here =
        let there = path_there f s k.comparing.holding.ready k.comparing.placed [] i one low high in
        rw (← is) at there

    pub path_decided :
        (r : Bool) → Decides (bucket_at bytes x ≡ print_bucket (cycle_bucket plan_read x)) r → Decides (MatchesAt plan_read bytes x) r
    path_decided =
        bucket_decided f bytes k.comparing.holding.ready x i (above f.n (f.copies + 1 - i) s.number) path_here
        (omega (arith, path_high f s k.comparing.holding.ready k.comparing.placed one)) (good_at x path_below_size)
