-- From the start of a segment: down to the target, on to the next cycle where the target was sent, or to a root where the tag is
-- above the whole list.
-- Assumes nothing.
use mathlib.Core.Path.{◌≡◌, refl, sym, ◌∙◌, ap, subst}
use mathlib.Core.Logic.{⊎_elim}
use Prim.Native.Nat.{ℕ, suc, ◌+◌, ◌-◌, ◌≤◌, ◌<◌, max}
use mathlib.Core.Bool.{Bool, true, false}
use mathlib.Core.List.{List, map}
use native.Mathlib.Omega.{arith}
use lib.Dec.{ltb}
use lib.ListN.{length}
use borrow.Author.Tests.{ltb-true, ltb-false, lt-ltb, le-ltb}
use Rattle.columns.specs.Lists.{pick, any, span}
use Rattle.buckets.specs.declared.Line.{Line}
use Rattle.buckets.specs.declared.Entry.{Entry}
use Rattle.buckets.specs.Bucket.{Bucket}
use Rattle.cycle.specs.Tree.{Plan, above}
use Rattle.cycle.specs.Layouts.{Slot}
use Rattle.cycle.specs.Cycle.{distance_to, occurs, to_next, is_data, has_pairs, later_pair, entries, cycle_size}
use Rattle.cycle.specs.Inner.Held.{last_of, cycle_bucket}
use Rattle.cycle.proofs.Sequences.Sequence.{IndexKeeps, Comes, place_above}
use Rattle.cycle.proofs.Basics.Ranges.{le_or_lt}
use Rattle.cycle.proofs.Trees.TreeLaws.{above_mono}
use Rattle.cycle.proofs.Lines.DataTags.{AcceptedPlan}
use Rattle.cycle.proofs.Sequences.Pieces.{occurs_slot}
use Rattle.cycle.proofs.Reach.Distances.{First, first_or_none, distance_none}
use Rattle.cycle.proofs.Sequences.Occurring.{root_above}
use Rattle.listener.specs.Listener.{dozes, choice, later_choice, tag_below}
use Rattle.listener.specs.Hearing.{End}
use Rattle.listener.specs.EndPlace.{target, last_heard, position, root_from, end_from}
use Rattle.listener.specs.declared.Phase.{Phase}
use Rattle.listener.specs.declared.Phase.TheVariants.{Index}
use Rattle.listener.proofs.Walks.Target.{target_le, pair_test, over_pair}
use Rattle.listener.proofs.Walks.Places.{distance_first}
use Rattle.listener.proofs.Walks.Walk.{lines_at}
use Rattle.listener.proofs.Walks.Ways.{Spot, here, sent_to, here_below, Carries, WalkOn, further, further_here, hop_within, hop_round, walk_as}
use Rattle.listener.proofs.Walks.Arrival.{runs, EndsAt, Leads}
use Rattle.listener.proofs.Walks.IndexTells.{later_first, Below, first_quiet, first_fires, pairs_first, pairs_later, index_heard, index_choice_lem}
use Rattle.listener.proofs.Walks.Descent.{above_of, above_width, Is, named, comes_at, index_keeps, landing, landing_is, landing_sent, descends_from}
use Rattle.listener.proofs.Walks.Roots.{rest_length, root, sent_le, from_root, over_root, over_start, last_inside}
use Rattle.listener.proofs.Walks.EndCases.{end_unsent, end_sent, end_over, root_at, root_on}

-- a walk of a number of steps up to a bound, to place z of the same cycle
pub record Within {last : ℕ} {bk : ℕ → Bucket} (t : Plan) (tag : ℕ) (c : Carries last bk t) (x : ℕ) (ph : Phase) (bound z : ℕ) : Type 0 where
  pub steps : ℕ
  pub most : steps ≤ bound
  pub walk : EndsAt t tag c x ph steps (c.base + z)
  pub inside : z < cycle_size t

-- n steps to the first bucket of the next cycle, and on from there, whatever is found there
abbrev pub Passes : {last : ℕ} {bk : ℕ → Bucket} (t : Plan) → ℕ → Carries last bk t → ℕ → Phase → ℕ → Type 0
Passes t tag c x ph n =
    (h : ℕ) (e : End) (z : ℕ) (got : List Line) → WalkOn t tag c (cycle_size t) Index h e z got → WalkOn t tag c x ph (n + h) e z got

-- where a hearing ends that comes to the first bucket of a cycle
unfoldable pub end_of_start : Plan → ℕ → ℕ
end_of_start t tag = pick (ltb (target t tag) t.d) (position t (last_heard t tag)) 0

-- From a bucket on that comes before the way down by so many hops: it ends in this cycle, or passes into the next. Place z is
-- where it ends if the next cycle is the same.
pub data Way {last : ℕ} {bk : ℕ → Bucket} (t : Plan) (tag : ℕ) (c : Carries last bk t) (x : ℕ) (ph : Phase) (before z : ℕ) : Type 0 where
  ends : Within t tag c x ph (before + t.k + max 1 (runs t tag)) z → Way t tag c x ph before z
  passes : (n : ℕ) → n ≤ before → Passes t tag c x ph n → z ≡ cycle_size t + end_of_start t tag → Way t tag c x ph before z

-- from the start of a segment
abbrev pub FromStart : {last : ℕ} {bk : ℕ → Bucket} (t : Plan) → ℕ → Carries last bk t → Spot t → ℕ → Type 0
FromStart t tag c s z = Way t tag c (here s) Index 1 z

module _ (t : Plan) (a : AcceptedPlan t) (tag : ℕ) where
  pub end_listed : target t tag < t.d → end_of_start t tag ≡ position t (last_heard t tag)
  unfolding end_of_start
  end_listed h = rw (lt-ltb (target t tag) t.d h)

  pub end_above : target t tag ≡ t.d → end_of_start t tag ≡ 0
  unfolding end_of_start
  end_above e = rw (le-ltb (target t tag) t.d (omega arith))

  -- from the first bucket of a cycle
  pub from_first :
      {last : ℕ} {bk : ℕ → Bucket} (c : Carries last bk t) → Within t tag c 0 Index (t.k + max 1 (runs t tag)) (end_of_start t tag)
  from_first c =
      ⊎_elim
      (λ (h : t.d ≤ target t tag).
      let e : target t tag ≡ t.d = omega (arith, target_le t tag) in
      record {
        steps = 1;
        most = omega (arith, a.sound.levelled);
        walk = walk_as refl (ap (λ z. c.base + z) (sym (end_above e))) refl (over_start t a tag e c);
        inside = omega (arith, end_above e, here_below (root t a));
      })
      (λ (h : target t tag < t.d).
      record {
        steps = t.k + max 1 (runs t tag);
        most = omega arith;
        walk = walk_as refl (ap (λ z. c.base + z) (sym (end_listed h))) refl (from_root t a tag h c);
        inside = rw (end_listed h) (last_inside t a tag h);
      })
      (le_or_lt t.d (target t tag))

pub further_level :
    {t : Plan} (s : Spot t) {f : Slot → Bool} (r : First f s.rest) {i : ℕ} → r.hit.level ≡ i →
    (further s r.skipped r.hit r.behind r.splits).slot.level ≡ i
unfolding further
further_level s r e = e

module _
    {last : ℕ} {bk : ℕ → Bucket} (t : Plan) (a : AcceptedPlan t) (tag : ℕ) (on : Carries last bk t) (s : Spot t)
    (n : is_data t s.slot ≡ false) (p : has_pairs t s.slot ≡ true)
  where
    -- the target was sent: on to the next cycle
    pub goes_round : target t tag < sent_to s → Passes t tag on (here s) Index 1
    unfolding lines_at
    goes_round sent h e z got more =
        let b : here s < cycle_size t = here_below s in
        walk_as (omega arith) refl refl
        (hop_round on s tag (cycle_size t - here s) 0 0 (index_heard t a s n Index (λ ps es. refl))
        (index_choice_lem t a s n Index tag refl ∙
        pairs_first t s.rest (last_of t (sent_to s)) (cycle_size t - here s) s.slot tag (entries t s.rest s.slot) p
        (first_fires t a tag (sent_to s) sent (sent_le t a s)))
        refl (omega arith) more)

    -- else a later pair or an entry is followed
    pub later_choice_lem :
        sent_to s ≤ target t tag →
        choice Index tag (cycle_bucket t (here s)) ≡
        later_choice tag (map (later_pair t s.rest s.slot) (span 2 (s.slot.level + 1 - 2)))
        (entries t s.rest s.slot)
    later_choice_lem unsent =
        index_choice_lem t a s n Index tag refl ∙
        pairs_later t s.rest (last_of t (sent_to s)) (cycle_size t - here s) s.slot tag
        (entries t s.rest s.slot) p (first_quiet t tag (sent_to s) unsent)

    -- the bucket of level h above this one
    pub anc : ℕ → ℕ
    anc h = above t.n (s.slot.level - h) s.slot.place

    module _ (below : target t tag < t.d) (unsent : sent_to s ≤ target t tag) where
      k : IndexKeeps t s.before s.slot s.rest
      k = index_keeps t a s n

      pub anc_left : (h : ℕ) → h ≤ s.slot.level → anc h ≤ place_above t h (target t tag)
      unfolding anc sent_to
      anc_left h l =
          subst (λ z. anc h ≤ z) (above_of t s.slot.level h (target t tag) l (omega (arith, k.high)))
          (above_mono t.n (s.slot.level - h) (omega (arith, a.sound.grows)) s.slot.place
          (place_above t s.slot.level (target t tag)) (k.left_of p (target t tag) below unsent))

      -- its tag is below ours if it is before the target's bucket
      pub anc_test :
          (h : ℕ) → h ≤ s.slot.level →
          tag_below (later_pair t s.rest s.slot h).tag tag ≡ ltb (anc h) (place_above t h (target t tag))
      unfolding anc later_pair
      anc_test h l =
          pair_test t a tag h (anc h) below (omega (arith, k.high))
          (omega (arith, anc_left h l, above_width t (omega (arith, a.sound.grows)) h (target t tag) below))

      -- if it is not, it is the target's bucket
      pub anc_same :
          (h : ℕ) → h ≤ s.slot.level →
          tag_below (later_pair t s.rest s.slot h).tag tag ≡ false → anc h ≡ place_above t h (target t tag)
      anc_same h l e =
          omega (arith, anc_left h l, ltb-false (anc h) (place_above t h (target t tag)) (sym (anc_test h l) ∙ e))

      pub anc_root : anc 1 ≡ place_above t 1 (target t tag)
      unfolding anc
      anc_root = k.rooted ∙ sym (root_above t a.sound a.keeps (target t tag) below)

      -- no pair up to level h is below our tag: the target is under the bucket above
      pub anc_up :
          (h : ℕ) → 1 ≤ h → h ≤ s.slot.level →
          (2 ≤ h → tag_below (later_pair t s.rest s.slot h).tag tag ≡ false) →
          anc h ≡ place_above t h (target t tag)
      anc_up h low high quiet =
          ⊎_elim
          (λ (l : 2 ≤ h). anc_same h high (quiet l))
          (λ (l : h < 2).
          let e : h ≡ 1 = omega arith in
          subst (λ z. anc z ≡ place_above t z (target t tag)) (sym e) anc_root)
          (le_or_lt 2 h)

      pub anc_self : anc s.slot.level ≡ s.slot.place
      unfolding anc
      anc_self = let e : s.slot.level - s.slot.level ≡ 0 = omega arith in ap (λ z. above t.n z s.slot.place) e

      -- pair h + 1 is followed: back to the bucket of level h above, which is above the target
      pub follows_pair :
          (h : ℕ) → 1 ≤ h → h < s.slot.level → anc h ≡ place_above t h (target t tag) →
          (anc (h + 1) ≡ place_above t (h + 1) (target t tag) → ⊥) →
          choice Index tag (cycle_bucket t (here s)) ≡
          dozes (later_pair t s.rest s.slot (h + 1)).distance Index 0 0 →
          Leads t tag on (here s) Index (suc (t.k + 1 - h + max 1 (runs t tag)))
      unfolding later_pair anc landing lines_at sent_to
      follows_pair h low high same other c =
          let q : ℕ = target t tag in
          let w : Comes t (sent_to s) q h (place_above t h q) s.rest = k.again p q below unsent h low high same other in
          let l : Is h (place_above t h q) (landing s w).slot = landing_is s w in
          let one : h + 1 - 1 ≡ h = omega arith in
          let far : to_next s.rest (h + 1 - 1) (above t.n (s.slot.level - (h + 1 - 1)) s.slot.place) ≡ suc (length w.skipped) =
          rw (one, same) (comes_at w) in
          hop_within s w.skipped w.hit w.behind w.splits tag on 0 0
          (index_heard t a s n Index (λ ps es. refl)) (c ∙ ap (λ z. dozes z Index 0 0) far) refl
          (subst (λ z. Leads t tag on (here (landing s w)) Index (t.k + 1 - z + max 1 (runs t tag))) l.level_is
          (descends_from t a tag below on (landing s w) (omega (arith, l.level_is, k.high)) (landing_sent s w n)
          (l.place_is ∙ ap (λ z. place_above t z q) (sym l.level_is))))

      -- the target is unsent
      pub seeks : Within t tag on (here s) Index (1 + t.k + max 1 (runs t tag)) (position t (last_heard t tag))
      seeks = ⊎_elim turns stays (later_first tag (later_pair t s.rest s.slot) es 2 (s.slot.level + 1 - 2))
        where
          q : ℕ
          q = target t tag

          i : ℕ
          i = s.slot.level

          es : List Entry
          es = entries t s.rest s.slot

          turns :
              Below tag (later_pair t s.rest s.slot) es 2 (i + 1 - 2) →
              Within t tag on (here s) Index (1 + t.k + max 1 (runs t tag)) (position t (last_heard t tag))
          turns r =
              let h : ℕ = r.pair - 1 in
              let e : r.pair ≡ h + 1 = omega (arith, r.low) in
              let l : h + 1 ≤ i = omega (arith, r.high, r.low) in
              let before : ltb (anc (h + 1)) (place_above t (h + 1) q) ≡ true =
              sym (anc_test (h + 1) l) ∙
              (ap (λ z. tag_below (later_pair t s.rest s.slot z).tag tag) (sym e) ∙ r.below) in
              let away : anc (h + 1) < place_above t (h + 1) q = ltb-true (anc (h + 1)) (place_above t (h + 1) q) before in
              record {
                steps = suc (t.k + 1 - h + max 1 (runs t tag));
                most = omega (arith, r.low, k.high);
                walk =
                    follows_pair h (omega (arith, r.low)) (omega arith) (anc_up h (omega (arith, r.low)) (omega arith) (λ u. r.others h u (omega arith)))
                    (λ z. omega arith)
                    (later_choice_lem unsent ∙
                    (r.chosen ∙ ap (λ z. dozes (later_pair t s.rest s.slot z).distance Index 0 0) e));
                inside = last_inside t a tag below;
              }

          stays :
              ((j : ℕ) → 2 ≤ j → j < 2 + (i + 1 - 2) → tag_below (later_pair t s.rest s.slot j).tag tag ≡ false) →
              Within t tag on (here s) Index (1 + t.k + max 1 (runs t tag)) (position t (last_heard t tag))
          stays none_below =
              record {
                steps = t.k + 1 - i + max 1 (runs t tag);
                most = omega arith;
                walk =
                    descends_from t a tag below on s k.high unsent
                    (sym anc_self ∙ anc_up i k.low (omega arith) (λ u. none_below i u (omega arith)));
                inside = last_inside t a tag below;
              }

    -- pair 2 is followed: to a root, of this cycle or the next
    pub follows_root :
        target t tag ≡ t.d → choice Index tag (cycle_bucket t (here s)) ≡ dozes (to_next s.rest 1 0) Index 0 0 →
        FromStart t tag on s (here s + to_next s.rest 1 0)
    unfolding to_next lines_at
    follows_root e c = ⊎_elim within round (first_or_none (occurs 1 0) s.rest)
      where
        d : ℕ
        d = distance_to (occurs 1 0) s.rest

        within : First (occurs 1 0) s.rest → FromStart t tag on s (here s + d)
        within f =
            let l : Is 1 0 f.hit = named 1 0 f.hit f.is in
            let far : d ≡ suc (length f.skipped) = distance_first f in
            let there : Spot t = further s f.skipped f.hit f.behind f.splits in
            let place : here there ≡ here s + d = further_here s f.skipped f.hit f.behind f.splits ∙ ap (λ z. here s + z) (sym far) in
            ends
            (record {
              steps = 2;
              most = omega (arith, a.sound.levelled);
              walk =
                  walk_as refl (ap (λ z. on.base + z) place) refl
                  (hop_within s f.skipped f.hit f.behind f.splits tag on 0 0 (index_heard t a s n Index (λ ps es. refl))
                  (c ∙ ap (λ z. dozes z Index 0 0) far) refl
                  (over_root t a tag e on there (further_level s f l.level_is)));
              inside = omega (arith, place, here_below there);
            })

        round : any (occurs 1 0) s.rest ≡ false → FromStart t tag on s (here s + d)
        round none_left =
            let far : d ≡ suc (length s.rest) = distance_none (occurs 1 0) s.rest none_left in
            passes 1 (omega arith)
            (λ h e' z got more.
            walk_as (omega arith) refl refl
            (hop_round on s tag (suc (length s.rest)) 0 0 (index_heard t a s n Index (λ ps es. refl))
            (c ∙ ap (λ z. dozes z Index 0 0) far) refl (rest_length s) more))
            (omega (arith, rest_length s, far, end_above t a tag e))

    -- a tag above the whole list
    pub over : target t tag ≡ t.d → FromStart t tag on s (root_from t (here s))
    unfolding later_pair
    over e = ⊎_elim at_root below_root (le_or_lt i 1)
      where
        i : ℕ
        i = s.slot.level

        k : IndexKeeps t s.before s.slot s.rest
        k = index_keeps t a s n

        some_data : 1 < i → 0 < t.d
        some_data l =
            ⊎_elim
            (λ (h : t.d ≤ 0). absurd (omega (arith, a.lone (omega arith), k.high)))
            (λ (h : 0 < t.d). h)
            (le_or_lt t.d 0)

        pair_two : 1 < i → choice Index tag (cycle_bucket t (here s)) ≡ dozes (to_next s.rest 1 0) Index 0 0
        pair_two l =
            let more : i + 1 - 2 ≡ suc (i - 2) = omega arith in
            later_choice_lem (rw e (sent_le t a s)) ∙
            rw (more, over_pair t a tag 2 (above t.n (i - 2) s.slot.place) e (some_data l) (omega (arith, k.high)), k.rooted)

        at_root : i ≤ 1 → FromStart t tag on s (root_from t (here s))
        at_root l =
            let one : i ≡ 1 = omega (arith, k.low) in
            let none_above : i - 1 ≡ 0 = omega arith in
            let first : s.slot.place ≡ 0 = sym (ap (λ z. above t.n z s.slot.place) none_above) ∙ k.rooted in
            let place : here s ≡ root_from t (here s) = sym (root_at t a s (occurs_slot 1 0 s.slot one first)) in
            ends
            (record {
              steps = 1;
              most = omega arith;
              walk = walk_as refl (ap (λ z. on.base + z) place) refl (over_root t a tag e on s one);
              inside = omega (arith, place, here_below s);
            })

        below_root : 1 < i → FromStart t tag on s (root_from t (here s))
        below_root l = subst (FromStart t tag on s) (sym (root_on t a s l)) (follows_root e (pair_two l))

    pub from_start : FromStart t tag on s (end_from t tag (here s))
    from_start =
        ⊎_elim
        (λ (unsent : sent_to s ≤ target t tag).
        ⊎_elim
        (λ (h : t.d ≤ target t tag).
        let e : target t tag ≡ t.d = omega (arith, target_le t tag) in
        subst (FromStart t tag on s) (sym (end_over t a tag e (here s))) (over e))
        (λ (h : target t tag < t.d).
        subst (FromStart t tag on s) (sym (end_unsent t a tag s h unsent)) (ends (seeks h unsent)))
        (le_or_lt t.d (target t tag)))
        (λ (sent : target t tag < sent_to s).
        let h : target t tag < t.d = omega (arith, sent_le t a s) in
        passes 1 (omega arith) (goes_round sent)
        (end_sent t a tag s h sent ∙ ap (λ z. cycle_size t + z) (sym (end_listed t a tag h))))
        (le_or_lt (sent_to s) (target t tag))
