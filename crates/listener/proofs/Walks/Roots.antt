-- From a root: from the cycle's first bucket down to the target, and from any root where the tag is above the whole list.
-- Assumes nothing.
use mathlib.Core.Path.{◌≡◌, refl, sym, ◌∙◌, ap, subst}
use Prim.Native.Nat.{ℕ, suc, ◌+◌, ◌-◌, ◌*◌, ◌≤◌, ◌<◌, min, max}
use mathlib.Core.Bool.{true, false}
use mathlib.Core.List.{[], ◌∷◌}
use native.Mathlib.Numerals.{add-one}
use native.Mathlib.Omega.{arith}
use lib.ListN.{length, length-append}
use Rattle.buckets.specs.Bucket.{Bucket}
use Rattle.cycle.specs.Tree.{Plan, width, children}
use Rattle.cycle.specs.Cycle.{is_data, entry, entries, cycle_size}
use Rattle.cycle.proofs.Sequences.Sequence.{data_count, place_above}
use Rattle.cycle.proofs.Lines.DataTags.{AcceptedPlan}
use Rattle.cycle.proofs.Sequences.Pieces.{index_slot, count_append}
use Rattle.cycle.proofs.Sequences.Occurring.{root_above}
use Rattle.listener.specs.EndPlace.{target, last_heard, position}
use Rattle.listener.specs.declared.Phase.TheVariants.{Index}
use Rattle.listener.proofs.Walks.Walk.{walk_end}
use Rattle.listener.proofs.Walks.Target.{over_entry}
use Rattle.listener.proofs.Walks.Ways.{Spot, here, sent_to, Carries, misses_at, walk_as, alone}
use Rattle.listener.proofs.Walks.Arrival.{runs, EndsAt, Leads, wanted_over}
use Rattle.listener.proofs.Walks.IndexTells.{entry_none, index_heard, entry_choice_lem}
use Rattle.listener.proofs.Walks.Descent.{Is, descends_from}

pub rest_length : {t : Plan} (s : Spot t) → here s + suc (length s.rest) ≡ cycle_size t
unfolding here cycle_size
rest_length {t} s = sym (ap length s.splits ∙ length-append s.before (s.slot ∷ s.rest))

module _ (t : Plan) (a : AcceptedPlan t) where
  unfoldable pub root : Spot t
  root =
      record { before = []; slot = record { level = 1; place = 0; starts = true }; rest = a.keeps.tail; splits = a.keeps.root_first }

  pub root_here : here root ≡ 0
  unfolding here root
  root_here = refl

  pub root_sent : sent_to root ≡ 0
  unfolding sent_to root
  root_sent = refl

  pub root_is : Is 1 0 root.slot
  unfolding root
  root_is = record { level_is = refl; place_is = refl }

  pub sent_le : (s : Spot t) → sent_to s ≤ t.d
  unfolding sent_to
  sent_le s =
      omega (arith, count_append t s.before (s.slot ∷ s.rest), ap (data_count t) s.splits, a.keeps.all_sent)

  module _ (tag : ℕ) where
    -- from the cycle's first bucket down
    pub from_root :
        {last : ℕ} {bk : ℕ → Bucket} → target t tag < t.d → (c : Carries last bk t) → Leads t tag c 0 Index (t.k + max 1 (runs t tag))
    from_root below c =
        let r : Is 1 0 root.slot = root_is in
        subst (λ x. Leads t tag c x Index (t.k + max 1 (runs t tag))) root_here
        (walk_as (omega arith) refl refl
        (descends_from t a tag below c root (omega (arith, a.sound.levelled)) (omega (arith, root_sent))
        (r.place_is ∙ (sym (root_above t a.sound a.keeps (target t tag) below) ∙ ap (λ z. place_above t z (target t tag)) (sym r.level_is)))))

    -- a root, for a tag above the whole list
    pub over_root :
        {last : ℕ} {bk : ℕ → Bucket} → target t tag ≡ t.d → (c : Carries last bk t) (s : Spot t) → s.slot.level ≡ 1 →
        EndsAt t tag c (here s) Index 1 (c.base + here s)
    unfolding entries entry children
    over_root e c s l =
        let i : ℕ = s.slot.level in
        let j : ℕ = s.slot.place in
        let n : is_data t s.slot ≡ false = index_slot t s.slot (omega (arith, a.sound.levelled)) in
        rw (wanted_over t a tag e)
        (misses_at c s tag (index_heard t a s n Index (λ ps es. refl))
        (entry_choice_lem t a s n Index tag refl (rw e (sent_le s)) (λ h p u v. absurd (omega arith)) ∙
        entry_none tag (entry t s.rest (i + 1)) (j * t.n) (min (j * t.n + t.n) (width t (suc i)) - j * t.n)
        (λ y u v. over_entry t a tag (i + 1) y e (omega (arith, a.sound.levelled)) (rw (add-one i) (omega arith)))))

    -- the cycle's first bucket
    pub over_start :
        {last : ℕ} {bk : ℕ → Bucket} → target t tag ≡ t.d → (c : Carries last bk t) → EndsAt t tag c 0 Index 1 (c.base + 0)
    over_start e c =
        subst (λ x. EndsAt t tag c x Index 1 (c.base + x)) root_here (over_root e c root root_is.level_is)

  -- the last data bucket heard stands in the cycle
  pub last_inside : (tag : ℕ) → target t tag < t.d → position t (last_heard t tag) < cycle_size t
  unfolding alone
  last_inside tag below = omega (arith, walk_end (from_root tag below (alone t a.keeps)))
