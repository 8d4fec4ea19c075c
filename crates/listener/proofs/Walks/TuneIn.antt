-- From any tune-in bucket: to the next segment's start, in this cycle or the next, and on from there.
-- Assumes nothing.
use mathlib.Core.Path.{◌≡◌, refl, sym, ◌∙◌, ap, subst}
use mathlib.Core.Logic.{⊎_elim}
use Prim.Native.Nat.{ℕ, suc, ◌+◌, ◌≤◌, ◌<◌}
use mathlib.Core.Bool.{Bool, true, false, true≢false}
use mathlib.Core.List.{List, [], ◌∷◌, ◌++◌}
use native.Mathlib.Omega.{arith}
use lib.ListN.{length}
use Rattle.columns.specs.Lists.{any}
use Rattle.buckets.specs.declared.Line.{Line}
use Rattle.buckets.specs.Bucket.{Bucket}
use Rattle.cycle.specs.Tree.{Plan}
use Rattle.cycle.specs.Layouts.{Slot}
use Rattle.cycle.specs.Cycle.{to_next_segment, is_data, has_pairs, bucket_of, cycle_size}
use Rattle.cycle.specs.Inner.Held.{cycle_bucket}
use Rattle.cycle.proofs.Sequences.Sequence.{IndexKeeps}
use Rattle.cycle.proofs.Basics.Ranges.{le_or_lt}
use Rattle.cycle.proofs.Lines.DataTags.{AcceptedPlan}
use Rattle.cycle.proofs.Segmenting.BucketAt.{Place, place_of}
use Rattle.cycle.proofs.Reach.Distances.{First, first_or_none}
use Rattle.listener.specs.Listener.{dozes}
use Rattle.listener.specs.Hearing.{End}
use Rattle.listener.specs.EndPlace.{target, end_from, end_place}
use Rattle.listener.specs.declared.Phase.TheVariants.{TuneIn, Index}
use Rattle.listener.proofs.Walks.Target.{target_le}
use Rattle.listener.proofs.Walks.Walk.{lines_at}
use Rattle.listener.proofs.Walks.Ways.{Spot, here, spot_of, spot_here, Carries, WalkOn, further, hop_within, hop_round, walk_as, bucket_here}
use Rattle.listener.proofs.Walks.Descent.{index_keeps}
use Rattle.listener.proofs.Walks.Roots.{rest_length}
use Rattle.listener.proofs.Walks.EndCases.{end_coming, end_over, end_behind, to_start, behind_within, to_coming, behind_round, root_coming}
use Rattle.listener.proofs.Walks.SegmentStart.{end_of_start, Way, ends, passes, FromStart, end_listed, end_above, from_start}

-- from tune-in bucket u
abbrev pub FromTuneIn : {last : ℕ} {bk : ℕ → Bucket} (t : Plan) → ℕ → Carries last bk t → ℕ → Type 0
FromTuneIn t tag c u = Way t tag c u TuneIn 2 (end_place t tag u)

module _ (t : Plan) (a : AcceptedPlan t) (tag : ℕ) where
  pub to_segment_lem : (s : Spot t) → (cycle_bucket t (here s)).to_segment ≡ to_next_segment s.rest
  unfolding bucket_of
  to_segment_lem s = ap (λ b. b.to_segment) (bucket_here t a.keeps s)

  -- where it ends if it comes to the next cycle, and that is the same
  pub end_next : end_from t tag (cycle_size t) ≡ cycle_size t + end_of_start t tag
  end_next =
      ⊎_elim
      (λ (h : t.d ≤ target t tag).
      let e : target t tag ≡ t.d = omega (arith, target_le t tag) in
      omega (arith, end_over t a tag e (cycle_size t), root_coming t a, end_above t a tag e))
      (λ (h : target t tag < t.d). end_coming t a tag h ∙ ap (λ z. cycle_size t + z) (sym (end_listed t a tag h)))
      (le_or_lt t.d (target t tag))

  module _ (s : Spot t) (f : First (λ x. x.starts) s.rest) where
    -- the next segment's start in this cycle
    unfoldable pub next : Spot t
    next = further s f.skipped f.hit f.behind f.splits

    pub next_index : is_data t next.slot ≡ false
    unfolding next further
    next_index = by (is_data t f.hit) refl
      where
        by : (b : Bool) → is_data t f.hit ≡ b → b ≡ false
        by false e = refl
        by true e =
            absurd
            (true≢false
            (sym f.is ∙ a.keeps.data_starts next.before next.slot next.rest next.splits e))

    pub next_pairs : has_pairs t next.slot ≡ true
    unfolding next further
    next_pairs = by (has_pairs t f.hit) refl
      where
        k : IndexKeeps t next.before next.slot next.rest
        k = index_keeps t a next next_index

        behind_some : (xs : List Slot) (x : Slot) (ys : List Slot) → xs ++ (x ∷ ys) ≡ [] → ⊥
        behind_some [] x ys e = let z : ◌≡◌ {A = ℕ} 0 1 = cc in omega arith
        behind_some (w ∷ xs) x ys e = let z : ◌≡◌ {A = ℕ} 0 1 = cc in omega arith

        by : (b : Bool) → has_pairs t f.hit ≡ b → b ≡ true
        by true e = refl
        by false e = absurd (behind_some s.before s.slot f.skipped (k.opens f.is e).0)

  module _ {last : ℕ} {bk : ℕ → Bucket} (c : Carries last bk t) where
    -- from a tune-in bucket
    pub tunes_in : (s : Spot t) → FromTuneIn t tag c (here s)
    unfolding next lines_at
    tunes_in s = ⊎_elim within round (first_or_none (λ x. x.starts) s.rest)
      where
        hop :
            (f : First (λ x. x.starts) s.rest) {h : ℕ} {e : End} {z : ℕ} {got : List Line} →
            WalkOn t tag c (here (next s f)) Index h e z got → WalkOn t tag c (here s) TuneIn (suc h) e z got
        hop f more =
            hop_within s f.skipped f.hit f.behind f.splits tag c 0 0 refl
            (ap (λ z. dozes z Index 0 0) (to_segment_lem s ∙ to_start t a s f)) refl more

        on_from : (f : First (λ x. x.starts) s.rest) {z : ℕ} → FromStart t tag c (next s f) z → Way t tag c (here s) TuneIn 2 z
        on_from f (ends w) =
            ends (record { steps = suc w.steps; most = omega (arith, w.most); walk = hop f w.walk; inside = w.inside })
        on_from f (passes n few go z) =
            passes (suc n) (omega arith) (λ h e y got more. walk_as (omega arith) refl refl (hop f (go h e y got more))) z

        within : First (λ x. x.starts) s.rest → FromTuneIn t tag c (here s)
        within f =
            subst (Way t tag c (here s) TuneIn 2) (end_behind t a tag (here s) (here (next s f)) (behind_within t a s f))
            (on_from f (from_start t a tag c (next s f) (next_index s f) (next_pairs s f)))

        round : any (λ x. x.starts) s.rest ≡ false → FromTuneIn t tag c (here s)
        round none_left =
            passes 1 (omega arith)
            (λ h e z got more.
            walk_as (omega arith) refl refl
            (hop_round c s tag (suc (length s.rest)) 0 0 refl
            (ap (λ z. dozes z Index 0 0) (to_segment_lem s ∙ to_coming t a s none_left)) refl (rest_length s) more))
            (sym (end_behind t a tag (here s) (cycle_size t) (behind_round t a s none_left)) ∙ end_next)

    -- at any place
    pub tunes_in_at : (u : ℕ) → u < cycle_size t → FromTuneIn t tag c u
    tunes_in_at u h =
        let p : Place t u = place_of t u h in subst (FromTuneIn t tag c) (spot_here p) (tunes_in (spot_of p))
