-- Under the figures of a cycle: the lines of its data buckets, the tag of the last line sent, and follow-ons.
-- Assumes nothing.
use mathlib.Core.Path.{◌≡◌, refl, sym, ap, ap₂, subst, ◌∙◌}
use Prim.Native.Nat.{ℕ, zero, suc, ◌+◌, ◌-◌, ◌*◌, ◌<◌, min}
use native.Mathlib.Numerals.{add-one}
use native.Mathlib.Omega.{arith}
use Rattle.std.specs.Prelude.{Some}
use mathlib.Core.List.{List, [], ◌∷◌}
use lib.Dec.{eqb}
use Rattle.columns.specs.Lists.{pick}
use Rattle.buckets.specs.Bucket.{follow_on}
use Rattle.cycle.specs.Tree.{Plan, first_tag, last_tag}
use Rattle.cycle.specs.Layouts.{slot}
use Rattle.cycle.specs.Cycle.{follow_on_from}
use Rattle.cycle.specs.declared.Figures.{Figures}
use Rattle.cycle.specs.declared.Source.{Source}
use Rattle.cycle.specs.Cycle.{first_place}
use Rattle.cycle.specs.Inner.Held.{plan_of, Shaped, Ready, StandsAt, last_of, lines_held, tag_at, plan_in, cycle_bucket}
use Rattle.cycle.proofs.Sequences.Sequence.{Keeps}
use Rattle.cycle.proofs.Sequences.Keeping.{keeps}
use Rattle.cycle.proofs.Trees.TreeLaws.{up_lt}
use Rattle.cycle.proofs.Trees.Readiness.{sound}
use Rattle.cycle.proofs.Trees.Shapes.{stand_shape, first_place_shape}
use Rattle.cycle.proofs.Segmenting.Positions.{At, stand_at, data_at_lem}
use Rattle.cycle.proofs.Reach.NextOccurrence.{to_send}
use Rattle.cycle.proofs.Sequences.DataOnce.{follow_on_last, follow_on_next, next_data_ahead}
use Rattle.cycle.proofs.Lines.Tags.{first_tag_lem, last_tag_lem}

-- data buckets before the last are full
pub full_lines : (f : Figures) → Shaped f → (q : ℕ) → q < f.d → q * f.p < f.lines
full_lines f s q h = up_lt f.lines f.p q s.p_low (subst (λ d. q < d) s.d_is h)

module _ (f : Figures) (ready : Ready f) (source : Source) (text : List ℕ) where
  pub last_full : (q : ℕ) → suc q < f.d → last_tag (plan_in f source text) q ≡ tag_at f source text (suc q * f.p - 1)
  last_full q h =
      let e : min f.lines ((q + 1) * f.p) - 1 ≡ suc q * f.p - 1 =
      rw (add-one q) (omega (arith, full_lines f ready.shaped (suc q) h)) in
      last_tag_lem f source text q ready.shaped.p_low (full_lines f ready.shaped q (omega arith)) ∙ ap (tag_at f source text) e

  -- the tag of the last line of the first `sent` data buckets
  pub last_sent_lem : (sent : ℕ) → 0 < sent → sent < f.d → last_of (plan_in f source text) sent ≡ Some (tag_at f source text (sent * f.p - 1))
  last_sent_lem zero p h = absurd (omega arith)
  last_sent_lem (suc q) p h = ap Some (last_full q h)

  module _ (q x : ℕ) (stands : StandsAt (plan_of f []) x (slot (f.k + 1) q ∷ [])) where
    abbrev held : Plan
    held = plan_of f (lines_held f source text)

    here : At held x (held.k + 1) q []
    unfolding plan_of
    here = stand_at (stand_shape f [] (lines_held f source text) stands)

    kept : Keeps held
    kept = keeps held (sound f (lines_held f source text) ready.shaped ready.copies_fit_lem)

    body_follows : follow_on (cycle_bucket (plan_in f source text) x).body ≡ follow_on_from held (last_tag held q) 1 (to_send here)
    unfolding plan_in
    body_follows = ap follow_on (data_at_lem here refl)

    pub follow_last : q + 1 ≡ f.d → follow_on (cycle_bucket (plan_in f source text) x).body ≡ 0
    unfolding plan_of
    follow_last h = body_follows ∙ follow_on_last held kept here (sym (add-one q) ∙ h)

    pub follow_far : q + 1 < f.d → x < first_place (plan_of f []) (f.k + 1) (q + 1)
    unfolding plan_of
    follow_far h =
        let l : x < first_place held (f.k + 1) (suc q) = next_data_ahead held kept here (omega arith) in
        rw (add-one q, first_place_shape f [] (lines_held f source text) (f.k + 1) (suc q)) l

    pub follow_next :
        q + 1 < f.d →
        follow_on (cycle_bucket (plan_in f source text) x).body
        ≡ pick (eqb (tag_at f source text ((q + 1) * f.p)) (tag_at f source text ((q + 1) * f.p - 1)))
        (first_place (plan_of f []) (f.k + 1) (q + 1) - x) 0
    unfolding plan_in plan_of
    follow_next h =
        let next : suc q < f.d = omega arith in
        let first : first_tag held (suc q) ≡ tag_at f source text (suc q * f.p) =
        first_tag_lem f source text (suc q) ready.shaped.p_low (full_lines f ready.shaped (suc q) next) in
        let last : last_tag held q ≡ tag_at f source text (suc q * f.p - 1) = last_full q next in
        let place : first_place held (f.k + 1) (suc q) ≡ first_place (plan_of f []) (f.k + 1) (suc q) =
        first_place_shape f (lines_held f source text) [] (f.k + 1) (suc q) in
        rw (add-one q)
        (body_follows
        ∙ follow_on_next held kept here next
        ∙ ap₂ (λ u v. pick (eqb u v) (first_place held (f.k + 1) (suc q) - x) 0) first last
        ∙ ap (λ z. pick (eqb (tag_at f source text (suc q * f.p)) (tag_at f source text (suc q * f.p - 1))) (z - x) 0) place)
