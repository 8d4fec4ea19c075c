-- At the target: the lines of the tag, or none, and as many data buckets heard as hold it, but at least one.
-- Assumes nothing.
use mathlib.Core.Path.{◌≡◌, refl, sym, ◌∙◌, ap, subst}
use Prim.Native.Nat.{ℕ, suc, ◌+◌, ◌-◌, ◌<◌, max}
use mathlib.Core.Bool.{Bool, true, false, true≢false}
use mathlib.Core.List.{List, [], ◌∷◌, ◌++◌}
use native.Mathlib.Omega.{arith}
use Rattle.buckets.specs.declared.Line.{Line}
use Rattle.buckets.specs.Bucket.{Bucket}
use Rattle.cycle.specs.Tree.{Plan, lines_of, last_tag}
use Rattle.cycle.specs.Cycle.{is_data, follow_on_from}
use Rattle.cycle.proofs.Lines.DataTags.{AcceptedPlan}
use Rattle.listener.specs.Listener.{matching}
use Rattle.listener.specs.Hearing.{found, runs_with}
use Rattle.listener.specs.Demand3.{end_wanted}
use Rattle.listener.specs.EndPlace.{target, last_heard, position}
use Rattle.listener.specs.declared.Phase.{Phase}
use Rattle.listener.proofs.Walks.Target.{target_le, at_target}
use Rattle.listener.proofs.Walks.DataLines.{lines_from, runs_from, lines_next, runs_hold, lines_skip, runs_skip, lines_to_lem, runs_to, lines_end, all_lines, all_runs, holds_last, Stops, stops_over}
use Rattle.listener.proofs.Walks.Walk.{awake}
use Rattle.listener.proofs.Walks.Ways.{Spot, here, sent_to, Carries, WalkOn, misses_at, walk_as}
use Rattle.listener.proofs.Walks.DataRun.{TakesData, all_sent, data_position, data_heard, data_choice_lem, data_misses, data_run}
use Rattle.listener.proofs.Walks.TagRuns.{holds, matching_some}

-- the list's lines of the tag
unfoldable pub wanted : Plan → ℕ → List Line
wanted t tag = matching tag t.lines

-- C
unfoldable pub runs : Plan → ℕ → ℕ
runs t tag = runs_with t.p tag t.lines

-- a walk that ends as it should, in h steps, at place z
abbrev pub EndsAt : {last : ℕ} {bk : ℕ → Bucket} (t : Plan) → ℕ → Carries last bk t → ℕ → Phase → ℕ → ℕ → Type 0
EndsAt t tag c x ph h z = WalkOn t tag c x ph h (end_wanted (wanted t tag)) z (wanted t tag)

-- the same, at the last data bucket heard
abbrev pub Leads : {last : ℕ} {bk : ℕ → Bucket} (t : Plan) → ℕ → Carries last bk t → ℕ → Phase → ℕ → Type 0
Leads t tag c x ph h = EndsAt t tag c x ph h (c.base + position t (last_heard t tag))

module _ (t : Plan) (a : AcceptedPlan t) (tag : ℕ) where
  pub wanted_from : wanted t tag ≡ lines_from t tag (target t tag)
  unfolding wanted
  wanted_from = sym (all_lines t a tag) ∙ lines_to_lem t a tag (target t tag) (omega arith)

  pub runs_from_lem : runs t tag ≡ runs_from t tag (target t tag)
  unfolding runs
  runs_from_lem = sym (all_runs t a tag) ∙ runs_to t a tag (target t tag) (omega arith) (target_le t tag)

  pub heard_last : last_heard t tag ≡ target t tag + max 1 (runs t tag) - 1
  unfolding last_heard runs
  heard_last = refl

  -- a tag above the whole list has no line
  pub wanted_over : target t tag ≡ t.d → wanted t tag ≡ []
  wanted_over e = wanted_from ∙ (ap (lines_from t tag) e ∙ lines_end t a tag)

  -- a target that does not hold the tag
  pub record Lacks : Type 0 where
    pub no_lines : wanted t tag ≡ []
    pub no_runs : runs t tag ≡ 0

  pub lacks : target t tag < t.d → holds tag (lines_of t (target t tag)) ≡ false → Lacks
  lacks below h =
      record {
        no_lines = wanted_from ∙ (lines_skip t tag q h ∙ stops.no_lines);
        no_runs = runs_from_lem ∙ (runs_skip t tag q below h ∙ stops.no_runs);
      }
    where
      q : ℕ
      q = target t tag

      other : last_tag t q ≡ tag → ⊥
      other e = true≢false (sym (holds_last t a tag q below e) ∙ h)

      stops : Stops t a tag q
      stops = stops_over t a tag q (omega (arith, at_target t tag below, other))

  pub holds_some : holds tag (lines_of t (target t tag)) ≡ true → end_wanted (wanted t tag) ≡ found
  holds_some h = by (wanted t tag) (λ e. matching_some tag (lines_of t (target t tag)) h (front (matching tag (lines_of t (target t tag))) (lines_from t tag (suc (target t tag))) (sym (lines_next t tag (target t tag)) ∙ (sym wanted_from ∙ e))))
    where
      front : (xs ys : List Line) → xs ++ ys ≡ [] → xs ≡ []
      front [] ys e = refl
      front (x ∷ xs) ys e = let z : ◌≡◌ {A = ℕ} 0 1 = cc in absurd (omega arith)

      by : (ls : List Line) → (ls ≡ [] → ⊥) → end_wanted ls ≡ found
      by [] n = absurd (n refl)
      by (l ∷ ls) n = refl

  pub arrives :
      {last : ℕ} {bk : ℕ → Bucket} (c : Carries last bk t) (s : Spot t) → is_data t s.slot ≡ true → sent_to s ≡ target t tag →
      (ph : Phase) → awake ph ≡ true → TakesData ph → Leads t tag c (here s) ph (max 1 (runs t tag))
  arrives c s d e ph w takes = by (holds tag (lines_of t (sent_to s))) refl
    where
      below : sent_to s < t.d
      below = omega (arith, all_sent t a s d)

      by : (o : Bool) → holds tag (lines_of t (sent_to s)) ≡ o → Leads t tag c (here s) ph (max 1 (runs t tag))
      by true h =
          let q : ℕ = sent_to s in
          let some_runs : max 1 (runs t tag) ≡ runs_from t tag q =
          ap (max 1) (runs_from_lem ∙ ap (runs_from t tag) (sym e)) ∙ omega (arith, runs_hold t tag q below h) in
          let same_end : q + runs_from t tag q - 1 ≡ last_heard t tag = omega (arith, e, some_runs, heard_last) in
          subst (λ z. WalkOn t tag c (here s) ph (max 1 (runs t tag)) z (c.base + position t (last_heard t tag)) (wanted t tag))
          (sym (holds_some (rw e at h)))
          (walk_as (sym some_runs) (ap (λ z. c.base + position t z) same_end) (ap (lines_from t tag) e ∙ sym wanted_from)
          (data_run t a tag c (t.d - suc q) s d (omega (arith, below)) ph w takes h))
      by false h =
          let l : Lacks = lacks (rw e at below) (rw e at h) in
          let same_end : last_heard t tag ≡ sent_to s = omega (arith, e, l.no_runs, heard_last) in
          rw (l.no_lines, l.no_runs, same_end, data_position t a s d)
          (misses_at c s tag (data_heard t a s d ph takes)
          (data_choice_lem t a s d ph tag w ∙
          data_misses tag (follow_on_from t (last_tag t (sent_to s)) 1 s.rest) (lines_of t (sent_to s)) h))
