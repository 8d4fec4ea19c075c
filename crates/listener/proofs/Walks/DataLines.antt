-- The lines of a tag, data bucket by data bucket: none before the target, then a row of buckets that hold some, then none.
-- Assumes nothing.
use mathlib.Core.Path.{◌≡◌, refl, sym, ◌∙◌, ap, subst}
use mathlib.Core.Logic.{⊎_elim}
use Prim.Native.Nat.{ℕ, zero, suc, ◌+◌, ◌-◌, ◌≤◌, ◌<◌}
use mathlib.Core.Bool.{true, false, true≢false}
use mathlib.Core.List.{List, [], ◌∷◌, ◌++◌}
use native.Mathlib.Nat.{zero-add, zero-mul}
use native.Mathlib.Omega.{arith}
use lib.ListN
use lib.ListN.{drop, take-append-drop}
use Rattle.columns.specs.Lists.{pick}
use Rattle.buckets.specs.declared.Line.{Line}
use Rattle.cycle.specs.Tree.{Plan, lines_of, first_tag, last_tag}
use Rattle.cycle.proofs.Basics.Ranges.{le_or_lt}
use Rattle.cycle.proofs.Lines.Rising.{Rising, last_from}
use Rattle.cycle.proofs.Lines.DataTags.{AcceptedPlan, rest_from, lines_of_lem, rest_next, last_tag_lem, Filled, rest_rises, lines_rise, next_rises, rest_end, filled}
use Rattle.listener.specs.Listener.{matching}
use Rattle.listener.specs.Hearing.{runs_with}
use Rattle.listener.specs.EndPlace.{target}
use Rattle.listener.proofs.Walks.Target.{before_target}
use Rattle.listener.proofs.Walks.TagRuns.{holds, none_above, none_below, last_held, matching_append, matching_none, runs_of, runs_zero, runs_more, runs_above}

module _ (t : Plan) (tag : ℕ) where
  -- the lines of the tag from data bucket q on
  unfoldable pub lines_from : ℕ → List Line
  lines_from q = matching tag (rest_from t q)

  -- how many data buckets hold one, from q on
  unfoldable pub runs_from : ℕ → ℕ
  runs_from q = runs_of tag t.p (t.d - q) (rest_from t q)

  pub lines_next : (q : ℕ) → lines_from q ≡ matching tag (lines_of t q) ++ lines_from (suc q)
  unfolding lines_from
  lines_next q =
      ap (matching tag) (sym (take-append-drop t.p (rest_from t q))) ∙
      (matching_append tag (ListN.take t.p (rest_from t q)) (drop t.p (rest_from t q)) ∙ rw (lines_of_lem t q, rest_next t q))

  pub runs_next : (q : ℕ) → q < t.d → runs_from q ≡ pick (holds tag (lines_of t q)) 1 0 + runs_from (suc q)
  unfolding runs_from
  runs_next q h =
      let e : t.d - q ≡ suc (t.d - suc q) = omega arith in
      rw e (runs_more tag t.p (t.d - suc q) (rest_from t q) ∙ rw (lines_of_lem t q, rest_next t q))

  -- a bucket without a line of the tag
  pub lines_skip : (q : ℕ) → holds tag (lines_of t q) ≡ false → lines_from q ≡ lines_from (suc q)
  lines_skip q h = lines_next q ∙ rw (matching_none tag (lines_of t q) h)

  pub runs_skip : (q : ℕ) → q < t.d → holds tag (lines_of t q) ≡ false → runs_from q ≡ runs_from (suc q)
  runs_skip q l h = runs_next q l ∙ rw (h, zero-add)

  -- a bucket with one
  pub runs_hold : (q : ℕ) → q < t.d → holds tag (lines_of t q) ≡ true → runs_from q ≡ suc (runs_from (suc q))
  runs_hold q l h = runs_next q l ∙ rw h (omega arith)

module _ (t : Plan) (a : AcceptedPlan t) (tag : ℕ) where
  pub none_before : (q : ℕ) → q < target t tag → holds tag (lines_of t q) ≡ false
  none_before q h = none_below tag 0 (lines_of t q) (lines_rise t a q) (rw (← last_tag_lem) (before_target t tag q h))

  pub lines_to_lem : (q : ℕ) → q ≤ target t tag → lines_from t tag 0 ≡ lines_from t tag q
  lines_to_lem zero h = refl
  lines_to_lem (suc q) h = lines_to_lem q (omega arith) ∙ lines_skip t tag q (none_before q h)

  pub runs_to : (q : ℕ) → q ≤ target t tag → q ≤ t.d → runs_from t tag 0 ≡ runs_from t tag q
  runs_to zero h g = refl
  runs_to (suc q) h g = runs_to q (omega arith) (omega arith) ∙ runs_skip t tag q g (none_before q h)

  -- behind the last data bucket
  pub lines_end : lines_from t tag t.d ≡ []
  unfolding lines_from matching
  lines_end = rw (rest_end t a)

  pub runs_end : runs_from t tag t.d ≡ 0
  unfolding runs_from
  runs_end = let e : t.d - t.d ≡ 0 = omega arith in rw e (runs_zero tag t.p (rest_from t t.d))

  -- lines from a larger tag on
  pub lines_over : (q m : ℕ) → tag < m → Rising m (rest_from t q) → lines_from t tag q ≡ []
  unfolding lines_from
  lines_over q m h r = matching_none tag (rest_from t q) (none_above tag m (rest_from t q) h r)

  pub runs_over : (q m : ℕ) → tag < m → Rising m (rest_from t q) → runs_from t tag q ≡ 0
  unfolding runs_from
  runs_over q m h r = runs_above tag m t.p (t.d - q) (rest_from t q) h r

  pub all_lines : lines_from t tag 0 ≡ matching tag t.lines
  unfolding lines_from rest_from
  all_lines = rw zero-mul

  pub all_runs : runs_from t tag 0 ≡ runs_with t.p tag t.lines
  unfolding runs_from rest_from runs_of runs_with
  all_runs = let e : t.d - 0 ≡ t.d = omega arith in rw (zero-mul, e, a.d_is)

  -- the last tag of a bucket that holds the tag is at least it
  pub last_from_lem : (q : ℕ) → holds tag (lines_of t q) ≡ true → tag ≤ last_tag t q
  last_from_lem q h =
      ⊎_elim
      (λ (l : tag ≤ last_tag t q). l)
      (λ (l : last_tag t q < tag).
      absurd (true≢false (sym h ∙ none_below tag 0 (lines_of t q) (lines_rise t a q) (rw (← last_tag_lem) l))))
      (le_or_lt tag (last_tag t q))

  -- a last tag that is the tag is held
  pub holds_last : (q : ℕ) → q < t.d → last_tag t q ≡ tag → holds tag (lines_of t q) ≡ true
  holds_last q l e =
      let f : Filled t q = filled t a q l in
      let g : last_from 0 (f.line ∷ f.more) ≡ tag = ap (last_from 0) (sym f.is) ∙ (sym (last_tag_lem t q) ∙ e) in
      rw f.is (last_held tag 0 f.line f.more g)

  -- a first tag that is the tag is held
  pub holds_first : (q : ℕ) → q < t.d → first_tag t q ≡ tag → holds tag (lines_of t q) ≡ true
  unfolding holds
  holds_first q l e =
      let f : Filled t q = filled t a q l in
      rw (f.is, borrow.Author.Tests.eq-eqb f.line.tag tag (sym f.first_is ∙ e))

  pub first_rises : (q : ℕ) → q < t.d → Rising (first_tag t q) (rest_from t q)
  first_rises q l =
      let f : Filled t q = filled t a q l in
      let e : rest_from t q ≡ f.line ∷ (f.more ++ drop t.p (rest_from t q)) =
      sym (take-append-drop t.p (rest_from t q)) ∙
      ap (λ r. r ++ drop t.p (rest_from t q)) (sym (lines_of_lem t q) ∙ f.is) in
      let r : Rising 0 (f.line ∷ (f.more ++ drop t.p (rest_from t q))) = subst (Rising 0) e (rest_rises t a q) in
      rw (e, f.first_is) (omega arith, r.1)

  -- the first tag of a bucket is at least the last one before it
  pub first_from_lem : (q : ℕ) → suc q < t.d → last_tag t q ≤ first_tag t (suc q)
  first_from_lem q l =
      let f : Filled t (suc q) = filled t a (suc q) l in
      let e : rest_from t (suc q) ≡ f.line ∷ (f.more ++ drop t.p (rest_from t (suc q))) =
      sym (take-append-drop t.p (rest_from t (suc q))) ∙
      ap (λ r. r ++ drop t.p (rest_from t (suc q))) (sym (lines_of_lem t (suc q)) ∙ f.is) in
      let r : Rising (last_tag t q) (f.line ∷ (f.more ++ drop t.p (rest_from t (suc q)))) =
      subst (Rising (last_tag t q)) e (next_rises t a q) in
      rw f.first_is r.0

  -- the row of buckets that hold the tag stops behind q
  pub record Stops (q : ℕ) : Type 0 where
    pub no_lines : lines_from t tag (suc q) ≡ []
    pub no_runs : runs_from t tag (suc q) ≡ 0

  pub stops_over : (q : ℕ) → tag < last_tag t q → Stops q
  stops_over q h =
      record {
        no_lines = lines_over (suc q) (last_tag t q) h (next_rises t a q);
        no_runs = runs_over (suc q) (last_tag t q) h (next_rises t a q);
      }

  pub stops_end : (q : ℕ) → suc q ≡ t.d → Stops q
  stops_end q e = record { no_lines = rw e lines_end; no_runs = rw e runs_end }

  pub stops_break : (q : ℕ) → suc q < t.d → last_tag t q ≡ tag → (first_tag t (suc q) ≡ tag → ⊥) → Stops q
  stops_break q l e n =
      let b : last_tag t q ≤ first_tag t (suc q) = first_from_lem q l in
      let h : tag < first_tag t (suc q) = omega arith in
      record {
        no_lines = lines_over (suc q) (first_tag t (suc q)) h (first_rises (suc q) l);
        no_runs = runs_over (suc q) (first_tag t (suc q)) h (first_rises (suc q) l);
      }
