-- The data buckets that hold a tag of the list: the target is the first of them, and the last one heard is the last.
-- Assumes nothing.
use mathlib.Core.Path.{◌≡◌, refl, sym, ◌∙◌}
use mathlib.Core.Logic.{◌⊎◌, inl, inr, ⊎_elim}
use Prim.Native.Nat.{ℕ, zero, suc, ◌+◌, ◌-◌, ◌≤◌, ◌<◌}
use mathlib.Core.Bool.{Bool, true, false}
use mathlib.Core.List.{List, []}
use native.Mathlib.Omega.{arith}
use lib.Dec.{eqb}
use borrow.Author.Tests.{eqb-true, eqb-false}
use Rattle.columns.specs.Lists.{pick}
use Rattle.buckets.specs.declared.Line.{Line}
use Rattle.cycle.specs.Tree.{Plan, lines_of, first_tag, last_tag}
use Rattle.cycle.specs.Waits.{tag_among, first_with, last_with}
use Rattle.cycle.proofs.Basics.Ranges.{le_or_lt}
use Rattle.cycle.proofs.Basics.Least.{least_is}
use Rattle.cycle.proofs.Basics.Lasts.{Last, last_found}
use Rattle.cycle.proofs.Lines.DataTags.{AcceptedPlan}
use Rattle.listener.specs.EndPlace.{target, last_heard}
use Rattle.listener.proofs.Walks.Target.{target_le}
use Rattle.listener.proofs.Walks.TagRuns.{holds, matching_some}
use Rattle.listener.proofs.Walks.DataLines.{runs_from, runs_next, runs_hold, none_before, last_from_lem, holds_first, Stops, stops_over, stops_end, stops_break}
use Rattle.listener.proofs.Walks.Arrival.{wanted, runs_from_lem, heard_last, wanted_over, lacks}

-- ---- the buckets that hold a tag

held_among : (tag : ℕ) (ls : List Line) → holds tag ls ≡ tag_among tag ls
unfolding holds tag_among
held_among tag ls = refl

-- z is the last data bucket that holds the tag
abbrev LastHolding : Plan → ℕ → ℕ → Type 0
LastHolding t tag z = Last (λ q. holds tag (lines_of t q)) t.d z

none_counted : (o : Bool) (r : ℕ) → pick o 1 0 + r ≡ 0 → (o ≡ false) × (r ≡ 0)
none_counted true r e = absurd (omega arith)
none_counted false r e = (refl, omega arith)

-- where no bucket from q on is counted, none holds the tag
uncounted : (t : Plan) (tag c q : ℕ) → runs_from t tag q ≡ 0 → q + c < t.d → holds tag (lines_of t (q + c)) ≡ false
uncounted t tag zero q n l =
    let e : q + 0 ≡ q = omega arith in
    rw e (none_counted (holds tag (lines_of t q)) (runs_from t tag (suc q)) (sym (runs_next t tag q (omega arith)) ∙ n)).0
uncounted t tag (suc c) q n l =
    let e : q + suc c ≡ suc q + c = omega arith in
    rw e
    (uncounted t tag c (suc q)
    (none_counted (holds tag (lines_of t q)) (runs_from t tag (suc q)) (sym (runs_next t tag q (omega arith)) ∙ n)).1
    (omega arith))

module _ (t : Plan) (a : AcceptedPlan t) (tag : ℕ) where
  -- behind a bucket that holds the tag the next one does, or the row stops
  row_next :
      (q : ℕ) → q < t.d → holds tag (lines_of t q) ≡ true →
      ((suc q < t.d) × (holds tag (lines_of t (suc q)) ≡ true)) ⊎ Stops t a tag q
  row_next q l h = by (eqb (last_tag t q) tag) refl
    where
      starts :
          suc q < t.d → last_tag t q ≡ tag → (o : Bool) → eqb (first_tag t (suc q)) tag ≡ o →
          ((suc q < t.d) × (holds tag (lines_of t (suc q)) ≡ true)) ⊎ Stops t a tag q
      starts g e true f = inl (g, holds_first t a tag (suc q) g (eqb-true (first_tag t (suc q)) tag f))
      starts g e false f = inr (stops_break t a tag q g e (eqb-false (first_tag t (suc q)) tag f))

      by :
          (o : Bool) → eqb (last_tag t q) tag ≡ o →
          ((suc q < t.d) × (holds tag (lines_of t (suc q)) ≡ true)) ⊎ Stops t a tag q
      by false e =
          let other : last_tag t q ≡ tag → ⊥ = eqb-false (last_tag t q) tag e in
          inr (stops_over t a tag q (omega (arith, last_from_lem t a tag q h, other)))
      by true e =
          ⊎_elim
          (λ (g : t.d ≤ suc q). inr (stops_end t a tag q (omega arith)))
          (λ (g : suc q < t.d). starts g (eqb-true (last_tag t q) tag e) (eqb (first_tag t (suc q)) tag) refl)
          (le_or_lt t.d (suc q))

  row_stops : (q : ℕ) → q < t.d → holds tag (lines_of t q) ≡ true → Stops t a tag q → LastHolding t tag (q + runs_from t tag q - 1)
  row_stops q l h s =
      let e : q + runs_from t tag q - 1 ≡ q = omega (arith, runs_hold t tag q l h, s.no_runs) in
      rw e
      (record {
        below = l;
        passes = h;
        none_behind = λ x u v.
            let f : suc q + (x - suc q) ≡ x = omega arith in
            let n : holds tag (lines_of t (suc q + (x - suc q))) ≡ false = uncounted t tag (x - suc q) (suc q) s.no_runs (omega arith) in
            rw f at n;
      })

  -- from a bucket that holds the tag, the counted ones are a row up to the last that holds it
  row_last :
      (more q : ℕ) → q + suc more ≡ t.d → holds tag (lines_of t q) ≡ true → LastHolding t tag (q + runs_from t tag q - 1)
  row_last zero q e h = row_stops q (omega arith) h (stops_end t a tag q (omega arith))
  row_last (suc more) q e h =
      ⊎_elim
      (λ (n : (suc q < t.d) × (holds tag (lines_of t (suc q)) ≡ true)).
      let same : q + runs_from t tag q - 1 ≡ suc q + runs_from t tag (suc q) - 1 = omega (arith, runs_hold t tag q (omega arith) h) in
      rw same (row_last more (suc q) (omega arith) n.1))
      (λ (s : Stops t a tag q). row_stops q (omega arith) h s)
      (row_next q (omega arith) h)

-- ---- a tag of the list

module _ (t : Plan) (a : AcceptedPlan t) (tag : ℕ) (listed : tag_among tag t.lines ≡ true) where
  wanted_some : wanted t tag ≡ [] → ⊥
  unfolding wanted
  wanted_some e = matching_some tag t.lines (held_among tag t.lines ∙ listed) e

  pub listed_target : target t tag < t.d
  listed_target =
      ⊎_elim
      (λ (g : t.d ≤ target t tag). absurd (wanted_some (wanted_over t a tag (omega (arith, g, target_le t tag)))))
      (λ (g : target t tag < t.d). g)
      (le_or_lt t.d (target t tag))

  target_holds : holds tag (lines_of t (target t tag)) ≡ true
  target_holds = by (holds tag (lines_of t (target t tag))) refl
    where
      by : (o : Bool) → holds tag (lines_of t (target t tag)) ≡ o → o ≡ true
      by true h = refl
      by false h = absurd (wanted_some (lacks t a tag listed_target h).no_lines)

  pub first_heard : target t tag ≡ first_with t tag
  unfolding first_with tag_among holds
  first_heard =
      sym
      (least_is t.d 0 (λ q. tag_among tag (lines_of t q)) (target t tag) (omega arith) (omega (arith, listed_target)) target_holds
      (λ x u v. none_before t a tag x v))

  heard_holding : LastHolding t tag (last_heard t tag)
  heard_holding =
      let q : ℕ = target t tag in
      let e : last_heard t tag ≡ q + runs_from t tag q - 1 =
      omega (arith, heard_last t a tag, runs_from_lem t a tag, runs_hold t tag q listed_target target_holds) in
      rw e (row_last t a tag (t.d - suc q) q (omega (arith, listed_target)) target_holds)

  pub last_heard_lem : last_heard t tag ≡ last_with t tag
  unfolding last_with tag_among holds
  last_heard_lem =
      let e : t.d - 0 ≡ t.d = omega arith in
      rw e
      (sym
      (last_found (λ q. tag_among tag (lines_of t q)) t.d 0 0 (last_heard t tag) (omega arith) (omega (arith, heard_holding.below))
      heard_holding.passes
      (λ x u v. heard_holding.none_behind x u (omega arith))))
