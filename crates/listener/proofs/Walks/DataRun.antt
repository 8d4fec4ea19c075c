-- From a data bucket that holds the tag: the follow-ons lead through the row of buckets that hold it, and every line of the
-- tag from there on is handed over.
-- Assumes nothing.
use mathlib.Core.Path.{◌≡◌, refl, sym, ◌∙◌, ap, subst}
use mathlib.Core.Logic.{⊎_elim}
use Prim.Native.Nat.{ℕ, zero, suc, ◌+◌, ◌-◌, ◌<◌}
use mathlib.Core.Bool.{Bool, true, false, ◌&&◌, ◌||◌, not, true≢false, false≢true}
use Rattle.std.specs.Prelude.{Option}
use mathlib.Core.List.{List, [], ◌∷◌, ◌++◌, append-nil}
use native.Mathlib.Omega.{arith}
use lib.Dec.{eqb}
use lib.ListN.{length}
use borrow.Author.Tests.{eqb-true, eqb-false, eq-eqb, ne_eqb}
use Rattle.columns.specs.Lists.{pick, any}
use Rattle.buckets.specs.declared.Line.{Line}
use Rattle.buckets.specs.Bucket.{Bucket, data_body}
use Rattle.cycle.specs.Tree.{Plan, lines_of, first_tag, last_tag}
use Rattle.cycle.specs.Layouts.{Slot}
use Rattle.cycle.specs.Cycle.{is_data, follow_on_from, body_of, cycle_size}
use Rattle.cycle.specs.Inner.Held.{last_of, cycle_bucket}
use Rattle.cycle.proofs.Sequences.Sequence.{data_count}
use Rattle.cycle.proofs.Lines.DataTags.{AcceptedPlan, Filled, filled, lines_rise, last_tag_lem}
use Rattle.cycle.proofs.Sequences.Pieces.{count_append}
use Rattle.cycle.proofs.Reach.Distances.{First, first_or_none}
use Rattle.cycle.proofs.Sequences.Suffixes.{data_occurs}
use Rattle.cycle.proofs.Reach.NextOccurrence.{first_hit}
use Rattle.cycle.proofs.Sequences.DataOnce.{none_before, follow_none, follow_hit}
use Rattle.listener.specs.Listener.{dozes, finds, misses, choice, body_choice, data_choice, last_is, matching, before, letter_awaited}
use Rattle.listener.specs.Hearing.{found}
use Rattle.listener.specs.EndPlace.{position}
use Rattle.listener.specs.declared.Phase.{Phase}
use Rattle.listener.specs.declared.Phase.TheVariants.{TuneIn, Index, Either, Data, Ended}
use Rattle.listener.proofs.Walks.DataLines.{lines_from, runs_from, lines_next, runs_hold, last_from_lem, holds_first, Stops, stops_over, stops_end, stops_break}
use Rattle.listener.proofs.Walks.Places.{count_data}
use Rattle.listener.proofs.Walks.Walk.{awake, lines_at}
use Rattle.listener.proofs.Walks.Ways.{Spot, here, sent_to, Carries, WalkOn, finds_at, further, further_sent, hop_within, walk_as, body_here}
use Rattle.listener.proofs.Walks.TagRuns.{holds, matching_none, matching_some, matching_run}

pub choice_awake : (ph : Phase) (tag : ℕ) (b : Bucket) → awake ph ≡ true → choice ph tag b ≡ body_choice tag b.body
choice_awake TuneIn tag b w = absurd (false≢true w)
choice_awake Index tag b w = refl
choice_awake Either tag b w = refl
choice_awake Data tag b w = refl
choice_awake Ended tag b w = absurd (false≢true w)

-- ---- what a data bucket tells

pub some_length : {A : Type 0} (ls : List A) → (ls ≡ [] → ⊥) → eqb (length ls) 0 ≡ false
some_length [] h = absurd (h refl)
some_length (l ∷ ls) h = ne_eqb (suc (length ls)) 0 (λ e. omega arith)

module _ (tag f : ℕ) (ls : List Line) where
  pub data_misses : holds tag ls ≡ false → data_choice tag f ls ≡ misses
  unfolding data_choice
  data_misses h = rw (matching_none tag ls h)

  pub data_finds :
      holds tag ls ≡ true → (last_is tag ls && not (eqb f 0)) ≡ false →
      data_choice tag f ls ≡ finds (before tag ls) (length (matching tag ls))
  unfolding data_choice
  data_finds h n = rw (some_length (matching tag ls) (matching_some tag ls h), n)

  pub data_follows :
      holds tag ls ≡ true → last_is tag ls ≡ true → (f ≡ 0 → ⊥) →
      data_choice tag f ls ≡ dozes f Data (before tag ls) (length (matching tag ls))
  unfolding data_choice
  data_follows h l n = rw (some_length (matching tag ls) (matching_some tag ls h), l, ne_eqb f 0 n)

pub count_none : (t : Plan) (xs : List Slot) → any (is_data t) xs ≡ false → data_count t xs ≡ 0
count_none t [] n = refl
count_none t (x ∷ xs) n = by (is_data t x) n (count_none t xs)
  where
    by :
        (b : Bool) → (b || any (is_data t) xs) ≡ false → (any (is_data t) xs ≡ false → data_count t xs ≡ 0) →
        pick b 1 0 + data_count t xs ≡ 0
    by true n k = absurd (true≢false n)
    by false n k = omega (arith, k n)

-- ---- a data bucket of the cycle

-- a phase that takes a data bucket
abbrev pub TakesData : Phase → Type 0
TakesData ph = (f : ℕ) (ls : List Line) → letter_awaited ph (data_body f ls) ≡ true

-- the data buckets go out in order
pub place_sent : (t : Plan) → AcceptedPlan t → (s : Spot t) → is_data t s.slot ≡ true → s.slot.place ≡ sent_to s
unfolding sent_to
place_sent t a s d = a.keeps.in_order s.before s.slot s.rest s.splits d

-- and all of them
pub all_sent : (t : Plan) → AcceptedPlan t → (s : Spot t) → is_data t s.slot ≡ true → sent_to s + suc (data_count t s.rest) ≡ t.d
unfolding sent_to
all_sent t a s d =
    ap (λ z. data_count t s.before + z) (sym (count_data t s.slot s.rest d)) ∙
    (sym (count_append t s.before (s.slot ∷ s.rest)) ∙ (ap (data_count t) (sym s.splits) ∙ a.keeps.all_sent))

pub body_data :
    (t : Plan) (to_cycle : ℕ) (last : Option ℕ) (x : Slot) (rest : List Slot) → is_data t x ≡ true →
    body_of t to_cycle last x rest ≡ data_body (follow_on_from t (last_tag t x.place) 1 rest) (lines_of t x.place)
unfolding body_of
body_data t to_cycle last x rest d = rw d

module _ (t : Plan) (a : AcceptedPlan t) (s : Spot t) (d : is_data t s.slot ≡ true) where
  pub data_place : s.slot.place ≡ sent_to s
  data_place = place_sent t a s d

  pub data_position : position t (sent_to s) ≡ here s
  unfolding position sent_to here
  data_position =
      first_hit t (t.k + 1) (sent_to s) s.before s.slot s.rest s.splits
      (none_before t a.keeps s.before (s.slot ∷ s.rest) s.splits (sent_to s) (omega arith))
      (data_occurs t s.slot (sent_to s) d data_place)

  pub data_all : sent_to s + suc (data_count t s.rest) ≡ t.d
  data_all = all_sent t a s d

  pub data_body_lem :
      (cycle_bucket t (here s)).body ≡ data_body (follow_on_from t (last_tag t (sent_to s)) 1 s.rest) (lines_of t (sent_to s))
  data_body_lem =
      body_here t a.keeps s ∙
      (body_data t (cycle_size t - here s) (last_of t (sent_to s)) s.slot s.rest d ∙
      ap (λ q. data_body (follow_on_from t (last_tag t q) 1 s.rest) (lines_of t q)) data_place)

  pub data_heard : (ph : Phase) → TakesData ph → letter_awaited ph (cycle_bucket t (here s)).body ≡ true
  data_heard ph h = rw data_body_lem (h (follow_on_from t (last_tag t (sent_to s)) 1 s.rest) (lines_of t (sent_to s)))

  pub data_choice_lem :
      (ph : Phase) (tag : ℕ) → awake ph ≡ true →
      choice ph tag (cycle_bucket t (here s)) ≡
      data_choice tag (follow_on_from t (last_tag t (sent_to s)) 1 s.rest) (lines_of t (sent_to s))
  data_choice_lem ph tag w = choice_awake ph tag (cycle_bucket t (here s)) w ∙ ap (body_choice tag) data_body_lem

  pub data_lines :
      (tag : ℕ) →
      lines_at (cycle_bucket t (here s)) (before tag (lines_of t (sent_to s))) (length (matching tag (lines_of t (sent_to s)))) ≡
      matching tag (lines_of t (sent_to s))
  unfolding lines_at
  data_lines tag = rw data_body_lem (matching_run tag 0 (lines_of t (sent_to s)) (lines_rise t a (sent_to s)))

  -- "the last line is ours"
  pub data_last : (tag : ℕ) → last_is tag (lines_of t (sent_to s)) ≡ eqb (last_tag t (sent_to s)) tag
  data_last tag =
      let f : Filled t (sent_to s) = filled t a (sent_to s) (omega (arith, data_all)) in
      rw (last_tag_lem t (sent_to s), f.is)

  -- the next data bucket, if there is one
  pub next_data_lem : (f : First (is_data t) s.rest) → sent_to (further s f.skipped f.hit f.behind f.splits) ≡ suc (sent_to s)
  next_data_lem f =
      further_sent s f.skipped f.hit f.behind f.splits ∙
      (ap (λ z. sent_to s + z) (count_data t s.slot f.skipped d) ∙ omega (arith, count_none t f.skipped f.fresh))

  pub hit_place : (f : First (is_data t) s.rest) → f.hit.place ≡ suc (sent_to s)
  unfolding further
  hit_place f = place_sent t a (further s f.skipped f.hit f.behind f.splits) f.is ∙ next_data_lem f

  pub next_below : First (is_data t) s.rest → suc (sent_to s) < t.d
  unfolding further
  next_below f =
      omega (arith, next_data_lem f, all_sent t a (further s f.skipped f.hit f.behind f.splits) f.is)

pub hit_data :
    {t : Plan} (s : Spot t) (f : First (is_data t) s.rest) →
    is_data t (further s f.skipped f.hit f.behind f.splits).slot ≡ true
unfolding further
hit_data s f = f.is

-- a walk from data bucket q, at place x, to the last bucket of the row that holds the tag
abbrev pub RowFrom : {last : ℕ} {bk : ℕ → Bucket} (t : Plan) → ℕ → Carries last bk t → ℕ → Phase → ℕ → Type 0
RowFrom t tag c x ph q =
    WalkOn t tag c x ph (runs_from t tag q) found (c.base + position t (q + runs_from t tag q - 1)) (lines_from t tag q)

module _ (t : Plan) (a : AcceptedPlan t) (tag : ℕ) {end : ℕ} {bk : ℕ → Bucket} (c : Carries end bk t) where
  -- the row stops here
  pub finds_last :
      (s : Spot t) → is_data t s.slot ≡ true → (ph : Phase) → awake ph ≡ true → TakesData ph →
      holds tag (lines_of t (sent_to s)) ≡ true →
      (last_is tag (lines_of t (sent_to s)) && not (eqb (follow_on_from t (last_tag t (sent_to s)) 1 s.rest) 0)) ≡ false →
      Stops t a tag (sent_to s) →
      RowFrom t tag c (here s) ph (sent_to s)
  finds_last s d ph w takes h n stops =
      let q : ℕ = sent_to s in
      let below : q < t.d = omega (arith, data_all t a s d) in
      let last : q + runs_from t tag q - 1 ≡ q = omega (arith, runs_hold t tag q below h, stops.no_runs) in
      walk_as
      (sym (runs_hold t tag q below h ∙ ap suc stops.no_runs))
      (ap (λ z. c.base + z) (sym (ap (position t) last ∙ data_position t a s d)))
      (data_lines t a s d tag ∙
      sym (lines_next t tag q ∙ (ap (λ z. matching tag (lines_of t q) ++ z) stops.no_lines ∙ append-nil (matching tag (lines_of t q)))))
      (finds_at c s tag (before tag (lines_of t q)) (length (matching tag (lines_of t q)))
      (data_heard t a s d ph takes)
      (data_choice_lem t a s d ph tag w ∙ data_finds tag (follow_on_from t (last_tag t q) 1 s.rest) (lines_of t q) h n))

  -- the row goes on
  pub follows_on :
      (s : Spot t) (d : is_data t s.slot ≡ true) (f : First (is_data t) s.rest) (ph : Phase) → awake ph ≡ true → TakesData ph →
      holds tag (lines_of t (sent_to s)) ≡ true → last_tag t (sent_to s) ≡ tag → first_tag t (suc (sent_to s)) ≡ tag →
      RowFrom t tag c (here (further s f.skipped f.hit f.behind f.splits)) Data (suc (sent_to s)) →
      RowFrom t tag c (here s) ph (sent_to s)
  follows_on s d f ph w takes h last first more =
      let q : ℕ = sent_to s in
      let below : q < t.d = omega (arith, data_all t a s d) in
      let n : Spot t = further s f.skipped f.hit f.behind f.splits in
      let place : f.hit.place ≡ suc q = hit_place t a s d f in
      let follow : follow_on_from t (last_tag t q) 1 s.rest ≡ suc (length f.skipped) =
      ap (follow_on_from t (last_tag t q) 1) f.splits ∙
      (follow_hit t (last_tag t q) 1 f.skipped f.hit f.behind f.fresh f.is ∙
      rw (place, eq-eqb (first_tag t (suc q)) (last_tag t q) (first ∙ sym last)) (omega arith)) in
      let same_end : suc q + runs_from t tag (suc q) - 1 ≡ q + runs_from t tag q - 1 = omega (arith, runs_hold t tag q below h) in
      walk_as
      (sym (runs_hold t tag q below h))
      (ap (λ z. c.base + position t z) same_end)
      (ap (λ z. z ++ lines_from t tag (suc q)) (data_lines t a s d tag) ∙ sym (lines_next t tag q))
      (hop_within s f.skipped f.hit f.behind f.splits tag c (before tag (lines_of t q)) (length (matching tag (lines_of t q)))
      (data_heard t a s d ph takes)
      (data_choice_lem t a s d ph tag w ∙
      (data_follows tag (follow_on_from t (last_tag t q) 1 s.rest) (lines_of t q) h
      (data_last t a s d tag ∙ eq-eqb (last_tag t q) tag last) (λ z. omega arith) ∙
      ap (λ z. dozes z Data (before tag (lines_of t q)) (length (matching tag (lines_of t q)))) follow))
      refl
      more)

  -- the row stops here or goes on
  pub data_step_lem :
      (s : Spot t) → is_data t s.slot ≡ true → (ph : Phase) → awake ph ≡ true → TakesData ph →
      holds tag (lines_of t (sent_to s)) ≡ true →
      ((f : First (is_data t) s.rest) → holds tag (lines_of t (suc (sent_to s))) ≡ true →
      RowFrom t tag c (here (further s f.skipped f.hit f.behind f.splits)) Data (suc (sent_to s))) →
      RowFrom t tag c (here s) ph (sent_to s)
  data_step_lem s d ph w takes h go = by (eqb (last_tag t q) tag) refl
    where
      q : ℕ
      q = sent_to s

      follow : ℕ
      follow = follow_on_from t (last_tag t q) 1 s.rest

      ends : follow ≡ 0 → eqb (last_tag t q) tag ≡ true → (last_is tag (lines_of t q) && not (eqb follow 0)) ≡ false
      ends f l = rw (data_last t a s d tag, l, f)

      starts : (f : First (is_data t) s.rest) → last_tag t q ≡ tag → (o : Bool) → eqb (first_tag t (suc q)) tag ≡ o →
          RowFrom t tag c (here s) ph q
      starts f l true e =
          let first : first_tag t (suc q) ≡ tag = eqb-true (first_tag t (suc q)) tag e in
          let below : suc q < t.d = next_below t a s d f in
          follows_on s d f ph w takes h l first (go f (holds_first t a tag (suc q) below first))
      starts f l false e =
          let other : first_tag t (suc q) ≡ tag → ⊥ = eqb-false (first_tag t (suc q)) tag e in
          let none_follows : follow ≡ 0 =
          ap (follow_on_from t (last_tag t q) 1) f.splits ∙
          (follow_hit t (last_tag t q) 1 f.skipped f.hit f.behind f.fresh f.is ∙
          rw (hit_place t a s d f, ne_eqb (first_tag t (suc q)) (last_tag t q) (λ z. other (z ∙ l)))) in
          finds_last s d ph w takes h (ends none_follows (eq-eqb (last_tag t q) tag l))
          (stops_break t a tag q (next_below t a s d f) l other)

      by : (o : Bool) → eqb (last_tag t q) tag ≡ o → RowFrom t tag c (here s) ph q
      by false e =
          let other : last_tag t q ≡ tag → ⊥ = eqb-false (last_tag t q) tag e in
          finds_last s d ph w takes h (rw (data_last t a s d tag, e))
          (stops_over t a tag q (omega (arith, last_from_lem t a tag q h, other)))
      by true e =
          ⊎_elim
          (λ (f : First (is_data t) s.rest).
          starts f (eqb-true (last_tag t q) tag e) (eqb (first_tag t (suc q)) tag) refl)
          (λ (n : any (is_data t) s.rest ≡ false).
          finds_last s d ph w takes h (ends (follow_none t (last_tag t q) 1 s.rest n) e)
          (stops_end t a tag q (omega (arith, data_all t a s d, count_none t s.rest n))))
          (first_or_none (is_data t) s.rest)

  -- from a bucket that holds the tag
  pub data_run :
      (more : ℕ) (s : Spot t) → is_data t s.slot ≡ true → sent_to s + suc more ≡ t.d → (ph : Phase) → awake ph ≡ true →
      TakesData ph → holds tag (lines_of t (sent_to s)) ≡ true →
      RowFrom t tag c (here s) ph (sent_to s)
  data_run zero s d e ph w takes h =
      data_step_lem s d ph w takes h (λ f g. absurd (omega (arith, next_below t a s d f)))
  data_run (suc more) s d e ph w takes h =
      data_step_lem s d ph w takes h
      (λ f g.
      let n : Spot t = further s f.skipped f.hit f.behind f.splits in
      let m : sent_to n ≡ suc (sent_to s) = next_data_lem t a s d f in
      subst (RowFrom t tag c (here n) Data) m
      (data_run more n (hit_data s f) (omega arith) Data refl (λ f ls. refl) (rw m g)))
