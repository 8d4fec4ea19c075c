-- What an index bucket tells the listener: which of its pairs and entries is followed, by the places of the tags alone.
-- Assumes nothing.
use mathlib.Core.Path.{◌≡◌, refl, ◌∙◌, ap}
use mathlib.Core.Logic.{◌⊎◌, inl, inr, ⊎_elim}
use Prim.Native.Nat.{ℕ, zero, suc, ◌+◌, ◌-◌, ◌≤◌, ◌<◌}
use mathlib.Core.Bool.{Bool, true, false}
use Rattle.std.specs.Prelude.{Option}
use mathlib.Core.List.{List, map}
use native.Mathlib.Omega.{arith}
use lib.Dec.{leb}
use borrow.Author.Tests.{leb-true, leb-false, lt-leb, le-leb}
use Rattle.columns.specs.Lists.{pick, span, range}
use Rattle.buckets.specs.declared.Pair.{Pair}
use Rattle.buckets.specs.declared.Entry.{Entry}
use Rattle.buckets.specs.Bucket.{index_body}
use Rattle.cycle.specs.Tree.{Plan, last_tag}
use Rattle.cycle.specs.Layouts.{Slot}
use Rattle.cycle.specs.Cycle.{is_data, has_pairs, first_pair, later_pair, pairs, entries, body_of, cycle_size}
use Rattle.cycle.specs.Inner.Held.{last_of, cycle_bucket}
use Rattle.cycle.proofs.Lines.DataTags.{AcceptedPlan}
use Rattle.listener.specs.Listener.{dozes, misses, choice, body_choice, entry_choice, tag_below, later_choice, at_most, index_choice, letter_awaited}
use Rattle.listener.specs.EndPlace.{target}
use Rattle.listener.specs.declared.Phase.{Phase}
use Rattle.listener.specs.declared.Phase.TheVariants.{Index, Either}
use Rattle.listener.proofs.Walks.Target.{before_target, from_target}
use Rattle.listener.proofs.Walks.Walk.{awake}
use Rattle.listener.proofs.Walks.Ways.{Spot, here, sent_to, body_here}
use Rattle.listener.proofs.Walks.DataRun.{choice_awake}

-- ---- entries in a row

-- q is the first place whose entry is at least ours
pub entry_found :
    (tag q : ℕ) (f : ℕ → Entry) (a m : ℕ) → a ≤ q → q < a + m →
    ((c : ℕ) → a ≤ c → c < a + m → leb tag (f c).tag ≡ leb q c) →
    entry_choice tag (map f (span a m)) ≡ dozes (f q).distance Either 0 0
entry_found tag q f a zero low high each = absurd (omega arith)
entry_found tag q f a (suc m) low high each =
    by (leb q a) refl (λ l. entry_found tag q f (suc a) m l (omega arith) (λ c u v. each c (omega arith) (omega arith)))
  where
    by :
        (b : Bool) → leb q a ≡ b → (suc a ≤ q → entry_choice tag (map f (span (suc a) m)) ≡ dozes (f q).distance Either 0 0) →
        pick (leb tag (f a).tag) (dozes (f a).distance Either 0 0) (entry_choice tag (map f (span (suc a) m))) ≡
        dozes (f q).distance Either 0 0
    by true e k =
        let same : a ≡ q = omega (arith, leb-true q a e) in
        rw (each a (omega arith) (omega arith), e) (ap (λ z. dozes (f z).distance Either 0 0) same)
    by false e k =
        rw (each a (omega arith) (omega arith), e) (k (leb-false q a e))

-- no entry is at least ours
pub entry_none :
    (tag : ℕ) (f : ℕ → Entry) (a m : ℕ) → ((c : ℕ) → a ≤ c → c < a + m → leb tag (f c).tag ≡ false) →
    entry_choice tag (map f (span a m)) ≡ misses
entry_none tag f a zero each = refl
entry_none tag f a (suc m) each =
    rw (each a (omega arith) (omega arith)) (entry_none tag f (suc a) m (λ c u v. each c (omega arith) (omega arith)))

-- ---- pairs in a row

-- no pair is below ours
pub later_none :
    (tag : ℕ) (f : ℕ → Pair) (es : List Entry) (a m : ℕ) →
    ((j : ℕ) → a ≤ j → j < a + m → tag_below (f j).tag tag ≡ false) →
    later_choice tag (map f (span a m)) es ≡ entry_choice tag es
later_none tag f es a zero each = refl
later_none tag f es a (suc m) each =
    rw (each a (omega arith) (omega arith)) (later_none tag f es (suc a) m (λ c u v. each c (omega arith) (omega arith)))

-- the first pair below ours
pub record Below (tag : ℕ) (f : ℕ → Pair) (es : List Entry) (a m : ℕ) : Type 0 where
  pub pair : ℕ
  pub low : a ≤ pair
  pub high : pair < a + m
  pub below : tag_below (f pair).tag tag ≡ true
  pub others : (j : ℕ) → a ≤ j → j < pair → tag_below (f j).tag tag ≡ false
  pub chosen : later_choice tag (map f (span a m)) es ≡ dozes (f pair).distance Index 0 0

pub later_first :
    (tag : ℕ) (f : ℕ → Pair) (es : List Entry) (a m : ℕ) →
    Below tag f es a m ⊎ ((j : ℕ) → a ≤ j → j < a + m → tag_below (f j).tag tag ≡ false)
later_first tag f es a zero = inr (λ j u v. absurd (omega arith))
later_first tag f es a (suc m) = by (tag_below (f a).tag tag) refl (later_first tag f es (suc a) m)
  where
    at_or_after :
        (j : ℕ) → a ≤ j → tag_below (f a).tag tag ≡ false → (suc a ≤ j → tag_below (f j).tag tag ≡ false) →
        tag_below (f j).tag tag ≡ false
    at_or_after j u e k =
        ⊎_elim
        (λ (l : suc a ≤ j). k l)
        (λ (l : j < suc a). let z : j ≡ a = omega arith in ap (λ z. tag_below (f z).tag tag) z ∙ e)
        (Rattle.cycle.proofs.Basics.Ranges.le_or_lt (suc a) j)

    by :
        (b : Bool) → tag_below (f a).tag tag ≡ b →
        Below tag f es (suc a) m ⊎ ((j : ℕ) → suc a ≤ j → j < suc a + m → tag_below (f j).tag tag ≡ false) →
        Below tag f es a (suc m) ⊎ ((j : ℕ) → a ≤ j → j < a + suc m → tag_below (f j).tag tag ≡ false)
    by true e o =
        inl
        (record {
          pair = a;
          low = omega arith;
          high = omega arith;
          below = e;
          others = λ j u v. absurd (omega arith);
          chosen = rw e;
        })
    by false e o =
        ⊎_elim
        (λ (r : Below tag f es (suc a) m).
        inl
        (record {
          pair = r.pair;
          low = omega (arith, r.low);
          high = omega (arith, r.high);
          below = r.below;
          others = λ j u v. at_or_after j u e (λ l. r.others j l v);
          chosen = rw e r.chosen;
        }))
        (λ (n : (j : ℕ) → suc a ≤ j → j < suc a + m → tag_below (f j).tag tag ≡ false).
        inr (λ j u v. at_or_after j u e (λ l. n j l (omega arith))))
        o

-- ---- the first pair

-- it is not followed while the target is unsent
pub first_quiet : (t : Plan) (tag sent : ℕ) → sent ≤ target t tag → at_most tag (last_of t sent) ≡ false
first_quiet t tag zero h = refl
first_quiet t tag (suc sent) h = lt-leb tag (last_tag t sent) (before_target t tag sent h)

-- it is once the target is sent
pub first_fires : (t : Plan) → AcceptedPlan t → (tag sent : ℕ) → target t tag < sent → sent ≤ t.d → at_most tag (last_of t sent) ≡ true
first_fires t a tag zero h l = absurd (omega arith)
first_fires t a tag (suc sent) h l = le-leb tag (last_tag t sent) (from_target t a tag sent (omega arith) l)

-- ---- an index bucket of the cycle

-- a phase that takes an index bucket
abbrev pub TakesIndex : Phase → Type 0
TakesIndex ph = (ps : List Pair) (es : List Entry) → letter_awaited ph (index_body ps es) ≡ true

module _ (t : Plan) (to_cycle : ℕ) (last : Option ℕ) (x : Slot) (rest : List Slot) where
  pub body_index :
      is_data t x ≡ false →
      body_of t to_cycle last x rest ≡ index_body (pairs t rest last to_cycle x) (entries t rest x)
  unfolding body_of
  body_index n = rw n

module _ (t : Plan) (rest : List Slot) (last : Option ℕ) (to_cycle : ℕ) (x : Slot) (tag : ℕ) (es : List Entry) where
  pub pairs_plain : has_pairs t x ≡ false → index_choice tag (pairs t rest last to_cycle x) es ≡ entry_choice tag es
  unfolding pairs
  pairs_plain h = rw h

  pub pairs_first :
      has_pairs t x ≡ true → at_most tag last ≡ true →
      index_choice tag (pairs t rest last to_cycle x) es ≡ dozes to_cycle Index 0 0
  unfolding pairs first_pair
  pairs_first h f = rw (h, f)

  pub pairs_later :
      has_pairs t x ≡ true → at_most tag last ≡ false →
      index_choice tag (pairs t rest last to_cycle x) es ≡
      later_choice tag (map (later_pair t rest x) (range 2 (x.level + 1))) es
  unfolding pairs first_pair
  pairs_later h f = rw (h, f)

module _ (t : Plan) (a : AcceptedPlan t) (s : Spot t) (n : is_data t s.slot ≡ false) where
  pub index_body_lem :
      (cycle_bucket t (here s)).body ≡
      index_body (pairs t s.rest (last_of t (sent_to s)) (cycle_size t - here s) s.slot)
      (entries t s.rest s.slot)
  index_body_lem =
      body_here t a.keeps s ∙ body_index t (cycle_size t - here s) (last_of t (sent_to s)) s.slot s.rest n

  pub index_heard : (ph : Phase) → TakesIndex ph → letter_awaited ph (cycle_bucket t (here s)).body ≡ true
  index_heard ph h =
      rw index_body_lem
      (h (pairs t s.rest (last_of t (sent_to s)) (cycle_size t - here s) s.slot)
      (entries t s.rest s.slot))

  pub index_choice_lem :
      (ph : Phase) (tag : ℕ) → awake ph ≡ true →
      choice ph tag (cycle_bucket t (here s)) ≡
      index_choice tag (pairs t s.rest (last_of t (sent_to s)) (cycle_size t - here s) s.slot)
      (entries t s.rest s.slot)
  index_choice_lem ph tag w = choice_awake ph tag (cycle_bucket t (here s)) w ∙ ap (body_choice tag) index_body_lem

  -- the first pair stays quiet, and no later one is below our tag: an entry is followed, if any
  pub entry_choice_lem :
      (ph : Phase) (tag : ℕ) → awake ph ≡ true → sent_to s ≤ target t tag →
      ((j : ℕ) → has_pairs t s.slot ≡ true → 2 ≤ j → j ≤ s.slot.level →
      tag_below (later_pair t s.rest s.slot j).tag tag ≡ false) →
      choice ph tag (cycle_bucket t (here s)) ≡ entry_choice tag (entries t s.rest s.slot)
  entry_choice_lem ph tag w unsent each = index_choice_lem ph tag w ∙ by (has_pairs t s.slot) refl
    where
      es : List Entry
      es = entries t s.rest s.slot

      by :
          (b : Bool) → has_pairs t s.slot ≡ b →
          index_choice tag (pairs t s.rest (last_of t (sent_to s)) (cycle_size t - here s) s.slot) es ≡ entry_choice tag es
      by false e = pairs_plain t s.rest (last_of t (sent_to s)) (cycle_size t - here s) s.slot tag es e
      by true e =
          pairs_later t s.rest (last_of t (sent_to s)) (cycle_size t - here s) s.slot tag es e
          (first_quiet t tag (sent_to s) unsent) ∙
          later_none tag (later_pair t s.rest s.slot) es 2 (s.slot.level + 1 - 2)
          (λ j u v. each j e u (omega arith))
