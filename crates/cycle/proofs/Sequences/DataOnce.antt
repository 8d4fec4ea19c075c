-- Each data bucket is sent once in a cycle, in order: where it stands by the number of those sent before.
-- Assumes nothing.
use mathlib.Core.Path.{◌≡◌, refl, sym, ap, ap₂, ◌∙◌}
use mathlib.Core.Logic.{inl, inr, ⊎_elim}
use Prim.Native.Nat.{ℕ, zero, suc, ◌+◌, ◌-◌, ◌≤◌, ◌<◌}
use native.Mathlib.Nat.{add-zero, add-suc, suc-add}
use native.Mathlib.Omega.{arith}
use mathlib.Core.Bool.{Bool, true, false, true≢false}
use mathlib.Core.List.{List, [], ◌∷◌, ◌++◌, append_assoc}
use lib.Dec.{eqb}
use lib.ListN.{length, length-append}
use borrow.Author.Tests.{eqb-true}
use Rattle.columns.specs.Lists.{pick, any}
use Rattle.cycle.specs.Tree.{Plan, first_tag, last_tag}
use Rattle.cycle.specs.Layouts.{Slot, slots}
use Rattle.cycle.specs.Cycle.{occurs, to_next, is_data, follow_on_from}
use Rattle.cycle.specs.Cycle.{first_place}
use Rattle.cycle.specs.Inner.Held.{ahead_of}
use Rattle.cycle.proofs.Basics.Ranges.{le_or_lt}
use Rattle.cycle.proofs.Sequences.Sequence.{data_count, Keeps}
use Rattle.cycle.proofs.Sequences.Suffixes.{data_occurs}
use Rattle.cycle.proofs.Sequences.Pieces.{data_level, count_append}
use Rattle.cycle.proofs.Segmenting.Positions.{At}
use Rattle.cycle.proofs.Reach.Distances.{some_hit, none_found}
use Rattle.cycle.proofs.Reach.NextOccurrence.{first_hit, next_ahead, sent_yet, to_send, at_parts, length_sent_yet}

pub occurs_data : (t : Plan) (q : ℕ) (y : Slot) → occurs (t.k + 1) q y ≡ true → (is_data t y ≡ true) × (y.place ≡ q)
unfolding occurs is_data
occurs_data t q y h = by_test (eqb y.level (t.k + 1)) refl
  where
    by_test : (b : Bool) → eqb y.level (t.k + 1) ≡ b → (eqb y.level (t.k + 1) ≡ true) × (y.place ≡ q)
    by_test true e = (e, eqb-true y.place q (rw e at h))
    by_test false e = absurd (true≢false (sym (rw e at h)))

-- the data bucket behind q others
pub record Counted (t : Plan) (q : ℕ) (xs : List Slot) : Type 0 where
  pub skipped : List Slot
  pub hit : Slot
  pub behind : List Slot
  pub splits : xs ≡ skipped ++ (hit ∷ behind)
  pub passes : is_data t hit ≡ true
  pub count : data_count t skipped ≡ q

counted_behind :
    {t : Plan} {p q : ℕ} {xs : List Slot} (x : Slot) → pick (is_data t x) 1 0 + p ≡ q → Counted t p xs → Counted t q (x ∷ xs)
counted_behind {t} x e g =
    record {
      skipped = x ∷ g.skipped;
      hit = g.hit;
      behind = g.behind;
      splits = ap (λ ys. x ∷ ys) g.splits;
      passes = g.passes;
      count = ap (λ z. pick (is_data t x) 1 0 + z) g.count ∙ e;
    }

pub counted : (t : Plan) (q : ℕ) (xs : List Slot) → q < data_count t xs → Counted t q xs
counted t q [] h = absurd (omega arith)
counted t q (x ∷ xs) h = by_test (is_data t x) refl (λ p. counted t p xs) q h
  where
    by_test :
        (b : Bool) → is_data t x ≡ b → ((p : ℕ) → p < data_count t xs → Counted t p xs) → (q : ℕ) →
        q < pick (is_data t x) 1 0 + data_count t xs → Counted t q (x ∷ xs)
    by_test true e r zero l = record { skipped = []; hit = x; behind = xs; splits = refl; passes = e; count = refl }
    by_test true e r (suc p) l =
        let one : pick {A = ℕ} (is_data t x) 1 0 ≡ 1 = rw e in counted_behind x (omega arith) (r p (omega arith))
    by_test false e r q l =
        let none : pick {A = ℕ} (is_data t x) 1 0 ≡ 0 = rw e in counted_behind x (omega arith) (r q (omega arith))

pub quiet_none : (t : Plan) (xs : List Slot) → data_count t xs ≡ 0 → any (is_data t) xs ≡ false
quiet_none t xs h =
    none_found (is_data t) xs
    (λ g.
    let e : data_count t xs ≡ data_count t g.skipped + (pick (is_data t g.hit) 1 0 + data_count t g.behind) =
    ap (data_count t) g.splits ∙ count_append t g.skipped (g.hit ∷ g.behind) in
    let e' : data_count t xs ≡ data_count t g.skipped + (1 + data_count t g.behind) = rw g.is at e in
    absurd (omega arith))

module _ (t : Plan) (keeps : Keeps t) where
  -- the data bucket behind these
  pub data_place :
      (pre : List Slot) (y : Slot) (post : List Slot) (q : ℕ) → slots t ≡ pre ++ (y ∷ post) → occurs (t.k + 1) q y ≡ true →
      (q ≡ data_count t pre) × (data_count t (y ∷ post) ≡ 1 + data_count t post)
  data_place pre y post q e h =
      let o = occurs_data t q y h in
      (sym o.1 ∙ keeps.in_order pre y post e o.0, rw o.0)

  pub data_sent : (q : ℕ) → q < t.d → any (occurs (t.k + 1) q) (slots t) ≡ true
  data_sent q h =
      let g = counted t q (slots t) (rw keeps.all_sent h) in
      let p : g.hit.place ≡ q = keeps.in_order g.skipped g.hit g.behind g.splits g.passes ∙ g.count in
      rw g.splits
      (some_hit (occurs (t.k + 1) q) g.skipped g.hit g.behind (data_occurs t g.hit q g.passes p))

  module _ (pre post : List Slot) (e : slots t ≡ pre ++ post) (q : ℕ) where
    pub none_before : data_count t pre ≤ q → any (occurs (t.k + 1) q) pre ≡ false
    none_before h =
        none_found (occurs (t.k + 1) q) pre
        (λ g.
        let s : slots t ≡ g.skipped ++ (g.hit ∷ (g.behind ++ post)) =
        e ∙ ap (λ ys. ys ++ post) g.splits ∙ append_assoc g.skipped (g.hit ∷ g.behind) post in
        let o = data_place g.skipped g.hit (g.behind ++ post) q s g.is in
        let d = occurs_data t q g.hit g.is in
        let c : data_count t pre ≡ data_count t g.skipped + (pick (is_data t g.hit) 1 0 + data_count t g.behind) =
        ap (data_count t) g.splits ∙ count_append t g.skipped (g.hit ∷ g.behind) in
        let c' : data_count t pre ≡ data_count t g.skipped + (1 + data_count t g.behind) = rw d.0 at c in
        omega (arith, o.0))

    pub none_behind : q < data_count t pre → any (occurs (t.k + 1) q) post ≡ false
    none_behind h =
        none_found (occurs (t.k + 1) q) post
        (λ g.
        let s : slots t ≡ (pre ++ g.skipped) ++ (g.hit ∷ g.behind) =
        e ∙ ap (λ ys. pre ++ ys) g.splits ∙ sym (append_assoc pre g.skipped (g.hit ∷ g.behind)) in
        let o = data_place (pre ++ g.skipped) g.hit g.behind q s g.is in
        omega (arith, o.0, count_append t pre g.skipped))

  -- the distance to a data bucket from anywhere
  pub next_data_lem :
      {x i j : ℕ} {xs : List Slot} (a : At t x i j xs) (q : ℕ) → q < t.d →
      to_next (to_send a) (t.k + 1) q ≡ ahead_of (length (slots t)) x (first_place t (t.k + 1) q)
  next_data_lem a q h =
      next_ahead a (t.k + 1) q (data_sent q h)
      (⊎_elim
      (λ (l : data_count t (sent_yet a) ≤ q). inl (none_before (sent_yet a) (to_send a) (at_parts a) q l))
      (λ (l : q < data_count t (sent_yet a)). inr (none_behind (sent_yet a) (to_send a) (at_parts a) q l))
      (le_or_lt (data_count t (sent_yet a)) q))

-- ---- follow-ons

pub follow_none : (t : Plan) (last d : ℕ) (xs : List Slot) → any (is_data t) xs ≡ false → follow_on_from t last d xs ≡ 0
follow_none t last d [] h = refl
follow_none t last d (x ∷ xs) h = by_test (is_data t x) refl (follow_none t last (suc d) xs)
  where
    by_test :
        (b : Bool) → is_data t x ≡ b → (any (is_data t) xs ≡ false → follow_on_from t last (suc d) xs ≡ 0) →
        follow_on_from t last d (x ∷ xs) ≡ 0
    by_test true e r = absurd (true≢false (rw e at h))
    by_test false e r = rw e (r (rw e at h))

pub follow_hit :
    (t : Plan) (last d : ℕ) (xs : List Slot) (y : Slot) (ys : List Slot) → any (is_data t) xs ≡ false → is_data t y ≡ true →
    follow_on_from t last d (xs ++ (y ∷ ys)) ≡ pick (eqb (first_tag t y.place) last) (d + length xs) 0
follow_hit t last d [] y ys h p = rw (p, add-zero)
follow_hit t last d (x ∷ xs) y ys h p = by_test (is_data t x) refl (follow_hit t last (suc d) xs y ys)
  where
    by_test :
        (b : Bool) → is_data t x ≡ b →
        (any (is_data t) xs ≡ false → is_data t y ≡ true →
        follow_on_from t last (suc d) (xs ++ (y ∷ ys)) ≡ pick (eqb (first_tag t y.place) last) (suc d + length xs) 0) →
        follow_on_from t last d (x ∷ (xs ++ (y ∷ ys))) ≡ pick (eqb (first_tag t y.place) last) (d + suc (length xs)) 0
    by_test true e r = absurd (true≢false (rw e at h))
    by_test false e r = rw (e, add-suc, ← suc-add) (r (rw e at h) p)

module _ (t : Plan) (keeps : Keeps t) {x q : ℕ} {xs : List Slot} (a : At t x (t.k + 1) q xs) where
  here_data : is_data t a.it ≡ true
  here_data = data_level t a.it a.level_is

  count_before : data_count t a.before ≡ q
  count_before = sym (keeps.in_order a.before a.it (to_send a) a.splits here_data) ∙ a.place_is

  count_sent : data_count t (sent_yet a) ≡ suc q
  count_sent =
      let e : pick {A = ℕ} (is_data t a.it) 1 0 + 0 ≡ 1 = rw here_data in
      let c : data_count t (sent_yet a) ≡ data_count t a.before + (pick (is_data t a.it) 1 0 + 0) = count_append t a.before (a.it ∷ []) in
      omega (arith, count_before)

  count_rest : suc q + data_count t (to_send a) ≡ t.d
  count_rest =
      let e : data_count t (slots t) ≡ data_count t (sent_yet a) + data_count t (to_send a) =
      ap (data_count t) (at_parts a) ∙ count_append t (sent_yet a) (to_send a) in
      omega (arith, count_sent, keeps.all_sent)

  -- behind the last data bucket
  pub follow_on_last : suc q ≡ t.d → follow_on_from t (last_tag t q) 1 (to_send a) ≡ 0
  follow_on_last h = follow_none t (last_tag t q) 1 (to_send a) (quiet_none t (to_send a) (omega (arith, count_rest)))

  -- the next data bucket, where it was found
  found_next :
      (g : Counted t 0 (to_send a)) →
      (g.hit.place ≡ suc q) × (first_place t (t.k + 1) (suc q) ≡ x + (1 + length g.skipped))
  found_next g =
      let front : List Slot = sent_yet a ++ g.skipped in
      let e : slots t ≡ front ++ (g.hit ∷ g.behind) =
      at_parts a ∙ ap (λ ys. sent_yet a ++ ys) g.splits ∙ sym (append_assoc (sent_yet a) g.skipped (g.hit ∷ g.behind)) in
      let c : data_count t front ≡ suc q = count_append t (sent_yet a) g.skipped ∙ ap₂ (λ u v. u + v) count_sent g.count ∙ add-zero (suc q) in
      let p : g.hit.place ≡ suc q = keeps.in_order front g.hit g.behind e g.passes ∙ c in
      let f : first_place t (t.k + 1) (suc q) ≡ length front =
      first_hit t (t.k + 1) (suc q) front g.hit g.behind e
      (none_before t keeps front (g.hit ∷ g.behind) e (suc q) (omega arith))
      (data_occurs t g.hit (suc q) g.passes p) in
      let l : length front ≡ length (sent_yet a) + length g.skipped = length-append (sent_yet a) g.skipped in
      (p, omega (arith, length_sent_yet a))

  follow_found :
      (g : Counted t 0 (to_send a)) →
      (g.hit.place ≡ suc q) × (first_place t (t.k + 1) (suc q) ≡ x + (1 + length g.skipped)) →
      follow_on_from t (last_tag t q) 1 (to_send a)
      ≡ pick (eqb (first_tag t (suc q)) (last_tag t q)) (first_place t (t.k + 1) (suc q) - x) 0
  follow_found g p =
      let w : 1 + length g.skipped ≡ first_place t (t.k + 1) (suc q) - x = omega (arith, p.1) in
      ap (follow_on_from t (last_tag t q) 1) g.splits
      ∙ follow_hit t (last_tag t q) 1 g.skipped g.hit g.behind (quiet_none t g.skipped g.count) g.passes
      ∙ ap₂ (λ u v. pick (eqb (first_tag t u) (last_tag t q)) v 0) p.0 w

  -- the next data bucket of this cycle
  pub follow_on_next :
      suc q < t.d →
      follow_on_from t (last_tag t q) 1 (to_send a)
      ≡ pick (eqb (first_tag t (suc q)) (last_tag t q)) (first_place t (t.k + 1) (suc q) - x) 0
  follow_on_next h =
      let g = counted t 0 (to_send a) (omega (arith, count_rest)) in follow_found g (found_next g)

  pub next_data_ahead : suc q < t.d → x < first_place t (t.k + 1) (suc q)
  next_data_ahead h =
      let g = counted t 0 (to_send a) (omega (arith, count_rest)) in
      let p = found_next g in
      omega (arith, p.1)
