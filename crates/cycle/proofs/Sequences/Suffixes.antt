-- A cycle read by its suffixes: what is still to be sent when s data buckets are. What a layout shows of each suffix, and that
-- the whole cycle then keeps what listeners rest on.
-- Assumes nothing.
use mathlib.Core.Path.{◌≡◌, refl, sym, ap, subst, ◌∙◌}
use mathlib.Core.Logic.{◌⊎◌, inl, inr, ⊎_elim}
use Prim.Native.Nat.{ℕ, ◌+◌, ◌-◌, ◌≤◌, ◌<◌}
use native.Mathlib.Nat.{add-zero, add_assoc, eq-or-lt_of_le}
use native.Mathlib.Omega.{arith}
use mathlib.Core.Bool.{Bool, true, false, true≢false}
use mathlib.Core.List.{List, [], ◌∷◌, ◌++◌}
use lib.Dec.{leb, eqb}
use borrow.Author.Tests.{ne_eqb, eq-eqb}
use Rattle.columns.specs.Lists.{pick}
use Rattle.cycle.specs.Tree.{Plan, above}
use Rattle.cycle.specs.Layouts.{Slot, slots}
use Rattle.cycle.specs.Cycle.{occurs, is_data, has_pairs}
use Rattle.cycle.proofs.Sequences.Sequence.{data_count, place_above, Comes, IndexKeeps, Keeps}

-- ---- coming in time

-- bucket j of level i stands ahead, where at most q data buckets are sent; s are sent already
pub data Reaches (t : Plan) (q i j : ℕ) : ℕ → List Slot → Type 0 where
  here : {s : ℕ} {x : Slot} {xs : List Slot} → s ≤ q → occurs i j x ≡ true → Reaches t q i j s (x ∷ xs)
  there : {s : ℕ} {x : Slot} {xs : List Slot} → Reaches t q i j (s + pick (is_data t x) 1 0) xs → Reaches t q i j s (x ∷ xs)

module _ {t : Plan} {q i j : ℕ} where
  pub reach_time : {s : ℕ} {xs : List Slot} → Reaches t q i j s xs → s ≤ q
  reach_time (here h e) = h
  reach_time (there r) = let h = reach_time r in omega arith

  pub reach_at : {s u : ℕ} {xs : List Slot} → s ≡ u → Reaches t q i j u xs → Reaches t q i j s xs
  reach_at {xs = xs} e r = subst (λ v. Reaches t q i j v xs) (sym e) r

  -- what comes behind xs
  pub reach_past : (xs : List Slot) {s : ℕ} {rest : List Slot} → Reaches t q i j (s + data_count t xs) rest → Reaches t q i j s (xs ++ rest)
  reach_past [] {s} r = reach_at (sym (add-zero s)) r
  reach_past (x ∷ xs) {s} r = there (reach_past xs (reach_at (add_assoc s (pick (is_data t x) 1 0) (data_count t xs)) r))

  -- the next occurrence is no later than any
  pub reach_comes : {s : ℕ} {xs : List Slot} → Reaches t q i j s xs → Comes t s q i j xs
  reach_comes (here {s = s} {x = x} {xs = xs} h e) =
      record { skipped = []; hit = x; behind = xs; splits = refl; is = e; first = refl; in_time = omega arith }
  reach_comes (there {s = s} {x = x} {xs = xs} r) = by_test (reach_comes r) (reach_time r) (occurs i j x) refl
    where
      by_test : Comes t (s + pick (is_data t x) 1 0) q i j xs → s + pick (is_data t x) 1 0 ≤ q → (b : Bool) → occurs i j x ≡ b → Comes t s q i j (x ∷ xs)
      by_test c h true e =
          record { skipped = []; hit = x; behind = xs; splits = refl; is = e; first = refl; in_time = omega arith }
      by_test c h false e =
          record {
            skipped = x ∷ c.skipped;
            hit = c.hit;
            behind = c.behind;
            splits = ap (λ ys. x ∷ ys) c.splits;
            is = c.is;
            first = rw e c.first;
            in_time = omega (arith, c.in_time);
          }

pub data_occurs : (t : Plan) (x : Slot) (q : ℕ) → is_data t x ≡ true → x.place ≡ q → occurs (t.k + 1) q x ≡ true
unfolding is_data occurs
data_occurs t x q e p = rw (e, eq-eqb x.place q p)

-- ---- what a layout shows

-- a bucket of level i has control pairs
abbrev pub paired : Plan → ℕ → Bool
paired t i = pick (eqb t.layout 1) (leb i t.copies) (eqb i 1)

-- of index bucket j of level i, with the rest behind it: `IndexKeeps` by the count alone
pub record Stands (t : Plan) (s i j : ℕ) (rest : List Slot) : Type 0 where
  pub low : 1 ≤ i
  pub high : i ≤ t.k
  pub rooted : above t.n (i - 1) j ≡ 0
  pub child :
      (q : ℕ) → q < t.d → s ≤ q → place_above t i q ≡ j → Reaches t q (i + 1) (place_above t (i + 1) q) s rest
  pub left_of : paired t i ≡ true → (q : ℕ) → q < t.d → s ≤ q → j ≤ place_above t i q
  pub again :
      paired t i ≡ true → (q : ℕ) → q < t.d → s ≤ q → (a : ℕ) → 1 ≤ a → a < i →
      above t.n (i - a) j ≡ place_above t a q →
      (above t.n (i - (a + 1)) j ≡ place_above t (a + 1) q → ⊥) →
      Reaches t q a (place_above t a q) s rest

-- of a bucket behind the cycle's first
pub record Good (t : Plan) (s : ℕ) (x : Slot) (rest : List Slot) : Type 0 where
  pub in_order : is_data t x ≡ true → x.place ≡ s
  pub plain : is_data t x ≡ true → x.starts ≡ false
  pub stands : is_data t x ≡ false → Stands t s x.level x.place rest
  pub opens : x.starts ≡ true → has_pairs t x ≡ true

-- of what is still to be sent
pub data Sends (t : Plan) : ℕ → List Slot → Type 0 where
  done : {s : ℕ} → s ≡ t.d → Sends t s []
  next : {s : ℕ} {x : Slot} {rest : List Slot} → Good t s x rest → Sends t (s + pick (is_data t x) 1 0) rest → Sends t s (x ∷ rest)

module _ {t : Plan} where
  pub sends_at : {s u : ℕ} {xs : List Slot} → s ≡ u → Sends t u xs → Sends t s xs
  sends_at {xs = xs} e h = subst (λ v. Sends t v xs) (sym e) h

  pub sends_behind : (before : List Slot) {s : ℕ} {rest : List Slot} → Sends t s (before ++ rest) → Sends t (s + data_count t before) rest
  sends_behind [] {s} h = sends_at (add-zero s) h
  sends_behind (x ∷ xs) {s} (next g h) = sends_at (sym (add_assoc s (pick (is_data t x) 1 0) (data_count t xs))) (sends_behind xs h)

  pub sends_all : {s : ℕ} {xs : List Slot} → Sends t s xs → s + data_count t xs ≡ t.d
  sends_all (done {s = s} e) = add-zero s ∙ e
  sends_all (next {s = s} {x = x} {rest = rest} g h) =
      sym (add_assoc s (pick (is_data t x) 1 0) (data_count t rest)) ∙ sends_all h

  -- data bucket q is reached in time
  pub reach_data : {s : ℕ} {xs : List Slot} (q : ℕ) → q < t.d → s ≤ q → Sends t s xs → Reaches t q (t.k + 1) q s xs
  reach_data q l h (done e) = absurd (omega arith)
  reach_data q l h (next {s = s} {x = x} {rest = rest} g r) = by_test (λ u. reach_data q l u r) (is_data t x) refl
    where
      by_test : (s + pick (is_data t x) 1 0 ≤ q → Reaches t q (t.k + 1) q (s + pick (is_data t x) 1 0) rest) → (b : Bool) → is_data t x ≡ b → Reaches t q (t.k + 1) q s (x ∷ rest)
      by_test f true e =
          ⊎_elim
          (λ (same : s ≡ q). here h (data_occurs t x q e (g.in_order e ∙ same)))
          (λ (l : s < q). there (f (rw e (omega arith))))
          (eq-or-lt_of_le h)
      by_test f false e = there (f (rw e (omega arith)))

-- ---- a cycle that opens with the root, and sends the rest well, keeps what listeners rest on

abbrev pub root : Slot
root = record { level = 1; place = 0; starts = true }

pub root_index : (t : Plan) → 1 ≤ t.k → is_data t root ≡ false
unfolding is_data
root_index t h = ne_eqb 1 (t.k + 1) (λ e. omega arith)

pub index_keeps :
    (t : Plan) (before : List Slot) (x : Slot) (rest : List Slot) → Stands t (data_count t before) x.level x.place rest →
    (x.starts ≡ true → has_pairs t x ≡ false → (before ≡ []) × (x.level ≡ 1) × (x.place ≡ 0)) →
    IndexKeeps t before x rest
unfolding has_pairs
index_keeps t before x rest h o =
    record {
      low = h.low;
      high = h.high;
      rooted = h.rooted;
      child = λ q l u e. reach_comes (h.child q l u e);
      left_of = h.left_of;
      again = λ p q l u i low lt e f. reach_comes (h.again p q l u i low lt e f);
      opens = o;
    }

module _ (t : Plan) (tail : List Slot) (first : slots t ≡ root ∷ tail) (led : Stands t 0 1 0 tail) (rest_sent : Sends t 0 tail) where
  -- a bucket of the cycle is its first, or good
  pub at_split :
      (before : List Slot) (x : Slot) (rest : List Slot) → slots t ≡ before ++ (x ∷ rest) →
      ((before ≡ []) × (x ≡ root) × (rest ≡ tail)) ⊎ Good t (data_count t before) x rest
  at_split [] x rest e =
      let p : x ∷ rest ≡ root ∷ tail = sym e ∙ first in
      inl (refl, cc, cc)
  at_split (y ∷ ys) x rest e =
      let p : y ∷ (ys ++ (x ∷ rest)) ≡ root ∷ tail = sym e ∙ first in
      let head : y ≡ root = cc in
      let same : tail ≡ ys ++ (x ∷ rest) = cc in
      let none : is_data t y ≡ false = rw head (root_index t led.high) in
      inr (good_of (sends_behind ys (subst (Sends t 0) same rest_sent)) (rw none))
    where
      good_of : {s u : ℕ} → Sends t s (x ∷ rest) → u ≡ s → Good t u x rest
      good_of (next g h) w = subst (λ v. Good t v x rest) (sym w) g

  -- the first is no data bucket
  first_index : (x : Slot) → x ≡ root → is_data t x ≡ true → ⊥
  first_index x e d = true≢false (sym d ∙ ap (is_data t) e ∙ root_index t led.high)

  pub keeps_sent : Keeps t
  keeps_sent =
      record {
        tail = tail;
        root_first = first;
        all_sent = ap (data_count t) first ∙ ap (λ b. pick b 1 0 + data_count t tail) (root_index t led.high) ∙ sends_all rest_sent;
        in_order = λ before x rest e d.
            ⊎_elim (λ f. absurd (first_index x f.1 d)) (λ g. g.in_order d) (at_split before x rest e);
        data_starts = λ before x rest e d.
            ⊎_elim (λ f. absurd (first_index x f.1 d)) (λ g. g.plain d) (at_split before x rest e);
        each = λ before x rest e d.
            ⊎_elim
            (λ f.
            index_keeps t before x rest (rw (f.0, f.1, f.2) led) (λ u v. (f.0, ap (λ y. y.level) f.1, ap (λ y. y.place) f.1)))
            (λ g. index_keeps t before x rest (g.stands d) (λ u v. absurd (true≢false (sym (g.opens u) ∙ v))))
            (at_split before x rest e);
      }
