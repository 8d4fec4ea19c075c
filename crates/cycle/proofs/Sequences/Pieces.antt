-- The pieces that both layouts send: data buckets in a row, and trees parent first. Each keeps what a suffix has to keep.
-- Assumes nothing.
use mathlib.Core.Path.{◌≡◌, refl, sym, ap, ap₂, ◌∙◌}
use mathlib.Core.Logic.{⊎_elim}
use Prim.Native.Nat.{ℕ, zero, suc, ◌+◌, ◌-◌, ◌*◌, ◌^◌, ◌/◌, ◌≤◌, ◌<◌, min}
use native.Mathlib.Nat.{add-zero, zero-add, add_assoc, add-suc, suc-add, eq-or-lt_of_le}
use native.Mathlib.Numerals.{add-one}
use native.Mathlib.Omega.{arith}
use mathlib.Core.Bool.{true, false, true≢false, false≢true}
use mathlib.Core.List.{List, [], ◌∷◌, ◌++◌, append_assoc, Memᴰ}
use borrow.Author.Tests.{ne_eqb, eq-eqb}
use Rattle.columns.specs.Lists.{pick, joined, span}
use Rattle.cycle.specs.Tree.{Plan, above, width, children}
use Rattle.cycle.specs.Layouts.{Slot, slot, subtree, sent}
use Rattle.cycle.specs.Cycle.{occurs, is_data, has_pairs}
use Rattle.cycle.proofs.Sequences.Sequence.{data_count, place_above}
use Rattle.cycle.proofs.Trees.TreeLaws.{above_suc, above_le, lt_width, children_bounds, in_children}
use Rattle.cycle.proofs.Sequences.Suffixes.{Reaches, here, reach_at, reach_past, paired, Stands, Sends, next, sends_at, reach_data}

-- ---- one bucket

pub occurs_slot : (i j : ℕ) (x : Slot) → x.level ≡ i → x.place ≡ j → occurs i j x ≡ true
unfolding occurs
occurs_slot i j x e f = rw (eq-eqb x.level i e, eq-eqb x.place j f)

pub slot_occurs : (i j a b : ℕ) → a ≡ i → b ≡ j → occurs i j (slot a b) ≡ true
unfolding slot
slot_occurs i j a b e f = occurs_slot i j (slot a b) e f

pub index_slot : (t : Plan) (x : Slot) → x.level ≤ t.k → is_data t x ≡ false
unfolding is_data
index_slot t x h = ne_eqb x.level (t.k + 1) (λ e. omega arith)

pub data_level : (t : Plan) (x : Slot) → x.level ≡ t.k + 1 → is_data t x ≡ true
unfolding is_data
data_level t x e = eq-eqb x.level (t.k + 1) e

pub data_slot : (t : Plan) (q : ℕ) → is_data t (slot (t.k + 1) q) ≡ true
unfolding slot
data_slot t q = data_level t (slot (t.k + 1) q) refl

-- an index bucket, which may start a segment if it has control pairs
pub next_index :
    {t : Plan} {s : ℕ} {rest : List Slot} (x : Slot) → (x.starts ≡ true → paired t x.level ≡ true) →
    Stands t s x.level x.place rest → Sends t s rest → Sends t s (x ∷ rest)
unfolding has_pairs
next_index {t} {s} x o h r =
    let e : is_data t x ≡ false = index_slot t x h.high in
    next
    (record {
      in_order = λ d. absurd (true≢false (sym d ∙ e));
      plain = λ d. absurd (true≢false (sym d ∙ e));
      stands = λ d. h;
      opens = o;
    })
    (sends_at (ap (λ b. s + pick b 1 0) e ∙ add-zero s) r)

pub next_slot :
    {t : Plan} {s : ℕ} {rest : List Slot} (i j : ℕ) → Stands t s i j rest → Sends t s rest → Sends t s (slot i j ∷ rest)
unfolding slot
next_slot i j h r = next_index (slot i j) (λ e. absurd (false≢true e)) h r

-- an index bucket at the front, taken apart
pub front_slot :
    {t : Plan} {s : ℕ} {rest : List Slot} (i j : ℕ) → i ≤ t.k → Sends t s (slot i j ∷ rest) → Stands t s i j rest × Sends t s rest
unfolding slot
front_slot {t} {s} i j h (next g r) =
    let e : is_data t (slot i j) ≡ false = index_slot t (slot i j) h in
    (g.stands e, sends_at (sym (ap (λ b. s + pick b 1 0) e ∙ add-zero s)) r)

-- ---- counting

pub count_append : (t : Plan) (xs ys : List Slot) → data_count t (xs ++ ys) ≡ data_count t xs + data_count t ys
count_append t [] ys = sym (zero-add (data_count t ys))
count_append t (x ∷ xs) ys =
    ap (λ c. pick (is_data t x) 1 0 + c) (count_append t xs ys) ∙ sym (add_assoc (pick (is_data t x) 1 0) (data_count t xs) (data_count t ys))

pub count_sent : (t : Plan) (a c : ℕ) → data_count t (sent t (span a c)) ≡ c
unfolding sent
count_sent t a zero = refl
count_sent t a (suc c) = rw (data_slot t a, count_sent t (suc a) c) (omega arith)

pub count_slot : (t : Plan) (i j : ℕ) (xs : List Slot) → i ≤ t.k → data_count t (slot i j ∷ xs) ≡ data_count t xs
unfolding slot
count_slot t i j xs h = rw (index_slot t (slot i j) h) (zero-add (data_count t xs))

pub quiet_joined : (t : Plan) (f : ℕ → List Slot) → ((c : ℕ) → data_count t (f c) ≡ 0) → (xs : List ℕ) → data_count t (joined f xs) ≡ 0
quiet_joined t f h [] = refl
quiet_joined t f h (x ∷ xs) = count_append t (f x) (joined f xs) ∙ ap₂ (λ a b. a + b) (h x) (quiet_joined t f h xs)

pub quiet_subtree : (t : Plan) (h i j : ℕ) → i + h ≡ t.k + 1 → data_count t (subtree t h i j) ≡ 0
quiet_subtree t zero i j e = refl
quiet_subtree t (suc h) i j e =
    count_slot t i j (joined (λ c. subtree t h (suc i) c) (children t i j)) (omega arith)
    ∙ quiet_joined t (λ c. subtree t h (suc i) c) (λ c. quiet_subtree t h (suc i) c (omega arith)) (children t i j)

-- ---- data buckets in a row

pub sends_data : {t : Plan} (a c : ℕ) {rest : List Slot} → Sends t (a + c) rest → Sends t a (sent t (span a c) ++ rest)
unfolding sent slot
sends_data a zero r = sends_at (sym (add-zero a)) r
sends_data {t} a (suc c) r =
    let e : is_data t (slot (t.k + 1) a) ≡ true = data_slot t a in
    next
    (record {
      in_order = λ d. refl;
      plain = λ d. refl;
      stands = λ d. absurd (true≢false (sym e ∙ d));
      opens = λ d. absurd (false≢true d);
    })
    (sends_at (ap (λ b. a + pick b 1 0) e ∙ add-one a) (sends_data (suc a) c (sends_at (suc-add a c ∙ sym (add-suc a c)) r)))

-- ---- lists joined over a row

-- What comes in the list of c comes in the whole: `time` tells what is sent where each list begins.
pub reach_joined :
    {t : Plan} {q i j : ℕ} (f : ℕ → List Slot) (time : ℕ → ℕ) (w c : ℕ) →
    ((b : ℕ) → b < w → time b + data_count t (f b) ≡ time (suc b)) →
    ((more : List Slot) → Reaches t q i j (time c) (f c ++ more)) →
    (a m : ℕ) → a ≤ c → c < a + m → a + m ≤ w → (rest : List Slot) → Reaches t q i j (time a) (joined f (span a m) ++ rest)
reach_joined f time w c step hit a zero l u v rest = absurd (omega arith)
reach_joined {t} {q} {i} {j} f time w c step hit a (suc m) l u v rest =
    rw append_assoc
    (⊎_elim
    (λ (e : a ≡ c). rw e (hit (joined f (span (suc c) m) ++ rest)))
    (λ (g : a < c).
    reach_past (f a)
    (reach_at (step a (omega arith))
    (reach_joined f time w c step hit (suc a) m g (omega arith) (omega arith) rest)))
    (eq-or-lt_of_le l))

pub sends_joined :
    {t : Plan} {s : ℕ} (f : ℕ → List Slot) (xs : List ℕ) →
    ((c : ℕ) → Memᴰ c xs → (rest : List Slot) → Sends t s rest → Sends t s (f c ++ rest)) →
    (rest : List Slot) → Sends t s rest → Sends t s (joined f xs ++ rest)
sends_joined f [] h rest r = r
sends_joined f (x ∷ xs) h rest r =
    rw append_assoc
    (h x (Memᴰ.head refl) (joined f xs ++ rest) (sends_joined f xs (λ c m. h c (Memᴰ.tail m)) rest r))

-- ---- trees

module _ (t : Plan) (pos : 0 < t.n) where
  -- the place above q, one level lower, is a child
  pub child_above :
      (i j q : ℕ) → i ≤ t.k → q < t.d → place_above t i q ≡ j →
      (place_above t (suc i) q / t.n ≡ j) × (place_above t (suc i) q < width t (suc i))
  unfolding place_above
  child_above i j q h l e =
      let height : t.k + 1 - i ≡ suc (t.k + 1 - suc i) = omega arith in
      let c : ℕ = above t.n (t.k + 1 - suc i) q in
      let fits : c * t.n ^ (t.k + 1 - suc i) ≤ q = above_le t.n (t.k + 1 - suc i) pos c q (omega arith) in (
        sym (above_suc t.n (t.k + 1 - suc i) q) ∙ ap (λ x. above t.n x q) (sym height) ∙ e,
        lt_width t pos (suc i) c (omega arith),
      )

  -- what comes in the list of a child comes in the lists of all, where these hold no data bucket
  pub reach_children :
      {q a b : ℕ} (f : ℕ → List Slot) (i j c s : ℕ) → ((x : ℕ) → data_count t (f x) ≡ 0) →
      c / t.n ≡ j → c < width t (suc i) → ((more : List Slot) → Reaches t q a b s (f c ++ more)) →
      (rest : List Slot) → Reaches t q a b s (joined f (children t i j) ++ rest)
  unfolding children
  reach_children f i j c s quiet e l hit rest =
      let end : ℕ = min (j * t.n + t.n) (width t (suc i)) in
      let inside = children_bounds t pos i j c e l in
      reach_joined f (λ x. s) end c (λ x u. ap (λ y. s + y) (quiet x) ∙ add-zero s) hit (j * t.n) (end - j * t.n)
      inside.0 (omega arith) (omega arith) rest

  -- a bucket's child above q comes in time, where its subtrees follow
  pub child_comes :
      (h i j q s : ℕ) (rest : List Slot) → i + suc h ≡ t.k + 1 → q < t.d → s ≤ q → place_above t i q ≡ j →
      Sends t s (joined (λ c. subtree t h (suc i) c) (children t i j) ++ rest) →
      Reaches t q (i + 1) (place_above t (i + 1) q) s (joined (λ c. subtree t h (suc i) c) (children t i j) ++ rest)
  unfolding place_above
  child_comes zero i j q s rest e l u p r =
      let level : i + 1 ≡ t.k + 1 = omega arith in
      let height : t.k + 1 - (t.k + 1) ≡ 0 = omega arith in
      rw (level, height) (reach_data q l u r)
  child_comes (suc h) i j q s rest e l u p r =
      let c : ℕ = place_above t (suc i) q in
      let b = child_above i j q (omega arith) l p in
      rw (add-one i)
      (reach_children (λ x. subtree t (suc h) (suc i) x) i j c s (λ x. quiet_subtree t (suc h) (suc i) x (omega arith))
      b.0 b.1
      (λ more. here u (slot_occurs (suc i) c (suc i) c refl refl))
      rest)

  -- a child is under the root if its parent is
  pub child_rooted : (i j c : ℕ) → 1 ≤ i → above t.n (i - 1) j ≡ 0 → Memᴰ c (children t i j) → above t.n (suc i - 1) c ≡ 0
  child_rooted i j c low up m =
      let height : suc i - 1 ≡ suc (i - 1) = omega arith in
      rw height (ap (above t.n (i - 1)) (in_children t pos i j m).0 ∙ up)

  pub sends_subtree :
      (h i j s : ℕ) (rest : List Slot) → 1 ≤ i → above t.n (i - 1) j ≡ 0 → i + h ≡ t.k + 1 →
      ((a : ℕ) → i ≤ a → paired t a ≡ false) → Sends t s rest → Sends t s (subtree t h i j ++ rest)
  sends_subtree zero i j s rest low up e none r = r
  sends_subtree (suc h) i j s rest low up e none r =
      let below : Sends t s (joined (λ c. subtree t h (suc i) c) (children t i j) ++ rest) =
      sends_joined (λ c. subtree t h (suc i) c) (children t i j)
      (λ c m more r'.
      sends_subtree h (suc i) c s more (omega arith) (child_rooted i j c low up m) (omega arith)
      (λ a l. none a (omega arith)) r')
      rest r in
      let bare : paired t i ≡ false = none i (omega arith) in
      next_slot i j
      (record {
        low = low;
        high = omega arith;
        rooted = up;
        child = λ q l u p. child_comes h i j q s rest e l u p below;
        left_of = λ p. absurd (true≢false (sym p ∙ bare));
        again = λ p. absurd (true≢false (sym p ∙ bare));
      })
      below
