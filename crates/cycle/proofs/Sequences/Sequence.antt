-- What the sequence of buckets of either layout keeps: all that a listener's way through a cycle rests on. A layout is shown
-- to keep it once; the listener's laws know nothing of layouts.
-- Assumes nothing.
use mathlib.Core.Path.{◌≡◌}
use Prim.Native.Nat.{ℕ, ◌+◌, ◌-◌, ◌^◌, ◌≤◌, ◌<◌, max}
use mathlib.Core.Bool.{true, false}
use mathlib.Core.List.{List, [], ◌∷◌, ◌++◌}
use Rattle.columns.specs.Lists.{pick, any}
use Rattle.cycle.specs.Tree.{Plan, above}
use Rattle.cycle.specs.Layouts.{Slot, slots}
use Rattle.cycle.specs.Cycle.{occurs, is_data, has_pairs}

-- a plan of which building makes a cycle
pub record Sound (t : Plan) : Type 0 where
  pub grows : 2 ≤ t.n
  pub full : 1 ≤ t.p
  pub levelled : 1 ≤ t.k
  pub holds : t.d ≤ t.n ^ t.k
  pub path_fits : t.layout ≡ 1 → t.copies + 1 ≤ t.k
  pub parts_some : (t.layout ≡ 1 → ⊥) → 1 ≤ t.copies
  pub parts_fit : (t.layout ≡ 1 → ⊥) → t.copies ≤ max 1 t.d

-- how many data buckets are among these
abbrev pub data_count : Plan → List Slot → ℕ
data_count t [] = 0
data_count t (x ∷ xs) = pick (is_data t x) 1 0 + data_count t xs

-- the place, on level i, of the bucket that stands above data bucket q
unfoldable pub place_above : Plan → ℕ → ℕ → ℕ
place_above t i q = above t.n (t.k + 1 - i) q

-- Ahead, the next occurrence of bucket j of level i comes while at most q data buckets are sent; s are sent already.
pub record Comes (t : Plan) (s q i j : ℕ) (ahead : List Slot) : Type 0 where
  pub skipped : List Slot
  pub hit : Slot
  pub behind : List Slot
  pub splits : ahead ≡ skipped ++ (hit ∷ behind)
  pub is : occurs i j hit ≡ true
  pub first : any (occurs i j) skipped ≡ false
  pub in_time : s + data_count t skipped ≤ q

-- Of an index bucket x behind some buckets, with the rest of the cycle: q is a data bucket not yet sent.
pub record IndexKeeps (t : Plan) (before : List Slot) (x : Slot) (rest : List Slot) : Type 0 where
  pub low : 1 ≤ x.level
  pub high : x.level ≤ t.k
  -- the root is above x
  pub rooted : above t.n (x.level - 1) x.place ≡ 0
  -- if x is above q, its child above q comes no later than q
  pub child :
      (q : ℕ) → q < t.d → data_count t before ≤ q → place_above t x.level q ≡ x.place →
      Comes t (data_count t before) q (x.level + 1) (place_above t (x.level + 1) q) rest
  -- if x has control pairs, it is not to the right of q
  pub left_of : has_pairs t x ≡ true → (q : ℕ) → q < t.d → data_count t before ≤ q → x.place ≤ place_above t x.level q
  -- if x has control pairs, and the bucket of level i is above x and above q, while the one of level i + 1 above x is not
  -- above q, then the bucket of level i comes again no later than q
  pub again :
      has_pairs t x ≡ true → (q : ℕ) → q < t.d → data_count t before ≤ q → (i : ℕ) → 1 ≤ i → i < x.level →
      above t.n (x.level - i) x.place ≡ place_above t i q →
      (above t.n (x.level - (i + 1)) x.place ≡ place_above t (i + 1) q → ⊥) →
      Comes t (data_count t before) q i (place_above t i q) rest
  -- a segment starts with a bucket that has control pairs, or with the root before anything else is sent
  pub opens : x.starts ≡ true → (has_pairs t x ≡ false) → (before ≡ []) × (x.level ≡ 1) × (x.place ≡ 0)

pub record Keeps (t : Plan) : Type 0 where
  -- the cycle opens with the root, which starts a segment
  pub tail : List Slot
  pub root_first : slots t ≡ record { level = 1; place = 0; starts = true } ∷ tail
  -- every data bucket is sent, and the one behind s others is number s
  pub all_sent : data_count t (slots t) ≡ t.d
  pub in_order :
      (before : List Slot) (x : Slot) (rest : List Slot) → slots t ≡ before ++ (x ∷ rest) → is_data t x ≡ true →
      x.place ≡ data_count t before
  -- a data bucket never starts a segment
  pub data_starts :
      (before : List Slot) (x : Slot) (rest : List Slot) → slots t ≡ before ++ (x ∷ rest) → is_data t x ≡ true →
      x.starts ≡ false
  pub each :
      (before : List Slot) (x : Slot) (rest : List Slot) → slots t ≡ before ++ (x ∷ rest) → is_data t x ≡ false →
      IndexKeeps t before x rest
