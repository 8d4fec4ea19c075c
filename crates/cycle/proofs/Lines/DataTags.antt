-- The tags of data buckets and of the buckets above them, on lines whose tags never fall.
-- Assumes nothing.
use mathlib.Core.Path.{◌≡◌, refl, sym, ap, subst}
use mathlib.Core.Logic.{⊎_elim}
use Prim.Native.Nat.{ℕ, zero, suc, ◌+◌, ◌-◌, ◌*◌, ◌^◌, ◌≤◌, ◌<◌, min}
use mathlib.Core.List.{List, [], ◌∷◌, map}
use native.Mathlib.Nat.{suc-mul, one-le-pow, add-zero}
use native.Mathlib.Numerals.{add-one}
use native.Mathlib.Omega.{arith}
use lib.ListN
use lib.ListN.{length, drop, get_or, length-drop}
use lib.Seq.{drop-drop}
use Rattle.columns.specs.Lists.{up}
use Rattle.buckets.specs.declared.Line.{Line}
use Rattle.cycle.specs.Tree.{Plan, width, data_under, lines_of, tags_of, first_tag, last_tag, largest_tag}
use Rattle.cycle.proofs.Sequences.Sequence.{Sound, Keeps, place_above}
use Rattle.cycle.proofs.Basics.Ranges.{le_or_lt}
use Rattle.cycle.proofs.Trees.TreeLaws.{up_lt, up_covers, above_le, above_lt, width_lt, last_data_under}
use Rattle.cycle.proofs.Lines.Rising.{Rising, last_from, rising_less, rising_take, rising_drop, last_at_least}

-- what is known of the plan of a list that building accepts
pub record AcceptedPlan (t : Plan) : Type 0 where
  pub sound : Sound t
  pub keeps : Keeps t
  pub rises : Rising 0 t.lines
  pub d_is : t.d ≡ up (length t.lines) t.p
  pub lone : t.d ≡ 0 → t.k ≡ 1

-- ---- the lines from a data bucket on

unfoldable pub rest_from : Plan → ℕ → List Line
rest_from t q = drop (q * t.p) t.lines

pub lines_of_lem : (t : Plan) (q : ℕ) → lines_of t q ≡ ListN.take t.p (rest_from t q)
unfolding lines_of rest_from
lines_of_lem t q = refl

pub rest_next : (t : Plan) (q : ℕ) → rest_from t (suc q) ≡ drop t.p (rest_from t q)
unfolding rest_from
rest_next t q = rw (drop-drop, suc-mul)

pub last_tag_lem : (t : Plan) (q : ℕ) → last_tag t q ≡ last_from 0 (lines_of t q)
unfolding last_tag tags_of
last_tag_lem t q = refl

-- a data bucket has a first line
pub record Filled (t : Plan) (q : ℕ) : Type 0 where
  pub line : Line
  pub more : List Line
  pub is : lines_of t q ≡ line ∷ more
  pub first_is : first_tag t q ≡ line.tag

pub filled_by :
    (t : Plan) (q p : ℕ) (ls : List Line) → lines_of t q ≡ ListN.take p ls → 1 ≤ p → 1 ≤ length ls → Filled t q
unfolding first_tag tags_of
filled_by t q zero ls e h l = absurd (omega arith)
filled_by t q (suc p) [] e h l = absurd (omega arith)
filled_by t q (suc p) (x ∷ ls) e h l =
    record { line = x; more = ListN.take p ls; is = e; first_is = ap (λ r. get_or (map (λ m. m.tag) r) 0 0) e }

module _ (t : Plan) (a : AcceptedPlan t) where
  pub rest_rises : (q : ℕ) → Rising 0 (rest_from t q)
  unfolding rest_from
  rest_rises q =
      rising_less (last_from 0 (ListN.take (q * t.p) t.lines)) 0 (drop (q * t.p) t.lines) (omega arith)
      (rising_drop 0 (q * t.p) t.lines a.rises)

  pub lines_rise : (q : ℕ) → Rising 0 (lines_of t q)
  lines_rise q = rw lines_of_lem (rising_take 0 t.p (rest_from t q) (rest_rises q))

  pub next_rises : (q : ℕ) → Rising (last_tag t q) (rest_from t (suc q))
  next_rises q = rw (rest_next, last_tag_lem, lines_of_lem) (rising_drop 0 t.p (rest_from t q) (rest_rises q))

  -- behind the last data bucket there is nothing
  pub rest_end : rest_from t t.d ≡ []
  unfolding rest_from
  rest_end =
      let c : length t.lines ≤ up (length t.lines) t.p * t.p = up_covers (length t.lines) t.p a.sound.full in
      ListN.drop_of_length-le t.lines {i = t.d * t.p} (rw a.d_is c)

  pub filled : (q : ℕ) → q < t.d → Filled t q
  unfolding rest_from
  filled q h =
      let l : q * t.p < length t.lines = up_lt (length t.lines) t.p q a.sound.full (rw a.d_is at h) in
      filled_by t q t.p (rest_from t q) (lines_of_lem t q) a.sound.full (rw length-drop (omega arith))

  -- the last tags never fall
  pub last_next : (q : ℕ) → suc q < t.d → last_tag t q ≤ last_tag t (suc q)
  last_next q h =
      let f : Filled t (suc q) = filled (suc q) h in
      let r : Rising (last_tag t q) (lines_of t (suc q)) = rw lines_of_lem (rising_take (last_tag t q) t.p (rest_from t (suc q)) (next_rises q)) in
      let b : last_tag t q ≤ last_from (last_tag t q) (f.line ∷ f.more) =
      last_at_least (last_tag t q) (f.line ∷ f.more) (subst (Rising (last_tag t q)) f.is r) in
      rw (last_tag_lem t (suc q), f.is) b

  pub last_mono : (q c : ℕ) → q + c < t.d → last_tag t q ≤ last_tag t (q + c)
  last_mono q zero h = rw add-zero (omega arith)
  last_mono q (suc c) h =
      let e : q + suc c ≡ suc (q + c) = omega arith in
      let b : last_tag t q ≤ last_tag t (q + c) = last_mono q c (omega arith) in
      let l : last_tag t (q + c) ≤ last_tag t (suc (q + c)) = last_next (q + c) (omega arith) in
      rw e (omega arith)

-- ---- the largest tag below a bucket

-- the last data bucket below bucket c of level i
pub record Lowest (t : Plan) (i c : ℕ) : Type 0 where
  pub last : ℕ
  pub there : last < t.d
  pub is : largest_tag t i c ≡ last_tag t last
  pub holds : (q : ℕ) → q < t.d → place_above t i q ≤ c → q ≤ last
  pub leaves : (q : ℕ) → c < place_above t i q → last < q

pub lowest_index : (t : Plan) → Sound t → (i c : ℕ) → i ≤ t.k → c < width t i → Lowest t i c
unfolding largest_tag place_above
lowest_index t s i c h l =
    let m : ℕ = t.n ^ (t.k + 1 - i) in
    let pos : 0 < t.n = omega (arith, s.grows) in
    let some : 0 < m = one-le-pow (t.k + 1 - i) t.n pos in
    let first : c * m < t.d = width_lt t pos i c l in
    let e : (c + 1) * m ≡ c * m + m = rw (add-one c) (suc-mul c m) in
    record {
      last = min t.d ((c + 1) * m) - 1;
      there = omega arith;
      is = ap (last_tag t) (last_data_under t pos 0 i c h l);
      holds = λ q g u. let b : q < (c + 1) * m = above_lt t.n (t.k + 1 - i) pos (c + 1) q (omega arith) in omega arith;
      leaves = λ q u. let b : (c + 1) * m ≤ q = above_le t.n (t.k + 1 - i) pos (c + 1) q (omega arith) in omega arith;
    }

pub lowest_data : (t : Plan) (c : ℕ) → c < t.d → Lowest t (t.k + 1) c
unfolding largest_tag place_above data_under
lowest_data t c h =
    let e : t.k + 1 - (t.k + 1) ≡ 0 = omega arith in
    record {
      last = c;
      there = h;
      is = rw e;
      holds = λ q g u. rw e at u;
      leaves = λ q u. rw e at u;
    }

pub lowest : (t : Plan) → Sound t → (i c : ℕ) → i ≤ t.k + 1 → c < width t i → Lowest t i c
unfolding width
lowest t s i c h l =
    ⊎_elim
    (λ (g : i ≤ t.k). lowest_index t s i c g l)
    (λ (g : t.k < i).
    let e : i ≡ t.k + 1 = omega arith in
    let z : t.k + 1 - i ≡ 0 = omega arith in
    subst (λ x. Lowest t x c) (sym e) (lowest_data t c (rw z at l)))
    (le_or_lt i t.k)

-- the largest tags of a level never fall
pub largest_mono :
    (t : Plan) → AcceptedPlan t → (i b c : ℕ) → i ≤ t.k + 1 → b ≤ c → c < width t i → largest_tag t i b ≤ largest_tag t i c
largest_mono t a i b c h l w =
    let x : Lowest t i b = lowest t a.sound i b h (omega arith) in
    let y : Lowest t i c = lowest t a.sound i c h w in
    ⊎_elim
    (λ (g : place_above t i x.last ≤ c).
    let e : x.last + (y.last - x.last) ≡ y.last = omega (arith, y.holds x.last x.there g) in
    let m : last_tag t x.last ≤ last_tag t (x.last + (y.last - x.last)) =
    last_mono t a x.last (y.last - x.last) (omega (arith, e, y.there)) in
    let m' : last_tag t x.last ≤ last_tag t y.last = rw e at m in
    rw (x.is, y.is) m')
    (λ (g : c < place_above t i x.last). let z : x.last < x.last = x.leaves x.last (omega arith) in absurd (omega arith))
    (le_or_lt (place_above t i x.last) c)
