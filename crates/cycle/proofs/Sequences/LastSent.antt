-- What the data buckets' order says: the tag of the last line sent follows from how many data buckets were sent, and a data
-- bucket's first place is its only one.
-- Assumes nothing.
use mathlib.Core.Path.{◌≡◌, refl, sym, ap, ap₂, ◌∙◌}
use Prim.Native.Nat.{ℕ, suc, ◌+◌, ◌-◌, ◌≤◌, ◌<◌}
use native.Mathlib.Nat.{zero-add, add-zero, add_assoc}
use native.Mathlib.Numerals.{add-one}
use native.Mathlib.Omega.{arith}
use mathlib.Core.Bool.{Bool, true, false}
use Rattle.std.specs.Prelude.{None, Some}
use mathlib.Core.List.{List, [], ◌∷◌, ◌++◌, map, append_assoc}
use lib.ListN.{length, take, drop, get_or, length-append, length-take, length-map, take-append-drop, get_or-map}
use lib.Seq.{split_at}
use Rattle.columns.specs.Lists.{pick, range}
use Rattle.cycle.specs.Tree.{Plan, last_tag}
use Rattle.cycle.specs.Layouts.{Slot, slot, sent, slots}
use Rattle.cycle.specs.Cycle.{is_data, last_sent}
use Rattle.cycle.specs.Cycle.{first_place}
use Rattle.cycle.specs.Inner.Held.{bare, StandsAt, last_sent_in, last_sent_before, last_of}
use Rattle.cycle.proofs.Sequences.Sequence.{data_count, Keeps}
use Rattle.cycle.proofs.Basics.Ranges.{length_range, get_d_range}
use Rattle.cycle.proofs.Sequences.Pieces.{occurs_slot, data_level, count_append}
use Rattle.cycle.proofs.Reach.NextOccurrence.{first_hit}
use Rattle.cycle.proofs.Sequences.DataOnce.{none_before}

-- ---- counts

pub count_bare : (t : Plan) (xs : List Slot) → data_count t (map bare xs) ≡ data_count t xs
unfolding bare slot is_data
count_bare t [] = refl
count_bare t (x ∷ xs) = ap (λ c. pick (is_data t x) 1 0 + c) (count_bare t xs)

-- among the first of some buckets that hold no data, there is none
pub quiet_take : (t : Plan) (n : ℕ) (xs : List Slot) → data_count t xs ≡ 0 → data_count t (take n xs) ≡ 0
quiet_take t n xs h =
    let e : data_count t (take n xs ++ drop n xs) ≡ 0 = ap (data_count t) (take-append-drop n xs) ∙ h in
    let f = count_append t (take n xs) (drop n xs) in
    omega arith

module _ (t : Plan) (keeps : Keeps t) where
  -- ---- the tag of the last line sent

  last_step :
      (before : List Slot) (x : Slot) (rest : List Slot) → slots t ≡ before ++ (x ∷ rest) →
      last_sent t x (last_of t (data_count t before)) ≡ last_of t (data_count t before + pick (is_data t x) 1 0)
  unfolding last_sent
  last_step before x rest splits = by_test (is_data t x) refl
    where
      by_test :
          (b : Bool) → is_data t x ≡ b →
          pick (is_data t x) (Some (last_tag t x.place)) (last_of t (data_count t before)) ≡ last_of t (data_count t before + pick (is_data t x) 1 0)
      by_test true e =
          let s : ℕ = data_count t before in
          let place : x.place ≡ s = keeps.in_order before x rest splits e in
          rw (e, add-one s, place)
      by_test false e = rw (e, add-zero (data_count t before))

  last_among :
      (before xs rest : List Slot) → slots t ≡ before ++ (xs ++ rest) →
      last_sent_in t (last_of t (data_count t before)) xs ≡ last_of t (data_count t before + data_count t xs)
  last_among before [] rest splits = ap (last_of t) (sym (add-zero (data_count t before)))
  last_among before (x ∷ xs) rest splits =
      let s : ℕ = data_count t before in
      let one : ℕ = pick (is_data t x) 1 0 in
      let more : slots t ≡ (before ++ (x ∷ [])) ++ (xs ++ rest) = splits ∙ sym (append_assoc before (x ∷ []) (xs ++ rest)) in
      let count : data_count t (before ++ (x ∷ [])) ≡ s + one = count_append t before (x ∷ []) ∙ ap (λ y. s + y) (add-zero one) in
      ap (λ o. last_sent_in t o xs) (last_step before x (xs ++ rest) splits ∙ ap (last_of t) (sym count))
      ∙ last_among (before ++ (x ∷ [])) xs rest more
      ∙ ap (last_of t) (ap (λ y. y + data_count t xs) count ∙ add_assoc s one (data_count t xs))

  pub last_behind : (xs rest : List Slot) → slots t ≡ xs ++ rest → last_sent_in t None xs ≡ last_of t (data_count t xs)
  last_behind xs rest splits = last_among [] xs rest splits ∙ ap (last_of t) (zero-add (data_count t xs))

  pub last_sent_lem : (x : ℕ) → last_sent_before t x ≡ last_of t (data_count t (take x (slots t)))
  unfolding last_sent_before
  last_sent_lem x = last_behind (take x (slots t)) (drop x (slots t)) (sym (take-append-drop x (slots t)))

  -- ---- the first place of a data bucket

  pub data_first :
      (a first last q : ℕ) → StandsAt t a (sent t (range first last)) → first ≤ q → q < last → first_place t (t.k + 1) q ≡ a + (q - first)
  unfolding bare slot sent
  data_first a first last q s low high =
      let n : ℕ = q - first in
      let z : Slot = slot (t.k + 1) 0 in
      let middle : List Slot = s.middle in
      let size : length middle ≡ last - first =
      sym (length-map middle bare) ∙ ap length s.alike ∙ length-map (range first last) (λ x. slot (t.k + 1) x) ∙ length_range first last in
      let x : Slot = get_or middle n z in
      let is : bare x ≡ slot (t.k + 1) q =
      sym (get_or-map bare middle n z)
      ∙ ap (λ ys. get_or ys n (bare z)) s.alike
      ∙ get_or-map (λ y. slot (t.k + 1) y) (range first last) n 0
      ∙ ap (slot (t.k + 1)) (get_d_range 0 first last n (omega arith) ∙ (let e : first + n ≡ q = omega arith in e)) in
      let front : List Slot = s.before ++ take n middle in
      let splits : slots t ≡ front ++ (x ∷ (drop (suc n) middle ++ s.behind)) =
      s.splits
      ∙ ap (λ ys. s.before ++ (ys ++ s.behind)) (split_at middle n z (omega arith))
      ∙ regroup s.before (take n middle) x (drop (suc n) middle) s.behind in
      let level : x.level ≡ t.k + 1 = ap (λ y. y.level) is in
      let place : x.place ≡ q = ap (λ y. y.place) is in
      let order : x.place ≡ data_count t front = keeps.in_order front x (drop (suc n) middle ++ s.behind) splits (data_level t x level) in
      let none = none_before t keeps front (x ∷ (drop (suc n) middle ++ s.behind)) splits q (omega arith) in
      let long : length front ≡ a + n = length-append s.before (take n middle) ∙ ap₂ (λ u v. u + v) s.here (length-take n middle ∙ omega arith) in
      first_hit t (t.k + 1) q front x (drop (suc n) middle ++ s.behind) splits none (occurs_slot (t.k + 1) q x level place) ∙ long
    where
      regroup : (u v : List Slot) (x : Slot) (w y : List Slot) → u ++ ((v ++ (x ∷ w)) ++ y) ≡ (u ++ v) ++ (x ∷ (w ++ y))
      regroup u v x w y = simp append_assoc
