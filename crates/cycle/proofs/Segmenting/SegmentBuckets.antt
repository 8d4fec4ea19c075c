-- Buckets that stand in a cycle: a part of a segment stands at the sum of the lengths before it; where the next segment starts;
-- the tag of the last line sent; the first place of a data bucket.
-- Assumes nothing.
use mathlib.Core.Path.{◌≡◌, refl, sym, ap, ap₂, ◌∙◌}
use Prim.Native.Nat.{ℕ, zero, suc, ◌+◌, ◌-◌, ◌<◌}
use native.Mathlib.Nat.{zero-add, suc-add, add-suc}
use native.Mathlib.Omega.{arith}
use mathlib.Core.Bool.{false}
use mathlib.Core.List.{List, [], ◌∷◌, ◌++◌, map, map-append, append_assoc}
use lib.ListN.{length, take, drop, length-append, length-take, length-drop, length-map, take-append-drop}
use lib.Seq.{take_at, drop_at, drop-append-le, drop-append-add}
use Rattle.columns.specs.Lists.{joined, span, range}
use Rattle.cycle.specs.Tree.{Plan, children, above}
use Rattle.buckets.proofs.ListParts.{map_take, map_drop}
use Rattle.cycle.specs.Layouts.{Slot, slot, segment, subtree, sent, path, path_top, slots}
use Rattle.cycle.specs.Cycle.{distance_to, to_next_segment}
use Rattle.cycle.specs.Judging.{tree_at}
use Rattle.cycle.specs.Inner.Held.{bare, StandsAt}

-- ---- buckets that start no segment

pub bare_slot : (i j : ℕ) → bare (slot i j) ≡ slot i j
unfolding bare slot
bare_slot i j = refl

pub bare_slots : (f g : ℕ → ℕ) (xs : List ℕ) → map bare (map (λ x. slot (f x) (g x)) xs) ≡ map (λ x. slot (f x) (g x)) xs
bare_slots f g [] = refl
bare_slots f g (x ∷ xs) = ap₂ (λ y ys. y ∷ ys) (bare_slot (f x) (g x)) (bare_slots f g xs)

pub bare_append : (xs ys : List Slot) → map bare xs ≡ xs → map bare ys ≡ ys → map bare (xs ++ ys) ≡ xs ++ ys
bare_append xs ys e f = map-append bare xs ys ∙ ap₂ (λ x y. x ++ y) e f

pub bare_joined : (f : ℕ → List Slot) → ((c : ℕ) → map bare (f c) ≡ f c) → (xs : List ℕ) → map bare (joined f xs) ≡ joined f xs
bare_joined f h [] = refl
bare_joined f h (x ∷ xs) = bare_append (f x) (joined f xs) (h x) (bare_joined f h xs)

pub bare_subtree : (t : Plan) (h i j : ℕ) → map bare (subtree t h i j) ≡ subtree t h i j
bare_subtree t zero i j = refl
bare_subtree t (suc h) i j =
    ap₂ (λ x xs. x ∷ xs) (bare_slot i j) (bare_joined (λ c. subtree t h (suc i) c) (λ c. bare_subtree t h (suc i) c) (children t i j))

pub bare_tree : (t : Plan) (e j : ℕ) → map bare (tree_at t e j) ≡ tree_at t e j
unfolding tree_at
bare_tree t e j = bare_subtree t e (t.k + 1 - e) j

pub bare_sent : (t : Plan) (qs : List ℕ) → map bare (sent t qs) ≡ sent t qs
unfolding sent
bare_sent t qs = bare_slots (λ q. t.k + 1) (λ q. q) qs

pub bare_path : (t : Plan) (b : ℕ) → map bare (path t b) ≡ path t b
unfolding path
bare_path t b = bare_slots (λ i. i) (λ i. above t.n (t.copies + 1 - i) b) (range (path_top t.n t.copies b) (t.copies + 1))

-- the mark at a segment's start aside, its buckets
pub bare_segment : (xs : List Slot) → map bare (segment xs) ≡ map bare xs
unfolding bare
bare_segment [] = refl
bare_segment (x ∷ xs) = refl

pub bare_drop : (n : ℕ) (xs : List Slot) → map bare xs ≡ xs → map bare (drop n xs) ≡ drop n xs
bare_drop n xs e = map_drop bare n xs ∙ ap (drop n) e

-- ---- a part of a stretch stands at the sum of the lengths before it

pub part_stands :
    (t : Plan) (before all behind : List Slot) → slots t ≡ before ++ (all ++ behind) →
    (a b c : List Slot) → map bare all ≡ a ++ (b ++ c) → StandsAt t (length before + length a) b
part_stands t before all behind splits a b c alike =
    let n : ℕ = length a in
    let m : ℕ = length b in
    let size : length all ≡ n + (m + length c) =
    sym (length-map all bare) ∙ ap length alike ∙ length-append a (b ++ c) ∙ ap (λ x. n + x) (length-append b c) in
    let front : length (take n all) ≡ n = length-take n all ∙ omega arith in
    let whole : all ≡ take n all ++ (take m (drop n all) ++ drop m (drop n all)) =
    sym (take-append-drop n all) ∙ ap (λ xs. take n all ++ xs) (sym (take-append-drop m (drop n all))) in
    record {
      before = before ++ take n all;
      middle = take m (drop n all);
      behind = drop m (drop n all) ++ behind;
      splits =
          splits
          ∙ ap (λ xs. before ++ (xs ++ behind)) whole
          ∙ regroup before (take n all) (take m (drop n all)) (drop m (drop n all)) behind;
      here = length-append before (take n all) ∙ ap (λ x. length before + x) front;
      alike =
          map_take bare m (drop n all)
          ∙ ap (take m) (map_drop bare n all ∙ ap (drop n) alike ∙ drop_at a (b ++ c) n refl)
          ∙ take_at b c m refl;
    }
  where
    regroup : (u v w x y : List Slot) → u ++ ((v ++ (w ++ x)) ++ y) ≡ (u ++ v) ++ (w ++ (x ++ y))
    regroup u v w x y = simp append_assoc

-- ---- the next segment's start

abbrev pub to_start : List Slot → ℕ
to_start xs = distance_to (λ x. x.starts) xs

pub starts_past : (xs ys : List Slot) → map bare xs ≡ xs → to_start (xs ++ ys) ≡ length xs + to_start ys
unfolding bare slot
starts_past [] ys e = sym (zero-add (to_start ys))
starts_past (x ∷ xs) ys e =
    let head : bare x ≡ x = cc in
    let tail : map bare xs ≡ xs = cc in
    let none : x.starts ≡ false = sym (ap (λ y. y.starts) head) in
    rw (none, starts_past xs ys tail) (sym (suc-add (length xs) (to_start ys)))

pub starts_here : (xs ys : List Slot) → 0 < length xs → to_start (segment xs ++ ys) ≡ 1
starts_here [] ys h = absurd (omega arith)
starts_here (x ∷ xs) ys h = refl

-- the next segment starts at once, or the next cycle does
pub starts_joined :
    (f : ℕ → List Slot) → ((b : ℕ) (more : List Slot) → to_start (f b ++ more) ≡ 1) → (a c : ℕ) → to_start (joined f (span a c)) ≡ 1
starts_joined f each a zero = refl
starts_joined f each a (suc c) = each a (joined f (span (suc a) c))

-- a segment starts with its first bucket
pub own_start :
    (t : Plan) (before xs behind : List Slot) → slots t ≡ before ++ (segment xs ++ behind) → 0 < length xs →
    to_next_segment (drop (length before) (slots t)) ≡ 1
unfolding to_next_segment
own_start t before xs behind splits some =
    ap (λ zs. to_start (drop (length before) zs)) splits
    ∙ ap to_start (drop_at before (segment xs ++ behind) (length before) refl)
    ∙ starts_here xs behind some

pub next_start :
    (t : Plan) (before xs behind : List Slot) → slots t ≡ before ++ (segment xs ++ behind) → map bare xs ≡ xs →
    to_start behind ≡ 1 → (y : ℕ) → y < length xs → to_next_segment (drop (suc (length before + y)) (slots t)) ≡ length xs - y
unfolding to_next_segment
next_start t before [] behind splits e opens y h = absurd (omega arith)
next_start t before (x ∷ xs) behind splits e opens y h =
    let tail : map bare xs ≡ xs = cc in
    let at : suc (length before + y) ≡ length before + suc y = sym (add-suc (length before) y) in
    let rest : drop (suc (length before + y)) (slots t) ≡ drop y xs ++ behind =
    ap₂ (λ n zs. drop n zs) at splits
    ∙ drop-append-add before (segment (x ∷ xs) ++ behind) (suc y)
    ∙ drop-append-le y xs behind (omega arith) in
    ap to_start rest
    ∙ starts_past (drop y xs) behind (bare_drop y xs tail)
    ∙ rw (opens, length-drop y xs) (omega arith)
