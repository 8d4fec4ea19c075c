-- Layout 1: the first occurrence of a bucket of a level up to B's is on the path to the first B under it.
-- Assumes nothing.
use mathlib.Core.Path.{◌≡◌, sym, ap, ◌∙◌}
use mathlib.Core.Logic.{inr, ⊎_elim}
use Prim.Native.Nat.{ℕ, zero, suc, ◌+◌, ◌-◌, ◌*◌, ◌^◌, ◌≤◌, ◌<◌, max}
use native.Mathlib.Nat.{add-zero, add-suc, zero-mul, mul_assoc, eq-zero-or-pos, eq-or-lt_of_le}
use native.Mathlib.Omega.{arith}
use mathlib.Core.Bool.{Bool, true, false}
use mathlib.Core.List.{[]}
use lib.Dec.{eqb}
use lib.Pow.{pow-add}
use borrow.Author.Tests.{eq-eqb}
use Rattle.columns.specs.Lists.{pick, any}
use Rattle.cycle.specs.Tree.{Plan, width, above}
use Rattle.cycle.specs.Layouts.{slots, lowest, path_top}
use Rattle.cycle.specs.Cycle.{occurs}
use Rattle.cycle.specs.Cycle.{first_place}
use Rattle.cycle.proofs.Sequences.Sequence.{Sound}
use Rattle.cycle.proofs.Trees.TreeLaws.{above_first, above_mono, lt_above, lt_width, width_lt, width_root}
use Rattle.cycle.proofs.Sequences.Paths.{path_top_first}
use Rattle.cycle.proofs.Sequences.Pieces.{occurs_slot}
use Rattle.cycle.proofs.Sequences.Blocks.{block_level, block_count}
use Rattle.cycle.proofs.Segmenting.Positions.{At}
use Rattle.cycle.proofs.Reach.Distances.{some_hit}
use Rattle.cycle.proofs.Reach.NextOccurrence.{first_hit, to_send}
use Rattle.cycle.proofs.Buckets.TreeEntries.{other_level}
use Rattle.cycle.proofs.Reach.Occurrences.{top_of, none_segments, place_on, at_level, none_before_level}

-- ---- where a path begins

-- where b and its forerunner have the same bucket of level i + 1 above them, the path begins there or lower
pub lowest_stays :
    (n r b i m : ℕ) → above n (r - i) (b - 1) ≡ above n (r - i) b → i < lowest n r b (suc i + m)
lowest_stays n r b i zero e = rw (add-zero, eq-eqb (above n (r - i) (b - 1)) (above n (r - i) b) e) (omega arith)
lowest_stays n r b i (suc m) e =
    let x : ℕ = suc i + m in
    rw add-suc (by_test (eqb (above n (r - x) (b - 1)) (above n (r - x) b)) (lowest_stays n r b i m e))
  where
    by_test : (c : Bool) → i < lowest n r b (suc i + m) → i < pick c (suc (suc i + m)) (lowest n r b (suc i + m))
    by_test true h = omega arith
    by_test false h = h

pub path_top_stays : (n r b i : ℕ) → 0 < b → i < r → above n (r - i) (b - 1) ≡ above n (r - i) b → i < path_top n r b
path_top_stays n r zero i pos h e = absurd (omega arith)
path_top_stays n r (suc b) i pos h e =
    let all : suc i + (r - suc i) ≡ r = omega arith in
    let l : i < lowest n r (suc b) (suc i + (r - suc i)) = lowest_stays n r (suc b) i (r - suc i) e in
    rw all at l

-- below the level where a path begins, b has another bucket above it than its forerunner
pub path_top_parts :
    (n r b i : ℕ) → 0 < n → 0 < b → i ≤ r → path_top n r b ≤ i → above n (r - i) (b - 1) < above n (r - i) b
path_top_parts n r b i pos some h top =
    ⊎_elim
    (λ (e : i ≡ r). let z : r - i ≡ 0 = omega arith in rw z (omega arith))
    (λ (l : i < r).
    ⊎_elim
    (λ (same : above n (r - i) (b - 1) ≡ above n (r - i) b). let g = path_top_stays n r b i some l same in absurd (omega arith))
    (λ (g : above n (r - i) (b - 1) < above n (r - i) b). g)
    (eq-or-lt_of_le (above_mono n (r - i) pos (b - 1) b (omega arith))))
    (eq-or-lt_of_le h)

-- ---- the first B under a bucket

module _ (t : Plan) (sound : Sound t) (one : t.layout ≡ 1) where
  grows : 0 < t.n
  grows = omega (arith, sound.grows)

  -- the first B under bucket c of level l
  abbrev pub first_under : ℕ → ℕ → ℕ
  first_under l c = c * t.n ^ (block_level t - l)

  module _ (l c : ℕ) (low : 1 ≤ l) (high : l ≤ block_level t) (inside : c < max 1 (width t l)) where
    pub first_inside : first_under l c < block_count t
    first_inside =
        ⊎_elim
        (λ (z : c ≡ 0). let e : first_under l c ≡ 0 = ap (λ y. y * t.n ^ (block_level t - l)) z ∙ zero-mul (t.n ^ (block_level t - l)) in omega arith)
        (λ (p : 0 < c).
        let s : c * t.n ^ (t.k + 1 - l) < t.d = width_lt t grows l c (omega arith) in
        let height : t.k + 1 - l ≡ (block_level t - l) + (t.k + 1 - block_level t) = omega (arith, sound.path_fits one) in
        let power : t.n ^ (t.k + 1 - l) ≡ t.n ^ (block_level t - l) * t.n ^ (t.k + 1 - block_level t) =
        ap (λ y. t.n ^ y) height ∙ pow-add t.n (block_level t - l) (t.k + 1 - block_level t) in
        let whole : c * t.n ^ (t.k + 1 - l) ≡ first_under l c * t.n ^ (t.k + 1 - block_level t) =
        ap (λ y. c * y) power ∙ sym (mul_assoc c (t.n ^ (block_level t - l)) (t.n ^ (t.k + 1 - block_level t))) in
        let w = lt_width t grows (block_level t) (first_under l c) (omega arith) in
        omega arith)
        (eq-zero-or-pos c)

    -- its path begins above level l, unless it is the cycle's first
    pub first_turn : 0 < c → (2 ≤ l) × (top_of t (first_under l c) ≤ l - 1)
    first_turn p =
        let low' : 2 ≤ l =
        ⊎_elim
        (λ (e : 1 ≡ l).
        let w : width t 1 ≤ 1 = width_root t grows sound.holds in
        let w' : width t l ≤ 1 = rw (sym e) w in
        absurd (omega arith))
        (λ (g : 1 < l). g)
        (eq-or-lt_of_le low) in
        let e : t.copies - (l - 1) ≡ block_level t - l = omega arith in
        let h : path_top t.n t.copies (c * t.n ^ (t.copies - (l - 1))) ≤ l - 1 =
        path_top_first t.n t.copies c (l - 1) grows p (omega arith) (omega arith) in
        (low', rw e at h)

    pub first_top : top_of t (first_under l c) ≤ l
    first_top =
        ⊎_elim
        (λ (z : c ≡ 0).
        let e : first_under l c ≡ 0 = ap (λ y. y * t.n ^ (block_level t - l)) z ∙ zero-mul (t.n ^ (block_level t - l)) in
        rw e low)
        (λ (p : 0 < c). let h = first_turn p in omega (arith, h.1))
        (eq-zero-or-pos c)

    pub first_count : first_under l c + suc (block_count t - suc (first_under l c)) ≡ block_count t
    first_count = omega (arith, first_inside)

    abbrev pub first_at : At t (place_on t (first_under l c) l) l (above t.n (block_level t - l) (first_under l c)) []
    first_at = at_level t sound one (first_under l c) l (block_count t - suc (first_under l c)) first_top high first_count

    first_occurs : occurs l c first_at.it ≡ true
    first_occurs =
        occurs_slot l c first_at.it first_at.level_is (first_at.place_is ∙ above_first t.n (block_level t - l) grows c)

    pub first_there : any (occurs l c) (slots t) ≡ true
    first_there = rw first_at.splits (some_hit (occurs l c) first_at.before first_at.it (to_send first_at) first_occurs)

    -- "the first position": up to the first B under it, and down its path
    pub first_place_lem : first_place t l c ≡ place_on t (first_under l c) l
    first_place_lem =
        first_hit t l c first_at.before first_at.it (to_send first_at) first_at.splits
        (none_before_level t sound one (first_under l c) l (block_count t - suc (first_under l c)) first_top high first_count l c
        (none_segments t sound one l c high (first_under l c) 0
        (λ b u v.
        inr
        (λ e.
        let s : above t.n (block_level t - l) b < c = lt_above t.n (block_level t - l) grows c b (omega arith) in
        omega arith)))
        (λ y v. other_level l c y (above t.n (block_level t - y) (first_under l c)) (λ e. omega arith)))
        first_occurs
        ∙ first_at.here
