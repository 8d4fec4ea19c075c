-- Each layout's segments are laid out in its cycle: layout 1's behind the full ones before, layout 2's behind the parts before.
-- Assumes nothing.
use mathlib.Core.Path.{◌≡◌, refl, sym, ap, ap₂, subst, ◌∙◌}
use Prim.Native.Nat.{ℕ, zero, suc, ◌+◌, ◌-◌, ◌*◌, ◌/◌, ◌^◌, ◌≤◌, ◌<◌, min}
use native.Mathlib.Nat.{zero-mul, zero-div}
use native.Mathlib.Omega.{arith}
use mathlib.Core.List.{List, [], ◌∷◌, ◌++◌, append-nil}
use lib.ListN.{length, length-append}
use borrow.Author.Tests.{eq-eqb, ne_eqb}
use Rattle.columns.specs.Lists.{joined, range}
use Rattle.columns.proofs.Joined.{joined_append}
use Rattle.cycle.specs.Tree.{Plan}
use Rattle.cycle.specs.Layouts.{Slot, segment, subtree, tree_below, sent, path, distributed_segment, distributed, whole_segment, one_m, slots}
use Rattle.cycle.specs.Judging.{tree_at}
use Rattle.cycle.proofs.Sequences.Sequence.{Sound, data_count, Keeps}
use Rattle.cycle.proofs.Sequences.Keeping.{keeps}
use Rattle.cycle.proofs.Basics.Ranges.{range_snoc, range_cons, joined_range}
use Rattle.cycle.proofs.Sequences.Pieces.{count_append, count_sent, quiet_subtree}
use Rattle.cycle.proofs.Sequences.Blocks.{block_count, block_start, block_size, block_start_lem, count_block, quiet_path, count_segment}
use Rattle.cycle.proofs.Sequences.OneM.{part_start, part_step}
use Rattle.cycle.proofs.Segmenting.SegmentSizes.{block_height, block_wide, block_tree, block_under}
use Rattle.cycle.proofs.Segmenting.SegmentBuckets.{bare_tree, bare_path, to_start, starts_here, starts_joined}
use Rattle.cycle.proofs.Segmenting.SegmentAt.{SegmentAt, laid}

-- ---- what both layouts share

-- a cycle of c segments, split at segment b
pub split_segments :
    (f : ℕ → List Slot) (b c : ℕ) → b < c → joined f (range 0 c) ≡ joined f (range 0 b) ++ (f b ++ joined f (range (suc b) c))
split_segments f b c h =
    joined_range f 0 b c (omega arith) (omega arith) ∙ ap (λ xs. joined f (range 0 b) ++ joined f xs) (range_cons b c h)

-- how many data buckets are sent before segment b
pub count_segments :
    (t : Plan) (f : ℕ → List Slot) (time : ℕ → ℕ) (c : ℕ) → time 0 ≡ 0 → ((b : ℕ) → b < c → time b + data_count t (f b) ≡ time (suc b)) →
    (b : ℕ) → b ≤ c → data_count t (joined f (range 0 b)) ≡ time b
count_segments t f time c none each zero h = sym none
count_segments t f time c none each (suc b) h =
    ap (λ xs. data_count t (joined f xs)) (range_snoc 0 b (omega arith))
    ∙ ap (data_count t) (joined_append f (range 0 b) (b ∷ []))
    ∙ count_append t (joined f (range 0 b)) (f b ++ [])
    ∙ ap₂ (λ x y. x + y) (count_segments t f time c none each b (omega arith)) (ap (data_count t) (append-nil (f b)))
    ∙ each b (omega arith)

pub tree_some : (t : Plan) (e j : ℕ) → 1 ≤ e → 0 < length (tree_at t e j)
unfolding tree_at
tree_some t e j h =
    let up : e ≡ suc (e - 1) = omega arith in
    subst (λ x. 0 < length (subtree t x (t.k + 1 - e) j)) (sym up) (omega arith)

pub quiet_tree : (t : Plan) (e j : ℕ) → e ≤ t.k → data_count t (tree_at t e j) ≡ 0
unfolding tree_at
quiet_tree t e j h = quiet_subtree t e (t.k + 1 - e) j (omega arith)

-- a segment with a tree starts at once
pub segment_starts : (p q r more : List Slot) → 0 < length q → to_start (segment (p ++ (q ++ r)) ++ more) ≡ 1
segment_starts p q r more h =
    starts_here (p ++ (q ++ r)) more
    (let e = length-append p (q ++ r) in let f = length-append q r in omega arith)

-- ---- layout 1

pub slots_blocks : (t : Plan) → t.layout ≡ 1 → slots t ≡ joined (distributed_segment t) (range 0 (block_count t))
unfolding slots distributed
slots_blocks t one = rw (eq-eqb t.layout 1 one)

module _ (t : Plan) (sound : Sound t) (one : t.layout ≡ 1) where
  fits : t.copies + 1 ≤ t.k
  fits = sound.path_fits one

  pos : 0 < t.n
  pos = omega (arith, sound.grows)

  pub block_holds :
      (b : ℕ) →
      distributed_segment t b
      ≡ segment (path t b ++ (tree_at t (block_height t) b ++ sent t (range (b * block_wide t) (min t.d ((b + 1) * block_wide t)))))
  unfolding distributed_segment
  block_holds b = rw (block_tree t pos fits b, block_under t pos fits b)

  pub block_time : (b : ℕ) → b ≤ block_count t → data_count t (joined (distributed_segment t) (range 0 b)) ≡ block_start t b
  block_time b h =
      count_segments t (distributed_segment t) (block_start t) (block_count t) (rw zero-mul (omega arith))
      (λ x u. count_block t sound one x u) b h

  pub laid_block :
      (b : ℕ) → b < block_count t →
      SegmentAt t (length (joined (distributed_segment t) (range 0 b))) (path t b) (tree_at t (block_height t) b) (b * block_wide t)
      (min t.d ((b + 1) * block_wide t))
  laid_block b h =
      let f : ℕ → List Slot = distributed_segment t in
      let before : List Slot = joined f (range 0 b) in
      let behind : List Slot = joined f (range (suc b) (block_count t)) in
      let kept : Keeps t = keeps t sound in
      let e : t.k + 1 - (t.copies + 1) ≡ block_height t = omega (arith, fits) in
      let wide : block_size t ≡ block_wide t = ap (λ x. t.n ^ x) e in
      let begins : b * block_size t ≤ t.d = block_start_lem t sound one b h in
      let whole : min t.d (b * block_size t) ≡ b * block_size t = omega arith in
      let time : data_count t before ≡ b * block_wide t = block_time b (omega arith) ∙ whole ∙ ap (λ x. b * x) wide in
      laid t kept before (path t b) (tree_at t (block_height t) b) behind (b * block_wide t) (min t.d ((b + 1) * block_wide t))
      (slots_blocks t one ∙ split_segments f b (block_count t) h ∙ ap (λ xs. before ++ (xs ++ behind)) (block_holds b))
      (tree_some t (block_height t) b (omega (arith, fits)))
      (bare_path t b)
      (bare_tree t (block_height t) b)
      (quiet_path t sound one b)
      (quiet_tree t (block_height t) b (omega arith))
      time
      (starts_joined f
      (λ x more.
      ap (λ xs. to_start (xs ++ more)) (block_holds x)
      ∙ segment_starts (path t x) (tree_at t (block_height t) x) (sent t (range (x * block_wide t) (min t.d ((x + 1) * block_wide t)))) more
      (tree_some t (block_height t) x (omega (arith, fits))))
      (suc b) (block_count t - suc b))

-- ---- layout 2

pub slots_wholes : (t : Plan) → (t.layout ≡ 1 → ⊥) → slots t ≡ joined (whole_segment t) (range 0 t.copies)
unfolding slots one_m
slots_wholes t other = rw (ne_eqb t.layout 1 other)

module _ (t : Plan) (sound : Sound t) (other : t.layout ≡ 1 → ⊥) where
  parted : 0 < t.copies
  parted = sound.parts_some other

  pub whole_holds :
      (i : ℕ) → whole_segment t i ≡ segment ([] ++ (tree_at t t.k 0 ++ sent t (range (part_start t i) (part_start t (suc i)))))
  unfolding whole_segment tree_below tree_at
  whole_holds i =
      let e : t.k + 1 - 1 ≡ t.k = omega arith in
      let f : t.k + 1 - t.k ≡ 1 = omega arith in
      rw (e, f)

  pub whole_time : (i : ℕ) → data_count t (joined (whole_segment t) (range 0 i)) ≡ part_start t i
  whole_time i =
      count_segments t (whole_segment t) (part_start t) i
      (ap (λ x. x / t.copies) (zero-mul t.d) ∙ zero-div t.copies)
      (λ x u.
      let a : ℕ = part_start t x in
      let b : ℕ = part_start t (suc x) in
      let grows : a ≤ b = part_step t x parted in
      let tree : List Slot = tree_at t t.k 0 in
      let count : data_count t (whole_segment t x) ≡ b - a =
      ap (data_count t) (whole_holds x)
      ∙ count_segment t (tree ++ sent t (range a b))
      ∙ count_append t tree (sent t (range a b))
      ∙ ap₂ (λ y z. y + z) (quiet_tree t t.k 0 (omega arith)) (count_sent t a (b - a))
      ∙ omega arith in
      omega arith)
      i (omega arith)

  pub laid_whole :
      (i : ℕ) → i < t.copies →
      SegmentAt t (length (joined (whole_segment t) (range 0 i))) [] (tree_at t t.k 0) (part_start t i) (part_start t (suc i))
  laid_whole i h =
      let f : ℕ → List Slot = whole_segment t in
      let before : List Slot = joined f (range 0 i) in
      let behind : List Slot = joined f (range (suc i) t.copies) in
      let kept : Keeps t = keeps t sound in
      laid t kept before [] (tree_at t t.k 0) behind (part_start t i) (part_start t (suc i))
      (slots_wholes t other ∙ split_segments f i t.copies h ∙ ap (λ xs. before ++ (xs ++ behind)) (whole_holds i))
      (tree_some t t.k 0 sound.levelled)
      refl
      (bare_tree t t.k 0)
      refl
      (quiet_tree t t.k 0 (omega arith))
      (whole_time i)
      (starts_joined f
      (λ x more.
      ap (λ xs. to_start (xs ++ more)) (whole_holds x)
      ∙ segment_starts [] (tree_at t t.k 0) (sent t (range (part_start t x) (part_start t (suc x)))) more
      (tree_some t t.k 0 sound.levelled))
      (suc i) (t.copies - suc i))
