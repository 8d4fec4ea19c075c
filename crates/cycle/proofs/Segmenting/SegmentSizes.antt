-- How long segments are, where each starts, and N: in layout 1 all segments before the last are full, in layout 2 each has the
-- whole tree.
-- Assumes nothing.
use mathlib.Core.Path.{◌≡◌, refl, sym, ap, ap₂, ◌∙◌}
use mathlib.Core.Logic.{⊎_elim}
use Prim.Native.Nat.{ℕ, zero, suc, ◌+◌, ◌-◌, ◌*◌, ◌/◌, ◌^◌, ◌≤◌, ◌<◌, min, max}
use native.Mathlib.Nat.{zero-mul, zero-div, suc-mul, mul-add, mul-div_cancel_left, one-le-pow, eq-zero-or-pos}
use native.Mathlib.Numerals.{add-one}
use native.Mathlib.Omega.{arith}
use mathlib.Core.List.{List, [], ◌∷◌, ◌++◌, append-nil}
use lib.ListN.{length, length-append, length-map}
use borrow.Author.Tests.{eq-eqb, ne_eqb}
use Rattle.columns.specs.Lists.{joined, range, up}
use Rattle.columns.proofs.Joined.{joined_append}
use Rattle.cycle.specs.Tree.{Plan, width, data_under}
use Rattle.cycle.specs.Layouts.{Slot, slot, segment, tree_below, sent, path, distributed_segment, distributed, whole_segment, one_m, slots}
use Rattle.cycle.specs.Cycle.{cycle_size}
use Rattle.cycle.specs.Judging.{full_size, tree_at}
use Rattle.cycle.specs.Inner.Held.{segment_count}
use Rattle.cycle.proofs.Basics.Ranges.{length_range, range_snoc}
use Rattle.cycle.proofs.Trees.TreeLaws.{up_lt, width_up, data_under_range}
use Rattle.cycle.proofs.Trees.TreeSizes.{tree_full, tree_empty}
use Rattle.cycle.proofs.Sequences.PathSizes.{climbs, climbs_none, climbs_next, length_path, up_is, up_none}
use Rattle.cycle.proofs.Sequences.OneM.{part_start, part_step}

pub length_segment : (xs : List Slot) → length (segment xs) ≡ length xs
length_segment [] = refl
length_segment (x ∷ xs) = refl

pub length_sent : (t : Plan) (qs : List ℕ) → length (sent t qs) ≡ length qs
unfolding sent
length_sent t qs = length-map qs (λ q. slot (t.k + 1) q)

-- one part more of what is joined
pub length_joined_next :
    (f : ℕ → List Slot) (b : ℕ) → length (joined f (range 0 (suc b))) ≡ length (joined f (range 0 b)) + length (f b)
length_joined_next f b =
    ap (λ xs. length (joined f xs)) (range_snoc 0 b (omega arith))
    ∙ ap length (joined_append f (range 0 b) (b ∷ []))
    ∙ length-append (joined f (range 0 b)) (f b ++ [])
    ∙ ap (λ xs. length (joined f (range 0 b)) + length xs) (append-nil (f b))

-- ---- layout 1

-- the height of B, and how many data buckets lie under a full one
abbrev pub block_height : Plan → ℕ
block_height t = t.k - t.copies

abbrev pub block_wide : Plan → ℕ
block_wide t = t.n ^ block_height t

module _ (t : Plan) (pos : 0 < t.n) (fits : t.copies + 1 ≤ t.k) where
  pub block_tree : (b : ℕ) → tree_below t (t.copies + 1) b ≡ tree_at t (block_height t) b
  unfolding tree_below tree_at
  block_tree b =
      let e : t.k + 1 - (t.copies + 1) ≡ block_height t = omega arith in
      let f : t.k + 1 - block_height t ≡ t.copies + 1 = omega arith in
      rw (e, f)

  pub block_under : (b : ℕ) → data_under t (t.copies + 1) b ≡ range (b * block_wide t) (min t.d ((b + 1) * block_wide t))
  block_under b =
      let e : t.k + 1 - (t.copies + 1) ≡ block_height t = omega arith in
      rw e at (data_under_range t pos (t.copies + 1) b fits)

  pub length_block :
      (b : ℕ) →
      length (distributed_segment t b)
      ≡ length (path t b) + (length (tree_at t (block_height t) b) + (min t.d ((b + 1) * block_wide t) - b * block_wide t))
  unfolding distributed_segment
  length_block b =
      let tree : List Slot = tree_below t (t.copies + 1) b in
      let data_sent : List Slot = sent t (data_under t (t.copies + 1) b) in
      let below : length data_sent ≡ min t.d ((b + 1) * block_wide t) - b * block_wide t =
      length_sent t (data_under t (t.copies + 1) b)
      ∙ ap length (block_under b)
      ∙ length_range (b * block_wide t) (min t.d ((b + 1) * block_wide t)) in
      length_segment (path t b ++ (tree ++ data_sent))
      ∙ length-append (path t b) (tree ++ data_sent)
      ∙ ap (λ x. length (path t b) + x) (length-append tree data_sent ∙ ap₂ (λ x y. x + y) (ap length (block_tree b)) below)

  -- how many segments
  pub count_blocks : t.layout ≡ 1 → segment_count t ≡ max 1 (up t.d (block_wide t))
  unfolding segment_count
  count_blocks one =
      let e : t.k + 1 - (t.copies + 1) ≡ block_height t = omega arith in
      rw (eq-eqb t.layout 1 one, width_up t pos (t.copies + 1), e)

  -- segment b begins inside the data
  pub block_begins : t.layout ≡ 1 → (b : ℕ) → b < segment_count t → b * block_wide t < max 1 t.d
  block_begins one b h =
      let count = count_blocks one in
      let p : 0 < block_wide t = one-le-pow (block_height t) t.n pos in
      ⊎_elim
      (λ (z : b ≡ 0). let none : b * block_wide t ≡ 0 = ap (λ x. x * block_wide t) z ∙ zero-mul (block_wide t) in omega arith)
      (λ (l : 0 < b). let inside = up_lt t.d (block_wide t) b p (omega arith) in omega arith)
      (eq-zero-or-pos b)

  -- where segment b starts: those before it are full
  pub length_blocks :
      (b : ℕ) → b * block_wide t ≤ t.d →
      length (joined (distributed_segment t) (range 0 b))
      ≡ b * (block_wide t + full_size t.n (block_height t)) + climbs t.n t.copies b
  length_blocks zero h = sym (rw (zero-mul, climbs_none t.n pos t.copies))
  length_blocks (suc b) h =
      let m : ℕ = block_wide t in
      let full : ℕ = full_size t.n (block_height t) in
      let wide : suc b * m ≡ b * m + m = suc-mul b m in
      let rec = length_blocks b (omega arith) in
      let tree : length (tree_at t (block_height t) b) ≡ full = tree_full t pos (block_height t) b (omega arith) h in
      let own = length_block b in
      let way = length_path t b in
      let climb = climbs_next t.n pos t.copies b in
      let next : (b + 1) * m ≡ b * m + m = ap (λ x. x * m) (add-one b) ∙ wide in
      let sum : suc b * (m + full) ≡ b * (m + full) + (m + full) = suc-mul b (m + full) in
      length_joined_next (distributed_segment t) b ∙ omega arith

  -- N
  pub size_blocks :
      t.layout ≡ 1 → 0 < t.d → (last : ℕ) → last * block_wide t < t.d → t.d ≤ suc last * block_wide t →
      cycle_size t
      ≡ t.d + (climbs t.n t.copies (suc last) + (last * full_size t.n (block_height t) + length (tree_at t (block_height t) last)))
  unfolding cycle_size slots distributed
  size_blocks one some last low high =
      let m : ℕ = block_wide t in
      let full : ℕ = full_size t.n (block_height t) in
      let p : 0 < m = one-le-pow (block_height t) t.n pos in
      let wide : suc last * m ≡ last * m + m = suc-mul last m in
      let next : (last + 1) * m ≡ last * m + m = ap (λ x. x * m) (add-one last) ∙ wide in
      let e : t.k + 1 - (t.copies + 1) ≡ block_height t = omega arith in
      let count : max 1 (width t (t.copies + 1)) ≡ suc last =
      rw (width_up t pos (t.copies + 1), e, up_is t.d m last p low high) (omega arith) in
      let start = length_blocks last (omega arith) in
      let own = length_block last in
      let way = length_path t last in
      let climb = climbs_next t.n pos t.copies last in
      let sum : last * (m + full) ≡ last * m + last * full = mul-add last m full in
      rw (eq-eqb t.layout 1 one, count) (length_joined_next (distributed_segment t) last ∙ omega arith)

  -- the empty list has one root, where it has no levels above B
  pub size_empty : t.layout ≡ 1 → t.d ≡ 0 → t.copies ≡ 0 → cycle_size t ≡ 1
  unfolding cycle_size slots distributed
  size_empty one none bare =
      let w : width t (t.copies + 1) ≡ 0 =
      rw (width_up t pos (t.copies + 1), none) (up_none (t.n ^ (t.k + 1 - (t.copies + 1))) (one-le-pow (t.k + 1 - (t.copies + 1)) t.n pos)) in
      let count : max 1 (width t (t.copies + 1)) ≡ 1 = omega arith in
      let own = length_block 0 in
      let way = length_path t 0 in
      let tree = tree_empty t pos (block_height t) 0 (omega arith) none (omega arith) in
      rw (eq-eqb t.layout 1 one, count) (length_joined_next (distributed_segment t) 0 ∙ omega arith)

-- ---- layout 2

pub count_wholes : (t : Plan) → (t.layout ≡ 1 → ⊥) → segment_count t ≡ t.copies
unfolding segment_count
count_wholes t other = rw (ne_eqb t.layout 1 other)

module _ (t : Plan) (some : 0 < t.copies) where
  pub length_whole : (i : ℕ) → length (whole_segment t i) ≡ length (tree_at t t.k 0) + (part_start t (suc i) - part_start t i)
  unfolding whole_segment tree_below tree_at
  length_whole i =
      let e : t.k + 1 - 1 ≡ t.k = omega arith in
      let f : t.k + 1 - t.k ≡ 1 = omega arith in
      let tree : List Slot = tree_below t 1 0 in
      let data_sent : List Slot = sent t (range (part_start t i) (part_start t (suc i))) in
      length_segment (tree ++ data_sent)
      ∙ length-append tree data_sent
      ∙ ap₂ (λ x y. x + y) (rw (e, f)) (length_sent t (range (part_start t i) (part_start t (suc i))) ∙ length_range (part_start t i) (part_start t (suc i)))

  -- where part i starts
  pub length_wholes : (i : ℕ) → length (joined (whole_segment t) (range 0 i)) ≡ i * length (tree_at t t.k 0) + part_start t i
  length_wholes zero =
      let e : 0 * t.d / t.copies ≡ 0 = ap (λ x. x / t.copies) (zero-mul t.d) ∙ zero-div t.copies in
      let f : 0 * length (tree_at t t.k 0) ≡ 0 = zero-mul (length (tree_at t t.k 0)) in
      omega arith
  length_wholes (suc i) =
      let tree : ℕ = length (tree_at t t.k 0) in
      let rec = length_wholes i in
      let own = length_whole i in
      let grows = part_step t i some in
      let sum : suc i * tree ≡ i * tree + tree = suc-mul i tree in
      length_joined_next (whole_segment t) i ∙ omega arith

  pub parts_end : part_start t t.copies ≡ t.d
  parts_end = mul-div_cancel_left t.d some

  -- N
  pub size_wholes : (t.layout ≡ 1 → ⊥) → cycle_size t ≡ t.d + t.copies * length (tree_at t t.k 0)
  unfolding cycle_size slots one_m
  size_wholes other = rw (ne_eqb t.layout 1 other) (length_wholes t.copies ∙ (let e = parts_end in omega arith))
