-- Layout 1's segments: how many data buckets are sent where each begins, and which index buckets it holds before its data.
-- Assumes nothing.
use mathlib.Core.Path.{◌≡◌, refl, ap, ◌∙◌}
use mathlib.Core.Logic.{⊎_elim}
use Prim.Native.Nat.{ℕ, zero, suc, ◌+◌, ◌-◌, ◌*◌, ◌^◌, ◌≤◌, ◌<◌, min, max}
use native.Mathlib.Nat.{add-zero, zero-mul, mul-le-mul_right, eq-zero-or-pos}
use native.Mathlib.Numerals.{add-one}
use native.Mathlib.Omega.{arith}
use mathlib.Core.List.{List, [], ◌∷◌, ◌++◌, map, append_assoc}
use Rattle.columns.specs.Lists.{span, range}
use Rattle.cycle.specs.Tree.{Plan, width, above, data_under}
use Rattle.cycle.specs.Layouts.{Slot, slot, segment, tree_below, sent, path_top, path, distributed_segment}
use Rattle.cycle.specs.Cycle.{occurs, is_data}
use Rattle.cycle.proofs.Sequences.Sequence.{Sound, data_count}
use Rattle.cycle.proofs.Basics.Ranges.{le_or_lt, map_joined}
use Rattle.cycle.proofs.Trees.TreeLaws.{above_zero, width_lt, width_covers, width_rooted, data_under_range}
use Rattle.cycle.proofs.Sequences.Paths.{path_top_high}
use Rattle.cycle.proofs.Sequences.Suffixes.{Reaches, here, there, reach_at, reach_past}
use Rattle.cycle.proofs.Sequences.Pieces.{slot_occurs, count_append, count_sent, count_slot, quiet_subtree, reach_joined}

-- the level of B, and how high it stands above the data
abbrev pub block_level : Plan → ℕ
block_level t = t.copies + 1

-- how many data buckets lie under a B that is full
abbrev pub block_size : Plan → ℕ
block_size t = t.n ^ (t.k + 1 - block_level t)

-- how many are sent where segment b begins
abbrev pub block_start : Plan → ℕ → ℕ
block_start t b = min t.d (b * block_size t)

-- how many segments
abbrev pub block_count : Plan → ℕ
block_count t = max 1 (width t (block_level t))

-- the bucket of level i on the path to B
abbrev pub on_path : Plan → ℕ → ℕ → Slot
on_path t b i = slot i (above t.n (t.copies + 1 - i) b)

-- behind the path: the tree below B, its data, and the rest
abbrev pub behind_path : Plan → ℕ → List Slot → List Slot
behind_path t b rest = tree_below t (block_level t) b ++ (sent t (data_under t (block_level t) b) ++ rest)

-- ---- the mark at a segment's start changes neither what occurs nor what is counted

pub count_segment : (t : Plan) (xs : List Slot) → data_count t (segment xs) ≡ data_count t xs
unfolding is_data
count_segment t [] = refl
count_segment t (x ∷ xs) = refl

pub reach_segment : {t : Plan} {q i j s : ℕ} (xs rest : List Slot) → Reaches t q i j s (xs ++ rest) → Reaches t q i j s (segment xs ++ rest)
unfolding is_data occurs
reach_segment [] rest r = r
reach_segment (x ∷ xs) rest (here h e) = here h e
reach_segment (x ∷ xs) rest (there r) = there r

pub quiet_on_path : (t : Plan) (b i m : ℕ) → i + m ≤ t.k + 1 → data_count t (map (on_path t b) (span i m)) ≡ 0
quiet_on_path t b i zero h = refl
quiet_on_path t b i (suc m) h =
    count_slot t i (above t.n (t.copies + 1 - i) b) (map (on_path t b) (span (suc i) m)) (omega arith)
    ∙ quiet_on_path t b (suc i) m (omega arith)

module _ (t : Plan) (sound : Sound t) (one : t.layout ≡ 1) where
  -- ---- where a segment begins

  pub block_start_lem : (b : ℕ) → b < block_count t → b * block_size t ≤ t.d
  block_start_lem b h =
      ⊎_elim
      (λ (z : b ≡ 0). let e : b * block_size t ≡ 0 = ap (λ x. x * block_size t) z ∙ zero-mul (block_size t) in omega arith)
      (λ (p : 0 < b). let l = width_lt t (omega (arith, sound.grows)) (block_level t) b (omega arith) in omega arith)
      (eq-zero-or-pos b)

  -- the root is above each B
  pub block_rooted : (b : ℕ) → b < block_count t → above t.n t.copies b ≡ 0
  block_rooted b h =
      let e : block_level t - 1 ≡ t.copies = omega arith in
      ⊎_elim
      (λ (z : b ≡ 0). rw z (above_zero t.n t.copies))
      (λ (p : 0 < b).
      rw e at
      (width_rooted t (omega (arith, sound.grows)) sound.holds (block_level t) b (omega arith)
      (omega (arith, sound.path_fits one)) (omega arith)))
      (eq-zero-or-pos b)

  pub blocks_end : block_start t (block_count t) ≡ t.d
  blocks_end =
      let c : t.d ≤ width t (block_level t) * block_size t = width_covers t (omega (arith, sound.grows)) (block_level t) in
      let g : width t (block_level t) * block_size t ≤ block_count t * block_size t = mul-le-mul_right (block_size t) (omega arith) in
      omega arith

  pub block_data :
      (b : ℕ) → b < block_count t →
      sent t (data_under t (block_level t) b) ≡ sent t (span (block_start t b) (block_start t (suc b) - block_start t b))
  block_data b h =
      let m : ℕ = block_size t in
      let l : b * m ≤ t.d = block_start_lem b h in
      let e : min t.d (b * m) ≡ b * m = omega arith in
      ap (sent t) (data_under_range t (omega (arith, sound.grows)) (block_level t) b (sound.path_fits one) ∙ rw (add-one b, e))

  pub block_grows : (b : ℕ) → block_start t b ≤ block_start t (suc b)
  block_grows b = let e : b * block_size t ≤ suc b * block_size t = mul-le-mul_right (block_size t) (omega arith) in omega arith

  pub quiet_path : (b : ℕ) → data_count t (path t b) ≡ 0
  unfolding path
  quiet_path b =
      let top : ℕ = path_top t.n t.copies b in
      quiet_on_path t b top (t.copies + 1 - top)
      (omega (arith, sound.path_fits one, path_top_high t.n t.copies b))

  pub quiet_tree : (b : ℕ) → data_count t (tree_below t (block_level t) b) ≡ 0
  unfolding tree_below
  quiet_tree b = quiet_subtree t (t.k + 1 - block_level t) (block_level t) b (omega (arith, sound.path_fits one))

  pub count_block_data :
      (b : ℕ) → b < block_count t → block_start t b + data_count t (sent t (data_under t (block_level t) b)) ≡ block_start t (suc b)
  count_block_data b h =
      let c : data_count t (sent t (data_under t (block_level t) b)) ≡ block_start t (suc b) - block_start t b =
      ap (data_count t) (block_data b h) ∙ count_sent t (block_start t b) (block_start t (suc b) - block_start t b) in
      let g = block_grows b in
      rw c (omega arith)

  pub count_block : (b : ℕ) → b < block_count t → block_start t b + data_count t (distributed_segment t b) ≡ block_start t (suc b)
  unfolding distributed_segment
  count_block b h =
      let tree : List Slot = tree_below t (block_level t) b in
      let data_sent : List Slot = sent t (data_under t (block_level t) b) in
      let e₁ : data_count t (path t b) ≡ 0 = quiet_path b in
      let e₂ : data_count t tree ≡ 0 = quiet_tree b in
      let e₃ = count_segment t (path t b ++ (tree ++ data_sent)) ∙ count_append t (path t b) (tree ++ data_sent) in
      let e₄ = count_append t tree data_sent in
      let e₅ = count_block_data b h in
      omega arith

  -- ---- what a segment holds before its data

  pub path_has :
      {q s : ℕ} (b lvl : ℕ) → path_top t.n t.copies b ≤ lvl → lvl ≤ t.copies → s ≤ q → (more : List Slot) →
      Reaches t q lvl (above t.n (t.copies + 1 - lvl) b) s (path t b ++ more)
  unfolding path
  path_has {q} {s} b lvl low high h more =
      let top : ℕ = path_top t.n t.copies b in
      let f : ℕ → List Slot = λ i. on_path t b i ∷ [] in
      rw (map_joined (on_path t b) (range top (t.copies + 1)))
      (reach_joined f (λ x. s) (t.copies + 1) lvl
      (λ x u.
      ap (λ y. s + y) (count_slot t x (above t.n (t.copies + 1 - x) b) [] (omega (arith, sound.path_fits one))) ∙ add-zero s)
      (λ rest. here h (slot_occurs lvl (above t.n (t.copies + 1 - lvl) b) lvl (above t.n (t.copies + 1 - lvl) b) refl refl))
      top (t.copies + 1 - top) low (omega arith) (omega arith) more)

  pub tree_has : {q s : ℕ} (b : ℕ) → s ≤ q → (more : List Slot) → Reaches t q (block_level t) b s (tree_below t (block_level t) b ++ more)
  unfolding tree_below
  tree_has b h more =
      let height : t.k + 1 - block_level t ≡ suc (t.k - block_level t) = omega (arith, sound.path_fits one) in
      rw height (here h (slot_occurs (block_level t) b (block_level t) b refl refl))

  pub block_has :
      {q s : ℕ} (b lvl : ℕ) → path_top t.n t.copies b ≤ lvl → lvl ≤ block_level t → s ≤ q → (more : List Slot) →
      Reaches t q lvl (above t.n (block_level t - lvl) b) s (distributed_segment t b ++ more)
  unfolding distributed_segment
  block_has {q} {s} b lvl low high h more =
      let tree : List Slot = tree_below t (block_level t) b in
      let data_sent : List Slot = sent t (data_under t (block_level t) b) in
      reach_segment (path t b ++ (tree ++ data_sent)) more
      (rw (append_assoc (path t b) (tree ++ data_sent) more)
      (⊎_elim
      (λ (l : lvl ≤ t.copies). path_has b lvl low l h ((tree ++ data_sent) ++ more))
      (λ (g : t.copies < lvl).
      let e : lvl ≡ block_level t = omega arith in
      let z : block_level t - block_level t ≡ 0 = omega arith in
      rw (e, z)
      (reach_past (path t b)
      (reach_at (ap (λ y. s + y) (quiet_path b) ∙ add-zero s)
      (rw append_assoc (tree_has b h (data_sent ++ more))))))
      (le_or_lt lvl t.copies)))
