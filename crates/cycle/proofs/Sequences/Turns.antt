-- Layout 1, behind a bucket of a path: its child above an unsent data bucket comes in time, and so does the lowest bucket above
-- both, on the path to the first B under another child.
-- Assumes nothing.
use mathlib.Core.Path.{◌≡◌, refl, sym, ap, subst, ◌∙◌}
use mathlib.Core.Logic.{⊎_elim}
use Prim.Native.Nat.{ℕ, suc, ◌+◌, ◌-◌, ◌*◌, ◌^◌, ◌≤◌, ◌<◌}
use native.Mathlib.Nat.{add-zero, mul-le-mul_right, eq-or-lt_of_le}
use native.Mathlib.Numerals.{add-one}
use native.Mathlib.Omega.{arith}
use mathlib.Core.List.{List, [], ◌++◌, map, append-nil}
use Rattle.columns.specs.Lists.{joined, span, range}
use Rattle.cycle.specs.Tree.{Plan, width, above, data_under}
use Rattle.cycle.specs.Layouts.{Slot, tree_below, sent, path_top, distributed_segment}
use Rattle.cycle.proofs.Sequences.Sequence.{Sound, place_above}
use Rattle.cycle.proofs.Basics.Ranges.{range_cons}
use Rattle.cycle.proofs.Trees.TreeLaws.{above_add, above_le, le_above, above_lt, above_mono, above_first, lt_width}
use Rattle.cycle.proofs.Sequences.Paths.{path_top_first}
use Rattle.cycle.proofs.Sequences.Suffixes.{Reaches, here, reach_at, reach_past, Stands}
use Rattle.cycle.proofs.Sequences.Pieces.{slot_occurs, reach_joined}
use Rattle.cycle.proofs.Sequences.Blocks.{block_level, block_size, block_start, block_count, on_path, behind_path, quiet_on_path, block_start_lem, block_rooted, quiet_tree, count_block_data, count_block, tree_has, block_has}

-- the segments from b on
abbrev pub segments_from : Plan → ℕ → ℕ → List Slot
segments_from t b x = joined (distributed_segment t) (span b x)

-- what follows level i of the path to B
abbrev pub below_path : Plan → ℕ → ℕ → List Slot → List Slot
below_path t b i rest = map (on_path t b) (range (suc i) (block_level t)) ++ behind_path t b rest

module _ (t : Plan) (sound : Sound t) (one : t.layout ≡ 1) where
  pub pos : 0 < t.n
  pos = omega (arith, sound.grows)

  -- ---- the places above q, from its B upwards

  pub place_split :
      (lvl a q : ℕ) → lvl ≤ a → a ≤ t.k + 1 → place_above t lvl q ≡ above t.n (a - lvl) (place_above t a q)
  unfolding place_above
  place_split lvl a q h g =
      let height : t.k + 1 - lvl ≡ (t.k + 1 - a) + (a - lvl) = omega arith in
      ap (λ x. above t.n x q) height ∙ above_add t.n (t.k + 1 - a) (a - lvl) q

  pub block_of : (b q : ℕ) → b < block_count t → block_start t b ≤ q → b ≤ place_above t (block_level t) q
  unfolding place_above
  block_of b q h u =
      let l = block_start_lem t sound one b h in
      le_above t.n (t.k + 1 - block_level t) pos b q (omega arith)

  pub block_time : (b q : ℕ) → b ≤ place_above t (block_level t) q → b * block_size t ≤ q
  unfolding place_above
  block_time b q h = above_le t.n (t.k + 1 - block_level t) pos b q h

  -- on every level of the path, b is not to the right of an unsent q
  pub path_left :
      (b q i : ℕ) → b < block_count t → block_start t b ≤ q → i ≤ block_level t →
      above t.n (block_level t - i) b ≤ place_above t i q
  path_left b q i h u l =
      rw (place_split i (block_level t) q l (omega (arith, sound.path_fits one)))
      (above_mono t.n (block_level t - i) pos b (place_above t (block_level t) q) (block_of b q h u))

  -- ---- where q lies under another bucket of level a + 1, the path to the first B there holds levels a and a + 1

  module _ (a b q : ℕ) (low : 1 ≤ a) (high : a ≤ t.copies) (l : q < t.d) (right : above t.n (block_level t - (a + 1)) b < place_above t (a + 1) q) where
    pub turn_comes :
        (x lvl : ℕ) → suc b + x ≡ block_count t → a ≤ lvl → lvl ≤ a + 1 →
        Reaches t q lvl (place_above t lvl q) (block_start t (suc b)) (segments_from t (suc b) x)
    turn_comes x lvl all from to =
        let r : ℕ = t.copies in
        let c : ℕ = place_above t (a + 1) q in
        let e : block_level t - (a + 1) ≡ r - a = omega arith in
        let right' : above t.n (r - a) b < c = subst (λ y. above t.n y b < c) e right in
        let turn : ℕ = c * t.n ^ (r - a) in
        let home : ℕ = place_above t (block_level t) q in
        let split : c ≡ above t.n (r - a) home =
        place_split (a + 1) (block_level t) q (omega arith) (omega (arith, sound.path_fits one)) ∙ ap (λ y. above t.n y home) e in
        let fits : turn ≤ home = above_le t.n (r - a) pos c home (omega arith) in
        let later : b < turn = above_lt t.n (r - a) pos c b right' in
        let time : home * block_size t ≤ q = block_time home q (omega arith) in
        let inside : home < width t (block_level t) = lt_width t pos (block_level t) home (omega arith) in
        let sooner : turn * block_size t ≤ home * block_size t = mul-le-mul_right (block_size t) fits in
        let top : path_top t.n r turn ≤ a = path_top_first t.n r c a pos (omega arith) low high in
        let up : ℕ = (a + 1) - lvl in
        let height : block_level t - lvl ≡ (r - a) + up = omega arith in
        let place : above t.n (block_level t - lvl) turn ≡ place_above t lvl q =
        ap (λ y. above t.n y turn) height
        ∙ above_add t.n (r - a) up turn
        ∙ ap (above t.n up) (above_first t.n (r - a) pos c)
        ∙ sym (place_split lvl (a + 1) q to (omega (arith, sound.path_fits one))) in
        let found : Reaches t q lvl (place_above t lvl q) (block_start t (suc b)) (segments_from t (suc b) x ++ []) =
        reach_joined (distributed_segment t) (block_start t) (block_count t) turn
        (λ y u. count_block t sound one y u)
        (λ more.
        subst (λ y. Reaches t q lvl y (block_start t turn) (distributed_segment t turn ++ more)) place
        (block_has t sound one turn lvl (omega arith) (omega arith) (omega arith) more))
        (suc b) x (omega arith) (omega arith) (omega arith) [] in
        subst (Reaches t q lvl (place_above t lvl q) (block_start t (suc b))) (append-nil (segments_from t (suc b) x)) found

  -- ---- behind a bucket of the path

  pub reach_below :
      {q i j : ℕ} (b lvl : ℕ) (rest : List Slot) → b < block_count t → lvl ≤ t.copies →
      Reaches t q i j (block_start t (suc b)) rest → Reaches t q i j (block_start t b) (below_path t b lvl rest)
  reach_below b lvl rest h u r =
      let s : ℕ = block_start t b in
      reach_past (map (on_path t b) (range (suc lvl) (block_level t)))
      (reach_at
      (ap (λ y. s + y) (quiet_on_path t b (suc lvl) (block_level t - suc lvl) (omega (arith, sound.path_fits one))) ∙ add-zero s)
      (reach_past (tree_below t (block_level t) b)
      (reach_at (ap (λ y. s + y) (quiet_tree t sound one b) ∙ add-zero s)
      (reach_past (sent t (data_under t (block_level t) b)) (reach_at (count_block_data t sound one b h) r)))))

  -- the next level of the path, or B itself, comes at once
  pub next_on_path :
      {q s : ℕ} (b lvl : ℕ) (rest : List Slot) → lvl ≤ t.copies → s ≤ q →
      Reaches t q (lvl + 1) (above t.n (block_level t - (lvl + 1)) b) s (below_path t b lvl rest)
  next_on_path {q} {s} b lvl rest h u =
      rw (add-one lvl)
      (⊎_elim
      (λ (e : lvl ≡ t.copies).
      let level : suc lvl ≡ block_level t = omega arith in
      let none : block_level t - block_level t ≡ 0 = omega arith in
      rw (level, none) (tree_has t sound one b u (sent t (data_under t (block_level t) b) ++ rest)))
      (λ (l : lvl < t.copies).
      rw (range_cons (suc lvl) (block_level t) (omega arith))
      (here u
      (slot_occurs (suc lvl) (above t.n (block_level t - suc lvl) b) (suc lvl) (above t.n (block_level t - suc lvl) b) refl refl)))
      (eq-or-lt_of_le h))

  pub path_stands :
      (b x i : ℕ) → suc b + x ≡ block_count t → 1 ≤ i → i ≤ t.copies →
      Stands t (block_start t b) i (above t.n (block_level t - i) b) (below_path t b i (segments_from t (suc b) x))
  path_stands b x i all low high =
      let rest : List Slot = segments_from t (suc b) x in
      record {
        low = low;
        high = omega (arith, sound.path_fits one);
        rooted =
            (let height : t.copies ≡ (block_level t - i) + (i - 1) = omega arith in
            sym (above_add t.n (block_level t - i) (i - 1) b)
            ∙ ap (λ y. above t.n y b) (sym height)
            ∙ block_rooted t sound one b (omega arith));
        child = λ q l u e.
            ⊎_elim
            (λ (same : above t.n (block_level t - (i + 1)) b ≡ place_above t (i + 1) q).
            subst (λ y. Reaches t q (i + 1) y (block_start t b) (below_path t b i rest)) same (next_on_path b i rest high u))
            (λ (right : above t.n (block_level t - (i + 1)) b < place_above t (i + 1) q).
            reach_below b i rest (omega arith) high (turn_comes i b q low high l right x (i + 1) all (omega arith) (omega arith)))
            (eq-or-lt_of_le (path_left b q (i + 1) (omega arith) u (omega arith)));
        left_of = λ p q l u. path_left b q i (omega arith) u (omega arith);
        again = λ p q l u a from to e f.
            let height : block_level t - (a + 1) ≡ (block_level t - i) + (i - (a + 1)) = omega arith in
            let place : above t.n (block_level t - (a + 1)) b ≡ above t.n (i - (a + 1)) (above t.n (block_level t - i) b) =
            ap (λ y. above t.n y b) height ∙ above_add t.n (block_level t - i) (i - (a + 1)) b in
            ⊎_elim
            (λ (same : above t.n (block_level t - (a + 1)) b ≡ place_above t (a + 1) q). absurd (f (sym place ∙ same)))
            (λ (right : above t.n (block_level t - (a + 1)) b < place_above t (a + 1) q).
            reach_below b i rest (omega arith) high (turn_comes a b q from (omega arith) l right x a all (omega arith) (omega arith)))
            (eq-or-lt_of_le (path_left b q (a + 1) (omega arith) u (omega arith)));
      }
