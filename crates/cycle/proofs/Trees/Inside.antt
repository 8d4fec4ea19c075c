-- Every bucket that is sent is one of the tree.
-- Assumes nothing.
use mathlib.Core.Path.{◌≡◌, sym, ap, subst, ◌∙◌}
use mathlib.Core.Logic.{⊎_elim}
use Prim.Native.Nat.{ℕ, zero, suc, ◌+◌, ◌-◌, ◌*◌, ◌/◌, ◌^◌, ◌≤◌, ◌<◌, min, max}
use native.Mathlib.Nat.{zero-mul, pow-zero, mul-one, mul_assoc, mul-le-mul_right, div-lt_iff_lt-mul, eq-zero-or-pos}
use native.Mathlib.Decide.{ℕ_discrete}
use native.Mathlib.Omega.{arith}
use mathlib.Core.List.{List, [], ◌∷◌, ◌++◌, map}
use borrow.Author.Tests.{eq-eqb, ne_eqb}
use lib.Pow.{pow-add}
use Rattle.columns.specs.Lists.{joined, span, range}
use Rattle.cycle.specs.Tree.{Plan, above, width, children, data_under}
use Rattle.cycle.specs.Layouts.{Slot, slot, segment, subtree, tree_below, sent, path_top, path, distributed_segment, distributed, whole_segment, one_m, slots}
use Rattle.cycle.proofs.Sequences.Sequence.{Sound}
use Rattle.cycle.proofs.Sequences.Paths.{path_top_low}
use Rattle.cycle.proofs.Trees.TreeLaws.{above_le, width_lt, data_under_range}

-- bucket j of level i is one of the tree; the root is one also of the empty list
pub record Inside (t : Plan) (i j : ℕ) : Type 0 where
  pub low : 1 ≤ i
  pub high : i ≤ t.k + 1
  pub covers : j * t.n ^ (t.k + 1 - i) < max 1 t.d

-- ---- all of some buckets

abbrev pub All : (ℕ → ℕ → Type 0) → List Slot → Type 0
All P [] = Unit {0}
All P (x ∷ xs) = P x.level x.place × All P xs

module _ (P : ℕ → ℕ → Type 0) where
  pub all_append : (xs ys : List Slot) → All P xs → All P ys → All P (xs ++ ys)
  all_append [] ys a b = b
  all_append (x ∷ xs) ys a b = (a.0, all_append xs ys a.1 b)

  pub all_at : (before : List Slot) (x : Slot) (rest : List Slot) → All P (before ++ (x ∷ rest)) → P x.level x.place
  all_at [] x rest a = a.0
  all_at (y ∷ before) x rest a = all_at before x rest a.1

  pub all_segment : (xs : List Slot) → All P xs → All P (segment xs)
  all_segment [] a = a
  all_segment (x ∷ xs) a = a

  pub all_joined :
      (f : ℕ → List Slot) (a c : ℕ) → ((b : ℕ) → a ≤ b → b < a + c → All P (f b)) → All P (joined f (span a c))
  all_joined f a zero h = tt
  all_joined f a (suc c) h =
      all_append (f a) (joined f (span (suc a) c)) (h a (omega arith) (omega arith))
      (all_joined f (suc a) c (λ b u v. h b (omega arith) (omega arith)))

  pub all_map :
      (f : ℕ → Slot) (a c : ℕ) → ((b : ℕ) → a ≤ b → b < a + c → P (f b).level (f b).place) → All P (map f (span a c))
  all_map f a zero h = tt
  all_map f a (suc c) h = (h a (omega arith) (omega arith), all_map f (suc a) c (λ b u v. h b (omega arith) (omega arith)))

-- ---- buckets of the tree

module _ (t : Plan) (pos : 0 < t.n) where
  pub inside_root : Inside t 1 0
  inside_root = record { low = omega arith; high = omega arith; covers = rw zero-mul (omega arith) }

  pub inside_width : (i j : ℕ) → 1 ≤ i → i ≤ t.k + 1 → j < width t i → Inside t i j
  inside_width i j low high l = record { low = low; high = high; covers = omega (arith, width_lt t pos i j l) }

  pub inside_data : (q : ℕ) → q < t.d → Inside t (t.k + 1) q
  inside_data q l =
      let e : t.k + 1 - (t.k + 1) ≡ 0 = omega arith in
      record { low = omega arith; high = omega arith; covers = rw (e, pow-zero, mul-one) (omega arith) }

  -- what stands above one of the tree is one of the tree
  pub inside_above : (i j e : ℕ) → e < i → Inside t i j → Inside t (i - e) (above t.n e j)
  inside_above i j e h w =
      let c : ℕ = above t.n e j in
      let m : ℕ = t.n ^ (t.k + 1 - i) in
      let height : t.k + 1 - (i - e) ≡ e + (t.k + 1 - i) = omega (arith, w.high) in
      let split : c * t.n ^ (t.k + 1 - (i - e)) ≡ c * t.n ^ e * m =
      ap (λ x. c * t.n ^ x) height ∙ ap (λ x. c * x) (pow-add t.n e (t.k + 1 - i)) ∙ sym (mul_assoc c (t.n ^ e) m) in
      let under : c * t.n ^ e ≤ j = above_le t.n e pos c j (omega arith) in
      let below : c * t.n ^ e * m ≤ j * m = mul-le-mul_right m under in
      record { low = omega arith; high = omega (arith, w.high); covers = omega (arith, w.covers, split, below) }

  pub all_subtree : (h i j : ℕ) → i + h ≡ t.k + 1 → Inside t i j → All (Inside t) (subtree t h i j)
  unfolding slot children
  all_subtree zero i j e w = tt
  all_subtree (suc h) i j e w =
      let a : ℕ = j * t.n in
      let b : ℕ = min (a + t.n) (width t (suc i)) in (
        w,
        all_joined (Inside t) (λ c. subtree t h (suc i) c) a (b - a)
            (λ c u v. all_subtree h (suc i) c (omega arith) (inside_width (suc i) c (omega arith) (omega arith) (omega arith))),
      )

  pub all_sent : (a b : ℕ) → b ≤ t.d → All (Inside t) (sent t (range a b))
  unfolding sent slot
  all_sent a b h = all_map (Inside t) (λ q. slot (t.k + 1) q) a (b - a) (λ q u v. inside_data q (omega arith))

  pub all_tree_below : (i j : ℕ) → i ≤ t.k + 1 → Inside t i j → All (Inside t) (tree_below t i j)
  unfolding tree_below
  all_tree_below i j h w = all_subtree (t.k + 1 - i) i j (omega arith) w

-- ---- the layouts

module _ (t : Plan) (sound : Sound t) where
  positive : 0 < t.n
  positive = omega (arith, sound.grows)

  pub all_distributed : t.layout ≡ 1 → All (Inside t) (distributed t)
  unfolding distributed distributed_segment path slot
  all_distributed one =
      all_joined (Inside t) (distributed_segment t) 0 (max 1 (width t level) - 0)
      (λ b u v.
      let w : Inside t level b = inside b (omega arith) in
      all_segment (Inside t) (path t b ++ (tree_below t level b ++ sent t (data_under t level b)))
      (all_append (Inside t) (path t b) (tree_below t level b ++ sent t (data_under t level b))
      (all_map (Inside t) (λ i. slot i (above t.n (level - i) b)) (path_top t.n t.copies b) (level - path_top t.n t.copies b)
      (λ i x y. on_path_lem b i w (omega (arith, path_top_low t.n t.copies b)) (omega arith)))
      (all_append (Inside t) (tree_below t level b) (sent t (data_under t level b))
      (all_tree_below t positive level b (omega (arith, sound.path_fits one)) w)
      (rw (data_under_range t positive level b (sound.path_fits one))
      (all_sent t positive (b * t.n ^ (t.k + 1 - level)) (min t.d ((b + 1) * t.n ^ (t.k + 1 - level))) (omega arith))))))
    where
      level : ℕ
      level = t.copies + 1

      inside : (b : ℕ) → b < max 1 (width t level) → Inside t level b
      inside b h =
          ⊎_elim
          (λ (e : width t level ≡ 0).
          let z : b ≡ 0 = omega arith in
          record { low = omega arith; high = omega (arith, sound.path_fits one); covers = rw (z, zero-mul) (omega arith) })
          (λ (some : 0 < width t level). inside_width t positive level b (omega arith) (omega (arith, sound.path_fits one)) (omega arith))
          (eq-zero-or-pos (width t level))

      on_path_lem : (b i : ℕ) → Inside t level b → 1 ≤ i → i < level → Inside t i (above t.n (level - i) b)
      on_path_lem b i w low h =
          let e : level - (level - i) ≡ i = omega arith in
          subst (λ x. Inside t x (above t.n (level - i) b)) e (inside_above t positive level b (level - i) (omega arith) w)

  pub all_one_m : (t.layout ≡ 1 → ⊥) → All (Inside t) (one_m t)
  unfolding one_m whole_segment
  all_one_m other =
      all_joined (Inside t) (whole_segment t) 0 (t.copies - 0)
      (λ i u v.
      all_segment (Inside t) (tree_below t 1 0 ++ sent t (range (i * t.d / t.copies) (suc i * t.d / t.copies)))
      (all_append (Inside t) (tree_below t 1 0) (sent t (range (i * t.d / t.copies) (suc i * t.d / t.copies)))
      (all_tree_below t positive 1 0 (omega arith) (inside_root t positive))
      (all_sent t positive (i * t.d / t.copies) (suc i * t.d / t.copies) (part_end i (omega arith)))))
    where
      part_end : (i : ℕ) → i < t.copies → suc i * t.d / t.copies ≤ t.d
      part_end i h =
          let most : suc i * t.d ≤ t.copies * t.d = mul-le-mul_right t.d h in
          let l : suc i * t.d / t.copies < suc t.d =
          (div-lt_iff_lt-mul {y = suc t.d} (sound.parts_some other)).1 (omega (arith, most, sound.parts_some other)) in
          omega arith

  pub all_inside : All (Inside t) (slots t)
  unfolding slots
  all_inside =
      elim (ℕ_discrete t.layout 1)
      [ yes e ↦ rw (eq-eqb t.layout 1 e) (all_distributed e) | no f ↦ rw (ne_eqb t.layout 1 f) (all_one_m f) ]

  pub slot_inside : (before : List Slot) (x : Slot) (rest : List Slot) → slots t ≡ before ++ (x ∷ rest) → Inside t x.level x.place
  slot_inside before x rest e = all_at (Inside t) before x rest (subst (All (Inside t)) e all_inside)
