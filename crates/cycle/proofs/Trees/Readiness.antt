-- Figures within their ranges, and of a cycle that can be sent: what follows of the plan that they stand for.
-- Assumes nothing.
use mathlib.Core.Path.{◌≡◌, refl, sym, ap, ◌∙◌}
use mathlib.Core.Logic.{⊎_elim}
use mathlib.Core.Bool.{true, ◌&&◌}
use mathlib.Core.List.{List, []}
use Prim.Native.Nat.{ℕ, suc, ◌+◌, ◌-◌, ◌*◌, ◌^◌, ◌≤◌, ◌<◌, min, max}
use native.Mathlib.Nat.{mul-le-mul_left, suc-mul, one-le-pow, eq-zero-or-pos}
use native.Mathlib.Numerals.{add-one}
use native.Mathlib.Decide.{ℕ_discrete}
use native.Mathlib.Omega.{arith}
use lib.Dec.{leb, ltb}
use lib.ListN.{length}
use borrow.Author.Tests.{leb-true, le-leb, lt-leb, lt-ltb, le-ltb, eq-eqb, ne_eqb}
use Rattle.columns.specs.Lists.{up}
use Rattle.columns.proofs.Strict.{both}
use Rattle.buckets.specs.declared.Line.{Line}
use Rattle.buckets.specs.Lengths.{lines_most, pairs_most}
use Rattle.cycle.specs.Tree.{layout_number, Plan, levels_most}
use Rattle.cycle.specs.Building.{copies_fit}
use Rattle.cycle.specs.declared.Figures.{Figures}
use Rattle.cycle.specs.Judging.{full_size, tree_at, tree_height, last_place, last_tree}
use Rattle.cycle.specs.Inner.Held.{plan_of, Shaped, InTree, sized, Trees, span_most}
use Rattle.cycle.proofs.Basics.Ranges.{le_or_lt}
use Rattle.cycle.proofs.Trees.TreeLaws.{up_at_most}
use Rattle.cycle.proofs.Trees.Levels.{Levels, levels_fit, levels_lone}
use Rattle.cycle.proofs.Basics.Powers.{power_below}
use Rattle.cycle.proofs.Trees.Fulls.{full_below}
use Rattle.cycle.proofs.Trees.TreeSizes.{tree_small}
use Rattle.cycle.proofs.Sequences.PathSizes.{up_is, up_none, last_part}
use Rattle.cycle.proofs.Sequences.Sequence.{Sound}

-- ---- tests on numbers

-- two tests on numbers that pass for the same numbers
pub same_ltb_leb : (a b x y : ℕ) → (a < b → x ≤ y) → (b ≤ a → y < x) → ltb a b ≡ leb x y
same_ltb_leb a b x y f g =
    ⊎_elim
    (λ (h : b ≤ a). le-ltb a b h ∙ sym (lt-leb x y (g h)))
    (λ (h : a < b). lt-ltb a b h ∙ sym (le-leb x y (f h)))
    (le_or_lt b a)

-- ---- copies

module _ (t : Plan) where
  pub copies_distributed : t.layout ≡ 1 → copies_fit t ≡ leb t.copies (min pairs_most (t.k - 1))
  unfolding copies_fit
  copies_distributed one = rw (eq-eqb t.layout 1 one)

  pub copies_whole : (t.layout ≡ 1 → ⊥) → copies_fit t ≡ leb 1 t.copies && leb t.copies (max 1 t.d)
  unfolding copies_fit
  copies_whole other = rw (ne_eqb t.layout 1 other)

  pub path_facts : copies_fit t ≡ true → t.layout ≡ 1 → (t.copies ≤ pairs_most) × (t.copies ≤ t.k - 1)
  path_facts fit one =
      let h = leb-true t.copies (min pairs_most (t.k - 1)) (sym (copies_distributed one) ∙ fit) in (omega arith, omega arith)

  pub parts_facts : copies_fit t ≡ true → (t.layout ≡ 1 → ⊥) → (1 ≤ t.copies) × (t.copies ≤ max 1 t.d)
  parts_facts fit other =
      let h = both (leb 1 t.copies) (leb t.copies (max 1 t.d)) (sym (copies_whole other) ∙ fit) in
      (leb-true 1 t.copies h.0, leb-true t.copies (max 1 t.d) h.1)

-- ---- figures

pub few_data : (lines p : ℕ) → 1 ≤ p → lines ≤ lines_most → up lines p ≤ lines_most
few_data lines p low h = omega (arith, up_at_most lines p low)

pub data_high : (f : Figures) → Shaped f → f.d ≤ lines_most
data_high f s = rw s.d_is (few_data f.lines f.p s.p_low s.lines_high)

pub levels_are : (f : Figures) → Shaped f → Levels f.n f.d f.k
levels_are f s = rw s.k_is (levels_fit f.n f.d s.n_low s.n_high (data_high f s))

pub sound : (f : Figures) (ls : List Line) → Shaped f → copies_fit (plan_of f []) ≡ true → Sound (plan_of f ls)
unfolding plan_of
sound f ls s fit =
    let l = levels_are f s in
    record {
      grows = s.n_low;
      full = s.p_low;
      levelled = l.low;
      holds = l.holds;
      path_fits = λ one. let h = path_facts (plan_of f []) fit one in omega (arith, l.low);
      parts_some = λ other. (parts_facts (plan_of f []) fit other).0;
      parts_fit = λ other. (parts_facts (plan_of f []) fit other).1;
    }

-- ---- figures with their size

pub sized_shaped : (f : Figures) (c : ℕ) → Shaped f → Shaped (sized f c)
unfolding sized
sized_shaped f c h = h

pub sized_trees : (f : Figures) (c : ℕ) → Trees (sized f c)
unfolding sized plan_of
sized_trees f c = record { span_is = refl; full_is = refl; last_is_lem = refl }

-- ---- the height of a segment's tree

pub tree_height_lem : (f : Figures) → Shaped f → copies_fit (plan_of f []) ≡ true → (1 ≤ tree_height (plan_of f [])) × (tree_height (plan_of f []) ≤ f.k)
unfolding plan_of
tree_height_lem f s fit =
    let l = levels_are f s in
    elim (ℕ_discrete (layout_number f.layout) 1) [
      | yes one ↦ rw (eq-eqb (layout_number f.layout) 1 one) (let c = path_facts (plan_of f []) fit one in (omega (arith, l.low, c.1), omega arith))
      | no other ↦ rw (ne_eqb (layout_number f.layout) 1 other) (l.low, omega arith)
    ]

-- ---- the last tree

-- the tree that holds the data buckets' end is the last
pub last_place_lem : (d m b : ℕ) → 1 ≤ m → b * m < max 1 d → d ≤ suc b * m → last_place d m ≡ b
unfolding last_place
last_place_lem d m b some starts ends =
    ⊎_elim
    (λ (z : d ≡ 0).
    let low : b * 1 ≤ b * m = mul-le-mul_left b some in
    let none : up d m ≡ 0 = rw z (up_none m some) in
    omega arith)
    (λ (l : 0 < d). let e = up_is d m b some (omega arith) ends in omega arith)
    (eq-zero-or-pos d)

pub last_starts : (d m : ℕ) → 1 ≤ m → last_place d m * m < max 1 d
unfolding last_place
last_starts d m some =
    ⊎_elim
    (λ (z : d ≡ 0). let none : up d m ≡ 0 = rw z (up_none m some) in rw none (omega arith))
    (λ (l : 0 < d).
    let p = last_part d m l some in
    let e : max 1 (up d m) - 1 ≡ up d m - 1 = omega (arith, p.some) in
    rw e (omega (arith, p.starts)))
    (eq-zero-or-pos d)

-- ---- places in the tree

-- bucket j of height e, and the powers of n up to it
pub record Reached (f : Figures) (e j : ℕ) : Type 0 where
  pub height : e ≤ levels_most
  pub few : f.d ≤ lines_most
  pub place : j ≤ lines_most
  pub start : j * f.n ^ e ≤ lines_most
  pub end : (j + 1) * f.n ^ e ≤ span_most + lines_most
  pub some : (h : ℕ) → h ≤ e → 1 ≤ f.n ^ h
  pub small : (h : ℕ) → h ≤ e → f.n ^ h ≤ span_most
  pub full_small : (h : ℕ) → h ≤ e → full_size f.n h ≤ span_most

pub reached : (f : Figures) (e j : ℕ) → Shaped f → InTree f e j → Reached f e j
unfolding InTree
reached f e j s inside =
    let l = levels_are f s in
    let few = data_high f s in
    let small : (h : ℕ) → h ≤ e → f.n ^ h ≤ span_most =
    λ h u. let p = power_below f.n h f.k s.n_low (omega (arith, inside.0)) in omega (arith, l.small) in
    record {
      height = omega (arith, l.high, inside.0);
      few = few;
      place =
          (let low : j * 1 ≤ j * f.n ^ e = mul-le-mul_left j (one-le-pow e f.n (omega (arith, s.n_low))) in
          omega (arith, inside.1));
      start = omega (arith, inside.1);
      end = rw (add-one j, suc-mul) (omega (arith, inside.1, small e (omega arith)));
      some = λ h u. one-le-pow h f.n (omega (arith, s.n_low));
      small = small;
      full_small = λ h u. let b = full_below f.n h s.n_low in omega (arith, small h u);
    }

-- the empty list has one level
pub one_level : (f : Figures) → Shaped f → f.d ≡ 0 → f.k ≡ 1
one_level f s none = s.k_is ∙ levels_lone f.n f.d none

-- ---- layout 1's blocks

-- what figures of layout 1 say of the height of B
pub record Block (f : Figures) : Type 0 where
  pub pos : 0 < f.n
  pub few : f.copies ≤ pairs_most
  pub fits : f.copies + 1 ≤ f.k
  pub high : f.k ≤ levels_most
  pub some : f.d ≤ lines_most
  pub power_low : 1 ≤ f.n ^ (f.k - f.copies)
  pub power_high : f.n ^ (f.k - f.copies) ≤ span_most
  pub full_high : full_size f.n (f.k - f.copies) ≤ span_most

pub block : (f : Figures) → Shaped f → layout_number f.layout ≡ 1 → copies_fit (plan_of f []) ≡ true → Block f
unfolding plan_of
block f s one fit =
    let e : ℕ = f.k - f.copies in
    let l = levels_are f s in
    let c = path_facts (plan_of f []) fit one in
    let p = power_below f.n e f.k s.n_low (omega arith) in
    let b = full_below f.n e s.n_low in
    record {
      pos = omega (arith, s.n_low);
      few = c.0;
      fits = omega (arith, l.low, c.1);
      high = l.high;
      some = data_high f s;
      power_low = one-le-pow e f.n (omega (arith, s.n_low));
      power_high = omega (arith, l.small);
      full_high = omega (arith, l.small);
    }

-- the figures of its tree
pub record BlockTrees (f : Figures) : Type 0 where
  pub span : f.span ≡ f.n ^ (f.k - f.copies)
  pub full : f.full ≡ full_size f.n (f.k - f.copies)
  pub last : (b : ℕ) → b * f.n ^ (f.k - f.copies) < max 1 f.d → f.d ≤ suc b * f.n ^ (f.k - f.copies) → f.last ≡ length (tree_at (plan_of f []) (f.k - f.copies) b)

pub block_trees : (f : Figures) → Shaped f → Trees f → layout_number f.layout ≡ 1 → BlockTrees f
unfolding plan_of last_tree
block_trees f s t one =
    let height : tree_height (plan_of f []) ≡ f.k - f.copies = rw (eq-eqb (layout_number f.layout) 1 one) in
    let m : ℕ = f.n ^ (f.k - f.copies) in
    record {
      span = t.span_is ∙ ap (λ h. f.n ^ h) height;
      full = t.full_is ∙ ap (λ h. full_size f.n h) height;
      last = λ b starts ends.
          t.last_is_lem
          ∙ ap (λ h. length (tree_at (plan_of f []) h (last_place f.d (f.n ^ h)))) height
          ∙ ap (λ j. length (tree_at (plan_of f []) (f.k - f.copies) j))
          (last_place_lem f.d m b (one-le-pow (f.k - f.copies) f.n (omega (arith, s.n_low))) starts ends);
    }

-- ---- layout 2's parts

-- what figures of layout 2 say
pub record Parts (f : Figures) : Type 0 where
  pub pos : 0 < f.n
  pub low : 1 ≤ f.k
  pub parted : 1 ≤ f.copies
  pub few : f.copies ≤ lines_most
  pub some : f.d ≤ lines_most
  pub tree : length (tree_at (plan_of f []) f.k 0) ≤ span_most

pub parts : (f : Figures) → Shaped f → (layout_number f.layout ≡ 1 → ⊥) → copies_fit (plan_of f []) ≡ true → Parts f
unfolding plan_of
parts f s other fit =
    let l = levels_are f s in
    let c = parts_facts (plan_of f []) fit other in
    let pos : 0 < f.n = omega (arith, s.n_low) in
    let small = tree_small (plan_of f []) pos f.k 0 (omega arith) in
    let few = data_high f s in
    let b = full_below f.n f.k s.n_low in
    record {
      pos = pos;
      low = l.low;
      parted = c.0;
      few = omega (arith, c.1);
      some = few;
      tree = omega (arith, l.small);
    }

-- the whole tree is the last
pub whole_last : (f : Figures) → Shaped f → Trees f → (layout_number f.layout ≡ 1 → ⊥) → f.last ≡ length (tree_at (plan_of f []) f.k 0)
unfolding plan_of last_tree
whole_last f s t other =
    let height : tree_height (plan_of f []) ≡ f.k = rw (ne_eqb (layout_number f.layout) 1 other) in
    let l = levels_are f s in
    let m : ℕ = f.n ^ f.k in
    t.last_is_lem
    ∙ ap (λ h. length (tree_at (plan_of f []) h (last_place f.d (f.n ^ h)))) height
    ∙ ap (λ j. length (tree_at (plan_of f []) f.k j))
    (last_place_lem f.d m 0 (one-le-pow f.k f.n (omega (arith, s.n_low))) (omega arith) (omega (arith, l.holds)))
