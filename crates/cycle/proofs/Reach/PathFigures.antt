-- Layout 1, under the figures of a cycle: the buckets above one of B's level, by the powers of n.
-- Assumes nothing.
use mathlib.Core.Path.{◌≡◌, sym, ap, subst, ◌∙◌}
use Prim.Native.Nat.{ℕ, ◌+◌, ◌-◌, ◌*◌, ◌/◌, ◌^◌, ◌≤◌, ◌<◌}
use native.Mathlib.Nat.{mul_assoc, mul-le-mul_right, one-le-pow}
use native.Mathlib.Omega.{arith}
use mathlib.Core.List.{List, []}
use lib.ListN.{length}
use lib.Pow.{pow-add}
use Rattle.columns.specs.Lists.{up, joined, span}
use Rattle.buckets.specs.declared.Line.{Line}
use Rattle.buckets.specs.Lengths.{pairs_most}
use Rattle.cycle.specs.Tree.{layout_number, Plan, width, above, levels_most}
use Rattle.cycle.specs.Layouts.{path_top, distributed_segment}
use Rattle.cycle.specs.declared.Figures.{Figures}
use Rattle.cycle.specs.Inner.Held.{plan_of, Ready, InTree, place_over, OnPath}
use Rattle.cycle.proofs.Trees.TreeLaws.{above_div, above_le, width_up, width_lt}
use Rattle.cycle.proofs.Sequences.Blocks.{block_count}
use Rattle.cycle.proofs.Reach.Occurrences.{place_on}
use Rattle.cycle.proofs.Trees.Readiness.{path_facts, levels_are}
use Rattle.cycle.proofs.Segmenting.HeldBlocks.{count_of}
use Rattle.cycle.proofs.Trees.Segmented.{block_in}

-- ---- a path bucket's place

pub path_here : {t : Plan} {b i x : ℕ} → OnPath t b i x → x ≡ place_on t b i
path_here {t} {b} {i} {x} p =
    let e : b - 0 ≡ b = omega arith in
    p.here ∙ ap (λ c. length (joined (distributed_segment t) (span 0 c)) + (i - path_top t.n t.copies b)) e

pub path_inside : {t : Plan} {b i x : ℕ} → OnPath t b i x → b < block_count t
path_inside {t} {b} p = subst (λ c. b < c) (count_of t p.distributed) p.inside

-- ---- under figures

module _ (f : Figures) (ready : Ready f) (one : layout_number f.layout ≡ 1) where
  pub pos : 0 < f.n
  pos = omega (arith, ready.shaped.n_low)

  pub few_copies : (f.copies ≤ pairs_most) × (f.copies + 1 ≤ f.k) × (f.k ≤ levels_most)
  unfolding plan_of
  few_copies =
      let h = path_facts (plan_of f []) ready.copies_fit_lem one in
      let l = levels_are f ready.shaped in
      (h.0, omega (arith, h.1, l.low), l.high)

  module _ (level : ℕ) (low : 1 ≤ level) (high : level ≤ f.copies + 1) where
    pub power_some : (x : ℕ) → x ≡ f.n ^ (f.copies + 1 - level) → 0 < x
    power_some x e = rw e (one-le-pow (f.copies + 1 - level) f.n pos)

    pub place_over_lem : (ls : List Line) (b x : ℕ) → x ≡ f.n ^ (f.copies + 1 - level) → b / x ≡ place_over (plan_of f ls) b level
    unfolding place_over plan_of
    place_over_lem ls b x e = ap (λ z. b / z) e ∙ sym (above_div f.n (f.copies + 1 - level) b)

    pub over_inside : (ls : List Line) (b : ℕ) → InTree f (f.k - f.copies) b → InTree f (f.k + 1 - level) (place_over (plan_of f ls) b level)
    unfolding InTree place_over plan_of
    over_inside ls b inside =
        let h : ℕ = f.copies + 1 - level in
        let e : ℕ = f.k - f.copies in
        let q : ℕ = above f.n h b in
        let l : q * f.n ^ h ≤ b = above_le f.n h pos q b (omega arith) in
        let l' : q * f.n ^ h * f.n ^ e ≤ b * f.n ^ e = mul-le-mul_right (f.n ^ e) l in
        let height : f.k + 1 - level ≡ h + e = omega (arith, few_copies.1) in
        let whole : q * f.n ^ (f.k + 1 - level) ≡ q * f.n ^ h * f.n ^ e =
        ap (λ y. q * f.n ^ y) height ∙ ap (λ y. q * y) (pow-add f.n h e) ∙ sym (mul_assoc q (f.n ^ h) (f.n ^ e)) in
        (omega arith, omega (arith, inside.1))

    pub level_width : width (plan_of f []) level ≡ up f.d (f.n ^ (f.k + 1 - level))
    unfolding plan_of
    level_width = width_up (plan_of f []) pos level

    pub width_inside : (c : ℕ) → c < width (plan_of f []) level → InTree f (f.k + 1 - level) c
    unfolding InTree plan_of
    width_inside c h = (omega arith, omega (arith, width_lt (plan_of f []) pos level c h))

  -- a B is in the tree
  pub block_inside : (b : ℕ) → b < block_count (plan_of f []) → InTree f (f.k - f.copies) b
  unfolding plan_of
  block_inside b h = block_in f b ready one (subst (λ c. b < c) (sym (count_of (plan_of f []) one)) h)
