-- A row has the buckets up to the last one over the data buckets, without those of the trees before.
use Rattle.std.proofs.Common.{◌≡◌, [], ℕ, suc, refl, sym, ap, ◌∙◌, ◌+◌, ◌-◌, ◌*◌, ◌^◌, ◌≤◌, arith}
use Rattle.columns.specs.Lists.{up}
use Rattle.buckets.specs.Lengths.{lines_most}
use Rattle.cycle.specs.declared.Figures.{Figures}
use Rattle.cycle.specs.Tree.{levels_most}
use Rattle.cycle.specs.Inner.Held.{plan_of, Shaped, InTree, span_most}
use Rattle.cycle.proofs.Trees.TreeSizes.{last_rows, tree_last, tree_empty, row_fits}
use Rattle.cycle.proofs.Trees.Readiness.{Reached, reached}
use Rattle.cycle.proofs.measures.Fitted.last_tree_size.Goals as goal

-- one row: what the code reads, and what it adds
record Row (f : Figures) (e j h : ℕ) : Type 0 where
  height : e ≤ levels_most
  low : 1 ≤ f.n ^ h
  small : f.n ^ h ≤ span_most
  few : f.d ≤ lines_most
  starts : j * f.n ^ (e - h) ≤ up f.d (f.n ^ h)
  ends : up f.d (f.n ^ h) ≤ lines_most

row : (f : Figures) (e j h : ℕ) → Shaped f → InTree f e j → (f.d ≡ 0 → ⊥) → h ≤ e → Row f e j h
unfolding InTree
row f e j h s inside some u =
    let r : Reached f e j = reached f e j s inside in
    let fits = row_fits f.n f.d e j h (omega (arith, s.n_low)) u (omega (arith, inside.1, some)) in
    record {
      height = r.height;
      low = r.some h u;
      small = r.small h u;
      few = r.few;
      starts = omega (arith, fits.0);
      ends = omega (arith, fits.1, r.few);
    }

row_at : (c : goal.In-loop-h) → Row c.args.self.now.f.now c.args.e c.args.j c.loop-h.h
row_at c = row c.args.self.now.f.now c.args.e c.args.j c.loop-h.h c.args.self.now.shaped c.requires.1 c.if-f-eq0.false (omega arith)

-- the row of height h added
row_added :
    (n d e j h x y sum : ℕ) → 1 ≤ h → sum ≡ last_rows n d e j (h - 1) → x ≡ up d (n ^ h) → y ≡ n ^ (e - h) →
    sum + (x - j * y) ≡ last_rows n d e j (h + 1 - 1)
row_added n d e j h x y sum low s p q =
    let this : h + 1 - 1 ≡ suc (h - 1) = omega arith in
    let that : h ≡ suc (h - 1) = omega arith in
    let p' : x ≡ up d (n ^ suc (h - 1)) = p ∙ ap (λ z. up d (n ^ z)) that in
    let q' : y ≡ n ^ (e - suc (h - 1)) = q ∙ ap (λ z. n ^ (e - z)) that in
    rw (this, s, p', q')

pub returns-then-f-eq0 : goal.returns-then-f-eq0
unfolding plan_of InTree
returns-then-f-eq0 c =
    sym (tree_empty (plan_of c.args.self.now.f.now []) (omega (arith, c.args.self.now.shaped.n_low)) c.args.e c.args.j c.requires.1.0 (omega arith) c.requires.0)

pub overflow_add-h-end : goal.overflow_add-h-end
overflow_add-h-end c = let r = reached c.args.self.now.f.now c.args.e c.args.j c.args.self.now.shaped c.requires.1 in omega (arith, r.height)

pub loop-h-init : goal.loop-h-init
loop-h-init c = record { is_sum = refl; small = omega arith }

pub power-requires : goal.power-requires
power-requires c = (c.args.self.now.shaped.n_low, c.args.self.now.shaped.n_high, omega (arith, (row_at c).height))

pub up-requires : goal.up-requires
up-requires c =
    let r = row c.args.self.now.f.now c.args.e c.args.j c.loop-h.h c.args.self.now.shaped c.requires.1 c.if-f-eq0.false (omega arith) in
    rw c.power.ensures (r.low, omega (arith, r.small, r.few))

pub power-requires-in-loop-h : goal.power-requires-in-loop-h
power-requires-in-loop-h c =
    let r = row c.args.self.now.f.now c.args.e c.args.j c.loop-h.h c.args.self.now.shaped c.requires.1 c.if-f-eq0.false (omega arith) in
    (c.args.self.now.shaped.n_low, c.args.self.now.shaped.n_high, omega (arith, r.height))

-- what the code reads and adds
added : (c : goal.After-power-in-loop-h) → (c.args.j * c.power-in-loop-h.result ≤ c.up.result) × (c.up.result ≤ lines_most)
added c =
    let r = row c.args.self.now.f.now c.args.e c.args.j c.loop-h.h c.args.self.now.shaped c.requires.1 c.if-f-eq0.false (omega arith) in
    rw (c.power-in-loop-h.ensures, c.up.ensures, c.power.ensures) (r.starts, r.ends)

pub overflow_mul-sum : goal.overflow_mul-sum
overflow_mul-sum c = omega (arith, added c)

pub overflow_sub-sum : goal.overflow_sub-sum
overflow_sub-sum c = (added c).0

pub overflow_add-sum : goal.overflow_add-sum
overflow_add-sum c =
    let r = reached c.args.self.now.f.now c.args.e c.args.j c.args.self.now.shaped c.requires.1 in
    omega (arith, added c, c.loop-h.invariant.small, r.height)

pub loop-h-preserved : goal.loop-h-preserved
loop-h-preserved c =
    let f = c.args.self.now.f.now in
    record {
      is_sum =
          row_added f.n f.d c.args.e c.args.j c.loop-h.h c.up.result c.power-in-loop-h.result c.loop-h.sum (omega arith)
          c.loop-h.invariant.is_sum (c.up.ensures ∙ ap (up f.d) c.power.ensures) c.power-in-loop-h.ensures;
      small = omega (arith, added c, c.loop-h.invariant.small);
    }

pub returns : goal.returns
unfolding plan_of InTree
returns c =
    let f = c.args.self.now.f.now in
    let end : c.loop-h.h - 1 ≡ c.args.e = omega arith in
    c.loop-h.invariant.is_sum
    ∙ ap (last_rows f.n f.d c.args.e c.args.j) end
    ∙ sym (tree_last (plan_of f []) (omega (arith, c.args.self.now.shaped.n_low)) c.args.e c.args.j c.requires.1.0 (omega arith) (omega arith))
