-- A child that has one behind it is full.
use Rattle.std.proofs.Common.{◌≡◌, ℕ, zero, suc, ◌+◌, ◌-◌, ◌*◌, ◌^◌, ◌≤◌, ◌<◌, List, [], length, sym, ap, subst, ◌∙◌, arith}
use native.Mathlib.Nat.{le_of_lt, mul-le-mul, suc-mul, zero-mul, pow-zero, mul-one}
use native.Mathlib.Numerals.{add-one}
use borrow.Author.Tests.{eq-eqb, ne_eqb, lt-ltb}
use Rattle.columns.specs.Lists.{joined, span}
use Rattle.buckets.specs.declared.Line.{Line}
use Rattle.cycle.specs.Tree.{layout_number, children}
use Rattle.cycle.specs.declared.Figures.{Figures}
use Rattle.cycle.specs.declared.Segment.{Segment}
use Rattle.cycle.specs.Judging.{tree_at, full_size}
use Rattle.cycle.specs.Cycle.{first_place}
use Rattle.cycle.specs.Inner.Held.{plan_of, Ready, InTree, Under, HoldsSegment, TreePlace, ahead_of, tree_distance}
use Rattle.cycle.proofs.Trees.Readiness.{reached}
use Rattle.cycle.proofs.Trees.Children.{near_here, near_next, few, first_small, under_data, children_count}
use Rattle.cycle.proofs.Trees.TreeSizes.{tree_full}
use Rattle.cycle.proofs.Segmenting.TreePlaces.{tree_before}
use Rattle.cycle.proofs.Segmenting.SegmentParts.{seated}
use Rattle.cycle.proofs.Reach.DataRows.{row_place, Row, row_room}
use Rattle.cycle.proofs.Part.tree_distance.Goals as goal

-- ---- behind full subtrees

module _ (f : Figures) (ready : Ready f) (e j : ℕ) (low : 1 ≤ e) (inside : InTree f e j) where
  abbrev count : ℕ
  count = length (children (plan_of f []) (f.k + 1 - e) j)

  full_child : (i : ℕ) → suc i < count → length (tree_at (plan_of f []) (e - 1) (j * f.n + i)) ≡ full_size f.n (e - 1)
  unfolding plan_of InTree
  full_child i h =
      let next : j * f.n + suc i ≡ suc (j * f.n + i) = omega arith in
      let under : (j * f.n + suc i) * f.n ^ (e - 1) < f.d = under_data f ready e j low inside (suc i) h in
      let enough : suc (j * f.n + i) * f.n ^ (e - 1) ≤ f.d = rw next at (le_of_lt under) in
      tree_full (plan_of f []) (omega (arith, ready.shaped.n_low)) (e - 1) (j * f.n + i) (omega (arith, inside.0)) enough

  near_full : (i : ℕ) → i < count → 1 + length (joined (tree_at (plan_of f []) (e - 1)) (span (j * f.n) i)) ≡ 1 + i * full_size f.n (e - 1)
  near_full zero h = ap (λ z. 1 + z) (sym (zero-mul (full_size f.n (e - 1))))
  near_full (suc i) h =
      let one_more : suc i ≡ i + 1 = sym (add-one i) in
      ap (λ z. 1 + length (joined (tree_at (plan_of f []) (e - 1)) (span (j * f.n) z))) one_more
      ∙ sym (near_next (plan_of f []) (e - 1) (j * f.n) i)
      ∙ (let before = near_full i (omega arith) in
      let own = full_child i h in
      let row = suc-mul i (full_size f.n (e - 1)) in
      omega arith)

  near : (x i : ℕ) → (e ≡ 1 → ⊥) → i < count → 1 + i * full_size f.n (e - 1) ≡ tree_distance (plan_of f []) f.size x e j (j * f.n + i)
  unfolding tree_distance plan_of
  near x i more h = sym (near_full i h) ∙ near_here (plan_of f []) (e - 1) (j * f.n) i ∙ sym (rw (ne_eqb e 1 more))

-- ---- data buckets

far :
    (f : Figures) (x e j c y : ℕ) → e ≡ 1 → y ≡ first_place (plan_of f []) (f.k + 1) c →
    ahead_of f.size x y ≡ tree_distance (plan_of f []) f.size x e j c
unfolding tree_distance plan_of
far f x e j c y one is = ap (ahead_of f.size x) is ∙ sym (rw (eq-eqb e 1 one))

onward : (size x y : ℕ) → x < y → y - x ≡ ahead_of size x y
unfolding ahead_of
onward size x y h = sym (rw (lt-ltb x y h))

-- child i as a data bucket
record DataChild (f : Figures) (j i : ℕ) : Type 0 where
  few_children : i < 8
  among : i < f.n
  small : j * f.n ≤ 320000
  below : j * f.n + i < f.d

module _ {f : Figures} {s : Segment} {e j x i : ℕ} (ready : Ready f) (p : TreePlace f s e j x)
    (inside : i < length (children (plan_of f []) (f.k + 1 - e) j)) where
  child : e ≡ 1 → DataChild f j i
  child one =
      let none : e - 1 ≡ 0 = omega arith in
      let under : (j * f.n + i) * f.n ^ (e - 1) < f.d = under_data f ready e j p.low p.inside i inside in
      record {
        few_children = few f ready e j p.low p.inside i inside;
        among = omega (arith, inside, children_count f ready e j p.low p.inside);
        small = first_small f ready e j p.low p.inside;
        below = rw (none, pow-zero, mul-one) at under;
      }

  row : ((ls : List Line) → HoldsSegment (plan_of f ls) s) → e ≡ 1 → layout_number f.layout ≡ 1 → Row f s j
  row holds one layout =
      row_room f s ready holds layout (omega (arith, (child one).below)) j
      (subst (λ e. InTree f e j) one p.inside) (subst (λ e. Under f s e j) one p.under)

  full_small : (full : ℕ) → full ≡ full_size f.n (e - 1) → i * full ≤ 8 * 320000
  full_small full is =
      let at = reached f e j ready.shaped p.inside in
      mul-le-mul {n₂ = 8} {m₂ = 320000}
      (le_of_lt (few f ready e j p.low p.inside i inside))
      (omega (arith, is, at.full_small (e - 1) (omega arith)))

  -- the data bucket's place in layout 1
  there :
      ((ls : List Line) → HoldsSegment (plan_of f ls) s) → e ≡ 1 → layout_number f.layout ≡ 1 →
      s.data_at + (j * f.n + i - s.first) ≡ first_place (plan_of f []) (f.k + 1) (j * f.n + i)
  there holds one layout =
      let d = child one in
      let r = row holds one layout in
      let is = row_place f ready layout j i d.among d.below in
      omega (arith, is, r.there, r.low)

pub overflow_mul-result : goal.overflow_mul-result
overflow_mul-result c =
    let r = c.requires in
    omega (arith, full_small c.args.self.now.cycle.now.ready r.tree_place r.i_in_bounds c.args.full r.full_value)

pub overflow_add-result : goal.overflow_add-result
overflow_add-result c =
    let r = c.requires in
    omega (arith, full_small c.args.self.now.cycle.now.ready r.tree_place r.i_in_bounds c.args.full r.full_value)

pub returns-then-e-ne1 : goal.returns-then-e-ne1
returns-then-e-ne1 c =
    let cycle = c.args.self.now.cycle.now in
    let p = c.requires.tree_place in
    ap (λ z. 1 + c.args.i * z) c.requires.full_value
    ∙ near cycle.f cycle.ready c.args.e c.args.j p.low p.inside c.args.x c.args.i c.if-e-ne1.true c.requires.i_in_bounds

pub overflow_mul-c : goal.overflow_mul-c
overflow_mul-c c = omega (arith, child c.args.self.now.cycle.now.ready c.requires.tree_place c.requires.i_in_bounds c.if-e-ne1.false)

pub overflow_add-c : goal.overflow_add-c
overflow_add-c c = omega (arith, child c.args.self.now.cycle.now.ready c.requires.tree_place c.requires.i_in_bounds c.if-e-ne1.false)

pub overflow_sub-result : goal.overflow_sub-result
overflow_sub-result c =
    let p = c.args.self.now in
    let r = c.requires in
    let one = ap layout_number c.in-Distributed.is in
    omega (arith, (row p.cycle.now.ready r.tree_place r.i_in_bounds p.placed c.if-e-ne1.false one).low)

pub overflow_add-result-in-Distributed : goal.overflow_add-result-in-Distributed
overflow_add-result-in-Distributed c =
    let p = c.args.self.now in
    let r = c.requires in
    let one = ap layout_number c.in-Distributed.is in
    omega (
      arith,
      row p.cycle.now.ready r.tree_place r.i_in_bounds p.placed c.if-e-ne1.false one,
      (child p.cycle.now.ready r.tree_place r.i_in_bounds c.if-e-ne1.false).few_children,
    )

pub returns-in-Distributed : goal.returns-in-Distributed
returns-in-Distributed c =
    let p = c.args.self.now in
    let f = p.cycle.now.f in
    let r = c.requires in
    let here = tree_before f p.s p.cycle.now.ready p.placed c.args.e c.args.j c.args.x r.tree_place in
    onward f.size c.args.x _ (omega (arith, here))
    ∙ far f c.args.x c.args.e c.args.j (c.args.j * f.n + c.args.i) _ c.if-e-ne1.false
    (there p.cycle.now.ready r.tree_place r.i_in_bounds p.placed c.if-e-ne1.false (ap layout_number c.in-Distributed.is))

pub data_place-requires : goal.data_place-requires
data_place-requires c = (child c.args.self.now.cycle.now.ready c.requires.tree_place c.requires.i_in_bounds c.if-e-ne1.false).below

pub ahead-requires : goal.ahead-requires
ahead-requires c =
    let p = c.args.self.now in
    let f = p.cycle.now.f in
    omega (
      arith,
      seated f p.s p.cycle.now.ready p.placed,
      tree_before f p.s p.cycle.now.ready p.placed c.args.e c.args.j c.args.x c.requires.tree_place,
    )

pub returns-in-OneM : goal.returns-in-OneM
returns-in-OneM c =
    let f = c.args.self.now.cycle.now.f in
    c.ahead.ensures ∙ far f c.args.x c.args.e c.args.j (c.args.j * f.n + c.args.i) _ c.if-e-ne1.false c.data_place.ensures
