-- The largest tag under a bucket is that of the last line under it.
-- Assumes nothing.
use mathlib.Core.Path.{◌≡◌, refl, sym, ap, ◌∙◌}
use Prim.Native.Nat.{ℕ, suc, ◌+◌, ◌-◌, ◌*◌, ◌^◌, ◌≤◌, ◌<◌, min}
use native.Mathlib.Nat.{pow-zero, mul-one, suc-mul, one-le-pow, mul-le-mul}
use native.Mathlib.Numerals.{add-one}
use native.Mathlib.Omega.{arith}
use mathlib.Core.List.{List}
use Rattle.columns.specs.Lists.{last_or, range}
use Rattle.cycle.specs.Tree.{Plan, under, data_under, last_tag, largest_tag}
use Rattle.cycle.specs.declared.Figures.{Figures}
use Rattle.cycle.specs.declared.Source.{Source}
use Rattle.cycle.specs.Inner.Held.{plan_of, Shaped, InTree, tag_at, plan_in, Spans}
use Rattle.cycle.proofs.Basics.Ranges.{last_range}
use Rattle.cycle.proofs.Trees.TreeLaws.{up_lt, up_covers, min_covered, under_range}
use Rattle.cycle.proofs.Lines.Tags.{last_tag_lem}
use Rattle.cycle.proofs.Trees.Readiness.{reached}

module _ (f : Figures) (e j : ℕ) (s : Shaped f) (some : 1 ≤ f.d) (inside : InTree f e j) where
  pos : 0 < f.n
  pos = omega (arith, s.n_low)

  -- how many lines stand up to the end of the bucket
  pub lines_some : 1 ≤ min f.lines ((j + 1) * f.n ^ e * f.p)
  lines_some =
      let any_line : 0 * f.p < f.lines = up_lt f.lines f.p 0 s.p_low (rw (sym s.d_is) some) in
      let power : 1 ≤ f.n ^ e = one-le-pow e f.n pos in
      let first : 1 * 1 ≤ (j + 1) * f.n ^ e = mul-le-mul {n₁ = 1} {m₁ = 1} (omega arith) power in
      let more : 1 * 1 ≤ (j + 1) * f.n ^ e * f.p = mul-le-mul {n₁ = 1} {m₁ = 1} (omega arith) s.p_low in
      omega arith

  -- the last data bucket under it
  last_under : (t : Plan) → t.n ≡ f.n → t.d ≡ f.d → t.k ≡ f.k → last_or 0 (data_under t (t.k + 1 - e) j) ≡ min f.d ((j + 1) * f.n ^ e) - 1
  unfolding data_under InTree
  last_under t same_n same_d same_k =
      let m : ℕ = f.n ^ e in
      let power : 1 ≤ m = one-le-pow e f.n pos in
      let height : t.k + 1 - (t.k + 1 - e) ≡ e = omega (arith, inside.0) in
      let wide : suc j * m ≡ j * m + m = suc-mul j m in
      let row : under t e (t.k + 1 - e) j ≡ range (j * t.n ^ e) (min t.d (suc j * t.n ^ e)) =
      under_range t (omega (arith, s.n_low)) e (t.k + 1 - e) j (omega (arith, inside.0))
      (λ z.
      let one : f.n ^ e ≡ 1 = ap (λ x. f.n ^ x) z ∙ pow-zero f.n in
      let here : j * f.n ^ e ≡ j = ap (λ x. j * x) one ∙ mul-one j in
      omega (arith, inside.1)) in
      rw (height, row, same_n, same_d)
      (last_range 0 (j * m) (min f.d (suc j * m)) (omega (arith, inside.1)) ∙ ap (λ x. min f.d (x * m) - 1) (sym (add-one j)))

  pub largest_tag_lem :
      (source : Source) (text : List ℕ) →
      largest_tag (plan_in f source text) (f.k + 1 - e) j ≡ tag_at f source text (min f.lines ((j + 1) * f.n ^ e * f.p) - 1)
  unfolding largest_tag plan_in plan_of InTree
  largest_tag_lem source text =
      let t : Plan = plan_in f source text in
      let x : ℕ = (j + 1) * f.n ^ e in
      let q : ℕ = min f.d x - 1 in
      let power : 1 ≤ f.n ^ e = one-le-pow e f.n pos in
      let first : 1 * 1 ≤ x = mul-le-mul {n₁ = 1} {m₁ = 1} (omega arith) power in
      let lines_up : q * f.p < f.lines = up_lt f.lines f.p q s.p_low (rw (sym s.d_is) (omega arith)) in
      let covers : f.lines ≤ f.d * f.p = rw s.d_is (up_covers f.lines f.p s.p_low) in
      let whole : q + 1 ≡ min x f.d = omega arith in
      ap (last_tag t) (last_under t refl refl refl)
      ∙ last_tag_lem f source text q s.p_low lines_up
      ∙ ap (λ y. tag_at f source text (y - 1)) (ap (λ y. min f.lines (y * f.p)) whole ∙ min_covered f.lines f.d x f.p covers)

-- bounds on a bucket of a level whose full buckets have `span` data buckets under them
pub record SpanReached (f : Figures) (span j : ℕ) : Type 0 where
  pub place : j ≤ 40000
  pub some_data : 1 ≤ span
  pub end : (j + 1) * span ≤ 360000
  pub lines_some : 1 ≤ min f.lines ((j + 1) * span * f.p)

pub span_reached : (f : Figures) (span j : ℕ) → Shaped f → 1 ≤ f.d → Spans f span j → SpanReached f span j
span_reached f span j s some w =
    let e : ℕ = w.height in
    let known = reached f e j s w.inside in
    record {
      place = known.place;
      some_data = rw w.power (one-le-pow e f.n (omega (arith, s.n_low)));
      end = rw w.power known.end;
      lines_some = rw w.power (lines_some f e j s some w.inside);
    }
