-- In layout 1 the data buckets under a bucket of the lowest index level stand side by side, in its segment.
-- Assumes nothing.
use mathlib.Core.Path.{◌≡◌, sym, ap, subst, ◌∙◌}
use Prim.Native.Nat.{ℕ, suc, ◌+◌, ◌-◌, ◌*◌, ◌/◌, ◌^◌, ◌≤◌, ◌<◌}
use native.Mathlib.Nat.{add-zero, mul-one, suc-mul, pow-zero, pow-succ', div-div-eq-div-mul}
use native.Mathlib.Numerals.{add-one}
use native.Mathlib.Omega.{arith}
use mathlib.Core.List.{List, []}
use lib.Arith.{digits_div}
use Rattle.buckets.specs.declared.Line.{Line}
use Rattle.buckets.specs.Lengths.{buckets_most}
use Rattle.cycle.specs.declared.Figures.{Figures}
use Rattle.cycle.specs.declared.Segment.{Segment}
use Rattle.cycle.specs.Cycle.{first_place}
use Rattle.cycle.specs.Inner.Held.{plan_of, Ready, InTree, HoldsSegment, Under}
use Rattle.cycle.proofs.Trees.Readiness.{block}
use Rattle.cycle.proofs.Reach.DataHeld.{InBlock, data_in_block}
use Rattle.cycle.proofs.Segmenting.SegmentParts.{seated, data_there}
use Rattle.cycle.proofs.ReadingBack.BucketsCompared.{data_here}
use Rattle.cycle.specs.Tree.{layout_number}

-- the bucket of height h + 1 above child i of bucket j
over : (n h j i : ℕ) → i < n → (j * n + i) / n ^ suc h ≡ j / n ^ h
over n h j i l =
    ap (λ m. (j * n + i) / m) (pow-succ' n h)
    ∙ sym (div-div-eq-div-mul (j * n + i) n (n ^ h))
    ∙ ap (λ c. c / n ^ h) (digits_div j {m = n} {r = i} l)

module _ (f : Figures) (ready : Ready f) (one : layout_number f.layout ≡ 1) (j i : ℕ) (among : i < f.n) (inside : j * f.n + i < f.d) where
  same_block : (j * f.n + i) / f.n ^ (f.k - f.copies) ≡ j * f.n / f.n ^ (f.k - f.copies)
  same_block =
      let tall : f.k - f.copies ≡ suc (f.k - f.copies - 1) = omega (arith, (block f ready.shaped one ready.copies_fit_lem).fits) in
      let h : ℕ = f.k - f.copies - 1 in
      ap (λ e. (j * f.n + i) / f.n ^ e) tall
      ∙ over f.n h j i among
      ∙ sym (over f.n h j 0 (omega arith))
      ∙ ap (λ q. q / f.n ^ suc h) (add-zero (j * f.n))
      ∙ ap (λ e. j * f.n / f.n ^ e) (sym tall)

  pub row_place : first_place (plan_of f []) (f.k + 1) (j * f.n + i) ≡ first_place (plan_of f []) (f.k + 1) (j * f.n) + i
  row_place =
      let here = subst (λ b. InBlock f (j * f.n + i) ready inside b) same_block (data_in_block f (j * f.n + i) ready inside one) in
      let first = data_in_block f (j * f.n) ready (omega arith) one in
      omega (arith, here.is, first.is)

-- the first data bucket under bucket j of the lowest index level, and its place
pub record Row (f : Figures) (s : Segment) (j : ℕ) : Type 0 where
  pub low : s.first ≤ j * f.n
  pub there : first_place (plan_of f []) (f.k + 1) (j * f.n) ≡ s.data_at + (j * f.n - s.first)
  pub inside : s.data_at + (j * f.n - s.first) ≤ buckets_most

pub row_room :
    (f : Figures) (s : Segment) → Ready f → ((ls : List Line) → HoldsSegment (plan_of f ls) s) → layout_number f.layout ≡ 1 → 1 ≤ f.d → (j : ℕ) → InTree f 1 j → Under f s 1 j →
    Row f s j
unfolding plan_of InTree
row_room f s ready placed one some j inside under =
    let q : ℕ = j * f.n in
    let e : f.n ^ 1 ≡ f.n = pow-succ' f.n 0 ∙ ap (λ m. f.n * m) (pow-zero f.n) ∙ mul-one f.n in
    let here : q < f.d = omega (arith, rw e at inside.1) in
    let wide : (j + 1) * f.n ≡ q + f.n = ap (λ z. z * f.n) (add-one j) ∙ suc-mul j f.n in
    let above : s.first ≤ q = omega (arith, ((placed []).data_under_lem one).0, rw e at (under.from one)) in
    let below : q < s.last = omega (arith, ((placed []).data_under_lem one).1, rw e at (under.to one), ready.shaped.n_low) in
    let sits = seated f s ready placed in
    record {
      low = above;
      there = data_here f [] ready (s.data_at + (q - s.first)) q (data_there f s ready placed [] q above below);
      inside = omega (arith, sits, (placed []).ends);
    }
