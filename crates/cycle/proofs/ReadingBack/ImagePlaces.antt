-- Where an image has the last line under a bucket, from the place of the segment that it is in.
-- Assumes nothing.
use mathlib.Core.Path.{◌≡◌, sym, ap, ap₂, ◌∙◌, subst}
use mathlib.Core.Logic.{⊎_elim}
use Prim.Native.Nat.{ℕ, suc, ◌+◌, ◌-◌, ◌*◌, ◌/◌, ◌%◌, ◌^◌, ◌≤◌, ◌<◌, min}
use native.Mathlib.Nat.{mul-le-mul_right, suc-mul, one-le-pow}
use native.Mathlib.Numerals.{add-one}
use native.Mathlib.Omega.{arith}
use mathlib.Core.List.{List, []}
use lib.Arith.{digits_div, digits_mod}
use Rattle.buckets.specs.declared.Line.{Line}
use Rattle.buckets.specs.Lengths.{line_columns_width, lines_start, bucket_length, buckets_most, lines_most}
use Rattle.cycle.specs.declared.Figures.{Figures}
use Rattle.cycle.specs.declared.Segment.{Segment}
use Rattle.cycle.specs.declared.Source.TheVariants.{Image as InImage}
use Rattle.cycle.specs.Cycle.{first_place}
use Rattle.cycle.specs.Inner.Held.{plan_of, Shaped, Ready, InTree, HoldsSegment, Under, tag_place}
use Rattle.cycle.proofs.Basics.Ranges.{le_or_lt}
use Rattle.cycle.proofs.Trees.TreeLaws.{up_covers}
use Rattle.cycle.proofs.Lines.FollowOns.{full_lines}
use Rattle.cycle.proofs.Segmenting.SegmentParts.{seated, data_there}
use Rattle.cycle.proofs.Segmenting.TreePlaces.{data_in}
use Rattle.cycle.proofs.ReadingBack.BucketsCompared.{data_here}
use Rattle.cycle.specs.Tree.{layout_number}

one_less : (r : ℕ) → r ≡ r + 1 - 1
one_less r = omega arith

-- the last of x data buckets, or of all, and the lines in it
abbrev pub last_data : Figures → ℕ → ℕ
last_data f x = min f.d x - 1

abbrev pub last_lines : Figures → ℕ → ℕ
last_lines f x = min f.p (f.lines - last_data f x * f.p)

-- the last line of x data buckets
pub record LastLine (f : Figures) (x : ℕ) : Type 0 where
  pub bucket : (min f.lines (x * f.p) - 1) / f.p ≡ last_data f x
  pub column : (min f.lines (x * f.p) - 1) % f.p ≡ last_lines f x - 1
  pub some_lines : 1 ≤ last_lines f x

pub last_line_at : (f : Figures) → Shaped f → 1 ≤ f.d → (x : ℕ) → 1 ≤ x → LastLine f x
last_line_at f s some x pos =
    ⊎_elim
    (λ (l : f.d ≤ x).
    let grows : f.d * f.p ≤ x * f.p = mul-le-mul_right f.p l in
    let q_is : last_data f x ≡ f.d - 1 = omega arith in
    found (f.d - 1) (f.lines - 1 - (f.d - 1) * f.p) q_is (omega (arith, low (f.d - 1) (omega arith), high)) (omega (arith, grows, covers, low (f.d - 1) (omega arith), high))
    (omega (arith, low (f.d - 1) (omega arith), high)))
    (λ (l : x < f.d).
    let q_is : last_data f x ≡ x - 1 = omega arith in
    let next : suc (x - 1) ≡ x = omega arith in
    let row : x * f.p ≡ (x - 1) * f.p + f.p = ap (λ z. z * f.p) (sym next) ∙ suc-mul (x - 1) f.p in
    found (x - 1) (f.p - 1) q_is (omega (arith, s.p_low)) (omega (arith, row, low x l, s.p_low)) (omega (arith, row, low x l, s.p_low)))
    (le_or_lt f.d x)
  where
    covers : f.lines ≤ f.d * f.p
    covers = rw s.d_is (up_covers f.lines f.p s.p_low)

    low : (q : ℕ) → q < f.d → q * f.p < f.lines
    low q h = full_lines f s q h

    high : f.lines ≤ (f.d - 1) * f.p + f.p
    high =
        let next : suc (f.d - 1) ≡ f.d = omega arith in
        let row : f.d * f.p ≡ (f.d - 1) * f.p + f.p = ap (λ z. z * f.p) (sym next) ∙ suc-mul (f.d - 1) f.p in
        omega (arith, covers)

    found :
        (q r : ℕ) → last_data f x ≡ q → r < f.p → min f.lines (x * f.p) - 1 ≡ q * f.p + r → min f.p (f.lines - q * f.p) ≡ r + 1 → LastLine f x
    found q r q_is small line lines =
        let lines_are : last_lines f x ≡ r + 1 = ap (λ z. min f.p (f.lines - z * f.p)) q_is ∙ lines in
        record {
          bucket = ap (λ l. l / f.p) line ∙ (digits_div q {m = f.p} {r = r} small ∙ sym q_is);
          column = ap (λ l. l % f.p) line ∙ (digits_mod q {m = f.p} {r = r} small ∙ (one_less r ∙ ap (λ z. z - 1) (sym lines_are)));
          some_lines = subst (λ z. 1 ≤ z) (sym lines_are) (omega arith);
        }

-- bounds on data bucket q of a segment
pub record Room (f : Figures) (s : Segment) (q : ℕ) : Type 0 where
  pub low : s.first ≤ q
  pub lines : q * f.p < f.lines
  pub inside : s.data_at + (q - s.first) ≤ buckets_most
  pub all_lines : f.lines ≤ lines_most

module _ (f : Figures) (s : Segment) (ready : Ready f) (placed : (ls : List Line) → HoldsSegment (plan_of f ls) s) (one : layout_number f.layout ≡ 1)
    (some : 1 ≤ f.d) (e j : ℕ) (inside : InTree f e j) (under : Under f s e j) where
  abbrev behind : ℕ
  behind = (j + 1) * f.n ^ e

  wide : behind ≡ j * f.n ^ e + f.n ^ e
  wide = ap (λ z. z * f.n ^ e) (add-one j) ∙ suc-mul j (f.n ^ e)

  power : 1 ≤ f.n ^ e
  power = one-le-pow e f.n (omega (arith, ready.shaped.n_low))

  pub last_line_there : LastLine f behind
  last_line_there = last_line_at f ready.shaped some behind (omega (arith, wide, power))

  pub last_low : s.first ≤ last_data f behind
  unfolding plan_of InTree
  last_low = omega (arith, ((placed []).data_under_lem one).0, under.from one, inside.1, wide, power)

  pub last_high : last_data f behind < s.last
  unfolding plan_of
  last_high = omega (arith, ((placed []).data_under_lem one).1, under.to one, wide, power)

  pub place_there :
      bucket_length * (s.data_at + (last_data f behind - s.first)) + (lines_start + line_columns_width * (last_lines f behind - 1)) ≡ tag_place f InImage (f.n ^ e) j
  unfolding tag_place plan_of
  place_there =
      let q : ℕ = last_data f behind in
      let here : first_place (plan_of f []) (f.k + 1) q ≡ s.data_at + (q - s.first) =
      data_here f [] ready (s.data_at + (q - s.first)) q (data_there f s ready placed [] q last_low last_high) in
      let at = last_line_there in
      sym
      (ap₂ (λ u v. bucket_length * first_place (plan_of f []) (f.k + 1) u + (lines_start + line_columns_width * v)) at.bucket at.column
      ∙ omega (arith, here))

  -- what the code's arithmetic asks of the data bucket
  pub place_room : (q : ℕ) → q ≡ last_data f behind → Room f s q
  place_room q is =
      let below : q < s.last = subst (λ z. z < s.last) (sym is) last_high in
      let above : s.first ≤ q = subst (λ z. s.first ≤ z) (sym is) last_low in
      let sits = seated f s ready placed in
      record {
        low = above;
        lines = full_lines f ready.shaped q (data_in f s ready placed q below);
        inside = omega (arith, sits, (placed []).ends);
        all_lines = ready.shaped.lines_high;
      }
