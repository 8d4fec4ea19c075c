-- One pass over lines whose tags never fall: what is known at a line of the different tags before its own and of their waits.
-- Assumes nothing.
use mathlib.Core.Path.{◌≡◌, refl, sym, ap, ap₂, ◌∙◌}
use Prim.Native.Nat.{ℕ, suc, ◌+◌, ◌*◌, ◌/◌, ◌≤◌, ◌<◌}
use native.Mathlib.Nat.{zero-div, div-mul-le_self, mul-le-mul_right, le-div_iff_mul-le}
use native.Mathlib.Omega.{arith}
use mathlib.Core.List.{List}
use lib.ListN.{length, drop, drop_of_length-le}
use Rattle.buckets.specs.declared.Line.{Line}
use Rattle.cycle.specs.Tree.{Plan}
use Rattle.cycle.specs.Cycle.{cycle_size}
use Rattle.cycle.specs.Waits.{different_tags, total, first_with, waits_between, tag_waits, wait_sum}
use Rattle.cycle.proofs.Lines.DataTags.{AcceptedPlan}
use Rattle.cycle.proofs.Waiting.PlanWaits.{waits_most}
use Rattle.cycle.proofs.Waiting.TagLines.{line_tag, later_tag, first_with_lem, last_with_lem, tags_same, tags_next}

-- the sum over the different tags from line a on
unfoldable pub sum_from : Plan → ℕ → ℕ
sum_from t a = total (tag_waits t) (different_tags (drop a t.lines))

-- and their number
unfoldable pub tags_from : Plan → ℕ → ℕ
tags_from t a = length (different_tags (drop a t.lines))

-- line a was looked at last: its tag, the tag's first data bucket, the tags met, and the sum over those before it
pub record PassedTo (t : Plan) (a tag first tags sum : ℕ) : Type 0 where
  pub inside : a < length t.lines
  pub tag_is : tag ≡ line_tag t.lines a
  pub first_is : first ≡ first_with t tag
  pub first_low : first ≤ a / t.p
  pub sum_is : sum_from t 0 ≡ sum + sum_from t a
  pub tags_is : tags_from t 0 + 1 ≡ tags + tags_from t a
  pub tags_high : tags ≤ a + 1
  pub sum_high : sum ≤ tags * waits_most

module _ (t : Plan) (a : ℕ) where
  -- the tag goes on
  same_from : a < length t.lines → suc a < length t.lines → line_tag t.lines (suc a) ≡ line_tag t.lines a →
      (sum_from t a ≡ sum_from t (suc a)) × (tags_from t a ≡ tags_from t (suc a))
  unfolding sum_from tags_from
  same_from h l e =
      let same = tags_same t.lines a h l e in (ap (total (tag_waits t)) same, ap length same)

  -- it ends with line a
  next_from :
      a < length t.lines → ((j : ℕ) → a < j → j < length t.lines → line_tag t.lines j ≡ line_tag t.lines a → ⊥) →
      (sum_from t a ≡ tag_waits t (line_tag t.lines a) + sum_from t (suc a)) × (tags_from t a ≡ suc (tags_from t (suc a)))
  unfolding sum_from tags_from
  next_from h n =
      let next = tags_next t.lines a h n in (ap (total (tag_waits t)) next, ap length next)

-- all of them
whole_sum : (t : Plan) → sum_from t 0 ≡ total (tag_waits t) (different_tags t.lines)
unfolding sum_from
whole_sum t = refl

whole_tags : (t : Plan) → tags_from t 0 ≡ length (different_tags t.lines)
unfolding tags_from
whole_tags t = refl

none_from : (t : Plan) (a : ℕ) → length t.lines ≤ a → (sum_from t a ≡ 0) × (tags_from t a ≡ 0)
unfolding sum_from tags_from
none_from t a h =
    let gone = drop_of_length-le t.lines {i = a} h in
    (ap (λ ls. total (tag_waits t) (different_tags ls)) gone, ap (λ ls. length (different_tags ls)) gone)

module _ (t : Plan) (known : AcceptedPlan t) where
  -- ---- the first line

  pub pass_starts : 1 ≤ length t.lines → PassedTo t 0 (line_tag t.lines 0) 0 1 0
  pass_starts some =
      let start : 0 / t.p ≡ 0 = zero-div t.p in
      record {
        inside = omega arith;
        tag_is = refl;
        first_is = sym (first_with_lem t known 0 (omega arith) (λ i (h : i < 0) e. absurd (omega arith)) ∙ start);
        first_low = omega arith;
        sum_is = omega arith;
        tags_is = omega arith;
        tags_high = omega arith;
        sum_high = omega arith;
      }

  module _ (a tag first tags sum : ℕ) (so : PassedTo t a tag first tags sum) where
    -- ---- a line with the same tag

    pub pass_same : suc a < length t.lines → tag ≡ line_tag t.lines (suc a) → PassedTo t (suc a) tag first tags sum
    pass_same h e =
        let same = same_from t a so.inside h (sym e ∙ so.tag_is) in
        let from : a / t.p * t.p ≤ a = div-mul-le_self a t.p in
        let low : first * t.p ≤ a / t.p * t.p = mul-le-mul_right t.p so.first_low in
        record {
          inside = h;
          tag_is = e;
          first_is = so.first_is;
          first_low = (le-div_iff_mul-le {k = t.p} {x = first} {y = suc a} known.sound.full).1 (omega arith);
          sum_is = omega (arith, so.sum_is, same.0);
          tags_is = omega (arith, so.tags_is, same.1);
          tags_high = omega (arith, so.tags_high);
          sum_high = so.sum_high;
        }

    -- ---- where the tag ends

    -- the waits of its tag
    waits_are :
        ((j : ℕ) → a < j → j < length t.lines → line_tag t.lines j ≡ line_tag t.lines a → ⊥) →
        (w : ℕ) → w ≡ waits_between t first (a / t.p) → w ≡ tag_waits t (line_tag t.lines a)
    unfolding tag_waits
    waits_are n w e =
        e ∙ ap₂ (waits_between t) (so.first_is ∙ ap (first_with t) so.tag_is) (sym (last_with_lem t known a so.inside n))

    -- a line with another tag
    pub pass_next :
        suc a < length t.lines → (next : ℕ) → next ≡ line_tag t.lines (suc a) → (next ≡ tag → ⊥) →
        (w : ℕ) → w ≡ waits_between t first (a / t.p) → w ≤ waits_most →
        PassedTo t (suc a) next (suc a / t.p) (tags + 1) (sum + w)
    pass_next h next e other w is high =
        let ls : List Line = t.lines in
        let up : line_tag ls a ≤ line_tag ls (suc a) = later_tag 0 ls known.rises a (suc a) (omega arith) h in
        let more : (line_tag ls (suc a) ≡ line_tag ls a → ⊥) = λ z. other (e ∙ z ∙ sym so.tag_is) in
        let behind : ((j : ℕ) → a < j → j < length ls → line_tag ls j ≡ line_tag ls a → ⊥) =
        λ j u v z. more (let k : line_tag ls (suc a) ≤ line_tag ls j = later_tag 0 ls known.rises (suc a) j u v in omega arith) in
        let before : ((i : ℕ) → i < suc a → line_tag ls i ≡ line_tag ls (suc a) → ⊥) =
        λ i u z. more (let k : line_tag ls i ≤ line_tag ls a = later_tag 0 ls known.rises i a (omega arith) so.inside in omega arith) in
        let sums = next_from t a so.inside behind in
        let mine : w ≡ tag_waits t (line_tag ls a) = waits_are behind w is in
        record {
          inside = h;
          tag_is = e;
          first_is = sym (first_with_lem t known (suc a) h before) ∙ ap (first_with t) (sym e);
          first_low = omega arith;
          sum_is = omega (arith, so.sum_is, sums.0, mine);
          tags_is = omega (arith, so.tags_is, sums.1);
          tags_high = omega (arith, so.tags_high);
          sum_high = omega (arith, so.sum_high);
        }

    -- the last line
    pub pass_ends :
        length t.lines ≤ suc a → (w : ℕ) → w ≡ waits_between t first (a / t.p) →
        (n : ℕ) → n ≡ cycle_size t → record { n = n; tags = tags; sum = sum + w } ≡ wait_sum t
    unfolding wait_sum
    pass_ends h w is n size =
        let behind : ((j : ℕ) → a < j → j < length t.lines → line_tag t.lines j ≡ line_tag t.lines a → ⊥) =
        λ j u v z. omega arith in
        let sums = next_from t a so.inside behind in
        let end = none_from t (suc a) h in
        let mine : w ≡ tag_waits t (line_tag t.lines a) = waits_are behind w is in
        let tags_are : tags ≡ tags_from t 0 = omega (arith, so.tags_is, sums.1, end.1) in
        let sum_are : sum + w ≡ sum_from t 0 = omega (arith, so.sum_is, sums.0, end.0, mine) in
        λ i. record { n = size i; tags = (tags_are ∙ whole_tags t) i; sum = (sum_are ∙ whole_sum t) i }
