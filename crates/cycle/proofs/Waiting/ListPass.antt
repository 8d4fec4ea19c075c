-- The pass over the lines of a list that can be sent, under its figures: what is known at the next line, of the tags before it.
-- Assumes nothing.
use mathlib.Core.Path.{◌≡◌, sym, ap, ◌∙◌, subst}
use Prim.Native.Nat.{ℕ, suc, ◌+◌, ◌-◌, ◌*◌, ◌/◌, ◌≤◌, ◌<◌}
use native.Mathlib.Nat.{mul_comm}
use native.Mathlib.Omega.{arith}
use mathlib.Core.List.{List, []}
use lib.ListN.{length, drop}
use Rattle.buckets.specs.declared.Line.{Line}
use Rattle.buckets.specs.ListLine.{spelled, list_lines}
use Rattle.buckets.specs.Lengths.{line_length}
use Rattle.buckets.proofs.Lists.{length_list_lines, line_at}
use Rattle.cycle.specs.Tree.{Plan}
use Rattle.cycle.specs.Waits.{waits_between, wait_sum}
use Rattle.cycle.specs.declared.Figures.{Figures}
use Rattle.cycle.specs.declared.Source.TheVariants.{List as InList}
use Rattle.cycle.specs.Inner.Held.{plan_of, AcceptedList, tag_at}
use Rattle.cycle.proofs.ReadingBack.ImageLines.{spelled_front}
use Rattle.cycle.proofs.Lines.DataTags.{AcceptedPlan}
use Rattle.cycle.proofs.Building.Accepted.{laid}
use Rattle.cycle.proofs.Building.AcceptedPlans.{sending_lines, sending_accepted}
use Rattle.cycle.proofs.Building.AcceptedLists.{size_shape}
use Rattle.cycle.proofs.Waiting.PlanWaits.{waits_most, waits_shape, waits_high}
use Rattle.cycle.proofs.Waiting.TagLines.{line_tag, nowhere, bucket_inside}
use Rattle.cycle.proofs.Waiting.TagPass.{PassedTo, pass_starts, pass_same, pass_next, pass_ends}

-- before line i: the tag of the line before it, the tag's first data bucket, the tags met, and the sum over those that ended
pub record ListPass (f : Figures) (list : List ℕ) (tag first tags sum i : ℕ) : Type 0 where
  pub low : 1 ≤ i
  pub high : i ≤ f.lines
  pub first_low : first ≤ (i - 1) / f.p
  pub tags_high : tags ≤ i
  pub sum_high : sum ≤ tags * waits_most
  pub passed : PassedTo (plan_of f (list_lines list)) (i - 1) tag first tags sum

module _ {f : Figures} {list : List ℕ} (s : AcceptedList f list) where
  abbrev lines : List Line
  lines = list_lines list

  abbrev list_plan : Plan
  list_plan = plan_of f lines

  listed : AcceptedPlan list_plan
  listed = laid list_plan (sending_accepted f list s)

  count : length list_plan.lines ≡ f.lines
  unfolding plan_of
  count = sending_lines f list s

  -- the tag that is read for line i
  pub tag_read : (i : ℕ) → i < f.lines → tag_at f InList list i ≡ line_tag list_plan.lines i
  unfolding tag_at line_tag plan_of spelled
  tag_read i h =
      let long : length lines ≡ f.lines = sending_lines f list s in
      let same : i * line_length ≡ line_length * i = mul_comm i line_length in
      sym (ap (λ l. l.tag)
      (line_at list nowhere i (omega (arith, long, length_list_lines list))
      ∙ spelled_front line_length (drop (i * line_length) list) (omega arith)
      ∙ ap (λ k. spelled (drop k list)) same))

  -- a pass at line a
  at_line :
      (a : ℕ) {tag first tags sum : ℕ} → PassedTo list_plan a tag first tags sum → ListPass f list tag first tags sum (a + 1)
  unfolding plan_of
  at_line a {tag} {first} {tags} {sum} x =
      let e : a ≡ a + 1 - 1 = omega arith in
      record {
        low = omega arith;
        high = omega (arith, count, x.inside);
        first_low = subst (λ k. first ≤ k / f.p) e x.first_low;
        tags_high = x.tags_high;
        sum_high = x.sum_high;
        passed = subst (λ k. PassedTo list_plan k tag first tags sum) e x;
      }

  pub list_starts : 1 ≤ f.lines → (tag : ℕ) → tag ≡ tag_at f InList list 0 → ListPass f list tag 0 1 0 1
  list_starts some tag e =
      subst (λ x. ListPass f list x 0 1 0 1) (sym (e ∙ tag_read 0 (omega arith)))
      (at_line 0 (pass_starts list_plan listed (omega (arith, count))))

  module _ {tag first tags sum i : ℕ} (so : ListPass f list tag first tags sum i) where
    -- what the waits of a tag are asked for
    pub waits_asked : (first ≤ (i - 1) / f.p) × ((i - 1) / f.p < f.d)
    unfolding plan_of
    waits_asked = (so.first_low, bucket_inside list_plan listed (i - 1) so.passed.inside)

    pub waits_small : (w : ℕ) → w ≡ waits_between (plan_of f []) first ((i - 1) / f.p) → w ≤ waits_most
    waits_small w e = subst (λ x. x ≤ waits_most) (sym e) (waits_high f first ((i - 1) / f.p) s.ready waits_asked.1)

    here : (w : ℕ) → w ≡ waits_between (plan_of f []) first ((i - 1) / f.p) → w ≡ waits_between list_plan first ((i - 1) / list_plan.p)
    unfolding plan_of
    here w e = e ∙ waits_shape f [] lines first ((i - 1) / f.p)

    abbrev one_on : suc (i - 1) ≡ i
    one_on = omega (arith, so.low)

    module _ (inside : i < f.lines) (next : ℕ) (read : next ≡ tag_at f InList list i) where
      there : next ≡ line_tag list_plan.lines (suc (i - 1))
      there = read ∙ tag_read i inside ∙ ap (line_tag list_plan.lines) (sym one_on)

      moved : {tag first tags sum : ℕ} → PassedTo list_plan (suc (i - 1)) tag first tags sum → ListPass f list tag first tags sum (i + 1)
      moved {tag} {first} {tags} {sum} x = at_line i (subst (λ k. PassedTo list_plan k tag first tags sum) one_on x)

      pub list_same : next ≡ tag → ListPass f list tag first tags sum (i + 1)
      list_same e =
          moved (pass_same list_plan listed (i - 1) tag first tags sum so.passed (omega (arith, one_on, count)) (sym e ∙ there))

      pub list_next :
          (next ≡ tag → ⊥) → (w : ℕ) → w ≡ waits_between (plan_of f []) first ((i - 1) / f.p) →
          ListPass f list next (i / f.p) (tags + 1) (sum + w) (i + 1)
      unfolding plan_of
      list_next other w e =
          subst (λ k. ListPass f list next (k / f.p) (tags + 1) (sum + w) (i + 1)) one_on
          (moved
          (pass_next list_plan listed (i - 1) tag first tags sum so.passed (omega (arith, one_on, count)) next there other w
          (here w e) (waits_small w e)))

    -- all lines are passed
    pub all_passed : f.lines ≤ i → ListPass f list tag first tags sum f.lines
    all_passed end = let e : i ≡ f.lines = omega (arith, so.high) in subst (ListPass f list tag first tags sum) e so

    pub list_ends :
        f.lines ≤ i → (w : ℕ) → w ≡ waits_between (plan_of f []) first ((i - 1) / f.p) →
        record { n = f.size; tags = tags; sum = sum + w } ≡ wait_sum list_plan
    list_ends end w e =
        pass_ends list_plan listed (i - 1) tag first tags sum so.passed (omega (arith, one_on, count)) w (here w e) f.size
        (s.ready.size_is ∙ size_shape f [] lines)
