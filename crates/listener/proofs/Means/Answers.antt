-- What averaging answers: the refusals of the waits' sum, or the sum divided.
-- Assumes nothing.
use mathlib.Core.Path.{◌≡◌, sym, ap, subst, ◌∙◌}
use Prim.Native.Nat.{ℕ, ◌*◌, ◌≤◌}
use Rattle.std.specs.Prelude.{None, Result, Ok, Err}
use mathlib.Core.List.{List, ◌∷◌}
use native.Mathlib.Omega.{arith}
use Rattle.buckets.specs.ListLine.{list_lines}
use Rattle.buckets.specs.Lengths.{lines_most, buckets_most}
use Rattle.cycle.specs.Refusals.{first_refusal, outcome}
use Rattle.cycle.specs.Tree.{plan}
use Rattle.cycle.specs.declared.Settings.{Settings}
use Rattle.cycle.specs.Waits.{conditions, wait_sum, waits}
use Rattle.cycle.specs.declared.WaitSum.{WaitSum}
use Rattle.cycle.specs.declared.Refusal.{Refusal}
use Rattle.cycle.proofs.Basics.Numbers.{answer_told}
use Rattle.cycle.proofs.Basics.Conditions.{refused_by, passed_by, refuses_by}
use Rattle.listener.specs.declared.MeanWait.{MeanWait}
use Rattle.listener.specs.Mean
use Rattle.listener.specs.Mean.{buckets, divisor, divided, mean_wait, mean}
use Rattle.listener.proofs.Means.DifferentTags.{different_few}
use Rattle.listener.proofs.Means.Waits.{some_bucket, size_small, some_tag, sum_is, few_lines_lem}

-- the numbers of an answer tell it
pub averaged_told : (a b : Result MeanWait Refusal) → Mean.numbers a ≡ Mean.numbers b → a ≡ b
averaged_told = answer_told _ (λ w v h. mean_told w v (ap (λ (xs : List ℕ). 0 ∷ 0 ∷ xs) h))
  where
    mean_told : (w v : MeanWait) → Mean.numbers (Ok w) ≡ Mean.numbers (Ok v) → w ≡ v
    mean_told w v h =
        let sum : w.sum ≡ v.sum = cc in
        let by : w.divisor ≡ v.divisor = cc in
        let quotient : w.quotient ≡ v.quotient = cc in
        let remainder : w.remainder ≡ v.remainder = cc in
        λ i. record { sum = sum i; divisor = by i; quotient = quotient i; remainder = remainder i }

-- what is asked of a sum that is divided
pub record Divisible (w : WaitSum) : Type 0 where
  pub n_low : 1 ≤ w.n
  pub n_high : w.n ≤ buckets_most
  pub tags_low : 1 ≤ w.tags
  pub tags_high : w.tags ≤ lines_most

module _ (s : Settings) (list : List ℕ) where
  pub mean_refused : (r : Refusal) → waits s list ≡ Err r → Err r ≡ mean s list
  unfolding waits mean
  mean_refused r h = refuses_by _ (mean_wait s list) r (refused_by _ (wait_sum (plan s (list_lines list))) r h)

  module _ (w : WaitSum) (h : waits s list ≡ Ok w) where
    known : (first_refusal (conditions s list) ≡ None) × (wait_sum (plan s (list_lines list)) ≡ w)
    unfolding waits
    known = passed_by (first_refusal (conditions s list)) (wait_sum (plan s (list_lines list))) w h

    pub divisible : Divisible w
    unfolding wait_sum plan
    divisible =
        let none_holds = known.0 in
        subst Divisible known.1
        (record {
          n_low = some_bucket s list none_holds;
          n_high = size_small s list none_holds;
          tags_low = some_tag s list none_holds;
          tags_high = omega (arith, different_few (list_lines list), few_lines_lem s list none_holds);
        })

    pub mean_divided : Ok (divided w.sum (w.n * w.tags)) ≡ mean s list
    unfolding mean mean_wait wait_sum divisor buckets plan
    mean_divided =
        let none_holds = known.0 in
        ap (λ (v : WaitSum). Ok (divided v.sum (v.n * v.tags))) (sym known.1)
        ∙ ap (λ x. Ok (divided x (divisor s list))) (sym (sum_is s list none_holds))
        ∙ sym (ap (λ o. outcome o (mean_wait s list)) none_holds)
