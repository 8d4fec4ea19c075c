-- The mean wait is exact, and it is the mean over hearings that have ended, whichever they are.
-- Assumes nothing.
use mathlib.Core.Path.{◌≡◌, sym, ap, ◌∙◌}
use Prim.Native.Nat.{ℕ, ◌*◌, ◌≤◌, ◌<◌}
use Rattle.std.specs.Prelude.{None}
use mathlib.Core.List.{List}
use native.Mathlib.Nat.{mul-le-mul, mul_assoc, mul_comm, div-add-mod', mod-lt}
use native.Mathlib.Omega.{arith}
use lib.ListN.{length}
use Rattle.columns.specs.Lists.{range}
use Rattle.buckets.specs.ListLine.{list_lines}
use Rattle.cycle.specs.Refusals.{first_refusal}
use Rattle.cycle.specs.Tree.{plan}
use Rattle.cycle.specs.declared.Settings.{Settings}
use Rattle.cycle.specs.Cycle.{cycle_size}
use Rattle.cycle.specs.Waits.{different_tags, total, conditions}
use Rattle.listener.specs.Mean.{buckets, wait, sum_of_waits, divisor, mean_wait, Exact, EveryMean}
use Rattle.listener.proofs.Lookups.Images.{built_cycle}
use Rattle.listener.proofs.Means.Sums.{total_most, range_most}
use Rattle.listener.proofs.Means.Waits.{some_tag, some_bucket, wait_ends, wait_most}
use Rattle.listener.proofs.EndPlace.{end_place_lem}

module _ (s : Settings) (list : List ℕ) (passed : first_refusal (conditions s list) ≡ None) where
  abbrev n : ℕ
  n = cycle_size (plan s (list_lines list))

  abbrev tags : ℕ
  tags = length (different_tags (list_lines list))

  pub divisor_some : 0 < divisor s list
  unfolding divisor buckets
  divisor_some =
      let e : 1 * 1 ≤ n * tags =
      mul-le-mul {n₁ = 1} {m₁ = 1} (some_bucket s list passed) (some_tag s list passed) in
      omega arith

  -- no hearing takes more than 2N
  limit : sum_of_waits s list ≤ 2 * buckets s list * divisor s list
  unfolding sum_of_waits divisor buckets
  limit =
      let each : (tag : ℕ) → total (wait s list tag) (range 0 n) ≤ n * (2 * n) =
      λ tag. range_most (wait s list tag) (2 * n) n (λ u early. omega (arith, wait_most s list passed tag u early)) in
      let all : total (λ tag. total (wait s list tag) (range 0 n)) (different_tags (list_lines list)) ≤ tags * (n * (2 * n)) =
      total_most (λ tag. total (wait s list tag) (range 0 n)) (n * (2 * n)) (different_tags (list_lines list)) each in
      let same : tags * (n * (2 * n)) ≡ 2 * n * (n * tags) =
      sym (mul_assoc tags n (2 * n)) ∙ (mul_comm (tags * n) (2 * n) ∙ ap (λ x. 2 * n * x) (mul_comm tags n)) in
      omega (arith, all, same)

  pub exact : Exact s list
  unfolding mean_wait buckets
  exact =
      record {
        heard_out = λ room size built. (
          (built_cycle s list room size built).size_is,
          λ tag tune early m strays e ended.
              omega (
                arith,
                end_place_lem s list room size built tag tune early m strays e ended,
                wait_ends s list passed tag tune (omega (arith, (built_cycle s list room size built).size_is)),
              ),
        );
        some = divisor_some;
        divides = sym (div-add-mod' (sum_of_waits s list) (divisor s list));
        remains = mod-lt (sum_of_waits s list) divisor_some;
        sum_limit = limit;
      }

pub every_mean : EveryMean
every_mean = exact
