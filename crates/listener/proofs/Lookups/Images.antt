-- The bytes of a cycle, as listeners and lookups take them: bucket by bucket, and as many buckets as they are long for.
-- Assumes nothing.
use mathlib.Core.Path.{◌≡◌, sym, ap, ◌∙◌, subst}
use Prim.Native.Nat.{ℕ, ◌*◌, ◌/◌, ◌%◌, ◌≤◌}
use mathlib.Core.Bool.{true}
use mathlib.Core.List.{List, [], ◌∷◌}
use native.Mathlib.Nat.{mul_comm, mul-mod_left, mul-div_cancel}
use native.Mathlib.Omega.{arith}
use lib.Dec.{lit<}
use lib.ListN.{length, get_or}
use borrow.Author.Tests.{le-leb, eq-eqb}
use Rattle.buckets.specs.ListLine.{list_lines}
use Rattle.buckets.specs.Bucket.{Bucket}
use Rattle.cycle.specs.Tree.{Plan, plan}
use Rattle.cycle.specs.declared.Settings.{Settings}
use Rattle.cycle.specs.Cycle.{cycle_size}
use Rattle.cycle.specs.Building
use Rattle.cycle.specs.Building.{build}
use Rattle.std.specs.Prelude.{Result, Ok, Err}
use Rattle.cycle.specs.declared.Refusal.{Refusal}
use Rattle.cycle.specs.ReadingBack.{whole_buckets}
use Rattle.cycle.specs.Inner.Held.{cycle_bucket}
use Rattle.cycle.proofs.Lines.DataTags.{AcceptedPlan}
use Rattle.cycle.proofs.Building.Accepted.{laid}
use Rattle.cycle.proofs.Building.Outcomes.{Answered, answered, accepted}
use Rattle.cycle.proofs.Building.BuiltImage.{CycleOf, cycle_of_plan}

module _ (bytes : List ℕ) (n : ℕ) (bk : ℕ → Bucket) (c : CycleOf bytes n bk) where
  pub image_long : length bytes ≡ n * 240
  image_long = c.long ∙ mul_comm 240 n

  pub image_count : length bytes / 240 ≡ n
  image_count = rw image_long (mul-div_cancel n (lit< tt))

  -- 11 does not hold
  pub image_whole : 1 ≤ n → whole_buckets (length bytes) ≡ true
  unfolding whole_buckets
  image_whole some =
      let e : length bytes ≡ n * 240 = image_long in
      rw (
        le-leb 1 (length bytes) (omega arith),
        eq-eqb (length bytes % 240) 0 (rw e (mul-mod_left n 240)),
        image_count,
        le-leb n 99999 c.small,
      )

-- an answer of building by its numbers
pub cycle_answered : (b : Result ℕ Refusal) (n : ℕ) → Building.numbers b ≡ 0 ∷ 0 ∷ n ∷ [] → b ≡ Ok n
cycle_answered (Ok m) n e = ap (λ s. Ok (get_or s 2 0)) e
cycle_answered (Err r) n e = absurd (omega (arith, ap length e))

-- what building made of a list: the cycle of its plan
pub record BuiltCycle (t : Plan) (bytes : List ℕ) (n : ℕ) : Type 0 where
  pub plan_fits : AcceptedPlan t
  pub reads : CycleOf bytes (cycle_size t) (cycle_bucket t)
  pub size_is : n ≡ cycle_size t

pub built_cycle :
    (s : Settings) (list : List ℕ) (room n : ℕ) → Building.numbers (build s list room).answer ≡ 0 ∷ 0 ∷ n ∷ [] →
    BuiltCycle (plan s (list_lines list)) (build s list room).output n
built_cycle s list room n e =
    let t : Plan = plan s (list_lines list) in
    let built : (build s list room).answer ≡ Ok n = cycle_answered (build s list room).answer n e in
    let o : Answered s list room n = answered s list room n built in
    let ok = accepted s list room n built in
    record {
      plan_fits = laid t ok;
      reads = subst (λ z. CycleOf z (cycle_size t) (cycle_bucket t)) (sym o.output_is) (cycle_of_plan t ok o.short);
      size_is = o.size_is;
    }
