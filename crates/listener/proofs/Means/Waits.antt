-- What a list's tags add to the sum: each hearing ends at the place that `EndPlace` tells, so a tag's hearings take as long,
-- together, as the places of its buckets say.
-- Assumes nothing.
use mathlib.Core.Path.{◌≡◌, ap, ap₂, subst, ◌∙◌}
use Prim.Native.Nat.{ℕ, ◌+◌, ◌*◌, ◌≤◌, ◌<◌}
use mathlib.Core.Bool.{true}
use Rattle.std.specs.Prelude.{None}
use mathlib.Core.List.{List, [], ◌∷◌}
use native.Mathlib.Omega.{arith}
use lib.ListN.{length}
use Rattle.columns.specs.Lists.{range}
use Rattle.buckets.specs.ListLine.{list_lines}
use Rattle.buckets.specs.Lengths.{buckets_most, lines_most}
use Rattle.buckets.proofs.Lists.{length_list_lines}
use Rattle.cycle.specs.Refusals.{first_refusal}
use Rattle.cycle.specs.Tree.{Plan, plan}
use Rattle.cycle.specs.declared.Settings.{Settings}
use Rattle.cycle.specs.Cycle.{cycle_size, image}
use Rattle.cycle.specs.Building as building
use Rattle.cycle.specs.Building.{Outcome, outcome, build}
use Rattle.cycle.specs.Waits.{tag_among, different_tags, total, conditions, segment_start, waits_between, tag_waits, wait_sum}
use Rattle.std.specs.Prelude.{Ok}
use Rattle.cycle.proofs.Lines.DataTags.{AcceptedPlan}
use Rattle.cycle.proofs.Building.Accepted.{whole_lines_lem}
use Rattle.cycle.proofs.Building.Outcomes.{none_refused}
use Rattle.cycle.proofs.Waiting.WaitAnswers.{room_most, passed_there}
use Rattle.listener.specs.Hearing.{hearing, repeated, elapsed_in}
use Rattle.listener.specs.Demand3.{heard_limit, lines_wanted, end_wanted, Demand3}
use Rattle.listener.specs.EndPlace.{target, last_heard, position, end_place}
use Rattle.listener.specs.Mean.{buckets, wait, sum_of_waits}
use Rattle.listener.proofs.Lookups.Images.{built_cycle}
use Rattle.listener.proofs.Walks.Ways.{here_below}
use Rattle.listener.proofs.Walks.Roots.{root}
use Rattle.listener.proofs.Walks.Segments.{end_by_segment}
use Rattle.listener.proofs.Walks.TagBuckets.{listed_target, first_heard, last_heard_lem}
use Rattle.listener.proofs.Means.DifferentTags.{total_listed, different_some}
use Rattle.listener.proofs.Means.TuneIns.{all_tune_ins}
use Rattle.listener.proofs.Demand3.{demand_3}
use Rattle.listener.proofs.EndPlace.{end_place_lem}

module _ (s : Settings) (list : List ℕ) (passed : first_refusal (conditions s list) ≡ None) where
  abbrev t : Plan
  t = plan s (list_lines list)

  abbrev n : ℕ
  n = cycle_size t

  none_there : first_refusal (building.conditions s list room_most) ≡ None
  none_there = (passed_there s list passed).0

  -- building makes its cycle, where there is room
  builds : build s list room_most ≡ record { answer = Ok n; output = image t }
  unfolding build
  builds = ap (λ o. outcome o t) none_there

  output_is : (build s list room_most).output ≡ image t
  output_is = ap (λ (o : Outcome). o.output) builds

  built : building.numbers (build s list room_most).answer ≡ 0 ∷ 0 ∷ n ∷ []
  built = ap (λ (o : Outcome). building.numbers o.answer) builds

  pub few_lines_lem : length (list_lines list) ≤ lines_most
  few_lines_lem =
      let whole = whole_lines_lem (length list) (none_refused s list room_most none_there).whole in
      omega (arith, length_list_lines list, whole.1)

  -- a list with a line has a tag
  pub some_tag : 1 ≤ length (different_tags (list_lines list))
  some_tag = different_some (list_lines list) (passed_there s list passed).1

  pub fits : AcceptedPlan t
  fits = (built_cycle s list room_most n built).plan_fits

  pub some_bucket : 1 ≤ n
  some_bucket = omega (arith, here_below (root t fits))

  pub size_small : n ≤ buckets_most
  size_small = (built_cycle s list room_most n built).reads.small

  -- ---- one hearing

  module _ (tag u : ℕ) (early : u < n) where
    told :
        Demand3 s list (build s list room_most).output n tag u (heard_limit s list tag)
        (hearing (repeated (build s list room_most).output n) (λ m. []) tag u (heard_limit s list tag))
    told = demand_3 s list room_most n built tag u early (heard_limit s list tag) (λ m. [])

    pub wait_ends : u + wait s list tag u ≡ end_place t tag u + 1
    unfolding wait buckets
    wait_ends =
        subst
        (λ (im : List ℕ). u + elapsed_in (hearing (repeated im n) (λ m. []) tag u (heard_limit s list tag)) ≡ end_place t tag u + 1)
        output_is
        (end_place_lem s list room_most n built tag u early (heard_limit s list tag) (λ m. []) (end_wanted (lines_wanted list tag))
        (told.end_come (omega arith)))

    pub wait_most : u + wait s list tag u ≤ 2 * n
    unfolding wait buckets
    wait_most =
        subst (λ (im : List ℕ). u + elapsed_in (hearing (repeated im n) (λ m. []) tag u (heard_limit s list tag)) ≤ 2 * n)
        output_is told.elapsed_limit

  -- ---- all tune-ins, and all tags

  tag_adds : (tag : ℕ) → tag_among tag (list_lines list) ≡ true → total (wait s list tag) (range 0 n) ≡ tag_waits t tag
  unfolding tag_waits waits_between position plan
  tag_adds tag listed =
      all_tune_ins n (segment_start t (target t tag)) (position t (last_heard t tag)) (wait s list tag)
      (λ u early.
      wait_ends tag u early
      ∙ ap (λ x. x + 1) (end_by_segment t fits tag u (listed_target t fits tag listed) early))
      ∙ ap₂ (waits_between t) (first_heard t fits tag listed) (last_heard_lem t fits tag listed)

  -- what is added is what the places of the tags' buckets say
  pub sum_is : sum_of_waits s list ≡ (wait_sum t).sum
  unfolding sum_of_waits wait_sum buckets plan
  sum_is = total_listed (λ tag. total (wait s list tag) (range 0 (buckets s list))) (tag_waits t) (list_lines list) tag_adds
