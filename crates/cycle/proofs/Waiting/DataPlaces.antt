-- The places of data buckets rise with their numbers.
-- Assumes nothing.
use mathlib.Core.Path.{◌≡◌, ap, ◌∙◌}
use Prim.Native.Nat.{ℕ, ◌+◌, ◌≤◌, ◌<◌}
use native.Mathlib.Omega.{arith}
use mathlib.Core.List.{◌∷◌}
use lib.ListN.{length}
use Rattle.cycle.specs.Tree.{Plan}
use Rattle.cycle.specs.Layouts.{slots}
use Rattle.cycle.specs.Cycle.{distance_to, occurs, first_place}
use Rattle.cycle.proofs.Sequences.Sequence.{Keeps}
use Rattle.cycle.proofs.Sequences.Suffixes.{data_occurs}
use Rattle.cycle.proofs.Sequences.DataOnce.{Counted, counted, none_before}
use Rattle.cycle.proofs.Reach.Distances.{distance_past, distance_low}
use Rattle.cycle.proofs.Reach.NextOccurrence.{first_hit}

module _ (t : Plan) (keeps : Keeps t) where
  -- a data bucket stands behind those sent before it
  pub place_counted : (q : ℕ) (g : Counted t q (slots t)) → first_place t (t.k + 1) q ≡ length g.skipped
  place_counted q g =
      let place : g.hit.place ≡ q = keeps.in_order g.skipped g.hit g.behind g.splits g.passes ∙ g.count in
      first_hit t (t.k + 1) q g.skipped g.hit g.behind g.splits
      (none_before t keeps g.skipped (g.hit ∷ g.behind) g.splits q (omega (arith, g.count)))
      (data_occurs t g.hit q g.passes place)

  pub places_rise : (q r : ℕ) → q ≤ r → q < t.d → first_place t (t.k + 1) q ≤ first_place t (t.k + 1) r
  unfolding first_place
  places_rise q r h l =
      let g : Counted t q (slots t) = counted t q (slots t) (rw keeps.all_sent l) in
      let here : first_place t (t.k + 1) q ≡ length g.skipped = place_counted q g in
      let past : distance_to (occurs (t.k + 1) r) (slots t) ≡ length g.skipped + distance_to (occurs (t.k + 1) r) (g.hit ∷ g.behind) =
      ap (distance_to (occurs (t.k + 1) r)) g.splits
      ∙ distance_past (occurs (t.k + 1) r) g.skipped (g.hit ∷ g.behind)
      (none_before t keeps g.skipped (g.hit ∷ g.behind) g.splits r (omega (arith, g.count))) in
      omega (arith, distance_low (occurs (t.k + 1) r) (g.hit ∷ g.behind))
