-- What stands in the cycle from a position on: its front and the rest stand too, and all of it is within the cycle.
-- Assumes nothing.
use mathlib.Core.Path.{◌≡◌, sym, ap, ◌∙◌, subst}
use Prim.Native.Nat.{ℕ, ◌+◌, ◌≤◌}
use native.Mathlib.Omega.{arith}
use mathlib.Core.List.{List, [], ◌++◌, append-nil}
use lib.ListN.{length, length-append, length-map}
use Rattle.cycle.specs.Tree.{Plan}
use Rattle.cycle.specs.Layouts.{Slot, slots}
use Rattle.cycle.specs.Cycle.{cycle_size}
use Rattle.cycle.specs.Inner.Held.{bare, StandsAt}
use Rattle.cycle.proofs.Segmenting.SegmentBuckets.{part_stands}

module _ {t : Plan} {x : ℕ} (u v : List Slot) (s : StandsAt t x (u ++ v)) where
  pub stand_front : StandsAt t x u
  stand_front =
      let place : length s.before + 0 ≡ x = omega (arith, s.here) in
      subst (λ y. StandsAt t y u) place (part_stands t s.before s.middle s.behind s.splits [] u v s.alike)

  pub stand_behind : StandsAt t (x + length u) v
  stand_behind =
      let place : length s.before + length u ≡ x + length u = ap (λ y. y + length u) s.here in
      subst (λ y. StandsAt t y v) place
      (part_stands t s.before s.middle s.behind s.splits u v [] (s.alike ∙ ap (λ r. u ++ r) (sym (append-nil v))))

pub stand_fits : {t : Plan} {x : ℕ} {xs : List Slot} → StandsAt t x xs → x + length xs ≤ cycle_size t
unfolding cycle_size
stand_fits {t} {x} {xs} s =
    let whole : length (slots t) ≡ length s.before + length (s.middle ++ s.behind) =
    ap length s.splits ∙ length-append s.before (s.middle ++ s.behind) in
    let inner : length (s.middle ++ s.behind) ≡ length s.middle + length s.behind = length-append s.middle s.behind in
    let m : length xs ≡ length s.middle = sym (ap length s.alike) ∙ length-map s.middle bare in
    omega (arith, s.here)
