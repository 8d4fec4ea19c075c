-- Where a hearing ends: the walk from its tune-in bucket says so.
-- Assumes nothing.
use mathlib.Core.Path.{◌≡◌, sym, ◌∙◌, ap, subst}
use Prim.Native.Nat.{ℕ, ◌+◌, ◌<◌}
use Rattle.std.specs.Prelude.{Some}
use mathlib.Core.List.{List}
use native.Mathlib.Nat.{mod-eq_of_lt, add-mod_left}
use native.Mathlib.Omega.{arith}
use Rattle.buckets.specs.ListLine.{list_lines}
use Rattle.cycle.specs.Tree.{Plan, plan}
use Rattle.cycle.specs.Building.{build}
use Rattle.cycle.specs.Cycle.{cycle_size, bucket_at}
use Rattle.cycle.specs.Inner.Held.{cycle_bucket}
use Rattle.cycle.proofs.Lines.DataTags.{AcceptedPlan}
use Rattle.cycle.proofs.Building.BuiltImage.{CycleOf}
use Rattle.listener.specs.Hearing.{hearing, repeated, End, end_of, elapsed_in}
use Rattle.listener.specs.EndPlace.{end_place, EveryEnd}
use Rattle.listener.proofs.Lookups.Images.{BuiltCycle, built_cycle}
use Rattle.listener.proofs.Walks.TwoCycles.{Sends, WalkTo, EndsIn, in_first, in_second, hears, told}

module _ (t : Plan) (image : List ℕ) (fits : AcceptedPlan t) (reads : CycleOf image (cycle_size t) (cycle_bucket t)) (tag tune : ℕ) (early : tune < cycle_size t) where
  -- the cycle twice
  sends : Sends (repeated image (cycle_size t)) t t
  unfolding repeated
  sends =
      record {
        image = image;
        image' = image;
        fits = fits;
        fits' = fits;
        reads = reads;
        reads' = reads;
        old = λ x h. ap (bucket_at image) (mod-eq_of_lt h);
        new = λ x h. ap (bucket_at image) (add-mod_left (cycle_size t) x ∙ mod-eq_of_lt h);
      }

  -- it ends at that place in either
  way : EndsIn sends tag tune → WalkTo sends t tag tune (end_place t tag tune)
  way (in_first w inside) = w
  way (in_second w inside z) = subst (WalkTo sends t tag tune) (sym z) w

  pub ends_there :
      (m : ℕ) (strays : ℕ → List ℕ) (e : End) → end_of (hearing (repeated image (cycle_size t)) strays tag tune m) ≡ Some e →
      tune + elapsed_in (hearing (repeated image (cycle_size t)) strays tag tune m) ≡ end_place t tag tune + 1
  ends_there m strays e ended = (told sends tag tune early (way (hears sends tag tune early)) m strays).ends_at e ended

pub end_place_lem : EveryEnd
end_place_lem s list room n built tag tune early m strays e =
    let c : BuiltCycle (plan s (list_lines list)) (build s list room).output n = built_cycle s list room n built in
    subst
    (λ z.
    end_of (hearing (repeated (build s list room).output z) strays tag tune m) ≡ Some e →
    tune + elapsed_in (hearing (repeated (build s list room).output z) strays tag tune m) ≡
    end_place (plan s (list_lines list)) tag tune + 1)
    (sym c.size_is)
    (ends_there (plan s (list_lines list)) (build s list room).output c.plan_fits c.reads tag tune (omega (arith, c.size_is)) m
    strays e)
