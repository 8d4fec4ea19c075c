-- Demand 3 holds on what is on air: the walk from any tune-in bucket, through the cycle of tune-in or into the next, gives the
-- hearing of any number of steps.
-- Assumes nothing.
use mathlib.Core.Path.{◌≡◌, refl, sym, ◌∙◌, ap, subst}
use Prim.Native.Nat.{ℕ, zero, suc, ◌+◌, ◌-◌, ◌<◌, max}
use native.Mathlib.Nat.{zero-add, add-suc}
use native.Mathlib.Omega.{arith}
use mathlib.Core.List.{List}
use borrow.Author.Tests.{lt-ltb, le-ltb}
use Rattle.buckets.specs.ListLine.{list_lines}
use Rattle.cycle.specs.Tree.{Plan, plan}
use Rattle.cycle.specs.declared.Settings.{Settings}
use Rattle.cycle.specs.Cycle.{bucket_at, cycle_size}
use Rattle.listener.specs.Hearing.{Taken, hearing, elapsed_in}
use Rattle.listener.specs.Demand3.{heard_limit, lines_wanted, end_wanted}
use Rattle.listener.specs.EndPlace.{end_place}
use Rattle.listener.specs.OnAir.{Accepted, image_of, Air, AirPlace, behind, place_at, on_air, Demand3OnAir, Hears, EveryAir}
use Rattle.listener.proofs.Walks.Unmarked.{Walked}
use Rattle.listener.proofs.Walks.Arrival.{wanted, runs}
use Rattle.listener.proofs.Walks.Ways.{here_below}
use Rattle.listener.proofs.Walks.Roots.{root}
use Rattle.listener.proofs.Walks.SegmentStart.{end_of_start}
use Rattle.listener.proofs.Walks.TwoCycles.{Sends, WalkTo, EndsIn, in_first, in_second, hears, told}
use Rattle.listener.proofs.Lookups.Images.{BuiltCycle, built_cycle}

-- the limit of demand 3, of the plan
pub limit_is : (s : Settings) (list : List ℕ) (tag : ℕ) → heard_limit s list tag ≡ 2 + (plan s (list_lines list)).k + max 1 (runs (plan s (list_lines list)) tag)
unfolding heard_limit runs plan
limit_is s list tag = refl

pub wanted_is : (s : Settings) (list : List ℕ) (tag : ℕ) → lines_wanted list tag ≡ wanted (plan s (list_lines list)) tag
unfolding lines_wanted wanted plan
wanted_is s list tag = refl

module _ (air : Air) (accepted : (c : ℕ) → Accepted (air c)) where
  -- the plan of a cycle
  abbrev pub plan_at : ℕ → Plan
  plan_at c = plan (air c).settings (list_lines (air c).list)

  cycle_at : (c : ℕ) → BuiltCycle (plan_at c) (image_of (air c)) (air c).n
  unfolding image_of
  cycle_at c = built_cycle (air c).settings (air c).list (air c).room (air c).n (accepted c)

  pub size : (c : ℕ) → (air c).n ≡ cycle_size (plan_at c)
  size c = (cycle_at c).size_is

  pub some_there : (c : ℕ) → 0 < (air c).n
  some_there c = omega (arith, size c, here_below (root (plan_at c) (cycle_at c).plan_fits))

  -- ---- places

  -- where a cycle starts
  abbrev pub start_of : ℕ → ℕ
  start_of zero = 0
  start_of (suc c) = start_of c + (air c).n

  behind_within : (c x : ℕ) → suc x < (air c).n → behind air (record { cycle = c; position = x }) ≡ record { cycle = c; position = suc x }
  unfolding behind
  behind_within c x h = rw (lt-ltb (suc x) (air c).n h)

  behind_last : (c x : ℕ) → suc x ≡ (air c).n → behind air (record { cycle = c; position = x }) ≡ record { cycle = suc c; position = 0 }
  unfolding behind
  behind_last c x e = rw (le-ltb (suc x) (air c).n (omega arith))

  -- bucket x of cycle c, and the first one of every cycle
  place_on_lem :
      (c : ℕ) → place_at air (start_of c + 0) ≡ record { cycle = c; position = 0 } →
      (x : ℕ) → x < (air c).n → place_at air (start_of c + x) ≡ record { cycle = c; position = x }
  place_on_lem c first zero h = first
  place_on_lem c first (suc x) h =
      ap (place_at air) (add-suc (start_of c) x) ∙ (ap (behind air) (place_on_lem c first x (omega arith)) ∙ behind_within c x h)

  first_place_lem : (c : ℕ) → place_at air (start_of c + 0) ≡ record { cycle = c; position = 0 }
  first_place_lem zero = refl
  first_place_lem (suc c) =
      let e : suc (start_of c + ((air c).n - 1)) ≡ start_of c + (air c).n + 0 = omega (arith, some_there c) in
      subst (λ y. place_at air y ≡ record { cycle = suc c; position = 0 }) e
      (ap (behind air) (place_on_lem c (first_place_lem c) ((air c).n - 1) (omega (arith, some_there c))) ∙
      behind_last c ((air c).n - 1) (omega (arith, some_there c)))

  pub place_in : (c x : ℕ) → x < (air c).n → place_at air (start_of c + x) ≡ record { cycle = c; position = x }
  place_in c = place_on_lem c (first_place_lem c)

  -- bucket x of the cycle behind it
  pub place_behind : (c x : ℕ) → x < cycle_size (plan_at (suc c)) → place_at air (start_of c + (cycle_size (plan_at c) + x)) ≡ record { cycle = suc c; position = x }
  place_behind c x h =
      let e : start_of c + (cycle_size (plan_at c) + x) ≡ start_of c + (air c).n + x = omega (arith, size c) in
      ap (place_at air) e ∙ place_in (suc c) x (omega (arith, size (suc c)))

  -- ---- two cycles

  -- what is sent from the start of cycle c on
  abbrev pub sent_from : ℕ → ℕ → List ℕ
  sent_from c = λ y. on_air air (start_of c + y)

  sent_old : (c x : ℕ) → x < cycle_size (plan_at c) → sent_from c x ≡ bucket_at (image_of (air c)) x
  unfolding on_air
  sent_old c x h = ap (λ (p : AirPlace). bucket_at (image_of (air p.cycle)) p.position) (place_in c x (omega (arith, size c)))

  sent_new : (c x : ℕ) → x < cycle_size (plan_at (suc c)) → sent_from c (cycle_size (plan_at c) + x) ≡ bucket_at (image_of (air (suc c))) x
  unfolding on_air
  sent_new c x h = ap (λ (p : AirPlace). bucket_at (image_of (air p.cycle)) p.position) (place_behind c x h)

  pub sends : (c : ℕ) → Sends (sent_from c) (plan_at c) (plan_at (suc c))
  sends c =
      record {
        image = image_of (air c);
        image' = image_of (air (suc c));
        fits = (cycle_at c).plan_fits;
        fits' = (cycle_at (suc c)).plan_fits;
        reads = (cycle_at c).reads;
        reads' = (cycle_at (suc c)).reads;
        old = sent_old c;
        new = sent_new c;
      }

  -- ---- the hearing from tune-in

  module _ (tag tune : ℕ) (early : tune < (air 0).n) where
    early_in : tune < cycle_size (plan_at 0)
    early_in = omega (arith, size 0)

    -- a hearing that ends in cycle e, at place z
    ends_in :
        (e z : ℕ) → WalkTo (sends 0) (plan_at e) tag tune z → (place_at air z).cycle ≡ e → (m : ℕ) (strays : ℕ → List ℕ) →
        Demand3OnAir air tag tune e m (hearing (on_air air) strays tag tune m)
    ends_in e z w there m strays =
        record {
          heard_limit_lem = rw (limit_is s list tag) (omega (arith, log_told.heard_most_lem, w.most));
          elapsed_limit = rw (size 0, size 1) log_told.in_time;
          unrefused = log_told.unrefused;
          end_come = λ h. rw (wanted_is s list tag) (log_told.come (omega (arith, w.most, limit_is s list tag)));
          end_right = λ x ended. rw (wanted_is s list tag) (log_told.end_is x ended);
          lines_right = λ x ended. rw (wanted_is s list tag) (log_told.lines_are x ended);
          ends_in = λ x ended.
              (let at : tune + elapsed_in log - 1 ≡ z = omega (arith, log_told.ends_at x ended) in
              ap (λ y. (place_at air y).cycle) at ∙ there);
          heard_own = log_told.heard_own;
          elapsed_own = log_told.elapsed_own;
          after_end = log_told.after_end;
          unchanged = log_told.unchanged;
        }
      where
        s : Settings
        s = (air e).settings

        list : List ℕ
        list = (air e).list

        log : List Taken
        log = hearing (on_air air) strays tag tune m

        log_told :
            Walked (cycle_size (plan_at 0) + cycle_size (plan_at 1)) tune tag m w.steps (end_wanted (wanted (plan_at e) tag)) z
            (wanted (plan_at e) tag) log
        log_told =
            subst
            (λ sent.
            Walked (cycle_size (plan_at 0) + cycle_size (plan_at 1)) tune tag m w.steps (end_wanted (wanted (plan_at e) tag)) z
            (wanted (plan_at e) tag) (hearing sent strays tag tune m))
            (λ i y. on_air air (zero-add y i))
            (told (sends 0) tag tune early_in w m strays)

    by_cycle : EndsIn (sends 0) tag tune → Hears air tag tune
    by_cycle (in_first w inside) =
        record {
          cycle = 0;
          old_or_new = omega arith;
          demand_3 =
              ends_in 0 (end_place (plan_at 0) tag tune) w
              (ap (λ y. (place_at air y).cycle) (sym (zero-add (end_place (plan_at 0) tag tune))) ∙
              ap (λ (p : AirPlace). p.cycle) (place_in 0 (end_place (plan_at 0) tag tune) (omega (arith, inside, size 0))));
        }
    by_cycle (in_second w inside z) =
        record {
          cycle = 1;
          old_or_new = omega arith;
          demand_3 =
              ends_in 1 (cycle_size (plan_at 0) + end_of_start (plan_at 1) tag) w
              (ap (λ y. (place_at air y).cycle) (sym (zero-add (cycle_size (plan_at 0) + end_of_start (plan_at 1) tag))) ∙
              ap (λ (p : AirPlace). p.cycle) (place_behind 0 (end_of_start (plan_at 1) tag) inside));
        }

-- demand 3, on what is on air
pub demand_3_on_air : EveryAir
demand_3_on_air air accepted tag tune early =
    by_cycle air accepted tag tune early
    (hears (sends air accepted 0) tag tune (early_in air accepted tag tune early))
