-- Demand 3 holds of hearings in which any buckets are lost: behind each lost one a walk begins anew, on the cycle then on air.
-- Assumes nothing.
use mathlib.Core.Path.{◌≡◌, refl, sym, ◌∙◌, ap, subst}
use Prim.Native.Nat.{ℕ, zero, suc, ◌+◌, ◌-◌, ◌*◌, ◌≤◌, ◌<◌}
use mathlib.Core.Bool.{Bool, true, false}
use Rattle.std.specs.Prelude.{Option, None, Some}
use mathlib.Core.List.{List, []}
use native.Mathlib.Nat.{zero-add, add-mul, one-mul}
use native.Mathlib.Omega.{arith}
use lib.Dec.{ltb}
use lib.ListN.{length}
use borrow.Author.Tests.{ltb-true, ltb-false}
use Rattle.columns.specs.Lists.{pick}
use Rattle.buckets.specs.Lengths.{buckets_most}
use Rattle.buckets.specs.declared.Line.{Line}
use Rattle.cycle.specs.Cycle.{cycle_size}
use Rattle.listener.specs.Listener.{start, stopped}
use Rattle.listener.specs.Hearing.{at, End, end_of, heard_in, elapsed_in}
use Rattle.listener.specs.Demand3.{heard_limit, lines_wanted, end_wanted}
use Rattle.listener.specs.OnAir.{Sending, Accepted, Air, AirPlace, behind, place_at, on_air}
use Rattle.listener.specs.Lost.{Marked, marked_from, marked_hearing, steps, lost_in, lines_since, always, limit_of, Demand3Lost, EveryMarkedHearing, end_cycle, LostOnAir, EveryMarkedAir}
use Rattle.listener.specs.EndPlace.{end_place}
use Rattle.listener.proofs.Steps.Mechanics.{start_awaits}
use Rattle.listener.proofs.Walks.Walk.{walk_short}
use Rattle.listener.proofs.Walks.WalkedSteps.{gone_by, EndsAt, Followed}
use Rattle.listener.proofs.Walks.Walked.{Stretch, Tuning, Tunings, followed}
use Rattle.listener.proofs.Walks.Unmarked.{elapsed_gone, length_marked}
use Rattle.listener.proofs.Walks.Arrival.{wanted}
use Rattle.listener.proofs.Walks.SegmentStart.{end_of_start}
use Rattle.listener.proofs.Walks.TwoCycles.{WalkTo, EndsIn, in_first, in_second, hears, bucket_on, airs}
use Rattle.listener.proofs.OnAir.{limit_is, wanted_is, plan_at, size, start_of, some_there, place_in, place_behind, sends}

module _ (air : Air) (accepted : (c : ℕ) → Accepted (air c)) where
  -- ---- places

  -- a place is a position of its cycle
  record Placed (x : ℕ) (p : AirPlace) : Type 0 where
    pub there : start_of air accepted p.cycle + p.position ≡ x
    pub inside : p.position < (air p.cycle).n

  placed_next : (x : ℕ) (p : AirPlace) → Placed x p → Placed (suc x) (behind air p)
  unfolding behind
  placed_next x p h = by (ltb (suc p.position) (air p.cycle).n) refl
    where
      by :
          (b : Bool) → ltb (suc p.position) (air p.cycle).n ≡ b →
          Placed (suc x)
          (pick b (record { cycle = p.cycle; position = suc p.position }) (record { cycle = suc p.cycle; position = 0 }))
      by true e = record { there = omega (arith, h.there); inside = ltb-true (suc p.position) (air p.cycle).n e }
      by false e =
          record {
            there = omega (arith, h.there, h.inside, ltb-false (suc p.position) (air p.cycle).n e);
            inside = some_there air accepted (suc p.cycle);
          }

  placed : (x : ℕ) → Placed x (place_at air x)
  placed zero = record { there = refl; inside = some_there air accepted 0 }
  placed (suc x) = placed_next x (place_at air x) (placed x)

  -- ---- walks

  -- cycle c and the one behind it
  unfoldable stretch : ℕ → Stretch (on_air air)
  stretch c =
      record {
        base = start_of air accepted c;
        n = cycle_size (plan_at air accepted c);
        n' = cycle_size (plan_at air accepted (suc c));
        bucket = bucket_on (sends air accepted c);
        airs = airs (sends air accepted c);
      }

  module _ (tag : ℕ) where
    -- an end is right by the list in whose cycle it comes
    record Right (place : ℕ) (end : End) (lines : List Line) : Type 0 where
      pub end_is : end ≡ end_wanted (lines_wanted (air (place_at air place).cycle).list tag)
      pub lines_are : lines ≡ lines_wanted (air (place_at air place).cycle).list tag

    right_in :
        (place c : ℕ) → (place_at air place).cycle ≡ c →
        Right place (end_wanted (wanted (plan_at air accepted c) tag)) (wanted (plan_at air accepted c) tag)
    right_in place c e =
        let is = wanted_is (air c).settings (air c).list tag in
        record { end_is = rw (e, is); lines_are = rw (e, is) }

    -- a walk from place x on: it is right, and within the limit of the cycle it ends in
    record Begins (x c : ℕ) : Type 0 where
      pub tuning : Tuning (on_air air) tag x
      pub on_is : tuning.on ≡ stretch c
      pub right : Right (tuning.on.base + tuning.place) tuning.end tuning.got
      pub ends_in : ℕ
      pub most : tuning.length ≤ heard_limit (air ends_in).settings (air ends_in).list tag

    -- the walk that ends in cycle e, at place z of the stretch
    ends_in_cycle :
        (c u x e z : ℕ) → u < cycle_size (plan_at air accepted c) → start_of air accepted c + u ≡ x →
        WalkTo (sends air accepted c) (plan_at air accepted e) tag u z →
        (place_at air (start_of air accepted c + z)).cycle ≡ e → Begins x c
    unfolding stretch
    ends_in_cycle c u x e z early there w is =
        record {
          tuning =
              record {
                on = stretch c;
                position = u;
                there = there;
                early = early;
                length = w.steps;
                end = end_wanted (wanted (plan_at air accepted e) tag);
                place = z;
                got = wanted (plan_at air accepted e) tag;
                walk = w.walk;
              };
          on_is = refl;
          right = right_in (start_of air accepted c + z) e is;
          ends_in = e;
          most = rw (limit_is (air e).settings (air e).list tag) w.most;
        }

    begins :
        (c u x : ℕ) → u < cycle_size (plan_at air accepted c) → start_of air accepted c + u ≡ x →
        EndsIn (sends air accepted c) tag u → Begins x c
    begins c u x early there (in_first w inside) =
        let z : ℕ = end_place (plan_at air accepted c) tag u in
        ends_in_cycle c u x c z early there w
        (ap (λ (p : AirPlace). p.cycle) (place_in air accepted c z (omega (arith, inside, size air accepted c))))
    begins c u x early there (in_second w inside z) =
        let y : ℕ = end_of_start (plan_at air accepted (suc c)) tag in
        ends_in_cycle c u x (suc c) (cycle_size (plan_at air accepted c) + y) early there w
        (ap (λ (p : AirPlace). p.cycle) (place_behind air accepted c y inside))

    begun : (x : ℕ) → Begins x (place_at air x).cycle
    begun x =
        let p : AirPlace = place_at air x in
        let h : Placed x p = placed x in
        let early : p.position < cycle_size (plan_at air accepted p.cycle) = omega (arith, h.inside, size air accepted p.cycle) in
        begins p.cycle p.position x early h.there (hears (sends air accepted p.cycle) tag p.position early)

    -- ---- the hearing

    module _
        (limit span : ℕ)
        (short : (x : ℕ) → (begun x).tuning.length ≤ limit)
        (near : (c : ℕ) → (air c).n + (air (suc c)).n ≤ span)
        (tune : ℕ) (early : tune < (air 0).n) (marks : List Bool) (strays : ℕ → List ℕ)
      where
        tunings : Tunings (on_air air) tag Right limit span
        unfolding stretch
        tunings =
            record {
              from = λ x. (begun x).tuning;
              right = λ x. (begun x).right;
              short = short;
              near = λ x.
                  (let c = (place_at air x).cycle in
                  subst (λ (on : Stretch (on_air air)). on.n + on.n' ≤ span) (sym (begun x).on_is)
                  (omega (arith, near c, size air accepted c, size air accepted (suc c))));
            }

        first : Begins tune 0
        first =
            let inside : tune < cycle_size (plan_at air accepted 0) = omega (arith, size air accepted 0) in
            begins 0 tune tune inside (zero-add tune) (hears (sends air accepted 0) tag tune inside)

        unfoldable log : List Marked
        log = marked_hearing (on_air air) strays tag tune marks

        -- along the first walk and those begun anew
        told :
            let t = first.tuning in
            Followed Right limit span (t.on.base + (t.on.n + t.on.n')) (start tag) tune t.length t.end (t.on.base + t.place) t.got log
        unfolding log marked_hearing start
        told =
            let t = first.tuning in
            subst
            (λ v.
            Followed Right limit span (t.on.base + (t.on.n + t.on.n')) (start tag) v t.length t.end (t.on.base + t.place) t.got
            (marked_from (on_air air) strays (start tag) (at v) marks))
            t.there
            (followed (on_air air) strays tag Right limit span t.on t.walk (start tag)
            (start_awaits t.on.n tag t.position t.on.bucket (start tag) t.early refl refl refl) marks (λ h. tunings))

        -- an end is right at its place
        right_at : (x : End) → end_of (steps log) ≡ Some x → EndsAt Right 1 tune [] x log
        unfolding start
        right_at x ended = told.ends [] first.right x ended

        cycle_is : (x : End) (ended : end_of (steps log) ≡ Some x) → (place_at air (right_at x ended).place).cycle ≡ end_cycle air tune log
        unfolding end_cycle
        cycle_is x ended =
            let e : (right_at x ended).place ≡ tune + elapsed_in (steps log) - 1 =
            omega (arith, (right_at x ended).there, elapsed_gone (steps log)) in
            ap (λ z. (place_at air z).cycle) e

        on_air_lem : LostOnAir air tag tune log
        unfolding lines_since start
        on_air_lem =
            record {
              end_right = λ x ended.
                  (right_at x ended).right.end_is ∙ ap (λ c. end_wanted (lines_wanted (air c).list tag)) (cycle_is x ended);
              lines_right = λ x ended.
                  (right_at x ended).right.lines_are ∙ ap (λ c. lines_wanted (air c).list tag) (cycle_is x ended);
              well =
                  record {
                    unrefused = told.unrefused;
                    heard_own = told.heard_own (omega arith) ∙ ap stopped (zero-add (heard_in (steps log)));
                    elapsed_own =
                        told.elapsed_own (omega arith) ∙
                        ap stopped (zero-add (gone_by 1 (steps log)) ∙ sym (elapsed_gone (steps log)));
                    after_end = told.after_end;
                    unchanged = told.unchanged;
                  };
            }

-- ---- a list that changes

pub lost_on_air : EveryMarkedAir
unfolding log stretch
lost_on_air air accepted tag tune early marks strays =
    on_air_lem air accepted tag (2 * buckets_most) (2 * buckets_most) few small tune early marks strays
  where
    small : (c : ℕ) → (air c).n + (air (suc c)).n ≤ 2 * buckets_most
    small c =
        omega (arith, size air accepted c, size air accepted (suc c), (airs (sends air accepted c)).small, (airs (sends air accepted c)).small')

    few : (x : ℕ) → (begun air accepted tag x).tuning.length ≤ 2 * buckets_most
    few x =
        let t = (begun air accepted tag x).tuning in
        omega (arith, walk_short t.walk, t.on.airs.small, t.on.airs.small')

-- ---- an unchanged list

-- a number within h and one limit for each lost bucket, h within the limit
times_more : (q limit h k : ℕ) → k ≤ h + q * limit → h ≤ limit → k ≤ (q + 1) * limit
times_more q limit h k most short = rw (add-mul q 1 limit, one-mul limit) (omega arith)

module _ (c : Sending) (accepted : Accepted c) (tag tune : ℕ) (early : tune < c.n) (marks : List Bool) (strays : ℕ → List ℕ) where
  abbrev all : ℕ → Accepted c
  all = λ x. accepted

  short : (x : ℕ) → (begun (always c) all tag x).tuning.length ≤ limit_of c tag
  short x = (begun (always c) all tag x).most

  near : (x : ℕ) → c.n + c.n ≤ 2 * c.n
  near x = omega arith

  abbrev heard : List Marked
  heard = marked_hearing (on_air (always c)) strays tag tune marks

  unfoldable walk : Begins (always c) all tag tune 0
  walk = first (always c) all tag (limit_of c tag) (2 * c.n) short near tune early marks strays

  along :
      Followed (Right (always c) all tag) (limit_of c tag) (2 * c.n)
      (walk.tuning.on.base + (walk.tuning.on.n + walk.tuning.on.n')) (start tag) tune walk.tuning.length
      walk.tuning.end (walk.tuning.on.base + walk.tuning.place) walk.tuning.got heard
  unfolding log walk
  along = told (always c) all tag (limit_of c tag) (2 * c.n) short near tune early marks strays

  -- the first walk has two cycles before it, which are the same
  last_is_lem : walk.tuning.on.base + (walk.tuning.on.n + walk.tuning.on.n') ≡ 2 * c.n
  unfolding stretch
  last_is_lem =
      ap (λ (on : Stretch (on_air (always c))). on.base + (on.n + on.n')) walk.on_is ∙
      omega (arith, size (always c) all 0)

  on_changing : LostOnAir (always c) tag tune heard
  on_changing = lost_on_air (always c) all tag tune early marks strays

  end_by_lem :
      (o : Option End) → end_of (steps heard) ≡ o → (lost_in heard + 1) * limit_of c tag ≤ length marks →
      end_of (steps heard) ≡ Some (end_wanted (lines_wanted c.list tag))
  unfolding marked_hearing
  end_by_lem None e long =
      absurd
      (omega (
        arith,
        along.not_ended e,
        times_more (lost_in heard) (limit_of c tag) walk.tuning.length (walk.tuning.length + lost_in heard * limit_of c tag) (omega arith) walk.most,
        length_marked (on_air (always c)) strays (start tag) (at tune) marks,
        long,
      ))
  end_by_lem (Some x) e long = e ∙ ap Some (on_changing.end_right x e)

  of_unchanged : Demand3Lost c tag tune (length marks) heard
  unfolding start
  of_unchanged =
      record {
        heard_limit_lem = times_more (lost_in heard) (limit_of c tag) walk.tuning.length (heard_in (steps heard)) along.heard_most_lem walk.most;
        elapsed_limit =
            times_more (lost_in heard) (2 * c.n) (2 * c.n) (tune + elapsed_in (steps heard))
            (omega (arith, along.in_time, last_is_lem, elapsed_gone (steps heard))) (omega arith);
        end_come = end_by_lem (end_of (steps heard)) refl;
        end_right = on_changing.end_right;
        lines_right = on_changing.lines_right;
        well = on_changing.well;
      }

pub lost_buckets : EveryMarkedHearing
lost_buckets = of_unchanged
