-- Two cycles on air, one behind the other, each built from a plan of its own: what is sent reads as their buckets, and from any
-- tune-in of the first a walk leads to its end, in the one or in the other.
-- Assumes nothing.
use mathlib.Core.Path.{◌≡◌, refl, sym, ◌∙◌, ap, subst}
use mathlib.Core.Logic.{⊎_elim}
use Prim.Native.Nat.{ℕ, ◌+◌, ◌-◌, ◌≤◌, ◌<◌, max}
use native.Mathlib.Nat.{zero-add}
use native.Mathlib.Omega.{arith}
use Rattle.std.specs.Prelude.{Some}
use mathlib.Core.List.{List}
use lib.Dec.{ltb}
use borrow.Author.Tests.{lt-ltb, le-ltb}
use Rattle.columns.specs.Lists.{pick}
use Rattle.buckets.specs.Bucket.{Bucket, read_bucket}
use Rattle.cycle.specs.Tree.{Plan}
use Rattle.cycle.specs.Cycle.{bucket_at, cycle_size}
use Rattle.cycle.specs.Inner.Held.{cycle_bucket}
use Rattle.cycle.proofs.Basics.Ranges.{le_or_lt}
use Rattle.cycle.proofs.Lines.DataTags.{AcceptedPlan}
use Rattle.cycle.proofs.Building.BuiltImage.{CycleOf}
use Rattle.listener.specs.Hearing.{hearing}
use Rattle.listener.specs.Demand3.{end_wanted}
use Rattle.listener.specs.EndPlace.{end_place}
use Rattle.listener.specs.declared.Phase.TheVariants.{TuneIn, Index}
use Rattle.listener.proofs.Steps.Mechanics.{Airs}
use Rattle.listener.proofs.Walks.Walk.{Walk}
use Rattle.listener.proofs.Walks.Walked.{Stretch}
use Rattle.listener.proofs.Walks.Unmarked.{Walked, walked_unmarked}
use Rattle.listener.proofs.Walks.Ways.{Carries, walk_as, to_start_of}
use Rattle.listener.proofs.Walks.Arrival.{wanted, runs}
use Rattle.listener.proofs.Walks.SegmentStart.{Within, end_of_start, ends, passes, from_first}
use Rattle.listener.proofs.Walks.TuneIn.{FromTuneIn, tunes_in_at}

-- the cycles of two plans are sent, one behind the other
pub record Sends (sent : ℕ → List ℕ) (t t' : Plan) : Type 0 where
  pub image : List ℕ
  pub image' : List ℕ
  pub fits : AcceptedPlan t
  pub fits' : AcceptedPlan t'
  pub reads : CycleOf image (cycle_size t) (cycle_bucket t)
  pub reads' : CycleOf image' (cycle_size t') (cycle_bucket t')
  pub old : (x : ℕ) → x < cycle_size t → sent x ≡ bucket_at image x
  pub new : (x : ℕ) → x < cycle_size t' → sent (cycle_size t + x) ≡ bucket_at image' x

module _ {sent : ℕ → List ℕ} {t t' : Plan} (s : Sends sent t t') where
  -- the places of both
  abbrev pub both : ℕ
  both = cycle_size t + cycle_size t'

  -- the bucket at a place
  unfoldable pub bucket_on : ℕ → Bucket
  bucket_on x = pick (ltb x (cycle_size t)) (cycle_bucket t x) (cycle_bucket t' (x - cycle_size t))

  pub on_old : (x : ℕ) → x < cycle_size t → bucket_on x ≡ cycle_bucket t x
  unfolding bucket_on
  on_old x h = rw (lt-ltb x (cycle_size t) h)

  pub on_new : (x : ℕ) → cycle_size t ≤ x → bucket_on x ≡ cycle_bucket t' (x - cycle_size t)
  unfolding bucket_on
  on_new x h = rw (le-ltb x (cycle_size t) h)

  read_on : (x : ℕ) → x < both → read_bucket (sent x) ≡ Some (bucket_on x)
  unfolding bucket_at
  read_on x h =
      ⊎_elim
      (λ (l : cycle_size t ≤ x).
      let y : ℕ = x - cycle_size t in
      let e : cycle_size t + y ≡ x = omega arith in
      ap (λ z. read_bucket (sent z)) (sym e) ∙
      (ap read_bucket (s.new y (omega arith)) ∙ (s.reads'.read y (omega arith) ∙ ap Some (sym (on_new x l)))))
      (λ (l : x < cycle_size t). ap read_bucket (s.old x l) ∙ (s.reads.read x l ∙ ap Some (sym (on_old x l))))
      (le_or_lt (cycle_size t) x)

  pub airs : Airs sent (cycle_size t) (cycle_size t') bucket_on
  airs =
      record {
        small = s.reads.small;
        small' = s.reads'.small;
        read = read_on;
        old_position = λ x h. ap (λ b. b.position) (on_old x h) ∙ s.reads.position_is x h;
        old_start = λ x h. ap (λ b. b.to_cycle) (on_old x h) ∙ to_start_of t s.fits.keeps x h;
        new_position =
            λ x h l. ap (λ b. b.position) (on_new x h) ∙ s.reads'.position_is (x - cycle_size t) (omega arith);
        new_start =
            λ x h l.
            ap (λ b. b.to_cycle) (on_new x h) ∙
            omega (arith, to_start_of t' s.fits'.keeps (x - cycle_size t) (omega arith));
      }

  -- both, from place 0 on
  unfoldable stretch : Stretch sent
  stretch =
      record {
        base = 0;
        n = cycle_size t;
        n' = cycle_size t';
        bucket = bucket_on;
        airs = subst (λ f. Airs f (cycle_size t) (cycle_size t') bucket_on) (λ i x. sent (sym (zero-add x) i)) airs;
      }

  unfoldable pub first : Carries both bucket_on t
  first =
      record {
        base = 0;
        inside = omega arith;
        is = λ x h. ap bucket_on (zero-add x) ∙ on_old x h;
        to_start = to_start_of t s.fits.keeps;
      }

  unfoldable pub second : Carries both bucket_on t'
  second =
      record {
        base = cycle_size t;
        inside = omega arith;
        is = λ x h.
            (let e : cycle_size t + x - cycle_size t ≡ x = omega arith in
            on_new (cycle_size t + x) (omega arith) ∙ ap (cycle_bucket t') e);
        to_start = to_start_of t' s.fits'.keeps;
      }

  -- a walk from tune-in bucket u that ends as it should by plan p, at place z
  pub record WalkTo (p : Plan) (tag u z : ℕ) : Type 0 where
    pub steps : ℕ
    pub most : steps ≤ 2 + p.k + max 1 (runs p tag)
    pub walk : Walk both tag bucket_on u TuneIn steps (end_wanted (wanted p tag)) z (wanted p tag)

  -- it ends in the first cycle, or in the second; where it would end if both were the same is told in either case
  pub data EndsIn (tag u : ℕ) : Type 0 where
    in_first : WalkTo t tag u (end_place t tag u) → end_place t tag u < cycle_size t → EndsIn tag u
    in_second :
        WalkTo t' tag u (cycle_size t + end_of_start t' tag) → end_of_start t' tag < cycle_size t' →
        end_place t tag u ≡ cycle_size t + end_of_start t tag → EndsIn tag u

  module _ (tag u : ℕ) where
    -- from the start of the second cycle
    arrival : Within t' tag second 0 Index (t'.k + max 1 (runs t' tag)) (end_of_start t' tag)
    arrival = from_first t' s.fits' tag second

    by : FromTuneIn t tag first u → EndsIn tag u
    unfolding first second
    by (ends w) =
        in_first
        (record {
          steps = w.steps;
          most = w.most;
          walk =
              subst (λ x. Walk both tag bucket_on x TuneIn w.steps (end_wanted (wanted t tag)) (end_place t tag u) (wanted t tag))
              (zero-add u) (walk_as refl (zero-add (end_place t tag u)) refl w.walk);
        })
        w.inside
    by (passes n few go z) =
        in_second
        (record {
          steps = n + arrival.steps;
          most = omega (arith, few, arrival.most);
          walk =
              subst
              (λ x.
              Walk both tag bucket_on x TuneIn (n + arrival.steps) (end_wanted (wanted t' tag)) (cycle_size t + end_of_start t' tag)
              (wanted t' tag))
              (zero-add u)
              (go arrival.steps (end_wanted (wanted t' tag)) (cycle_size t + end_of_start t' tag) (wanted t' tag)
              (subst
              (λ x.
              Walk both tag bucket_on x Index arrival.steps (end_wanted (wanted t' tag)) (cycle_size t + end_of_start t' tag)
              (wanted t' tag))
              (omega arith) arrival.walk));
        })
        arrival.inside z

    pub hears : u < cycle_size t → EndsIn tag u
    hears h = by (tunes_in_at t s.fits tag first u h)

    -- what holds of the hearing, whatever the number of its steps
    pub told :
        {p : Plan} {z : ℕ} → u < cycle_size t → (w : WalkTo p tag u z) (m : ℕ) (strays : ℕ → List ℕ) →
        Walked both u tag m w.steps (end_wanted (wanted p tag)) z (wanted p tag) (hearing sent strays tag u m)
    unfolding stretch
    told {p} {z} h w m strays =
        subst (λ v. Walked v u tag m w.steps (end_wanted (wanted p tag)) z (wanted p tag) (hearing sent strays tag u m)) (zero-add both)
        (subst (λ v. Walked (0 + both) v tag m w.steps (end_wanted (wanted p tag)) z (wanted p tag) (hearing sent strays tag v m)) (zero-add u)
        (subst (λ v. Walked (0 + both) (0 + u) tag m w.steps (end_wanted (wanted p tag)) v (wanted p tag) (hearing sent strays tag (0 + u) m)) (zero-add z)
        (walked_unmarked sent strays tag stretch u w.steps (end_wanted (wanted p tag)) z (wanted p tag) m w.walk h)))
