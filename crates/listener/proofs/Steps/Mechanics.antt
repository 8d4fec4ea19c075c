-- The listener's step where the bucket is the one awaited: it is taken, conditions 8, 9, 10 and 14 do not hold, and the place
-- awaited moves on.
-- Assumes nothing.
use mathlib.Core.Path.{◌≡◌, refl, sym, ◌∙◌, ap, ap₂}
use mathlib.Core.Logic.{⊎_elim}
use Prim.Native.Nat.{ℕ, ◌+◌, ◌-◌, ◌≤◌, ◌<◌}
use mathlib.Core.Bool.{Bool, true, false, ◌||◌}
use Rattle.std.specs.Prelude.{Some}
use mathlib.Core.List.{List}
use native.Mathlib.Omega.{arith}
use lib.Dec.{eqb}
use borrow.Author.Tests.{eq-eqb}
use Rattle.buckets.specs.Bucket.{Bucket, cycle_length, read_bucket}
use Rattle.listener.specs.Listener.{start, choice, letter_awaited, due_at, place_awaited, awaited, is_ended, refused_ended, past_next_cycle, dozing, decided, heed, step}
use Rattle.cycle.proofs.Basics.Ranges.{le_or_lt}
use Rattle.listener.specs.declared.Listener.{Listener}
use Rattle.listener.specs.declared.Phase.{Phase}
use Rattle.listener.specs.declared.Phase.TheVariants.{TuneIn, Index, Either, Data, Ended}
use Rattle.listener.specs.declared.Stepped.{Stepped}
use Rattle.listener.proofs.Walks.Walk.{awake}
use Rattle.listener.proofs.Steps.Dozes

-- what is on air reads as the buckets of two cycles, of n and n' buckets, each at its place; places count from the first one's start
pub record Airs (sent : ℕ → List ℕ) (n n' : ℕ) (bk : ℕ → Bucket) : Type 0 where
  pub small : n ≤ 99999
  pub small' : n' ≤ 99999
  pub read : (x : ℕ) → x < n + n' → read_bucket (sent x) ≡ Some (bk x)
  pub old_position : (x : ℕ) → x < n → (bk x).position ≡ x
  pub old_start : (x : ℕ) → x < n → (bk x).to_cycle ≡ n - x
  pub new_position : (x : ℕ) → n ≤ x → x < n + n' → (bk x).position ≡ x - n
  pub new_start : (x : ℕ) → n ≤ x → x < n + n' → (bk x).to_cycle ≡ n + n' - x

-- s awaits the bucket at place x
pub record Awaits (n tag : ℕ) (bk : ℕ → Bucket) (x : ℕ) (ph : Phase) (s : Listener) : Type 0 where
  pub tag_is : s.tag ≡ tag
  pub phase_is : s.phase ≡ ph
  pub place_is : place_awaited ph s (bk x) ≡ true
  pub old_passed : x < n → s.passed ≡ 0
  pub new_passed : n ≤ x → s.passed ≡ 1

-- a phase whose letter is awaited is not ended
pub open_phase : (ph : Phase) (b : Bucket) → letter_awaited ph b.body ≡ true → is_ended ph ≡ false
open_phase TuneIn b h = refl
open_phase Index b h = refl
open_phase Either b h = refl
open_phase Data b h = refl
open_phase Ended b h = sym h

-- a listener that was just started, or starts over, awaits its tune-in bucket, at place u
pub start_awaits :
    (n tag u : ℕ) (bk : ℕ → Bucket) (s : Listener) → u < n → s.tag ≡ tag → s.phase ≡ TuneIn → s.passed ≡ 0 →
    Awaits n tag bk u TuneIn s
start_awaits n tag u bk s h same tuning none =
    record {
      tag_is = same;
      phase_is = tuning;
      place_is = refl;
      old_passed = λ l. none;
      new_passed = λ l. absurd (omega arith);
    }

pub step_takes :
    (s : Listener) (bytes : List ℕ) (b : Bucket) → is_ended s.phase ≡ false → read_bucket bytes ≡ Some b → step s bytes ≡ heed s b
unfolding step
step_takes s bytes b h r = rw (h, r)

pub heed_decides :
    (s : Listener) (b : Bucket) → awaited s b ≡ true → heed s b ≡ decided s b (choice s.phase s.tag b)
unfolding heed
heed_decides s b h = rw h

-- an ended listener is refused by 14
pub step_ended : (s : Listener) (bytes : List ℕ) → s.phase ≡ Ended → step s bytes ≡ refused_ended s
unfolding step
step_ended s bytes e = rw e

-- where a doze ends is what the phases after a doze await
pub due_place : (ph : Phase) (s : Listener) (b : Bucket) → awake ph ≡ true → due_at s b ≡ true → place_awaited ph s b ≡ true
due_place TuneIn s b w p = refl
due_place Index s b w p = p
due_place Either s b w p = p
due_place Data s b w p = p
due_place Ended s b w p = w

-- within a cycle
pub awaited_within : (s : Listener) (b : Bucket) → b.position ≡ s.due → cycle_length b ≡ s.cycle → due_at s b ≡ true
awaited_within s b p c =
    rw (eq-eqb b.position s.due p, eq-eqb (cycle_length b) s.cycle c) (or_true (eqb s.due 0))
  where
    or_true : (o : Bool) → (o || true) ≡ true
    or_true true = refl
    or_true false = refl

-- past a start
pub awaited_at_start : (s : Listener) (b : Bucket) → b.position ≡ 0 → s.due ≡ 0 → due_at s b ≡ true
awaited_at_start s b p c = rw (p, c)

-- an equation of a value of the phase, at the listener's own phase
along {ℓ} : {A : Type ℓ} {x y : Phase} {z : A} (f : Phase → A) → x ≡ y → f y ≡ z → f x ≡ z
along f e h = ap f e ∙ h

module _ (sent : ℕ → List ℕ) (n n' tag : ℕ) (bk : ℕ → Bucket) (air : Airs sent n n' bk) where
  -- what a listener makes of the bucket that it awaits
  pub takes :
      {x : ℕ} {ph : Phase} (s : Listener) → Awaits n tag bk x ph s → x < n + n' → letter_awaited ph (bk x).body ≡ true →
      step s (sent x) ≡ decided s (bk x) (choice ph tag (bk x))
  unfolding awaited
  takes {x} {ph} s a hx l =
      let l' : letter_awaited s.phase (bk x).body ≡ true = along (λ p. letter_awaited p (bk x).body) a.phase_is l in
      let p' : place_awaited s.phase s (bk x) ≡ true = along (λ p. place_awaited p s (bk x)) a.phase_is a.place_is in
      step_takes s (sent x) (bk x) (open_phase s.phase (bk x) l') (air.read x hx) ∙
      (heed_decides s (bk x) (rw (l', p')) ∙
      ap₂ {C = Stepped} (λ p g. decided s (bk x) (choice p g (bk x))) a.phase_is a.tag_is)

  -- what a listener awaits that dozes within a cycle
  dozes_within :
      {x : ℕ} {ph next : Phase} (s : Listener) (d : ℕ) → Awaits n tag bk x ph s → awake next ≡ true → d < (bk x).to_cycle → (bk (x + d)).position ≡ (bk x).position + d → cycle_length (bk (x + d)) ≡ cycle_length (bk x) →
      (x + d < n → s.passed ≡ 0) → (n ≤ x + d → s.passed ≡ 1) → Awaits n tag bk (x + d) next (dozing s (bk x) d next)
  unfolding dozing
  dozes_within {x} {ph} {next} s d a w near same cycle old new =
      record {
        tag_is = a.tag_is;
        phase_is = refl;
        place_is =
            due_place next (dozing s (bk x) d next) (bk (x + d)) w
            (awaited_within (dozing s (bk x) d next) (bk (x + d)) (same ∙ sym (Dozes.due_within (bk x) d near)) cycle);
        old_passed = λ h. Dozes.passed_within (bk x) d near s ∙ old h;
        new_passed = λ h. Dozes.passed_within (bk x) d near s ∙ new h;
      }

  -- what one awaits that dozes to the start of the next cycle
  dozes_to_start :
      {x : ℕ} {ph next : Phase} (s : Listener) (d : ℕ) → Awaits n tag bk x ph s → awake next ≡ true → x < n →
      x + d ≡ n → (bk x).to_cycle ≡ d → (bk (x + d)).position ≡ 0 → Awaits n tag bk (x + d) next (dozing s (bk x) d next)
  unfolding dozing
  dozes_to_start {x} {ph} {next} s d a w old sums start first =
      let far_on : (bk x).to_cycle ≤ d = omega arith in
      record {
        tag_is = a.tag_is;
        phase_is = refl;
        place_is =
            due_place next (dozing s (bk x) d next) (bk (x + d)) w (awaited_at_start (dozing s (bk x) d next) (bk (x + d)) first (Dozes.due_start (bk x) d far_on));
        old_passed = λ h. absurd (omega arith);
        new_passed = λ h. omega (arith, Dozes.passed_start (bk x) d far_on s, a.old_passed old);
      }

  -- a doze to a bucket of this cycle, or to the first one of the next: the listener that awaits it
  pub dozes_on :
      {x : ℕ} {ph next : Phase} (s : Listener) (d : ℕ) → Awaits n tag bk x ph s → awake next ≡ true → 1 ≤ d → d ≤ (bk x).to_cycle →
      x + d < n + n' → Awaits n tag bk (x + d) next (dozing s (bk x) d next)
  unfolding cycle_length
  dozes_on {x} {ph} {next} s d a w far near inside = ⊎_elim in_new in_old (le_or_lt n x)
    where
      in_new : n ≤ x → Awaits n tag bk (x + d) next (dozing s (bk x) d next)
      in_new h =
          let here : (bk x).position ≡ x - n = air.new_position x h (omega arith) in
          let there : (bk (x + d)).position ≡ x + d - n = air.new_position (x + d) (omega arith) inside in
          let start : (bk x).to_cycle ≡ n + n' - x = air.new_start x h (omega arith) in
          let start' : (bk (x + d)).to_cycle ≡ n + n' - (x + d) = air.new_start (x + d) (omega arith) inside in
          dozes_within s d a w (omega arith) (omega arith) (omega arith) (λ l. absurd (omega arith)) (λ l. a.new_passed h)

      in_old : x < n → Awaits n tag bk (x + d) next (dozing s (bk x) d next)
      in_old h =
          let here : (bk x).position ≡ x = air.old_position x h in
          let start : (bk x).to_cycle ≡ n - x = air.old_start x h in
          ⊎_elim
          (λ (l : n ≤ x + d).
          dozes_to_start s d a w h (omega arith) (omega arith) (air.new_position (x + d) l inside ∙ omega arith))
          (λ (l : x + d < n).
          let there : (bk (x + d)).position ≡ x + d = air.old_position (x + d) l in
          let start' : (bk (x + d)).to_cycle ≡ n - (x + d) = air.old_start (x + d) l in
          dozes_within s d a w (omega arith) (omega arith) (omega arith) (λ k. a.old_passed h) (λ k. absurd (omega arith)))
          (le_or_lt n (x + d))

  -- 10 does not hold of a doze that stays before the end of the next cycle
  pub not_past :
      {x : ℕ} {ph : Phase} (s : Listener) (d : ℕ) → Awaits n tag bk x ph s → x + d < n + n' → past_next_cycle s (bk x) d ≡ false
  unfolding past_next_cycle
  not_past {x} {ph} s d a inside =
      ⊎_elim
      (λ (h : n ≤ x). Dozes.past_within (bk x) d (omega (arith, air.new_start x h (omega arith))) s)
      (λ (h : x < n). rw (a.old_passed h))
      (le_or_lt n x)
