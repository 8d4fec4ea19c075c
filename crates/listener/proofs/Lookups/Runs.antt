-- A lookup's run, bucket by bucket: what is left of it, and that the lines got only grow.
-- Assumes nothing.
use mathlib.Core.Path.{◌≡◌, refl, sym, ◌∙◌, ap, subst}
use mathlib.Core.Bool.{false}
use mathlib.Core.List.{List, [], ◌∷◌, ◌++◌}
use Prim.Native.Nat.{ℕ, zero, suc, ◌+◌, ◌-◌, ◌*◌, ◌≤◌, ◌<◌, ◌%◌}
use native.Mathlib.Omega.{arith}
use native.Mathlib.Nat.{mod-lt}
use lib.ListN.{length, length-append}
use Rattle.columns.specs.Lists.{pick}
use Rattle.buckets.specs.Lengths.{buckets_most, bucket_lines_most}
use Rattle.buckets.specs.Bucket.{Bucket}
use Rattle.buckets.specs.declared.Line.{Line}
use Rattle.cycle.proofs.Trees.Children.{nil_of}
use Rattle.listener.specs.Listener.{start, step, named, is_ended}
use Rattle.cycle.specs.Cycle.{bucket_at}
use Rattle.listener.specs.Started.{after}
use Rattle.listener.specs.Lookup.{Finish, found, after_answer, run_budget, run, whole_run}
use Rattle.listener.specs.Inner.OnRun.{WasHeard, heard_at, heard_next, run_on, Begins}
use Rattle.listener.specs.declared.Listener.{Listener}
use Rattle.listener.specs.declared.Answer.{Answer}
use Rattle.listener.specs.declared.Answer.TheVariants.{Doze, Found, Absent, Refused}
use Rattle.listener.specs.declared.Stepped.{Stepped}
use Rattle.listener.specs.declared.hearing.Heard.{Heard}
use Rattle.listener.proofs.Steps.StepBounds.{length_named, few_named, doze_near}
use Rattle.listener.proofs.Steps.StepLeaves.{GoesOn, Leaves, goes_on, stops, dozed_on, open_awake, midway_short}
use Rattle.listener.proofs.Steps.StartedListeners.{tuned_in, leaves, after_one_more, counts_limited}
use Rattle.listener.proofs.Lookups.EnoughSteps.{run_on_lem}

-- the listener that heard a bucket
abbrev pub listener_at : {image : List ℕ} {count : ℕ} {h : Heard} → WasHeard image count h → Listener
listener_at w = after (start w.tag) w.given

-- a run that has come from `goal`'s start to a bucket heard, with so many lines got before it
pub record SoFar (image : List ℕ) (count : ℕ) (goal : Finish) (h : Heard) (lines : ℕ) : Type 0 where
  pub heard : WasHeard image count h
  pub got : List Line
  pub counted : length got ≡ lines
  pub rest : goal ≡ run_on image count h got
  pub few : lines ≤ bucket_lines_most * (listener_at heard).elapsed

module _ (image : List ℕ) (count : ℕ) where
  pub at_start :
      (tag t : ℕ) {s : Listener} {h : Heard} → s ≡ start tag → h ≡ heard_at image t s → t < count →
      SoFar image count (whole_run image count tag t) h 0
  unfolding whole_run
  at_start tag t {s} {h} e k inside =
      subst (λ z. SoFar image count (whole_run image count tag t) z 0) (sym (k ∙ ap (heard_at image t) e))
      (record {
        heard = record { tag = tag; given = []; is = refl; inside = inside };
        got = [];
        counted = refl;
        rest = run_on_lem image count tag [] t [];
        few = omega arith;
      })

  -- the rest of a run, at the bucket heard that it starts from
  unfoldable pub at_heard : {h : Heard} → WasHeard image count h → SoFar image count (run_on image count h []) h 0
  at_heard w = record { heard = w; got = []; counted = refl; rest = refl; few = omega arith }

-- how far a run is from its end at a bucket heard: the listener's counts grow up to the buckets of two cycles, and then it ends
unfoldable pub to_go : Heard → ℕ
to_go h = 2 * (2 * buckets_most - h.step.listener.elapsed) + pick (is_ended h.step.listener.phase) 0 1

-- a step that ends a run is one fewer to go, and one that goes on two
fewer :
    {t : Bucket} {s : Listener} {r : Stepped} → Leaves t s r → is_ended s.phase ≡ false → s.elapsed < 2 * buckets_most →
    2 * (2 * buckets_most - r.listener.elapsed) + pick (is_ended r.listener.phase) 0 1 <
    2 * (2 * buckets_most - s.elapsed) + pick (is_ended s.phase) 0 1
fewer {s = s} {r = r} (goes_on g) o m =
    rw (o, open_awake r.listener.phase g.awaits.awake_is) (omega (arith, g.further))
fewer {s = s} {r = r} (stops e) o m = rw (o, e.over_is) (omega (arith, e.no_less))

module _ {image : List ℕ} {count : ℕ} {goal : Finish} {h : Heard} {lines : ℕ} (f : SoFar image count goal h lines) where
  -- the lines got with this bucket
  unfoldable pub got_with : List Line
  got_with = f.got ++ named (bucket_at image h.x) h.step

  pub counted_with : length got_with ≡ lines + h.step.count
  unfolding got_with
  counted_with =
      length-append f.got (named (bucket_at image h.x) h.step) ∙
      rw (f.counted, f.heard.is, length_named (listener_at f.heard) (bucket_at image h.x))

  pub named_few : h.step.first + h.step.count ≤ bucket_lines_most
  named_few = rw f.heard.is (few_named (listener_at f.heard) (bucket_at image h.x))

  pub lines_few : lines + h.step.count ≤ 1600000
  lines_few = omega (arith, named_few, f.few, (counts_limited f.heard.tag f.heard.given).elapsed)

  pub after_step :
      {a : Answer} → h.step.answer ≡ a →
      goal ≡ after_answer (run image count run_budget) count h.x got_with h.step.listener a
  unfolding got_with run_on
  after_step k = f.rest ∙ ap (after_answer (run image count run_budget) count h.x got_with h.step.listener) k

  pub doze_few : {d : ℕ} → h.step.answer ≡ Doze d → d ≤ buckets_most
  doze_few k =
      doze_near (listener_at f.heard) (bucket_at image h.x) (ap (λ z. z.answer) (sym f.heard.is) ∙ k)

  -- ---- after a doze

  -- the bytes given up to this bucket
  unfoldable pub given_with : List (List ℕ)
  given_with = f.heard.given ++ bucket_at image h.x ∷ []

  pub next_listener : h.step.listener ≡ after (start f.heard.tag) given_with
  unfolding given_with
  next_listener =
      ap (λ z. z.listener) f.heard.is ∙
      sym (after_one_more (start f.heard.tag) f.heard.given (bucket_at image h.x))

  pub went_on :
      {d : ℕ} → h.step.answer ≡ Doze d →
      GoesOn (tuned_in f.heard.given (bucket_at image h.x)) (listener_at f.heard) h.step
  went_on k =
      dozed_on
      (subst (Leaves (tuned_in f.heard.given (bucket_at image h.x)) (listener_at f.heard)) (sym f.heard.is)
      (leaves f.heard.tag f.heard.given (bucket_at image h.x)))
      k

  unfoldable pub onward :
      (d : ℕ) → h.step.answer ≡ Doze d → SoFar image count goal (heard_next image count h d) (lines + h.step.count)
  unfolding heard_next
  onward d k =
      let x : ℕ = (h.x + d) % count in
      let tag = f.heard.tag in
      let bytes = bucket_at image x in
      record {
        heard =
            record {
              tag = tag;
              given = given_with;
              is = ap (λ z. step z bytes) next_listener;
              inside = mod-lt (h.x + d) {m = count} (omega (arith, f.heard.inside));
            };
        got = got_with;
        counted = counted_with;
        rest =
            after_step k ∙
            (ap (λ z. run image count run_budget x z got_with) next_listener ∙
            (run_on_lem image count tag given_with x got_with ∙
            ap (λ z. run_on image count (record { x = x; step = step z bytes }) got_with) (sym next_listener)));
        few = omega (arith, f.few, named_few, (went_on k).further, ap (λ z. z.elapsed) next_listener);
      }

  pub fewer_to_go : (d : ℕ) {h' : Heard} → h.step.answer ≡ Doze d → h' ≡ heard_next image count h d → to_go h' < to_go h
  unfolding heard_next to_go
  fewer_to_go d k next =
      let g = went_on k in
      let s = h.step.listener in
      let bytes = bucket_at image ((h.x + d) % count) in
      rw next
      (fewer
      (subst (λ z. Leaves (tuned_in given_with bytes) z (step z bytes)) (sym next_listener)
      (leaves f.heard.tag given_with bytes))
      (open_awake s.phase g.awaits.awake_is)
      (omega (arith, midway_short s g.awaits, g.awaits.dozed)))

-- a run that has got no lines yet can be written from here
pub begins :
    {image : List ℕ} {count : ℕ} {goal : Finish} {h : Heard} {lines : ℕ} → SoFar image count goal h lines → lines ≡ 0 →
    Begins image count goal h
begins {image} {count} {goal} {h} f none =
    record {
      heard = f.heard;
      all = f.rest ∙ ap (run_on image count h) (nil_of f.got (f.counted ∙ none));
    }

-- ---- the lines got only grow

module _ (image : List ℕ) (count : ℕ) (s' : Listener) (ls : List Line) where
  pub longer_after :
      (go_on : ℕ → Listener → List Line → Finish) →
      ((x : ℕ) (s : Listener) (got : List Line) → go_on x s got ≡ found s' ls → length got ≤ length ls) →
      (x : ℕ) (got : List Line) (s : Listener) (a : Answer) → after_answer go_on count x got s a ≡ found s' ls →
      length got ≤ length ls
  longer_after go_on h x got s (Doze d) e = h ((x + d) % count) s got e
  longer_after go_on h x got s Found e = let k : got ≡ ls = cc in omega (arith, ap length k)
  longer_after go_on h x got s Absent e = let z : ◌≡◌ {A = ℕ} 0 1 = cc in absurd (omega arith)
  longer_after go_on h x got s (Refused number) e = let z : ◌≡◌ {A = ℕ} 0 1 = cc in absurd (omega arith)

  pub longer :
      (budget x : ℕ) (s : Listener) (got : List Line) → run image count budget x s got ≡ found s' ls →
      length got ≤ length ls
  longer zero x s got e = let z : ◌≡◌ {A = ℕ} 0 1 = cc in absurd (omega arith)
  longer (suc budget) x s got e =
      let bytes = bucket_at image x in
      let k : length (got ++ named bytes (step s bytes)) ≤ length ls =
      longer_after (run image count budget) (longer budget) x (got ++ named bytes (step s bytes))
      (step s bytes).listener (step s bytes).answer e in
      omega (arith, length-append got (named bytes (step s bytes)))
