-- A walk tells of every hearing along it, whatever the number of its steps and whichever of them are lost: behind a lost bucket
-- another walk begins.
-- Assumes nothing.
use mathlib.Core.Path.{◌≡◌, refl, sym, ◌∙◌, ap, subst}
use Prim.Native.Nat.{ℕ, suc, ◌+◌, ◌≤◌, ◌<◌}
use mathlib.Core.Bool.{Bool, true, false}
use Rattle.std.specs.Prelude.{Option, Some}
use mathlib.Core.List.{List, [], ◌∷◌, ◌++◌, append_assoc}
use native.Mathlib.Nat.{add_assoc}
use native.Mathlib.Omega.{arith}
use Rattle.columns.specs.Lists.{any}
use Rattle.buckets.specs.declared.Line.{Line}
use Rattle.buckets.specs.Bucket.{Bucket, read_bucket}
use Rattle.listener.specs.Listener.{Choice, dozes, finds, misses, choice, letter_awaited, is_ended, start, counting, ended, stepped, heard_with, elapsed_with, dozing, decided, step, starts_over, named}
use Rattle.listener.specs.Hearing.{Taken, at, anywhere, onward, End, found, absent, end_by, end_of, up_to, until_end, doze_of, is_refused}
use Rattle.listener.specs.Lost.{Marked, marked_from, steps}
use Rattle.listener.specs.declared.Listener.{Listener}
use Rattle.listener.specs.declared.Phase.{Phase}
use Rattle.listener.specs.declared.Phase.TheVariants.{TuneIn}
use Rattle.listener.specs.declared.Answer.{Answer}
use Rattle.listener.specs.declared.Answer.TheVariants.{Doze, Found, Absent}
use Rattle.listener.specs.declared.Stepped.{Stepped}
use Rattle.listener.proofs.Walks.Walk.{Walk, misses_here, finds_here, hops, lines_at, walk_here, walk_some, walk_open}
use Rattle.listener.proofs.Steps.Mechanics.{Airs, Awaits, start_awaits, open_phase, takes, dozes_on, not_past}
use Rattle.listener.proofs.Steps.States.{lost_open}
use Rattle.listener.proofs.Walks.WalkedSteps.{Rule, Followed, stays, followed_none, followed_last, followed_doze}

-- the lines that an answer names
pub named_lines :
    (bytes : List ℕ) (b : Bucket) (s : Listener) (a : Answer) (first count : ℕ) → read_bucket bytes ≡ Some b →
    named bytes (stepped s a first count) ≡ lines_at b first count
unfolding named stepped lines_at
named_lines bytes b s a first count r = rw r

-- an answer that is an end
pub record Ends (e : End) (a : Answer) : Type 0 where
  pub until : (y : Taken) (later : List Taken) → up_to a y later ≡ y ∷ []
  pub end : (later : Option End) → end_by a later ≡ Some e
  pub fine : is_refused a ≡ false
  pub no_doze : doze_of a ≡ 0
  pub away : (x : ℕ) → onward (at x) a ≡ anywhere

pub found_ends : Ends found Found
found_ends = record { until = λ y later. refl; end = λ later. refl; fine = refl; no_doze = refl; away = λ x. refl }

pub absent_ends : Ends absent Absent
absent_ends = record { until = λ y later. refl; end = λ later. refl; fine = refl; no_doze = refl; away = λ x. refl }

-- ---- walks on air

-- two cycles on air, n and n' buckets from place `base` on, and their buckets, placed from there
pub record Stretch (sent : ℕ → List ℕ) : Type 0 where
  pub base : ℕ
  pub n : ℕ
  pub n' : ℕ
  pub bucket : ℕ → Bucket
  pub airs : Airs (λ y. sent (base + y)) n n' bucket

-- a tune-in at place x, and the walk from there
pub record Tuning (sent : ℕ → List ℕ) (tag x : ℕ) : Type 0 where
  pub on : Stretch sent
  pub position : ℕ
  pub there : on.base + position ≡ x
  pub early : position < on.n
  pub length : ℕ
  pub end : End
  pub place : ℕ
  pub got : List Line
  pub walk : Walk (on.n + on.n') tag on.bucket position TuneIn length end place got

-- one for each place: right, of `limit` steps at most, and not over `span` buckets
pub record Tunings (sent : ℕ → List ℕ) (tag : ℕ) (Right : Rule) (limit span : ℕ) : Type 0 where
  pub from : (x : ℕ) → Tuning sent tag x
  pub right : (x : ℕ) → Right ((from x).on.base + (from x).place) (from x).end (from x).got
  pub short : (x : ℕ) → (from x).length ≤ limit
  pub near : (x : ℕ) → (from x).on.n + (from x).on.n' ≤ span

module _ (sent strays : ℕ → List ℕ) (tag : ℕ) (Right : Rule) (limit span : ℕ) where
  -- the first step, with what it handed back, and the steps behind it
  abbrev step_then : ℕ → Bool → List ℕ → Stepped → List Bool → List Marked
  step_then x mark bytes r marks =
      record { mark = mark; taken = record { bytes = bytes; outcome = r } } ∷
      marked_from sent strays r.listener (onward (at x) r.answer) marks

  -- a step that ends the hearing
  followed_end :
      (last x : ℕ) (s : Listener) (marks : List Bool) (e : End) (a : Answer) (first count : ℕ) (b : Bucket) →
      Ends e a → step s (sent x) ≡ stepped (ended s (heard_with s) (elapsed_with s)) a first count →
      read_bucket (sent x) ≡ Some b → x < last →
      Followed Right limit span last s x 1 e x (lines_at b first count) (marked_from sent strays s (at x) (false ∷ marks))
  unfolding stepped ended
  followed_end last x s marks e a first count b ends is reads inside =
      subst (λ r. Followed Right limit span last s x 1 e x (lines_at b first count) (step_then x false (sent x) r marks)) (sym is)
      (followed_last Right limit span last s x e (lines_at b first count) y rest
      (ends.until y (until_end (steps rest)))
      (ends.end (end_of (steps rest)))
      ends.fine ends.no_doze
      (rw (ends.away x) (stays sent strays after refl marks)) refl (named_lines (sent x) b after a first count reads) inside)
    where
      after : Listener
      after = ended s (heard_with s) (elapsed_with s)

      y : Taken
      y = record { bytes = sent x; outcome = stepped after a first count }

      rest : List Marked
      rest = marked_from sent strays after (onward (at x) a) marks

  -- a step that dozes
  followed_hop :
      (last x : ℕ) (s : Listener) (marks : List Bool) (h d : ℕ) (next : Phase) (e : End) (z first count : ℕ) (b : Bucket) (got : List Line) →
      step s (sent x) ≡ stepped (dozing s b d next) (Doze d) first count → read_bucket (sent x) ≡ Some b →
      Followed Right limit span last (dozing s b d next) (x + d) h e z got (marked_from sent strays (dozing s b d next) (at (x + d)) marks) →
      Followed Right limit span last s x (suc h) e z (lines_at b first count ++ got) (marked_from sent strays s (at x) (false ∷ marks))
  unfolding stepped dozing
  followed_hop last x s marks h d next e z first count b got is reads w =
      subst (λ r. Followed Right limit span last s x (suc h) e z (lines_at b first count ++ got) (step_then x false (sent x) r marks)) (sym is)
      (followed_doze Right limit span {mark = false} s x d y (marked_from sent strays after (at (x + d)) marks)
      (record { answers = refl; heard_is = refl; elapsed_is = refl; doze_is = refl }) (omega arith) (omega arith)
      (λ held right.
      subst (Right z e)
      (sym
      (ap (λ ls. (held ++ ls) ++ got) (named_lines (sent x) b after (Doze d) first count reads) ∙
      append_assoc held (lines_at b first count) got))
      right)
      w)
    where
      after : Listener
      after = dozing s b d next

      y : Taken
      y = record { bytes = sent x; outcome = stepped after (Doze d) first count }

  -- a lost bucket: the walk from the next one
  followed_lost :
      (last x : ℕ) (s : Listener) (marks : List Bool) (h : ℕ) (e : End) (z : ℕ) (got : List Line) →
      is_ended s.phase ≡ false → 1 ≤ h → x < last → (anew : Tunings sent tag Right limit span) →
      let t = anew.from (x + 1) in
      Followed Right limit span (t.on.base + (t.on.n + t.on.n')) (starts_over s) (x + 1) t.length t.end (t.on.base + t.place) t.got
      (marked_from sent strays (starts_over s) (at (x + 1)) marks) →
      Followed Right limit span last s x h e z got (marked_from sent strays s (at x) (true ∷ marks))
  unfolding stepped starts_over counting start
  followed_lost last x s marks h e z got unended more inside anew w =
      let t = anew.from (x + 1) in
      subst (λ r. Followed Right limit span last s x h e z got (step_then x true [] r marks)) (sym (lost_open s unended))
      (followed_doze Right limit span {mark = true} s x 1 y (marked_from sent strays (starts_over s) (at (x + 1)) marks)
      (record { answers = refl; heard_is = refl; elapsed_is = refl; doze_is = refl })
      (omega (arith, anew.short (x + 1)))
      (omega (arith, anew.near (x + 1), t.there))
      (λ held right. anew.right (x + 1))
      w)
    where
      y : Taken
      y = record { bytes = []; outcome = stepped (starts_over s) (Doze 1) 0 0 }

  -- a listener that starts over awaits the tune-in bucket of the next walk
  anew_awaits :
      {x : ℕ} (t : Tuning sent tag x) (s : Listener) → s.tag ≡ tag →
      Awaits t.on.n tag t.on.bucket t.position TuneIn (starts_over s)
  unfolding starts_over counting start
  anew_awaits t s same = start_awaits t.on.n tag t.position t.on.bucket (starts_over s) t.early same refl refl

  module _ (on : Stretch sent) where
    -- the steps along a walk from place x of the stretch
    abbrev Along : ℕ → ℕ → End → ℕ → List Line → Listener → List Bool → Type 0
    Along x h e z got s marks =
        Followed Right limit span (on.base + (on.n + on.n')) s (on.base + x) h e (on.base + z) got
        (marked_from sent strays s (at (on.base + x)) marks)

    decides :
        {x : ℕ} {ph : Phase} (s : Listener) → Awaits on.n tag on.bucket x ph s → x < on.n + on.n' →
        letter_awaited ph (on.bucket x).body ≡ true → (c : Choice) → choice ph tag (on.bucket x) ≡ c →
        step s (sent (on.base + x)) ≡ decided s (on.bucket x) c
    decides {x = x} s a hx l c is =
        takes (λ y. sent (on.base + y)) on.n on.n' tag on.bucket on.airs s a hx l ∙ ap (decided s (on.bucket x)) is

    -- a walk that goes on by d
    along_hop :
        {x : ℕ} {ph next : Phase} {h : ℕ} {e : End} (z : ℕ) {got : List Line} (d first count : ℕ) (s : Listener) (marks : List Bool) →
        Awaits on.n tag on.bucket x ph s → x < on.n + on.n' → letter_awaited ph (on.bucket x).body ≡ true →
        choice ph tag (on.bucket x) ≡ dozes d next first count → x + d < on.n + on.n' →
        Along (x + d) h e z got (dozing s (on.bucket x) d next) marks →
        Along x (suc h) e z (lines_at (on.bucket x) first count ++ got) s (false ∷ marks)
    along_hop {x} {ph} {next} {h} {e} z {got} d first count s marks a hx l c inside w =
        let b = on.bucket x in
        followed_hop (on.base + (on.n + on.n')) (on.base + x) s marks h d next e (on.base + z) first count b got
        (decides s a hx l (dozes d next first count) c ∙ rw (not_past (λ y. sent (on.base + y)) on.n on.n' tag on.bucket on.airs s d a inside))
        (on.airs.read x hx)
        (subst
        (λ v.
        Followed Right limit span (on.base + (on.n + on.n')) (dozing s b d next) v h e (on.base + z) got
        (marked_from sent strays (dozing s b d next) (at v) marks))
        (sym (add_assoc on.base x d)) w)

  -- the hearing along a walk, whatever the number of steps, with tunings where a bucket is lost
  pub followed :
      (on : Stretch sent) {x : ℕ} {ph : Phase} {h : ℕ} {e : End} {z : ℕ} {got : List Line} →
      Walk (on.n + on.n') tag on.bucket x ph h e z got → (s : Listener) → Awaits on.n tag on.bucket x ph s →
      (marks : List Bool) → (any (λ m. m) marks ≡ true → Tunings sent tag Right limit span) → Along on x h e z got s marks
  unfolding lines_at
  followed on {x} {ph} {h} {e} {z} {got} w s a [] anew =
      followed_none Right limit span (on.base + (on.n + on.n')) s (on.base + x) h e (on.base + z) got (walk_some w)
      (omega (arith, walk_here w))
  followed on {x} {ph} {h} {e} {z} {got} w s a (true ∷ marks) anew =
      let all : Tunings sent tag Right limit span = anew refl in
      let t = all.from (on.base + x + 1) in
      followed_lost (on.base + (on.n + on.n')) (on.base + x) s marks h e (on.base + z) got
      (ap is_ended a.phase_is ∙ open_phase ph (on.bucket x) (walk_open w)) (walk_some w) (omega (arith, walk_here w)) all
      (subst
      (λ v.
      Followed Right limit span (t.on.base + (t.on.n + t.on.n')) (starts_over s) v t.length t.end (t.on.base + t.place)
      t.got (marked_from sent strays (starts_over s) (at v) marks))
      t.there
      (followed t.on t.walk (starts_over s) (anew_awaits t s a.tag_is) marks (λ h. all)))
  followed on (misses_here {x} hx l c) s a (false ∷ marks) anew =
      followed_end (on.base + (on.n + on.n')) (on.base + x) s marks absent Absent 0 0 (on.bucket x) absent_ends
      (decides on s a hx l misses c) (on.airs.read x hx) (omega arith)
  followed on (finds_here {x} first count hx l c) s a (false ∷ marks) anew =
      followed_end (on.base + (on.n + on.n')) (on.base + x) s marks found Found first count (on.bucket x) found_ends
      (decides on s a hx l (finds first count) c) (on.airs.read x hx) (omega arith)
  followed on {z = z} (hops {x} {ph} {next} d first count hx l c w far near more) s a (false ∷ marks) anew =
      along_hop on z d first count s marks a hx l c (walk_here more)
      (followed on more (dozing s (on.bucket x) d next)
      (dozes_on (λ y. sent (on.base + y)) on.n on.n' tag on.bucket on.airs s d a w far near (walk_here more)) marks anew)
