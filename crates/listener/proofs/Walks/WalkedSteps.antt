-- What holds of a hearing along a walk, whatever the number of its steps and whichever of them are lost: the limits, the end, the
-- lines and the counts. It holds of no step, of a step that ends the hearing, and of a doze and what follows it. An ended listener
-- stays as it is.
-- Assumes nothing.
use mathlib.Core.Path.{◌≡◌, refl, sym, ◌∙◌, ap, subst}
use Prim.Native.Nat.{ℕ, suc, ◌+◌, ◌*◌, ◌≤◌, ◌<◌}
use mathlib.Core.Bool.{Bool, true, false}
use Rattle.std.specs.Prelude.{None, Some}
use mathlib.Core.List.{List, [], ◌∷◌, ◌++◌}
use native.Mathlib.Nat.{add-mul}
use native.Mathlib.Omega.{arith}
use lib.ListN.{length, drop}
use Rattle.columns.specs.Lists.{pick, every}
use Rattle.buckets.specs.declared.Line.{Line}
use Rattle.listener.specs.Listener.{count_most, stopped, ended, stepped, refused_ended, heard_with, elapsed_with, named}
use Rattle.listener.specs.Hearing.{Taken, anywhere, End, end_of, until_end, heard_in, doze_of, dozes_followed, is_refused, refused_before_end, lines_got, listener_after}
use Rattle.listener.specs.Demand3.{refused_by14}
use Rattle.listener.specs.Lost.{Marked, taken_by, marked_from, steps, up_to_end, lost_in, lines_held}
use Rattle.listener.specs.declared.Listener.{Listener}
use Rattle.listener.specs.declared.Phase.TheVariants.{Ended}
use Rattle.listener.specs.declared.Answer.TheVariants.{Doze}
use Rattle.listener.proofs.Steps.Mechanics.{step_ended}
use Rattle.listener.proofs.Steps.States.{not_stopped, heard_counted, elapsed_counted, heard_on, elapsed_on, lost_ended}

-- what goes by up to the last step, if d goes by up to the first one
abbrev pub gone_by : ℕ → List Taken → ℕ
gone_by d [] = 0
gone_by d (x ∷ xs) = d + dozes_followed x xs

-- An end at a place, with the lines held there, is right or not.
abbrev pub Rule : Type 1
Rule = ℕ → End → List Line → Type 0

-- it came, at a place and with lines that are right; place x was awaited, by a doze of d, with these lines held
pub record EndsAt (Right : Rule) (d x : ℕ) (held : List Line) (e : End) (log : List Marked) : Type 0 where
  pub place : ℕ
  pub there : x + gone_by d (steps log) ≡ place + d
  pub right : Right place e (lines_held held (up_to_end log))

-- of the hearing from listener s on, which awaits place x, if a walk of h steps to place z starts there, all before `last`; a
-- walk begun anew takes at most `limit` steps, and its places are `span` more at most
pub record Followed
    (Right : Rule) (limit span last : ℕ) (s : Listener) (x h : ℕ) (e : End) (z : ℕ) (got : List Line) (log : List Marked)
    : Type 0 where
  pub heard_most_lem : heard_in (steps log) ≤ h + lost_in log * limit
  pub unrefused : refused_before_end (steps log) ≡ false
  pub not_ended : end_of (steps log) ≡ None → length log < h + lost_in log * limit
  pub ends :
      (held : List Line) → Right z e (held ++ got) → (e' : End) → end_of (steps log) ≡ Some e' →
      EndsAt Right s.doze x held e' log
  pub heard_own : s.heard ≤ count_most → (listener_after s (steps log)).heard ≡ stopped (s.heard + heard_in (steps log))
  pub elapsed_own :
      s.elapsed ≤ count_most → (listener_after s (steps log)).elapsed ≡ stopped (s.elapsed + gone_by s.doze (steps log))
  pub in_time : x + gone_by s.doze (steps log) < last + lost_in log * span + s.doze
  pub after_end : every (λ y. refused_by14 y.outcome.answer) (drop (heard_in (steps log)) (steps log)) ≡ true
  pub unchanged : listener_after s (steps log) ≡ listener_after s (until_end (steps log))

-- ---- an ended listener

-- its steps
pub record Stays (s : Listener) (log : List Taken) : Type 0 where
  pub refused : every (λ x. refused_by14 x.outcome.answer) log ≡ true
  pub keeps : listener_after s log ≡ s
  pub no_lines : lines_got log ≡ []
  pub no_dozes : (x : Taken) → doze_of x.outcome.answer ≡ 0 → dozes_followed x log ≡ 0

stays_once :
    (s : Listener) (bytes : List ℕ) (rest : List Taken) → Stays s rest →
    Stays s (record { bytes = bytes; outcome = refused_ended s } ∷ rest)
unfolding refused_ended stepped named
stays_once s bytes rest r =
    record {
      refused = r.refused;
      keeps = r.keeps;
      no_lines = r.no_lines;
      no_dozes = λ x d. rw (d, r.no_dozes (record { bytes = bytes; outcome = refused_ended s }) refl);
    }

-- a bucket or a lost one, both are refused by 14
taken_ended :
    (mark : Bool) (s : Listener) (bytes : List ℕ) → s.phase ≡ Ended → (taken_by mark s bytes).outcome ≡ refused_ended s
taken_ended true s bytes e = lost_ended s (rw e refl)
taken_ended false s bytes e = step_ended s bytes e

pub stays :
    (sent strays : ℕ → List ℕ) (s : Listener) → s.phase ≡ Ended → (marks : List Bool) →
    Stays s (steps (marked_from sent strays s anywhere marks))
unfolding refused_ended stepped
stays sent strays s e [] =
    record { refused = refl; keeps = refl; no_lines = refl; no_dozes = λ x d. refl }
stays sent strays s e (mark ∷ marks) =
    let bytes = strays (length marks) in
    subst
    (λ r.
    Stays s (record { bytes = (taken_by mark s bytes).bytes; outcome = r } ∷ steps (marked_from sent strays r.listener anywhere marks)))
    (sym (taken_ended mark s bytes e))
    (stays_once s (taken_by mark s bytes).bytes (steps (marked_from sent strays (refused_ended s).listener anywhere marks))
    (stays sent strays s e marks))

-- ---- a first step

-- it dozes by d, and what is left comes behind it
pub record Dozed (s : Listener) (d : ℕ) (y : Taken) : Type 0 where
  pub answers : y.outcome.answer ≡ Doze d
  pub heard_is : y.outcome.listener.heard ≡ heard_with s
  pub elapsed_is : y.outcome.listener.elapsed ≡ elapsed_with s
  pub doze_is : y.outcome.listener.doze ≡ d

module _ (y : Taken) (rest : List Taken) {d : ℕ} (dozed : y.outcome.answer ≡ Doze d) where
  until_more : until_end (y ∷ rest) ≡ y ∷ until_end rest
  until_more = rw dozed

  heard_more : heard_in (y ∷ rest) ≡ suc (heard_in rest)
  unfolding heard_in
  heard_more = rw dozed

  fine_more : refused_before_end (y ∷ rest) ≡ refused_before_end rest
  unfolding refused_before_end
  fine_more = rw dozed

  end_more : end_of (y ∷ rest) ≡ end_of rest
  end_more = rw dozed

pub gone_after :
    (y : Taken) (rest : List Taken) (d : ℕ) → doze_of y.outcome.answer ≡ d → dozes_followed y rest ≡ gone_by d rest
gone_after y [] d e = refl
gone_after y (z ∷ rest) d e = rw e

module _ (y : Marked) (rest : List Marked) {d : ℕ} (dozed : y.taken.outcome.answer ≡ Doze d) where
  up_more : up_to_end (y ∷ rest) ≡ y ∷ up_to_end rest
  unfolding up_to_end
  up_more = rw (heard_more y.taken (steps rest) dozed)

  lost_more : lost_in (y ∷ rest) ≡ pick y.mark 1 0 + lost_in rest
  unfolding lost_in
  lost_more = rw up_more

-- limits, with one more step
heard_sum : (a q limit h h' k : ℕ) → k ≤ h' + q * limit → suc h' ≤ h + a * limit → suc k ≤ h + (a + q) * limit
heard_sum a q limit h h' k most step = rw (add-mul a q limit) (omega arith)

length_sum : (a q limit h h' k : ℕ) → k < h' + q * limit → suc h' ≤ h + a * limit → suc k < h + (a + q) * limit
length_sum a q limit h h' k most step = rw (add-mul a q limit) (omega arith)

time_sum :
    (a q span last last' x d c g : ℕ) → x + d + g < last' + q * span + d → last' ≤ last + a * span →
    x + (c + g) < last + (a + q) * span + c
time_sum a q span last last' x d c g before step = rw (add-mul a q span) (omega arith)

no_end : (e : End) → None ≡ Some e → ⊥
no_end e c = let z : ◌≡◌ {A = ℕ} 0 1 = cc in omega arith

some_end : {e : End} → Some e ≡ None → ⊥
some_end c = let z : ◌≡◌ {A = ℕ} 0 1 = cc in omega arith

module _ (Right : Rule) (limit span : ℕ) where
  -- the hearing without a step
  pub followed_none :
      (last : ℕ) (s : Listener) (x h : ℕ) (e : End) (z : ℕ) (got : List Line) → 1 ≤ h → x < last →
      Followed Right limit span last s x h e z got []
  unfolding heard_in refused_before_end lost_in up_to_end
  followed_none last s x h e z got more inside =
      record {
        heard_most_lem = omega arith;
        unrefused = refl;
        not_ended = λ c. omega arith;
        ends = λ held right e' c. absurd (no_end e' c);
        heard_own = λ c. sym (not_stopped (s.heard + 0) (omega arith) ∙ omega arith);
        elapsed_own = λ c. sym (not_stopped (s.elapsed + 0) (omega arith) ∙ omega arith);
        in_time = omega arith;
        after_end = refl;
        unchanged = refl;
      }

  -- the hearing whose first step, y, is its end
  pub followed_last :
      (last : ℕ) (s : Listener) (x : ℕ) (e : End) (got : List Line) (y : Taken) (rest : List Marked) →
      until_end (y ∷ steps rest) ≡ y ∷ [] → end_of (y ∷ steps rest) ≡ Some e → is_refused y.outcome.answer ≡ false →
      doze_of y.outcome.answer ≡ 0 → Stays y.outcome.listener (steps rest) →
      y.outcome.listener ≡ ended s (heard_with s) (elapsed_with s) → named y.bytes y.outcome ≡ got → x < last →
      Followed Right limit span last s x 1 e x got (record { mark = false; taken = y } ∷ rest)
  unfolding heard_in refused_before_end lost_in up_to_end ended heard_with elapsed_with
  followed_last last s x e got y rest until end fine none_dozed stay is lines inside =
      let one : heard_in (y ∷ steps rest) ≡ 1 = rw until in
      let after : listener_after s (y ∷ steps rest) ≡ y.outcome.listener = stay.keeps in
      let gone : gone_by s.doze (y ∷ steps rest) ≡ s.doze + 0 = rw (stay.no_dozes y none_dozed) in
      record {
        heard_most_lem = omega arith;
        unrefused = rw (until, fine);
        not_ended = λ c. absurd (some_end (sym end ∙ c));
        ends = λ held right e' c.
            record {
              place = x;
              there = rw gone (omega arith);
              right =
                  rw (one, lines) (subst (λ w. Right x w (held ++ got)) (same_end (sym end ∙ c)) right);
            };
        heard_own = λ c. rw one (ap (λ z. z.heard) (after ∙ is));
        elapsed_own = λ c. rw gone (ap (λ z. z.elapsed) (after ∙ is) ∙ ap stopped (omega arith));
        in_time = rw gone (omega arith);
        after_end = rw one stay.refused;
        unchanged = rw until after;
      }
    where
      same_end : {e₁ e₂ : End} → Some e₁ ≡ Some e₂ → e₁ ≡ e₂
      same_end c = cc

  -- the hearing whose first step, y, dozes by d, of a bucket or a lost one
  pub followed_doze :
      {mark : Bool} {last last' h h' : ℕ} {e e' : End} {z z' : ℕ} {got got' : List Line}
      (s : Listener) (x d : ℕ) (y : Taken) (rest : List Marked) → Dozed s d y →
      suc h' ≤ h + pick mark 1 0 * limit → last' ≤ last + pick mark 1 0 * span →
      ((held : List Line) → Right z e (held ++ got) → Right z' e' (pick mark [] (held ++ named y.bytes y.outcome) ++ got')) →
      Followed Right limit span last' y.outcome.listener (x + d) h' e' z' got' rest →
      Followed Right limit span last s x h e z got (record { mark = mark; taken = y } ∷ rest)
  followed_doze {mark} {last} {last'} {h} {h'} s x d y rest dozed steps_fit places_fit right w =
      let m : Marked = record { mark = mark; taken = y } in
      let a : ℕ = pick mark 1 0 in
      let l : Listener = y.outcome.listener in
      let log : List Taken = steps rest in
      let is = dozed.answers in
      let more : heard_in (y ∷ log) ≡ suc (heard_in log) = heard_more y log is in
      let lost : lost_in (m ∷ rest) ≡ a + lost_in rest = lost_more m rest is in
      let end : end_of (y ∷ log) ≡ end_of log = end_more y log is in
      let gone : gone_by s.doze (y ∷ log) ≡ s.doze + gone_by l.doze log =
      ap (λ g. s.doze + g) (gone_after y log l.doze (ap doze_of is ∙ sym dozed.doze_is)) in
      record {
        heard_most_lem = rw (more, lost) (heard_sum a (lost_in rest) limit h h' (heard_in log) w.heard_most_lem steps_fit);
        unrefused = fine_more y log is ∙ w.unrefused;
        not_ended = λ c.
            rw lost (length_sum a (lost_in rest) limit h h' (length rest) (w.not_ended (sym end ∙ c)) steps_fit);
        ends = λ held good e'' c.
            (let b = w.ends (pick mark [] (held ++ named y.bytes y.outcome)) (right held good) e'' (sym end ∙ c) in
            record {
              place = b.place;
              there = rw gone (omega (arith, b.there, dozed.doze_is));
              right = rw (up_more m rest is) b.right;
            });
        heard_own = λ c.
            w.heard_own (rw dozed.heard_is (heard_counted s)) ∙
            (ap (λ z. stopped (z + heard_in log)) dozed.heard_is ∙ rw more (heard_on s (heard_in log)));
        elapsed_own = λ c.
            w.elapsed_own (rw dozed.elapsed_is (elapsed_counted s)) ∙
            (ap (λ z. stopped (z + gone_by l.doze log)) dozed.elapsed_is ∙ rw gone (elapsed_on s (gone_by l.doze log)));
        in_time =
            rw (gone, lost)
            (time_sum a (lost_in rest) span last last' x d s.doze (gone_by l.doze log)
            (subst (λ z. x + d + gone_by l.doze log < last' + lost_in rest * span + z) dozed.doze_is w.in_time) places_fit);
        after_end = rw more w.after_end;
        unchanged = rw (until_more y log is) w.unchanged;
      }
