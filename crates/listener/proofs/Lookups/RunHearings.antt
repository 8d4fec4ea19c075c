-- A lookup's run over an image is a hearing of the cycle repeated: where the hearing comes to its end, so does the run.
-- Assumes nothing.
use mathlib.Core.Path.{◌≡◌, refl, ◌∙◌, ap, subst}
use Prim.Native.Nat.{ℕ, zero, suc, ◌+◌, ◌%◌}
use native.Mathlib.Nat.{suc-add, mod-add-mod}
use native.Mathlib.Omega.{arith}
use mathlib.Core.Bool.{true, false, true≢false}
use Rattle.std.specs.Prelude.{None, Some}
use mathlib.Core.List.{List, ◌∷◌, ◌++◌, append_assoc, append-nil}
use Rattle.buckets.specs.declared.Line.{Line}
use Rattle.cycle.specs.Cycle.{bucket_at}
use Rattle.listener.specs.Listener.{step, named}
use Rattle.listener.specs.Hearing.{Taken, at, anywhere, onward, steps_from, repeated, End, found, absent, end_of, refused_before_end, lines_got, listener_after}
use Rattle.listener.specs.Lookup
use Rattle.listener.specs.Lookup.{Finish, run, after_answer}
use Rattle.listener.specs.declared.Listener.{Listener}
use Rattle.listener.specs.declared.Phase.TheVariants.{Ended}
use Rattle.listener.specs.declared.Answer.{Answer}
use Rattle.listener.specs.declared.Answer.TheVariants.{Doze, Found, Absent, Refused}
use Rattle.listener.specs.declared.Stepped.{Stepped}
use Rattle.listener.proofs.Steps.EndedSteps.{is_end, over_step}
use Rattle.listener.proofs.Walks.WalkedSteps.{Stays}
use Rattle.listener.proofs.Walks.Unmarked.{stays_unmarked}

-- how a run ends with the hearing
abbrev pub finish : End → Listener → List Line → Finish
finish found s got = Lookup.found s got
finish absent s got = Lookup.absent s

-- ---- the run

module _ (image : List ℕ) (n : ℕ) (strays : ℕ → List ℕ) where
  -- the hearing of m steps from listener s and place x on
  abbrev heard : Listener → ℕ → ℕ → List Taken
  heard s x m = steps_from (repeated image n) strays s (at x) m

  -- a run of as many steps and more ends with it
  abbrev Runs : ℕ → ℕ → Type 0
  Runs m more =
      (s : Listener) (x : ℕ) (e : End) (before : List Line) → end_of (heard s x m) ≡ Some e → refused_before_end (heard s x m) ≡ false →
      run image n (m + more) (x % n) s before ≡ finish e (listener_after s (heard s x m)) (before ++ lines_got (heard s x m))

  same_end : {e e' : End} → Some e ≡ Some e' → e ≡ e'
  same_end c = cc

  -- the step at hand, by what it hands back
  module _ (m more x : ℕ) (before : List Line) (l : Listener) (first count : ℕ) where
    abbrev taken : Answer → Taken
    taken a = record { bytes = repeated image n x; outcome = record { listener = l; answer = a; first = first; count = count } }

    abbrev rest : Answer → List Taken
    rest a = steps_from (repeated image n) strays l (onward (at x) a) m

    abbrev lines : Answer → List Line
    lines a = named (repeated image n x) (taken a).outcome

    ends_here :
        (a : Answer) → onward (at x) a ≡ anywhere → l.phase ≡ Ended → (e : End) →
        finish e l (before ++ lines a) ≡ finish e (listener_after l (rest a)) (before ++ (lines a ++ lines_got (rest a)))
    ends_here a away over e =
        let s : Stays l (rest a) = rw away (stays_unmarked (repeated image n) strays l over m) in
        rw (s.keeps, s.no_lines, append-nil)

    goes_on :
        (a : Answer) → (is_end a ≡ true → l.phase ≡ Ended) → Runs m more → (e : End) → end_of (taken a ∷ rest a) ≡ Some e →
        refused_before_end (taken a ∷ rest a) ≡ false →
        after_answer (run image n (m + more)) n (x % n) (before ++ lines a) l a ≡
        finish e (listener_after l (rest a)) (before ++ (lines a ++ lines_got (rest a)))
    unfolding refused_before_end
    goes_on (Doze d) over more_runs e end fine =
        ap (λ y. run image n (m + more) y l (before ++ lines (Doze d))) (mod-add-mod x n d) ∙
        (more_runs l (x + d) e (before ++ lines (Doze d)) end fine ∙
        ap (finish e (listener_after l (rest (Doze d)))) (append_assoc before (lines (Doze d)) (lines_got (rest (Doze d)))))
    goes_on Found over more_runs e end fine =
        let is : found ≡ e = same_end end in
        subst (λ z. Lookup.found l (before ++ lines Found) ≡ finish z (listener_after l (rest Found)) (before ++ (lines Found ++ lines_got (rest Found)))) is
        (ends_here Found refl (over refl) found)
    goes_on Absent over more_runs e end fine =
        let is : absent ≡ e = same_end end in
        subst (λ z. Lookup.absent l ≡ finish z (listener_after l (rest Absent)) (before ++ (lines Absent ++ lines_got (rest Absent)))) is
        (ends_here Absent refl (over refl) absent)
    goes_on (Refused number) over more_runs e end fine = absurd (true≢false fine)

  pub runs_hearing : (m more : ℕ) → Runs m more
  unfolding repeated
  runs_hearing zero more s x e before end fine = absurd (no_end e end)
    where
      no_end : (e : End) → None ≡ Some e → ⊥
      no_end e c = let z : ◌≡◌ {A = ℕ} 0 1 = cc in omega arith
  runs_hearing (suc m) more s x e before end fine =
      let r : Stepped = step s (bucket_at image (x % n)) in
      ap (λ budget. run image n budget (x % n) s before) (suc-add m more) ∙
      goes_on m more x before r.listener r.first r.count r.answer (over_step s (bucket_at image (x % n)))
      (runs_hearing m more) e end fine
