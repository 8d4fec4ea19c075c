-- Document 01, "The listener", third paragraph, with document 02, C-12: the list of steps of demand 3, its counts, its end and
-- its lines.
-- Assumes nothing.
use Rattle.std.specs.Prelude.{ℕ, zero, suc, ◌+◌, ◌%◌, Bool, true, false, List, [], ◌∷◌, ◌++◌, eqb, length}
use Rattle.std.specs.Prelude.{Option, None, Some}
use Rattle.columns.specs.Lists.{pick, any, parts, up}
use Rattle.buckets.specs.declared.Line.{Line}
use Rattle.cycle.specs.Cycle.{bucket_at}
use Rattle.listener.specs.Listener.{start, step, named}
use Rattle.listener.specs.declared.Listener.{Listener}
use Rattle.listener.specs.declared.Answer.{Answer}
use Rattle.listener.specs.declared.Answer.TheVariants.{Doze, Found, Absent, Refused}
use Rattle.listener.specs.declared.Stepped.{Stepped}

-- one step of a hearing: the bytes it was given, and what it handed back
pub record Taken : Type 0 where
  pub bytes : List ℕ
  pub outcome : Stepped

-- Places on air are counted from the start of tune-in's cycle on, through all cycles that follow it: `sent` gives the bucket at
-- each. Where the next step's bytes come from: a place on air, or anywhere once an answer was no doze.
pub data Supply : Type 0 where
  at : ℕ → Supply
  anywhere : Supply

-- "any bytes at all" are those that strays gives, of which nothing is known
abbrev pub given : (ℕ → List ℕ) → (ℕ → List ℕ) → ℕ → Supply → List ℕ
given sent strays m (at x) = sent x
given sent strays m anywhere = strays m

-- "After doze by d its bucket is the one d places on"
abbrev pub onward : Supply → Answer → Supply
onward (at x) (Doze d) = at (x + d)
onward (at x) Found = anywhere
onward (at x) Absent = anywhere
onward (at x) (Refused number) = anywhere
onward anywhere a = anywhere

-- m steps from a listener and a source on: "each later one the listener that the step before it returned"
abbrev pub steps_from : (ℕ → List ℕ) → (ℕ → List ℕ) → Listener → Supply → ℕ → List Taken
steps_from sent strays s w zero = []
steps_from sent strays s w (suc m) =
    let bytes : List ℕ = given sent strays m w in
    let r : Stepped = step s bytes in
    record { bytes = bytes; outcome = r } ∷ steps_from sent strays r.listener (onward w r.answer) m

-- "Its first step is given a listener just started with the tag, and bucket t of the cycle": a hearing of m steps
unfoldable pub hearing : (ℕ → List ℕ) → (ℕ → List ℕ) → ℕ → ℕ → ℕ → List Taken
hearing sent strays tag t m = steps_from sent strays (start tag) (at t) m

-- a cycle of n buckets repeated unchanged: places are "counted round by N"
unfoldable pub repeated : List ℕ → ℕ → ℕ → List ℕ
repeated image n x = bucket_at image (x % n)

-- ---- what a hearing shows

-- "The end is the first found or absent."
pub data End : Type 0 where
  found : End
  absent : End

abbrev pub end_by : Answer → Option End → Option End
end_by (Doze d) later = later
end_by Found later = Some found
end_by Absent later = Some absent
end_by (Refused number) later = later

abbrev pub end_of : List Taken → Option End
end_of [] = None
end_of (x ∷ xs) = end_by x.outcome.answer (end_of xs)

-- the steps up to the end, that one in
abbrev pub up_to : Answer → Taken → List Taken → List Taken
up_to (Doze d) x later = x ∷ later
up_to Found x later = x ∷ []
up_to Absent x later = x ∷ []
up_to (Refused number) x later = x ∷ later

abbrev pub until_end : List Taken → List Taken
until_end [] = []
until_end (x ∷ xs) = up_to x.outcome.answer x (until_end xs)

-- "Heard is the number of steps, those after the end left out"
unfoldable pub heard_in : List Taken → ℕ
heard_in xs = length (until_end xs)

abbrev pub doze_of : Answer → ℕ
doze_of (Doze d) = d
doze_of Found = 0
doze_of Absent = 0
doze_of (Refused number) = 0

-- "1 plus each doze that another step followed"
abbrev pub dozes_followed : Taken → List Taken → ℕ
dozes_followed x [] = 0
dozes_followed x (y ∷ ys) = doze_of x.outcome.answer + dozes_followed y ys

-- "elapsed is 0 without a step, else 1 plus .."
abbrev pub elapsed_in : List Taken → ℕ
elapsed_in [] = 0
elapsed_in (x ∷ xs) = 1 + dozes_followed x xs

abbrev pub is_refused : Answer → Bool
is_refused (Doze d) = false
is_refused Found = false
is_refused Absent = false
is_refused (Refused number) = true

-- "no step was refused before its end"
unfoldable pub refused_before_end : List Taken → Bool
refused_before_end xs = any (λ x. is_refused x.outcome.answer) (until_end xs)

-- "The lines got are, step after step, those of the step's bucket that its answer names"
abbrev pub lines_got : List Taken → List Line
lines_got [] = []
lines_got (x ∷ xs) = named x.bytes x.outcome ++ lines_got xs

-- the listener that the last step handed back
abbrev pub listener_after : Listener → List Taken → Listener
listener_after s [] = s
listener_after s (x ∷ xs) = listener_after x.outcome.listener xs

-- ---- C

abbrev pub count_if {ℓ} : {A : Type ℓ} → (A → Bool) → List A → ℕ
count_if f [] = 0
count_if f (x ∷ xs) = pick (f x) 1 0 + count_if f xs

-- "cut it from the front into runs of p lines; C is how many of them hold a line of the tag"
unfoldable pub runs_with : ℕ → ℕ → List Line → ℕ
runs_with p tag ls = count_if (any (λ l. eqb l.tag tag)) (parts (up (length ls) p) p ls)
