-- Demand 3 for a list that stays as it is: one statement on a whole hearing, and on the lookup beside it. It is the case of
-- `OnAir` where all cycles are the same.
-- Assumes nothing.
use Rattle.std.specs.Prelude.{◌≡◌, ℕ, ◌+◌, ◌*◌, ◌≤◌, ◌<◌, Bool, true, false, List, [], ◌∷◌, length, drop}
use Rattle.std.specs.Prelude.{Some}
use Rattle.columns.specs.Lists.{joined, every, same}
use Rattle.buckets.specs.Lengths.{line_length}
use Rattle.buckets.specs.declared.Line.{Line}
use Rattle.buckets.specs.ListLine.{print_line, list_lines}
use Rattle.cycle.specs.Tree.{plan}
use Rattle.cycle.specs.declared.Settings.{Settings}
use Rattle.cycle.specs.Size.{heard_most}
use Rattle.cycle.specs.Building
use Rattle.cycle.specs.Building.{build}
use Rattle.listener.specs.Listener
use Rattle.listener.specs.Listener.{start, matching}
use Rattle.listener.specs.Hearing.{Taken, hearing, repeated, End, found, absent, end_of, until_end, heard_in, elapsed_in, refused_before_end, lines_got, listener_after, runs_with}
use Rattle.listener.specs.Lookup
use Rattle.listener.specs.Lookup.{lookup}
use Rattle.listener.specs.declared.Answer.{Answer}

-- "2 + k + max(1, C)": "k is the index levels, C the data buckets with that tag"
unfoldable pub heard_limit : Settings → List ℕ → ℕ → ℕ
heard_limit s list tag = heard_most (plan s (list_lines list)).k (runs_with s.p tag (list_lines list))

-- "all the list's lines of that tag and no others, in list order"
unfoldable pub lines_wanted : List ℕ → ℕ → List Line
lines_wanted list tag = matching tag (list_lines list)

-- ""absent" exactly when the list has no line of the tag, else "found""
abbrev pub end_wanted : List Line → End
end_wanted [] = absent
end_wanted (l ∷ ls) = found

-- a step's answer that is the refusal by 14, place 0
abbrev pub refused_by14 : Answer → Bool
refused_by14 a = same (Listener.numbers a) (4 ∷ 14 ∷ 0 ∷ [])

-- a lookup's outcome: the numbers of its answer, and the bytes that it writes
pub record Looks (image : List ℕ) (tag tune space : ℕ) (answer output : List ℕ) : Type 0 where
  pub answers : Lookup.numbers (lookup image tag tune space).answer ≡ answer
  pub writes : (lookup image tag tune space).output ≡ output

-- What demand 3 says of the hearing of m steps, log, and of a lookup, over the cycle of n buckets that a list and settings
-- build: image is that cycle, and space is the room of the lookup's buffer.
pub record Demand3 (s : Settings) (list image : List ℕ) (n tag tune m : ℕ) (log : List Taken) : Type 0 where
  -- "it has heard no more than 2 + k + max(1, C) buckets, no more than 2N - t have gone by .., and no step was refused
  -- before its end"
  pub heard_limit_lem : heard_in log ≤ heard_limit s list tag
  pub elapsed_limit : tune + elapsed_in log ≤ 2 * n
  pub unrefused : refused_before_end log ≡ false
  -- "By step 2 + k + max(1, C) the end has come"
  pub end_come : heard_limit s list tag ≤ m → end_of log ≡ Some (end_wanted (lines_wanted list tag))
  -- whenever it has come, it is "absent" exactly when the list has no line of the tag, else "found", "and the lines it got
  -- are all the list's lines of that tag and no others, in list order"
  pub end_right : (e : End) → end_of log ≡ Some e → e ≡ end_wanted (lines_wanted list tag)
  pub lines_right : (e : End) → end_of log ≡ Some e → lines_got log ≡ lines_wanted list tag
  -- "Both counts are the listener's own and equal those of the steps."
  pub heard_own : (listener_after (start tag) log).heard ≡ heard_in log
  pub elapsed_own : (listener_after (start tag) log).elapsed ≡ elapsed_in log
  -- after the end "each such step is refused by 14 and changes nothing in the listener"
  pub after_end : every (λ x. refused_by14 x.outcome.answer) (drop (heard_in log) log) ≡ true
  pub unchanged : listener_after (start tag) log ≡ listener_after (start tag) (until_end log)
  -- "A lookup over that cycle gives the same end, lines and counts, or is refused by 7 exactly if its buffer is too short for
  -- the lines."
  pub lookup_found :
      (space : ℕ) → end_of log ≡ Some found → line_length * length (lines_got log) ≤ space →
      Looks image tag tune space (0 ∷ 0 ∷ 1 ∷ heard_in log ∷ elapsed_in log ∷ length (lines_got log) ∷ [])
      (joined print_line (lines_got log))
  pub lookup_short :
      (space : ℕ) → end_of log ≡ Some found → space < line_length * length (lines_got log) →
      Looks image tag tune space (7 ∷ 0 ∷ 0 ∷ 0 ∷ 0 ∷ 0 ∷ []) []
  pub lookup_absent :
      (space : ℕ) → end_of log ≡ Some absent →
      Looks image tag tune space (0 ∷ 0 ∷ 2 ∷ heard_in log ∷ elapsed_in log ∷ 0 ∷ []) []

-- "For any list and settings the builder accepts, any tag and any tune-in t from 0 to N - 1, the cycle repeated unchanged
-- and each bucket the display wakes for arriving intact: for every list of steps the display takes from a fresh start":
-- strays are the bytes given after the end, of which nothing is known
abbrev pub EveryHearing : Type 0
EveryHearing =
    (s : Settings) (list : List ℕ) (room n : ℕ) → Building.numbers (build s list room).answer ≡ 0 ∷ 0 ∷ n ∷ [] →
    (tag tune : ℕ) → tune < n →
    (m : ℕ) (strays : ℕ → List ℕ) →
    Demand3 s list (build s list room).output n tag tune m (hearing (repeated (build s list room).output n) strays tag tune m)
