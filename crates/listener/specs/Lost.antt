-- Document 02, C-16: hearings in which any buckets may be lost, over what is on air, and what demand 3 says of them.
-- Assumes nothing.
use Rattle.std.specs.Prelude.{◌≡◌, ℕ, ◌+◌, ◌-◌, ◌*◌, ◌≤◌, ◌<◌, Bool, true, false, List, [], ◌∷◌, ◌++◌, map, length, take, drop, replicate}
use Rattle.std.specs.Prelude.{Some}
use Rattle.columns.specs.Lists.{pick, every}
use Rattle.buckets.specs.declared.Line.{Line}
use Rattle.listener.specs.Listener.{start, step, lost, stopped, named}
use Rattle.listener.specs.Hearing.{Taken, Supply, at, given, onward, hearing, End, end_of, until_end, heard_in, elapsed_in, refused_before_end, lines_got, listener_after, count_if}
use Rattle.listener.specs.Demand3.{heard_limit, lines_wanted, end_wanted, refused_by14}
use Rattle.listener.specs.OnAir.{Sending, Accepted, Air, place_at, on_air}
use Rattle.listener.specs.declared.Listener.{Listener}

-- ---- a hearing with lost buckets

-- one step: whether the radio marked its bucket as lost, and the step as in a hearing
pub record Marked : Type 0 where
  pub mark : Bool
  pub taken : Taken

-- "A bucket that the radio marks as lost may be handed in as lost, without bytes"
abbrev pub taken_by : Bool → Listener → List ℕ → Taken
taken_by true s bytes = record { bytes = []; outcome = lost s }
taken_by false s bytes = record { bytes = bytes; outcome = step s bytes }

-- the steps from a listener and a source on, one for each mark; behind a lost bucket, whose answer is doze by 1, "the next bucket"
-- is given
abbrev pub marked_from : (ℕ → List ℕ) → (ℕ → List ℕ) → Listener → Supply → List Bool → List Marked
marked_from sent strays s w [] = []
marked_from sent strays s w (mark ∷ marks) =
    let x : Taken = taken_by mark s (given sent strays (length marks) w) in
    record { mark = mark; taken = x } ∷
    marked_from sent strays x.outcome.listener (onward w x.outcome.answer) marks

-- the hearing of a tag from tune-in t on, of as many steps as there are marks
unfoldable pub marked_hearing : (ℕ → List ℕ) → (ℕ → List ℕ) → ℕ → ℕ → List Bool → List Marked
marked_hearing sent strays tag t marks = marked_from sent strays (start tag) (at t) marks

-- ---- what it shows

-- Its steps. By them its end, heard and elapsed are those of a hearing: "A lost bucket counts as heard", and "both counts running
-- on from the first".
abbrev pub steps : List Marked → List Taken
steps log = map (λ x. x.taken) log

-- those up to the end, that one in; a bucket handed in as lost later is refused by 14
unfoldable pub up_to_end : List Marked → List Marked
up_to_end log = take (heard_in (steps log)) log

-- q of "With q buckets lost in all"
unfoldable pub lost_in : List Marked → ℕ
lost_in log = count_if (λ x. x.mark) (up_to_end log)

-- "and lines handed over earlier in the lookup are void"
abbrev pub lines_held : List Line → List Marked → List Line
lines_held held [] = held
lines_held held (x ∷ xs) = lines_held (pick x.mark [] (held ++ named x.taken.bytes x.taken.outcome)) xs

-- the lines got: those named since the last lost bucket
unfoldable pub lines_since : List Marked → List Line
lines_since log = lines_held [] (up_to_end log)

-- What holds of the hearing of a tag, log, whatever lists are on air.
pub record WellHeard (tag : ℕ) (log : List Marked) : Type 0 where
  -- no step was refused before its end
  pub unrefused : refused_before_end (steps log) ≡ false
  -- both counts are the listener's own; "A count that would pass 4,294,967,295 stops there."
  pub heard_own : (listener_after (start tag) (steps log)).heard ≡ stopped (heard_in (steps log))
  pub elapsed_own : (listener_after (start tag) (steps log)).elapsed ≡ stopped (elapsed_in (steps log))
  -- after the end each step, of a bucket or a lost one, is refused by 14 and changes nothing in the listener
  pub after_end : every (λ x. refused_by14 x.outcome.answer) (drop (heard_in (steps log)) (steps log)) ≡ true
  pub unchanged : listener_after (start tag) (steps log) ≡ listener_after (start tag) (until_end (steps log))

-- ---- an unchanged list

-- the same list and settings in every cycle
abbrev pub always : Sending → Air
always c = λ x. c

-- "2 + k + max(1, C)" for a tag
abbrev pub limit_of : Sending → ℕ → ℕ
limit_of c tag = heard_limit c.settings c.list tag

-- What demand 3 says of the hearing of m steps, log, in which buckets may be lost.
pub record Demand3Lost (c : Sending) (tag tune m : ℕ) (log : List Marked) : Type 0 where
  -- "hears at most (q + 1) × (2 + k + max(1, C)) buckets"
  pub heard_limit_lem : heard_in (steps log) ≤ (lost_in log + 1) * limit_of c tag
  -- "and ends within (q + 1) × 2N", less the buckets of tune-in's cycle before tune-in, as in demand 3
  pub elapsed_limit : tune + elapsed_in (steps log) ≤ (lost_in log + 1) * (2 * c.n)
  -- by step (q + 1) × (2 + k + max(1, C)) the end has come
  pub end_come : (lost_in log + 1) * limit_of c tag ≤ m → end_of (steps log) ≡ Some (end_wanted (lines_wanted c.list tag))
  -- whenever it has come, "it still gets its exact lines or a true absence"
  pub end_right : (x : End) → end_of (steps log) ≡ Some x → x ≡ end_wanted (lines_wanted c.list tag)
  pub lines_right : (x : End) → end_of (steps log) ≡ Some x → lines_since log ≡ lines_wanted c.list tag
  pub well : WellHeard tag log

-- For any list and settings the builder accepts, any tag, any tune-in, any number of steps and any marks: strays are the bytes
-- given after the end, of which nothing is known.
abbrev pub EveryMarkedHearing : Type 0
EveryMarkedHearing =
    (c : Sending) → Accepted c → (tag tune : ℕ) → tune < c.n → (marks : List Bool) (strays : ℕ → List ℕ) →
    Demand3Lost c tag tune (length marks) (marked_hearing (on_air (always c)) strays tag tune marks)

-- ---- a list that changes between cycles

-- the cycle in which the bucket taken last lies, elapsed counting tune-in and that one
unfoldable pub end_cycle : Air → ℕ → List Marked → ℕ
end_cycle air tune log = (place_at air (tune + elapsed_in (steps log) - 1)).cycle

-- What remains true of it: "A display's lines, or its absence, are those of the list in whose cycle it ends."
pub record LostOnAir (air : Air) (tag tune : ℕ) (log : List Marked) : Type 0 where
  pub end_right : (x : End) → end_of (steps log) ≡ Some x → x ≡ end_wanted (lines_wanted (air (end_cycle air tune log)).list tag)
  pub lines_right : (x : End) → end_of (steps log) ≡ Some x → lines_since log ≡ lines_wanted (air (end_cycle air tune log)).list tag
  pub well : WellHeard tag log

abbrev pub EveryMarkedAir : Type 0
EveryMarkedAir =
    (air : Air) → ((c : ℕ) → Accepted (air c)) → (tag tune : ℕ) → tune < (air 0).n →
    (marks : List Bool) (strays : ℕ → List ℕ) → LostOnAir air tag tune (marked_hearing (on_air air) strays tag tune marks)

-- ---- no bucket lost

-- marks of m steps, none lost
abbrev pub unmarked : ℕ → List Bool
unmarked m = replicate m false

-- The hearing is then that of demand 3, whatever is sent: its steps, the number lost, and the lines got.
pub record NoneLost (log : List Taken) (marked : List Marked) : Type 0 where
  pub same_steps : steps marked ≡ log
  pub none : lost_in marked ≡ 0
  pub same_lines : lines_since marked ≡ lines_got log

abbrev pub NoLoss : Type 0
NoLoss =
    (sent strays : ℕ → List ℕ) (tag t m : ℕ) →
    NoneLost (hearing sent strays tag t m) (marked_hearing sent strays tag t (unmarked m))
