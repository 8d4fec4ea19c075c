-- Document 02, C-14, "Skips come and go": a line arrives in a list or is taken out of it, the list lying in a lent buffer, and
-- the changed list's cycle is built in another.
-- Assumes nothing.
use Rattle.std.specs.Prelude.{◌≡◌, ℕ, suc, ◌*◌, Bool, ◌&&◌, ◌||◌, not, List, [], ◌∷◌, ◌++◌, leb, ltb, eqb, length, take}
use Rattle.std.specs.Prelude.{Option, None, Some, Result, Ok, Err}
use Rattle.columns.specs.Lists.{pick, joined, any, onto}
use Rattle.columns.specs.PrintedNumbers.{blanks}
use Rattle.buckets.specs.declared.Line.{Line}
use Rattle.buckets.specs.Lengths.{line_length, lines_most}
use Rattle.buckets.specs.ListLine.{spelled, taken, read_line, cut_lines, list_lines, few_lines}
use Rattle.cycle.specs.Refusals.{Condition, row, row_at, first_refusal, numbers_of}
use Rattle.cycle.specs.Tree.{Plan, plan}
use Rattle.cycle.specs.Cycle.{cycle_size}
use Rattle.cycle.specs.Building.{settings_out, line_misprinted, tag_falls, build}
use Rattle.cycle.specs.Judging.{plan_conditions}
use Rattle.cycle.specs.declared.Counts.{Counts}
use Rattle.cycle.specs.declared.Settings.{Settings}
use Rattle.cycle.specs.declared.Reason.TheVariants.{LengthOut, LineMisprinted, NotInList, NoPlace}
use Rattle.cycle.specs.declared.Refusal.{Refusal}

-- ---- a list's lines, changed

-- "A new line goes, bytes as given, behind all lines of its tag": in front of the first line with a greater tag, at the end if
-- there is none
abbrev pub arrived : List ℕ → List (List ℕ) → List (List ℕ)
arrived given [] = given ∷ []
arrived given (s ∷ ss) = pick (ltb (spelled given).tag (spelled s).tag) (given ∷ (s ∷ ss)) (s ∷ arrived given ss)

-- the four numbers of one line equal those of the other
unfoldable pub same_numbers : Line → Line → Bool
same_numbers a b =
    eqb a.tag b.tag && (eqb a.tare b.tare && (eqb a.code b.code && eqb a.weighing b.weighing))

-- a line's four numbers equal those of the given one
unfoldable pub equals : List ℕ → List ℕ → Bool
equals given s = same_numbers (spelled given) (spelled s)

-- "a line taken out is the first whose four numbers equal those of the one given"
abbrev pub taken_out : List ℕ → List (List ℕ) → List (List ℕ)
taken_out given [] = []
taken_out given (s ∷ ss) = pick (equals given s) ss (s ∷ taken_out given ss)

-- ---- the list's buffer

-- "The list lies in a lent buffer, given with its number of lines": at the buffer's front
unfoldable pub list_in : List ℕ → ℕ → List ℕ
list_in buffer lines = take (line_length * lines) buffer

-- the buffer has place for so many lines
unfoldable pub places_for : List ℕ → ℕ → Bool
places_for buffer lines = leb (line_length * lines) (length buffer)

-- ---- the conditions

-- 2: "over 40,000 lines"; "a number that the buffer cannot hold is 2"
abbrev pub number_out : List ℕ → ℕ → Condition
number_out buffer lines = row LengthOut (not (few_lines lines && places_for buffer lines))

-- "and so is a given line not 27 bytes long"
abbrev pub given_length_out : List ℕ → Condition
given_length_out given = row LengthOut (not (eqb (length given) line_length))

-- "A misprint in the given line is 3 with the number of lines in the list as its place, after the list's own lines."
abbrev pub given_misprinted : ℕ → List ℕ → Condition
given_misprinted lines given = row_at LineMisprinted (pick (taken (read_line given)) None (Some lines))

-- 15: "the line to take out is not in the list"
unfoldable pub not_in_list : List ℕ → List ℕ → Condition
not_in_list given list = row NotInList (not (any (equals given) (cut_lines list)))

-- 16: "the list has 40,000 lines or its buffer no place for one more"
unfoldable pub no_place : List ℕ → ℕ → Condition
no_place buffer lines = row NoPlace (eqb lines lines_most || not (places_for buffer (suc lines)))

-- 3 and 4, of a list of so many lines and a given line
unfoldable pub line_conditions : List ℕ → ℕ → List ℕ → List Condition
line_conditions list lines given = line_misprinted list ∷ given_misprinted lines given ∷ tag_falls list ∷ []

-- "List, given line and cycle are refused as in building": 1 to 4, of settings, list and given line
unfoldable pub given_conditions : Settings → List ℕ → ℕ → List ℕ → List Condition
given_conditions s buffer lines given =
    settings_out s ∷ number_out buffer lines ∷ given_length_out given ∷ line_conditions (list_in buffer lines) lines given

-- ---- the two changes

-- what one of them comes to: its own condition, the changed list, and what the list's buffer has behind it
pub record Change : Type 0 where
  pub own : Condition
  pub list : List ℕ
  pub behind : List ℕ

-- a line arrives
unfoldable pub arrival : List ℕ → ℕ → List ℕ → Change
arrival buffer lines given =
    record {
      own = no_place buffer lines;
      list = joined (λ s. s) (arrived given (cut_lines (list_in buffer lines)));
      behind = [];
    }

-- a line is taken out: "On taking out, the last line's 27 bytes become blank."
unfoldable pub departure : List ℕ → ℕ → List ℕ → Change
departure buffer lines given =
    record {
      own = not_in_list given (list_in buffer lines);
      list = joined (λ s. s) (taken_out given (cut_lines (list_in buffer lines)));
      behind = blanks line_length;
    }

-- "Both after 4, before 5", and "5 to 7 are judged on the changed list"
unfoldable pub conditions : Settings → List ℕ → ℕ → List ℕ → Change → ℕ → List Condition
conditions s buffer lines given c room =
    given_conditions s buffer lines given ++ (c.own ∷ plan_conditions (plan s (list_lines c.list)) room)

-- ---- the outcome

-- what a call answers, and the bytes that it writes at the front of the list's buffer and of the cycle's
pub record Outcome : Type 0 where
  pub answer : Result Counts Refusal
  pub list : List ℕ
  pub cycle : List ℕ

-- "D, k, N .. are kept up to date beside the list": the number of lines with them
unfoldable pub counts : Plan → Counts
counts t = record { lines = length t.lines; d = t.d; k = t.k; n = cycle_size t }

-- the numbers that an answer stands for: refusal number (0: none) and place, and the counts; a refusal has none
abbrev pub numbers : Result Counts Refusal → List ℕ
numbers = numbers_of (λ c. c.lines ∷ c.d ∷ c.k ∷ c.n ∷ [])

-- a refusal comes "before anything is changed"; else the image is what building the changed list gives
abbrev pub outcome : Option Refusal → Settings → Change → ℕ → Outcome
outcome (Some r) s c room = record { answer = Err r; list = []; cycle = [] }
outcome None s c room =
    record {
      answer = Ok (counts (plan s (list_lines c.list)));
      list = c.list ++ c.behind;
      cycle = (build s c.list room).output;
    }

-- An answer, and the list's buffer and the cycle's, each before the call and after it, meet an outcome: the answer is its
-- own, a buffer begins with its bytes, and behind them every byte stays. Of a refusal these are no bytes, so all stay.
abbrev pub Meets : Outcome → Result Counts Refusal → List ℕ → List ℕ → List ℕ → List ℕ → Type 0
Meets o r list list_after cycle cycle_after =
    (r ≡ o.answer) × (list_after ≡ onto o.list list) × (cycle_after ≡ onto o.cycle cycle)

-- a change of the list that lies in `buffer`, `lines` lines long, by the given line, its cycle's buffer having room for `room`
-- bytes
unfoldable pub change : Settings → List ℕ → ℕ → List ℕ → Change → ℕ → Outcome
change s buffer lines given c room = outcome (first_refusal (conditions s buffer lines given c room)) s c room

abbrev pub arrive : Settings → List ℕ → ℕ → List ℕ → ℕ → Outcome
arrive s buffer lines given room = change s buffer lines given (arrival buffer lines given) room

abbrev pub take_out : Settings → List ℕ → ℕ → List ℕ → ℕ → Outcome
take_out s buffer lines given room = change s buffer lines given (departure buffer lines given) room
