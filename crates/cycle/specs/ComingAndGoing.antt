-- Document 02, C-14, "Skips come and go": what holds of a list whose lines arrive and are taken out, for every list, line, settings
-- and lent buffers.
-- Assumes nothing.
use Rattle.std.specs.Prelude.{◌≡◌, ℕ, suc, ◌*◌, true, false, List, [], ◌∷◌, ◌++◌, leb, ltb, eqb, drop}
use Rattle.std.specs.Prelude.{None, Ok, Err}
use Rattle.columns.specs.Lists.{every, any, onto}
use Rattle.columns.specs.PrintedNumbers.{blanks}
use Rattle.buckets.specs.declared.Line.{Line}
use Rattle.buckets.specs.Lengths.{line_length}
use Rattle.buckets.specs.ListLine.{spelled, cut_lines, list_lines}
use Rattle.cycle.specs.Refusals.{refusal, first_refusal}
use Rattle.cycle.specs.Building as building
use Rattle.cycle.specs.Building.{build}
use Rattle.cycle.specs.Judging.{judge}
use Rattle.cycle.specs.Changes.{same_numbers, equals, list_in, given_conditions, Change, arrival, departure, conditions, Outcome, change, arrive, take_out}
use Rattle.cycle.specs.declared.Figures.{Figures}
use Rattle.cycle.specs.declared.Counts.{Counts}
use Rattle.cycle.specs.declared.Settings.{Settings}
use Rattle.cycle.specs.declared.Reason.TheVariants.{NoPlace}

-- ---- "D, k, N and the image .. equal what building the changed list afresh gives"

-- judging the list for building gives these counts
pub record JudgedAs (s : Settings) (list : List ℕ) (room : ℕ) (x : Counts) : Type 0 where
  pub figures : Figures
  pub judged : judge s list room ≡ Ok figures
  pub lines_are : figures.lines ≡ x.lines
  pub d_is : figures.d ≡ x.d
  pub k_is : figures.k ≡ x.k
  pub n_is : figures.size ≡ x.n

-- a change with these counts
pub record Kept (s : Settings) (buffer : List ℕ) (c : Change) (room : ℕ) (o : Outcome) (x : Counts) : Type 0 where
  -- N, D and k are those of building the changed list
  pub built : (build s c.list room).answer ≡ Ok x.n
  pub judged_as : JudgedAs s c.list room x
  -- and so is the image
  pub image : o.cycle ≡ (build s c.list room).output
  -- the changed list lies in its buffer, with its number of lines
  pub lies : list_in (onto o.list buffer) x.lines ≡ c.list

pub record UpToDate (s : Settings) (buffer : List ℕ) (lines : ℕ) (given : List ℕ) (c : Change) (room : ℕ) : Type 0 where
  -- where 1 to 4, 15 and 16 do not hold, the call is refused exactly as building the changed list is
  pub as_built :
      first_refusal (given_conditions s buffer lines given ++ c.own ∷ []) ≡ None →
      first_refusal (conditions s buffer lines given c room) ≡ first_refusal (building.conditions s c.list room)
  -- and where it is not refused, all is kept up to date
  pub kept :
      (x : Counts) → (change s buffer lines given c room).answer ≡ Ok x →
      Kept s buffer c room (change s buffer lines given c room) x

-- ---- where a line goes, and which one

-- the given line stands behind all lines of its tag, and in front of those with a greater one; the others are as they were
pub record PutBehind (given : List ℕ) (before after : List (List ℕ)) : Type 0 where
  pub front : List (List ℕ)
  pub rest : List (List ℕ)
  pub was : before ≡ front ++ rest
  pub is : after ≡ front ++ (given ∷ rest)
  pub tag_at_most : every (λ s. leb (spelled s).tag (spelled given).tag) front ≡ true
  pub tag_greater : every (λ s. ltb (spelled given).tag (spelled s).tag) rest ≡ true

-- the first line with the given line's numbers is gone, and the others are as they were
pub record FirstGone (given : List ℕ) (before after : List (List ℕ)) : Type 0 where
  pub front : List (List ℕ)
  pub line : List ℕ
  pub rest : List (List ℕ)
  pub was : before ≡ front ++ (line ∷ rest)
  pub is : after ≡ front ++ rest
  pub numbers_equal : spelled line ≡ spelled given
  pub first : any (equals given) front ≡ false

-- ---- two changes, one after the other

-- line l has moved from the first place where it stood to behind all lines of its tag
pub record MovedBehind (l : Line) (before after : List Line) : Type 0 where
  pub front : List Line
  pub same_tag : List Line
  pub greater : List Line
  pub was : before ≡ front ++ (l ∷ (same_tag ++ greater))
  pub is : after ≡ front ++ (same_tag ++ (l ∷ greater))
  pub first : any (same_numbers l) front ≡ false
  pub tag_same : every (λ x. eqb x.tag l.tag) same_tag ≡ true
  pub tag_greater : every (λ x. ltb l.tag x.tag) greater ≡ true

pub record ComingAndGoing : Type 0 where
  -- after each call
  pub arrivals : (s : Settings) (buffer : List ℕ) (lines : ℕ) (given : List ℕ) (room : ℕ) → UpToDate s buffer lines given (arrival buffer lines given) room
  pub departures : (s : Settings) (buffer : List ℕ) (lines : ℕ) (given : List ℕ) (room : ℕ) → UpToDate s buffer lines given (departure buffer lines given) room
  -- "A new line goes, bytes as given, behind all lines of its tag"
  pub goes_behind :
      (s : Settings) (buffer : List ℕ) (lines : ℕ) (given : List ℕ) (room : ℕ) (x : Counts) →
      (arrive s buffer lines given room).answer ≡ Ok x →
      PutBehind given (cut_lines (list_in buffer lines)) (cut_lines (list_in (onto (arrive s buffer lines given room).list buffer) x.lines))
      × (x.lines ≡ suc lines)
  -- "a line taken out is the first whose four numbers equal those of the one given"
  pub first_goes :
      (s : Settings) (buffer : List ℕ) (lines : ℕ) (given : List ℕ) (room : ℕ) (x : Counts) →
      (take_out s buffer lines given room).answer ≡ Ok x →
      FirstGone given (cut_lines (list_in buffer lines)) (cut_lines (list_in (onto (take_out s buffer lines given room).list buffer) x.lines))
      × (suc x.lines ≡ lines)
  -- a line that arrives and is taken out, none equal to it having been there, leaves the former list's bytes with 27 blanks
  -- behind them
  pub come_and_go :
      (s t : Settings) (buffer : List ℕ) (lines : ℕ) (given : List ℕ) (room other : ℕ) (x y : Counts) →
      let there : List ℕ = onto (arrive s buffer lines given room).list buffer in
      (arrive s buffer lines given room).answer ≡ Ok x →
      (take_out t there x.lines given other).answer ≡ Ok y →
      any (equals given) (cut_lines (list_in buffer lines)) ≡ false →
      (onto (take_out t there x.lines given other).list there ≡ onto (list_in buffer lines ++ blanks line_length) buffer)
      × (y.lines ≡ lines)
  -- a line that is taken out and arrives has moved, by the four numbers of each line, behind all lines of its tag
  pub go_and_come :
      (s t : Settings) (buffer : List ℕ) (lines : ℕ) (given : List ℕ) (room other : ℕ) (x y : Counts) →
      let there : List ℕ = onto (take_out s buffer lines given room).list buffer in
      (take_out s buffer lines given room).answer ≡ Ok x →
      (arrive t there x.lines given other).answer ≡ Ok y →
      MovedBehind (spelled given) (list_lines (list_in buffer lines))
      (list_lines (list_in (onto (arrive t there x.lines given other).list there) y.lines))
      × (y.lines ≡ lines)
  -- "The place freed must serve the next arrival": none is refused by 16, and none needs a byte behind the former list
  pub freed_place_serves :
      (s t : Settings) (buffer : List ℕ) (lines : ℕ) (given next : List ℕ) (room other : ℕ) (x : Counts) →
      let there : List ℕ = onto (take_out s buffer lines given room).list buffer in
      (take_out s buffer lines given room).answer ≡ Ok x →
      ((place : ℕ) → (arrive t there x.lines next other).answer ≡ Err (refusal NoPlace place) → ⊥) ×
      (drop (line_length * lines) (onto (arrive t there x.lines next other).list there) ≡ drop (line_length * lines) buffer)
