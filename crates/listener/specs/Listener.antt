-- Document 01, "The listener", with document 02, C-12 and C-16: its state, its start and its step, with the conditions 14, 8, 9
-- and 10 in that order, and what it makes of a lost bucket.
-- Assumes nothing.
use Rattle.std.specs.Prelude.{ℕ, suc, ◌+◌, min, Bool, true, false, ◌&&◌, ◌||◌, not, List, [], ◌∷◌, ◌++◌, map, leb, ltb, eqb, length, take, drop}
use Rattle.std.specs.Prelude.{Option, None, Some}
use Rattle.columns.specs.Lists.{pick, only, last_or}
use Rattle.buckets.specs.declared.Line.{Line}
use Rattle.buckets.specs.declared.Pair.{Pair}
use Rattle.buckets.specs.declared.Entry.{Entry}
use Rattle.buckets.specs.Bucket.{Body, index_body, data_body, Bucket, cycle_length, read_bucket}
use Rattle.buckets.specs.BucketLines.{lines_read}
use Rattle.cycle.specs.Refusals.{number}
use Rattle.cycle.specs.declared.Reason.{Reason}
use Rattle.cycle.specs.declared.Reason.TheVariants.{BucketMisprinted, NotAwaited, PastNextCycle, ListenerEnded}
use Rattle.listener.specs.declared.Phase.{Phase}
use Rattle.listener.specs.declared.Phase.TheVariants.{TuneIn, Index, Either, Data, Ended}
use Rattle.listener.specs.declared.Listener.{Listener}
use Rattle.listener.specs.declared.Answer.{Answer}
use Rattle.listener.specs.declared.Answer.TheVariants.{Doze, Found, Absent, Refused}
use Rattle.listener.specs.declared.Stepped.{Stepped}

-- the numbers that an answer stands for: 1 doze and its distance, 2 found, 3 absent, 4 refused and its number; then the place,
-- which is 0 in a step
abbrev pub numbers : Answer → List ℕ
numbers (Doze d) = 1 ∷ d ∷ 0 ∷ []
numbers Found = 2 ∷ 0 ∷ 0 ∷ []
numbers Absent = 3 ∷ 0 ∷ 0 ∷ []
numbers (Refused reason) = 4 ∷ number reason ∷ 0 ∷ []

-- the numbers that a step hands back beside the next listener: its answer's, the first matching line, how many match
unfoldable pub step_numbers : Stepped → List ℕ
step_numbers r = numbers r.answer ++ r.first ∷ r.count ∷ []

-- "A caller makes one by starting it with a tag, both counts 0." The tune-in bucket is the first to go by.
unfoldable pub start : ℕ → Listener
start tag =
    record { tag = tag; phase = TuneIn; due = 0; cycle = 0; passed = 0; doze = 1; heard = 0; elapsed = 0 }

-- ---- what a bucket tells a listener

-- what the rules of "The listener" make of a bucket: doze by a distance awaiting what is named, found or absent; from a
-- data bucket also which lines match, first and how many
pub data Choice : Type 0 where
  dozes : ℕ → Phase → ℕ → ℕ → Choice
  finds : ℕ → ℕ → Choice
  misses : Choice

-- "Else the first entry whose tag is at least ours. Else absent."; "after an entry, either"
abbrev pub entry_choice : ℕ → List Entry → Choice
entry_choice tag [] = misses
entry_choice tag (e ∷ es) = pick (leb tag e.tag) (dozes e.distance Either 0 0) (entry_choice tag es)

-- the tag of a later pair is always printed
abbrev pub tag_below : Option ℕ → ℕ → Bool
tag_below None tag = false
tag_below (Some x) tag = ltb x tag

-- "Else follow the first later pair whose tag is below ours."; "after a pointer or pair, an index bucket"
abbrev pub later_choice : ℕ → List Pair → List Entry → Choice
later_choice tag [] es = entry_choice tag es
later_choice tag (p ∷ ps) es = pick (tag_below p.tag tag) (dozes p.distance Index 0 0) (later_choice tag ps es)

-- "if the first pair's tag is printed and our tag is at most it"
abbrev pub at_most : ℕ → Option ℕ → Bool
at_most tag None = false
at_most tag (Some x) = leb tag x

-- "Index bucket: if .., follow the pair. Else .."
abbrev pub index_choice : ℕ → List Pair → List Entry → Choice
index_choice tag [] es = entry_choice tag es
index_choice tag (p ∷ ps) es = pick (at_most tag p.tag) (dozes p.distance Index 0 0) (later_choice tag ps es)

-- "which lines match (first, from 0, ..": those before the first line of our tag
abbrev pub before : ℕ → List Line → ℕ
before tag [] = 0
before tag (l ∷ ls) = pick (eqb l.tag tag) 0 (suc (before tag ls))

-- ".. and how many"
unfoldable pub matching : ℕ → List Line → List Line
matching tag ls = only (λ l. eqb l.tag tag) ls

-- "the last line is ours"
abbrev pub last_is : ℕ → List Line → Bool
last_is tag [] = false
last_is tag (l ∷ ls) = eqb (last_or l.tag (map (λ m. m.tag) ls)) tag

-- "Data bucket: hand over the lines of our tag. None: absent. If the last line is ours and the follow-on is not 0, doze by
-- it. Else found."; "after a follow-on, data"
unfoldable pub data_choice : ℕ → ℕ → List Line → Choice
data_choice tag f ls =
    pick (eqb (length (matching tag ls)) 0) misses
    (pick (last_is tag ls && not (eqb f 0))
    (dozes f Data (before tag ls) (length (matching tag ls)))
    (finds (before tag ls) (length (matching tag ls))))

abbrev pub body_choice : ℕ → Body → Choice
body_choice tag (index_body ps es) = index_choice tag ps es
body_choice tag (data_body f ls) = data_choice tag f ls

-- "Tune-in bucket: doze to the next segment, even if this one starts a segment."
abbrev pub choice : Phase → ℕ → Bucket → Choice
choice TuneIn tag b = dozes b.to_segment Index 0 0
choice Index tag b = body_choice tag b.body
choice Either tag b = body_choice tag b.body
choice Data tag b = body_choice tag b.body
choice Ended tag b = misses

-- ---- what is awaited

abbrev pub is_index : Body → Bool
is_index (index_body ps es) = true
is_index (data_body f ls) = false

-- "Awaited: after a pointer or pair, an index bucket; after an entry, either; after a follow-on, data."
abbrev pub letter_awaited : Phase → Body → Bool
letter_awaited TuneIn b = true
letter_awaited Index b = is_index b
letter_awaited Either b = true
letter_awaited Data b = not (is_index b)
letter_awaited Ended b = false

-- "The position and N awaited are those worked out from the last bucket."; document 02, C-12: "Past a start the awaited position
-- is 0 and N may be new.", "9 tests N only within a cycle": within a cycle no doze ends at position 0
abbrev pub due_at : Listener → Bucket → Bool
due_at s b = eqb b.position s.due && (eqb s.due 0 || eqb (cycle_length b) s.cycle)

-- at tune-in nothing is
abbrev pub place_awaited : Phase → Listener → Bucket → Bool
place_awaited TuneIn s b = true
place_awaited Index s b = due_at s b
place_awaited Either s b = due_at s b
place_awaited Data s b = due_at s b
place_awaited Ended s b = false

-- 9: "letter, position or N not as awaited" does not hold
unfoldable pub awaited : Listener → Bucket → Bool
awaited s b = letter_awaited s.phase b.body && place_awaited s.phase s b

-- ---- the step

abbrev pub is_ended : Phase → Bool
is_ended TuneIn = false
is_ended Index = false
is_ended Either = false
is_ended Data = false
is_ended Ended = true

-- an ended listener with these counts
unfoldable pub ended : Listener → ℕ → ℕ → Listener
ended s heard elapsed =
    record {
      tag = s.tag;
      phase = Ended;
      due = s.due;
      cycle = s.cycle;
      passed = s.passed;
      doze = s.doze;
      heard = heard;
      elapsed = elapsed;
    }

unfoldable pub stepped : Listener → Answer → ℕ → ℕ → Stepped
stepped s a first count = record { listener = s; answer = a; first = first; count = count }

-- "14 hands it back unchanged"
unfoldable pub refused_ended : Listener → Stepped
refused_ended s = stepped s (Refused ListenerEnded) 0 0

-- "After a step's 8, 9 or 10 the listener handed back is ended, and the counts it carries do not include that bucket"
unfoldable pub refused : Listener → Reason → Stepped
refused s reason = stepped (ended s s.heard s.elapsed) (Refused reason) 0 0

-- document 02, C-16: "A count that would pass 4,294,967,295 stops there."
abbrev pub count_most : ℕ
count_most = 4294967295

unfoldable pub stopped : ℕ → ℕ
stopped x = min x count_most

-- "Heard counts buckets taken; elapsed counts from tune-in to the last taken, both in.": both with the bucket at hand
unfoldable pub heard_with : Listener → ℕ
heard_with s = stopped (s.heard + 1)

unfoldable pub elapsed_with : Listener → ℕ
elapsed_with s = stopped (s.elapsed + s.doze)

-- a doze by d ends at the next cycle's start, beyond which no distance of a bucket reaches
unfoldable pub reaches_start : Bucket → ℕ → Bool
reaches_start b d = leb b.to_cycle d

-- the position awaited after a doze by d: d on in this cycle; "Past a start the awaited position is 0"
unfoldable pub due_with : Bucket → ℕ → ℕ
due_with b d = pick (reaches_start b d) 0 (b.position + d)

-- the cycle starts passed since tune-in, with the one that a doze by d ends at: the number of the next bucket's cycle, tune-in's
-- being 0
unfoldable pub passed_with : Listener → Bucket → ℕ → ℕ
passed_with s b d = s.passed + pick (reaches_start b d) 1 0

-- 10: "the next bucket lies past the cycle after tune-in's": a start was passed since tune-in, and the doze would be to another.
-- The law `PastByCount` of Started says the same by the buckets counted from tune-in: "10 counts the new cycle's N".
unfoldable pub past_next_cycle : Listener → Bucket → ℕ → Bool
past_next_cycle s b d = leb 1 s.passed && reaches_start b d

-- the listener that dozes by d
unfoldable pub dozing : Listener → Bucket → ℕ → Phase → Listener
dozing s b d awaits =
    record {
      tag = s.tag;
      phase = awaits;
      due = due_with b d;
      cycle = cycle_length b;
      passed = passed_with s b d;
      doze = d;
      heard = heard_with s;
      elapsed = elapsed_with s;
    }

abbrev pub decided : Listener → Bucket → Choice → Stepped
decided s b (dozes d awaits first count) =
    pick (past_next_cycle s b d) (refused s PastNextCycle) (stepped (dozing s b d awaits) (Doze d) first count)
decided s b (finds first count) = stepped (ended s (heard_with s) (elapsed_with s)) Found first count
decided s b misses = stepped (ended s (heard_with s) (elapsed_with s)) Absent 0 0

-- a well printed bucket: 9, then the rules, then 10
unfoldable pub heed : Listener → Bucket → Stepped
heed s b = pick (awaited s b) (decided s b (choice s.phase s.tag b)) (refused s NotAwaited)

-- 8: "bucket not 240 bytes, or misprinted"
abbrev pub heed_read : Listener → Option Bucket → Stepped
heed_read s None = refused s BucketMisprinted
heed_read s (Some b) = heed s b

-- "A step: 14, 8, 9, 10." 14: "bucket given to an ended listener"
unfoldable pub step : Listener → List ℕ → Stepped
step s bytes = pick (is_ended s.phase) (refused_ended s) (heed_read s (read_bucket bytes))

-- the lines of a bucket that the answer to it names
unfoldable pub named : List ℕ → Stepped → List Line
named bytes r = take r.count (drop r.first (lines_read (read_bucket bytes)))

-- ---- a lost bucket: document 02, C-16

-- a listener with these counts
unfoldable pub counting : Listener → ℕ → ℕ → Listener
counting s heard elapsed =
    record {
      tag = s.tag;
      phase = s.phase;
      due = s.due;
      cycle = s.cycle;
      passed = s.passed;
      doze = s.doze;
      heard = heard;
      elapsed = elapsed;
    }

-- "the display then starts over with the next bucket as its tune-in, both counts running on from the first"; "A lost bucket
-- counts as heard."
unfoldable pub starts_over : Listener → Listener
starts_over s = counting (start s.tag) (heard_with s) (elapsed_with s)

-- "A bucket that the radio marks as lost may be handed in as lost, without bytes; the listener answers doze by 1", "and an ended
-- listener answers a lost one by 14"
unfoldable pub lost : Listener → Stepped
lost s = pick (is_ended s.phase) (refused_ended s) (stepped (starts_over s) (Doze 1) 0 0)
