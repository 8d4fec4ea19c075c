-- What the contracts of the functions that read back say beyond document 01's own words: how many lines an image has, and
-- when a part of it is that part of a plan's cycle.
-- Assumes nothing.
use Rattle.std.specs.Prelude.{◌≡◌, ℕ, ◌+◌, ◌-◌, ◌*◌, ◌/◌, ◌≤◌, ◌<◌, Bool, true, false, List, [], ◌∷◌, map, eqb, ltb, length, drop, get_or}
use Rattle.std.specs.Prelude.{Option, Some, MatchOption}
use Rattle.columns.specs.Lists.{pick, parts, joined, range}
use Rattle.buckets.specs.Bucket.{read_bucket, follow_on}
use Rattle.buckets.specs.declared.Line.{Line}
use Rattle.buckets.specs.ListLine.{ended_line}
use Rattle.buckets.specs.Lengths.{letter_data, letter_column, item_digit_column, bucket_length}
use Rattle.cycle.specs.Tree.{Plan, first_tag, last_tag}
use Rattle.cycle.specs.Cycle.{bucket_at}
use Rattle.cycle.specs.declared.Figures.{Figures}
use Rattle.cycle.specs.declared.Segment.{Segment}
use Rattle.cycle.specs.declared.Source.TheVariants.{Image as InImage}
use Rattle.cycle.specs.Cycle.{first_place}
use Rattle.cycle.specs.Inner.Held.{plan_of, plan_in, Ready, HoldsSegment, line_at, cycle_bucket}

-- the test's answer decides whether P holds
pub record Decides (P : Type 0) (answer : Bool) : Type 0 where
  pub yes : answer ≡ true → P
  pub no : answer ≡ false → P → ⊥

-- the search finds y where P holds, and nothing where it does not
abbrev pub Finds : Type 0 → ℕ → Option ℕ → Type 0
Finds P y answer = MatchOption answer (P → ⊥) (λ z. P × (z ≡ y))

-- two tags' columns, each by the digit that it adds: a blank as a 0
abbrev pub SameDigits : List ℕ → List ℕ → Type 0
SameDigits a b = map (λ c. c - 48) a ≡ map (λ c. c - 48) b

-- ---- how many lines

-- p for each of d data buckets but the last, and what the last digit of that one's count says
unfoldable pub lines_by : ℕ → ℕ → ℕ → ℕ
lines_by p d last = pick (eqb d 0) 0 (pick (ltb last 48) 0 ((d - 1) * p + (last - 48)))

-- the same, with the data buckets among these still to be counted: each has its letter, and the last digit of its count
abbrev pub counted_from : ℕ → ℕ → ℕ → List (List ℕ) → ℕ
counted_from p d last [] = lines_by p d last
counted_from p d last (s ∷ ss) =
    pick (eqb (get_or s letter_column 0) letter_data)
    (counted_from p (d + 1) (get_or s item_digit_column 0) ss)
    (counted_from p d last ss)

unfoldable pub counted : ℕ → List ℕ → ℕ
counted p image = counted_from p 0 48 (parts (length image / bucket_length) bucket_length image)

-- ---- a part of the image

-- no tag falls from data bucket q to the next
abbrev pub RisesAt : Plan → ℕ → Type 0
RisesAt t q = q + 1 < t.d → last_tag t q ≤ first_tag t (q + 1)

-- bucket x of the image is bucket x of the cycle, and no tag falls from a data bucket there to the next
pub record MatchesAt (t : Plan) (image : List ℕ) (x : ℕ) : Type 0 where
  pub reads : read_bucket (bucket_at image x) ≡ Some (cycle_bucket t x)
  pub rises : (q : ℕ) → first_place t (t.k + 1) q ≡ x → RisesAt t q

-- the same of those from x up to but without y
pub record Matches (t : Plan) (image : List ℕ) (x y : ℕ) : Type 0 where
  pub each : (z : ℕ) → x ≤ z → z < y → MatchesAt t image z

-- the same of data buckets a up to but without b, each at its place
pub record DataMatches (t : Plan) (image : List ℕ) (a b : ℕ) : Type 0 where
  pub each : (q : ℕ) → a ≤ q → q < b → MatchesAt t image (first_place t (t.k + 1) q)

-- data bucket q, which stands at x, has this follow-on, and no tag falls from it to the next
pub record Followed (t : Plan) (q x follow : ℕ) : Type 0 where
  pub follow_is : follow ≡ follow_on (cycle_bucket t x).body
  pub in_order : RisesAt t q

-- the lines of the image from a up to but without b as list lines
unfoldable pub list_text : Figures → List ℕ → ℕ → ℕ → List ℕ
list_text f image a b =
    joined (λ i. ended_line (drop (line_at (plan_of f []) InImage i) image)) (range a b)

-- figures for which an image has the right length
pub record Holding (f : Figures) (image : List ℕ) : Type 0 where
  pub ready : Ready f
  pub long : length image ≡ bucket_length * f.size

-- one of the segments of its cycle
pub record Comparing (f : Figures) (image : List ℕ) (s : Segment) : Type 0 where
  pub holding : Holding f image
  pub placed : (ls : List Line) → HoldsSegment (plan_of f ls) s

-- the same, where all data buckets match
pub record Checking (f : Figures) (image : List ℕ) (s : Segment) : Type 0 where
  pub comparing : Comparing f image s
  pub datas : DataMatches (plan_in f InImage image) image 0 f.d
