-- Document 01, "The tree", first paragraph: settings, data buckets, levels.
-- Assumes nothing.
use Rattle.std.specs.Prelude.{ℕ, zero, suc, ◌+◌, ◌-◌, ◌*◌, ◌/◌, ◌^◌, min, List, [], ◌∷◌, map, leb, eqb, length, take, drop, get_or}
use Rattle.columns.specs.Lists.{pick, joined, last_or, range, least, up}
use Rattle.buckets.specs.declared.Line.{Line}
use Rattle.cycle.specs.declared.Settings.{Settings}
use Rattle.cycle.specs.declared.Layout.{Layout}
use Rattle.cycle.specs.declared.Layout.TheVariants.{Distributed, OneM}

-- "Settings: n entries for an index bucket (2 to 8), p lines for a data bucket (1 to 8), layout 1 or 2, and copies."
-- Made of four numbers, as the calls for C and a request of `cases` have them.
abbrev pub settings : ℕ → ℕ → ℕ → ℕ → Settings
settings n p layout copies = record { n = n; p = p; layout = layout; copies = copies }

-- the number of a layout: "layout 1, distributed", "layout 2, (1,m)"
abbrev pub layout_number : Layout → ℕ
layout_number Distributed = 1
layout_number OneM = 2

-- the layout that a number from 1 to 2 names
abbrev pub layout_of : ℕ → Layout
layout_of m = pick (eqb m 1) Distributed OneM

-- settings and a list's lines, with its data buckets D and its levels k
pub record Plan : Type 0 where
  pub n : ℕ
  pub p : ℕ
  pub layout : ℕ
  pub copies : ℕ
  pub lines : List Line
  pub d : ℕ
  pub k : ℕ

-- "D is the lines divided by p, rounded up"
unfoldable pub data_buckets : ℕ → ℕ → ℕ
data_buckets c p = up c p

-- no tree has more levels: D is at most 40,000, and 2^16 is more
abbrev pub levels_most : ℕ
levels_most = 16

-- "Levels k: the least k of at least 1 with n^k at least D."
unfoldable pub levels : ℕ → ℕ → ℕ
levels n d = least levels_most 1 (λ k. leb d (n ^ k))

-- the plan of a number of lines, whichever they are
abbrev pub plan_for : Settings → ℕ → List Line → Plan
plan_for s c ls =
    let d : ℕ = data_buckets c s.p in
    record { n = s.n; p = s.p; layout = s.layout; copies = s.copies; lines = ls; d = d; k = levels s.n d }

-- the plan of a list's lines
unfoldable pub plan : Settings → List Line → Plan
plan s ls = plan_for s (length ls) ls

-- A bucket of the tree is named by its level and its place on that level, from 0. "Level 1 is the root." The data
-- buckets are level k + 1.

-- how many buckets stand h levels above the data: "Each index level groups the level below by n .., until one root."
abbrev pub grouped : ℕ → ℕ → ℕ → ℕ
grouped n d zero = d
grouped n d (suc h) = up (grouped n d h) n

-- how many stand on level i
unfoldable pub width : Plan → ℕ → ℕ
width t i = grouped t.n t.d (t.k + 1 - i)

-- the places on level i + 1 that bucket j of level i groups: "by n from the left"
unfoldable pub children : Plan → ℕ → ℕ → List ℕ
children t i j = range (j * t.n) (min (j * t.n + t.n) (width t (suc i)))

-- the place of the bucket above place j, h levels higher
abbrev pub above : ℕ → ℕ → ℕ → ℕ
above n zero j = j
above n (suc h) j = above n h (j / n)

-- the data buckets under bucket j of level i, which are h levels below it
abbrev pub under : Plan → ℕ → ℕ → ℕ → List ℕ
under t zero i j = j ∷ []
under t (suc h) i j = joined (λ c. under t h (suc i) c) (children t i j)

unfoldable pub data_under : Plan → ℕ → ℕ → List ℕ
data_under t i j = under t (t.k + 1 - i) i j

-- the lines of data bucket q: "only the last data bucket may be part full"
unfoldable pub lines_of : Plan → ℕ → List Line
lines_of t q = take t.p (drop (q * t.p) t.lines)

unfoldable pub tags_of : Plan → ℕ → List ℕ
tags_of t q = map (λ l. l.tag) (lines_of t q)

-- the first and the last tag of data bucket q
unfoldable pub first_tag : Plan → ℕ → ℕ
first_tag t q = get_or (tags_of t q) 0 0

unfoldable pub last_tag : Plan → ℕ → ℕ
last_tag t q = last_or 0 (tags_of t q)

-- "the largest tag below it": the last one, since tags never fall
unfoldable pub largest_tag : Plan → ℕ → ℕ → ℕ
largest_tag t i j = last_tag t (last_or 0 (data_under t i j))
