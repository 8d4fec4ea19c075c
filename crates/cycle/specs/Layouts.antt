-- Document 01, "The tree": layout 1, distributed, and layout 2, (1,m), as the sequence of the buckets sent.
-- Assumes nothing.
use Rattle.std.specs.Prelude.{ℕ, zero, suc, ◌+◌, ◌-◌, ◌*◌, ◌/◌, max, Bool, true, false, List, [], ◌∷◌, ◌++◌, map, eqb}
use Rattle.columns.specs.Lists.{pick, joined, range}
use Rattle.cycle.specs.Tree.{Plan, width, children, above, data_under}

-- one bucket as it is sent: which one of the tree, and whether an index segment starts with it
pub record Slot : Type 0 where
  pub level : ℕ
  pub place : ℕ
  pub starts : Bool

unfoldable pub slot : ℕ → ℕ → Slot
slot i j = record { level = i; place = j; starts = false }

-- "A segment starts at its first index bucket."
abbrev pub segment : List Slot → List Slot
segment [] = []
segment (x ∷ xs) = record { level = x.level; place = x.place; starts = true } ∷ xs

-- "the tree below B, a parent before its children and a child's whole subtree before the next child, B first": the h
-- index levels from bucket j of level i on
abbrev pub subtree : Plan → ℕ → ℕ → ℕ → List Slot
subtree t zero i j = []
subtree t (suc h) i j = slot i j ∷ joined (λ c. subtree t h (suc i) c) (children t i j)

unfoldable pub tree_below : Plan → ℕ → ℕ → List Slot
tree_below t i j = subtree t (t.k + 1 - i) i j

-- data buckets as sent
unfoldable pub sent : Plan → List ℕ → List Slot
sent t qs = map (λ q. slot (t.k + 1) q) qs

-- ---- layout 1

-- "the lowest bucket above both it and its forerunner": the greatest level, of those from i up to the root, on which
-- buckets b - 1 and b of level r + 1 have the same bucket above them
abbrev pub lowest : ℕ → ℕ → ℕ → ℕ → ℕ
lowest n r b zero = 1
lowest n r b (suc i) = pick (eqb (above n (r - i) (b - 1)) (above n (r - i) b)) (suc i) (lowest n r b i)

-- "Before B1 comes the path from the root; before a later B the path from the lowest bucket above both it and its
-- forerunner": the level where the path begins
abbrev pub path_top : ℕ → ℕ → ℕ → ℕ
path_top n r zero = 1
path_top n r (suc b) = lowest n r (suc b) r

-- "each path leaves out B": down to level r
unfoldable pub path : Plan → ℕ → List Slot
path t b = map (λ i. slot i (above t.n (t.copies + 1 - i) b)) (range (path_top t.n t.copies b) (t.copies + 1))

-- the path, "Then the tree below B ..". "Then the data under B."
unfoldable pub distributed_segment : Plan → ℕ → List Slot
distributed_segment t b =
    segment (path t b ++ (tree_below t (t.copies + 1) b ++ sent t (data_under t (t.copies + 1) b)))

-- "copies is r .. B1, B2, .. are the level r + 1 buckets." "The empty list has one root without entries."
unfoldable pub distributed : Plan → List Slot
distributed t = joined (distributed_segment t) (range 0 (max 1 (width t (t.copies + 1))))

-- ---- layout 2

-- "copies is m .. Part i holds data buckets from floor(i × D / m) up to but without floor((i + 1) × D / m), and the whole
-- tree precedes it in the same parent-first sequence."
unfoldable pub whole_segment : Plan → ℕ → List Slot
whole_segment t i =
    segment (tree_below t 1 0 ++ sent t (range (i * t.d / t.copies) (suc i * t.d / t.copies)))

unfoldable pub one_m : Plan → List Slot
one_m t = joined (whole_segment t) (range 0 t.copies)

-- the cycle's buckets in the sequence in which they are sent
unfoldable pub slots : Plan → List Slot
slots t = pick (eqb t.layout 1) (distributed t) (one_m t)
