-- Columns from the first that is used on.
-- Assumes nothing.
use Rattle.std.specs.Prelude.{◌≡◌, ℕ, ◌≤◌, List, length, slice_index_or}

-- the first column of s is used; s has at most the columns of a tag
pub record IsUsed (s : List ℕ) : Type 0 where
  pub some : 1 ≤ length s
  pub most : length s ≤ 10
  pub used : slice_index_or s 0 0 ≡ 32 → ⊥
