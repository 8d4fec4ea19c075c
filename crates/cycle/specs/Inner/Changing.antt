-- What the contracts of the functions that change a list say: where a line stands, and what the list's buffer holds behind it.
-- Assumes nothing.
use Rattle.std.specs.Prelude.{ℕ, suc, ◌+◌, ◌-◌, Bool, List, [], ◌∷◌, ◌++◌, ltb, take, drop}
use Rattle.std.specs.Prelude.{Option, None, Some}
use Rattle.columns.specs.Lists.{pick, onto}
use Rattle.columns.specs.PrintedNumbers.{blanks}
use Rattle.buckets.specs.declared.Line.{Line}
use Rattle.buckets.specs.Lengths.{line_length}
use Rattle.cycle.specs.declared.Counts.{Counts}
use Rattle.cycle.specs.declared.Figures.{Figures}

-- ---- places

-- the first place where f passes, counted from i
abbrev pub first_from {ℓ} : {A : Type ℓ} → (A → Bool) → ℕ → List A → Option ℕ
first_from f i [] = None
first_from f i (x ∷ xs) = pick (f x) (Some i) (first_from f (suc i) xs)

-- a line's tag is greater than this one
abbrev pub tag_over : ℕ → Line → Bool
tag_over tag l = ltb tag l.tag

-- ---- the list's buffer

-- the list that ends at `end` with a line put in at `at`
unfoldable pub with_line : List ℕ → ℕ → ℕ → List ℕ → List ℕ
with_line b at end line = onto (take at b ++ (line ++ take (end - at) (drop at b))) b

-- without the line at `at`, and blanks where the last one was
unfoldable pub without_line : List ℕ → ℕ → ℕ → List ℕ
without_line b at end = onto (take at b ++ (take (end - (at + line_length)) (drop (at + line_length) b) ++ blanks line_length)) b

-- ---- the answer

-- what figures with their N say of a changed list
abbrev pub counts_held : Figures → Counts
counts_held f = record { lines = f.lines; d = f.d; k = f.k; n = f.size }
