-- Numbers in fields one behind the other, told column by column: printed ones, and those of a list line, which may have leading
-- zeros. That the columns of a field hold such a number exactly if each of them passes is a law.
-- Assumes nothing.
use Rattle.std.specs.Prelude.{ℕ, Bool, true, false, not, ◌&&◌, ◌||◌, List, [], ◌∷◌, ◌++◌, replicate, ◌==◌}
use Rattle.columns.specs.Lists.{pick}
use Rattle.columns.specs.PrintedNumbers.{digit}
use Rattle.columns.specs.declared.Place.{Place}
use Rattle.columns.specs.declared.Place.TheVariants.{First, Between, Last}

-- the place that a number names: 1 the first, 2 the last, any other one between them
abbrev pub place_of : ℕ → Place
place_of k = pick (k == 1) First (pick (k == 2) Last Between)

-- the places of the columns of a field of w + 2 columns
abbrev pub places : ℕ → List Place
places w = First ∷ (replicate w Between ++ Last ∷ [])

-- no column of the field is used before this one, and it is not the last
abbrev pub leading : Place → ℕ → Bool
leading First before = true
leading Between before = before == 32
leading Last before = false

-- a column that is well printed behind the column before it
unfoldable pub column_printed : Place → ℕ → ℕ → Bool
column_printed place before c = pick (leading place before) (c == 32 || (digit c && not (c == 48))) (digit c)

-- a column that may stand in a list line behind the column before it
unfoldable pub column_digits : Place → ℕ → ℕ → Bool
column_digits place before c = digit c || (c == 32 && leading place before)

-- columns in these places, each of which passes the test
abbrev pub columns_by : (Place → ℕ → ℕ → Bool) → List Place → ℕ → List ℕ → Bool
columns_by test [] before s = true
columns_by test (k ∷ ks) before [] = false
columns_by test (k ∷ ks) before (c ∷ s) = test k before c && columns_by test ks c s
