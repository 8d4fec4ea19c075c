-- Document 01, "Printed numbers", with document 02, C-13: the numbers of buckets are read strictly, those of list lines leniently.
-- Assumes nothing.
use Rattle.std.specs.Prelude.{ℕ, zero, suc, ◌+◌, ◌-◌, ◌*◌, ◌/◌, ◌%◌, ◌^◌, Bool, true, false, ◌&&◌, ◌||◌, List, [], ◌∷◌, length, replicate, ◌==◌, nat_eq, nat_le, nat_lt}
use Rattle.std.specs.Prelude.{Option, None, Some}
use Rattle.columns.specs.Lists.{pick, every, strict}

-- What stands in the column worth 10^w: a blank (byte 32) where the number does not reach it ("no leading zero"), else
-- its digit. The last column always has a digit ("zero as one 0").
abbrev pub column : ℕ → ℕ → ℕ
column zero x = 48 + x % 10
column (suc w) x = pick (nat_lt x (10 ^ suc w)) 32 (48 + x / 10 ^ suc w % 10)

-- "A number stands right-justified in its columns: blanks (byte 32), then digits": x in w columns
abbrev pub print : ℕ → ℕ → List ℕ
print zero x = []
print (suc w) x = column w x ∷ print w x

-- w blank columns
unfoldable pub blanks : ℕ → List ℕ
blanks w = replicate w 32

-- every column is blank
unfoldable pub all_blank : List ℕ → Bool
all_blank s = every (λ c. nat_eq c 32) s

-- what the columns spell, left to right behind acc, a blank counting as 0
abbrev pub value : ℕ → List ℕ → ℕ
value acc [] = acc
value acc (c ∷ s) = value (acc * 10 + (c - 48)) s

abbrev pub digit : ℕ → Bool
digit c = nat_le 48 c && nat_le c 57

-- a number read strictly: only its own print is taken for it
unfoldable pub read_number : List ℕ → Option ℕ
read_number s = strict (value 0) (λ x. true) (print (length s)) s

-- ---- document 02, C-13, "Leading zeros from two old bridges"

-- blanks, none or more, then digits, one or more, to the last column
abbrev pub blanks_digits : List ℕ → Bool
blanks_digits [] = false
blanks_digits (c ∷ s) = pick (c == 32) (blanks_digits s) (every digit (c ∷ s))

-- "The reading of a number in a list line accepts leading zeros, blanks before them or none."
unfoldable pub read_lenient : List ℕ → Option ℕ
read_lenient s = pick (blanks_digits s) (Some (value 0 s)) None

-- "leading zeros made blank (zero stays one 0)": those that nothing but blanks and zeros stands before, the last column aside
abbrev pub blank_zeros : List ℕ → List ℕ
blank_zeros [] = []
blank_zeros (c ∷ []) = c ∷ []
blank_zeros (c ∷ d ∷ s) = pick (c == 32 || c == 48) (32 ∷ blank_zeros (d ∷ s)) (c ∷ d ∷ s)
