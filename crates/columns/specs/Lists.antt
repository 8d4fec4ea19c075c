-- Words about lists and choices that the other definitions are written with. None is document 01's own.
-- Assumes nothing.
use Rattle.std.specs.Prelude.{ℕ, zero, suc, ◌+◌, ◌-◌, ◌/◌, Bool, true, false, ◌&&◌, ◌||◌, List, [], ◌∷◌, ◌++◌, length, take, drop, replicate, ◌==◌}
use Rattle.std.specs.Prelude.{Option, None, Some}

-- the first where the test holds, else the second
abbrev pub pick {ℓ} : {A : Type ℓ} → Bool → A → A → A
pick true x y = x
pick false x y = y

-- the outcomes of f, one behind the other
abbrev pub joined {ℓ κ} : {A : Type ℓ} {B : Type κ} → (A → List B) → List A → List B
joined f [] = []
joined f (x ∷ xs) = f x ++ joined f xs

-- f passes everywhere
abbrev pub every {ℓ} : {A : Type ℓ} → (A → Bool) → List A → Bool
every f [] = true
every f (x ∷ xs) = f x && every f xs

-- f passes somewhere
abbrev pub any {ℓ} : {A : Type ℓ} → (A → Bool) → List A → Bool
any f [] = false
any f (x ∷ xs) = f x || any f xs

-- those where f passes, in order
abbrev pub only {ℓ} : {A : Type ℓ} → (A → Bool) → List A → List A
only f [] = []
only f (x ∷ xs) = pick (f x) (x ∷ only f xs) (only f xs)

-- the last one, or d where there is none
abbrev pub last_or {ℓ} : {A : Type ℓ} → A → List A → A
last_or d [] = d
last_or d (x ∷ xs) = last_or x xs

-- c numbers from a on
abbrev pub span : ℕ → ℕ → List ℕ
span a zero = []
span a (suc c) = a ∷ span (suc a) c

-- from a up to but without b
abbrev pub range : ℕ → ℕ → List ℕ
range a b = span a (b - a)

-- the first c parts of s, each w long
abbrev pub parts {ℓ} : {A : Type ℓ} → ℕ → ℕ → List A → List (List A)
parts zero w s = []
parts (suc c) w s = take w s ∷ parts c w (drop w s)

-- the two lists are the same
abbrev pub same : List ℕ → List ℕ → Bool
same [] [] = true
same [] (y ∷ ys) = false
same (x ∷ xs) [] = false
same (x ∷ xs) (y ∷ ys) = x == y && same xs ys

-- the first number from i on that passes f, looking at c of them; the one behind them if none does
abbrev pub least : ℕ → ℕ → (ℕ → Bool) → ℕ
least zero i f = i
least (suc c) i f = pick (f i) i (least c (suc i) f)

-- a divided by b, rounded up
unfoldable pub up : ℕ → ℕ → ℕ
up a b = (a + (b - 1)) / b

-- Strict reading: s is taken for what it spells, if that keeps the rules (ok) and s is its print (show).
unfoldable pub strict : {A : Type 0} → (List ℕ → A) → (A → Bool) → (A → List ℕ) → List ℕ → Option A
strict spell ok show s = pick (ok (spell s) && same s (show (spell s))) (Some (spell s)) None

-- s in w columns, the unused ones blank
unfoldable pub padded : ℕ → List ℕ → List ℕ
padded w s = s ++ replicate (w - length s) 32

-- s written over d from place k on
unfoldable pub put : List ℕ → ℕ → List ℕ → List ℕ
put d k s = take k d ++ (s ++ drop (k + length s) d)

-- a lent buffer d with s written at its front: what lies behind s keeps its former content
unfoldable pub onto : List ℕ → List ℕ → List ℕ
onto s d = s ++ drop (length s) d
