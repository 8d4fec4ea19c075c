-- Lines whose tags never fall.
-- Assumes nothing.
use mathlib.Core.Path.{◌≡◌, refl}
use Prim.Native.Nat.{ℕ, ◌≤◌}
use mathlib.Core.Bool.{true}
use mathlib.Core.List.{List, [], ◌∷◌, ◌++◌, map}
use native.Mathlib.Omega.{arith}
use lib.Dec.{leb}
use lib.ListN
use lib.ListN.{drop, take-append-drop}
use borrow.Author.Tests.{leb-true, le-leb}
use Rattle.columns.specs.Lists.{last_or}
use Rattle.columns.proofs.Strict.{both}
use Rattle.buckets.specs.declared.Line.{Line}
use Rattle.buckets.specs.Bucket.{rising}

-- tags never fall, from m on
abbrev pub Rising : ℕ → List Line → Type 0
Rising m [] = Unit {0}
Rising m (l ∷ ls) = (m ≤ l.tag) × Rising l.tag ls

-- the last tag, or m
abbrev pub last_from : ℕ → List Line → ℕ
last_from m ls = last_or m (map (λ l. l.tag) ls)

-- ---- the test

pub rising_tags : (m : ℕ) (ls : List Line) → rising m (map (λ l. l.tag) ls) ≡ true → Rising m ls
rising_tags m [] h = tt
rising_tags m (l ∷ ls) h =
    let told = both (leb m l.tag) (rising l.tag (map (λ r. r.tag) ls)) h in
    (leb-true m l.tag told.0, rising_tags l.tag ls told.1)

pub tags_rising : (m : ℕ) (ls : List Line) → Rising m ls → rising m (map (λ l. l.tag) ls) ≡ true
tags_rising m [] r = refl
tags_rising m (l ∷ ls) r = rw (le-leb m l.tag r.0) (tags_rising l.tag ls r.1)

-- ---- parts

pub rising_less : (m m' : ℕ) (ls : List Line) → m' ≤ m → Rising m ls → Rising m' ls
rising_less m m' [] h r = r
rising_less m m' (l ∷ ls) h r = (omega arith, r.1)

pub last_at_least : (m : ℕ) (ls : List Line) → Rising m ls → m ≤ last_from m ls
last_at_least m [] r = omega arith
last_at_least m (l ∷ ls) r = let h : l.tag ≤ last_from l.tag ls = last_at_least l.tag ls r.1 in omega arith

pub rising_front : (m : ℕ) (xs ys : List Line) → Rising m (xs ++ ys) → Rising m xs
rising_front m [] ys r = tt
rising_front m (x ∷ xs) ys r = (r.0, rising_front x.tag xs ys r.1)

pub rising_back : (m : ℕ) (xs ys : List Line) → Rising m (xs ++ ys) → Rising (last_from m xs) ys
rising_back m [] ys r = r
rising_back m (x ∷ xs) ys r = rising_back x.tag xs ys r.1

pub rising_take : (m i : ℕ) (ls : List Line) → Rising m ls → Rising m (ListN.take i ls)
rising_take m i ls r = rising_front m (ListN.take i ls) (drop i ls) (rw take-append-drop r)

pub rising_drop : (m i : ℕ) (ls : List Line) → Rising m ls → Rising (last_from m (ListN.take i ls)) (drop i ls)
rising_drop m i ls r = rising_back m (ListN.take i ls) (drop i ls) (rw take-append-drop r)
