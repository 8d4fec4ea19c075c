-- Where the lines of one tag stand among lines whose tags never fall, and how many runs hold one.
-- Assumes nothing.
use mathlib.Core.Path.{◌≡◌, refl, sym, ◌∙◌, ap}
use Prim.Native.Nat.{ℕ, zero, suc, ◌+◌, ◌≤◌, ◌<◌}
use mathlib.Core.Bool.{Bool, true, false, ◌||◌, true≢false}
use mathlib.Core.List.{List, [], ◌∷◌, ◌++◌}
use native.Mathlib.Nat.{zero-add}
use native.Mathlib.Omega.{arith}
use lib.Dec.{eqb}
use lib.ListN
use lib.ListN.{length, drop}
use borrow.Author.Tests.{eqb-true, eqb-false, eq-eqb, ne_eqb}
use Rattle.columns.specs.Lists.{pick, only, any, parts}
use Rattle.buckets.specs.declared.Line.{Line}
use Rattle.cycle.proofs.Lines.Rising.{Rising, last_from, rising_less, last_at_least, rising_take, rising_drop}
use Rattle.listener.specs.Listener.{matching, before}
use Rattle.listener.specs.Hearing.{count_if}

-- some line has the tag
unfoldable pub holds : ℕ → List Line → Bool
holds tag ls = any (λ l. eqb l.tag tag) ls

-- lines above the tag
pub none_above : (tag m : ℕ) (ls : List Line) → tag < m → Rising m ls → holds tag ls ≡ false
unfolding holds
none_above tag m [] h r = refl
none_above tag m (l ∷ ls) h r =
    rw (ne_eqb l.tag tag (λ e. omega arith)) (none_above tag l.tag ls (omega arith) r.1)

-- lines below the tag
pub none_below : (tag m : ℕ) (ls : List Line) → Rising m ls → last_from m ls < tag → holds tag ls ≡ false
unfolding holds
none_below tag m [] r h = refl
none_below tag m (l ∷ ls) r h =
    let b : l.tag ≤ last_from l.tag ls = last_at_least l.tag ls r.1 in
    rw (ne_eqb l.tag tag (λ e. omega arith)) (none_below tag l.tag ls r.1 h)

-- a last line of the tag is a line of the tag
pub last_held : (tag m : ℕ) (l : Line) (ls : List Line) → last_from m (l ∷ ls) ≡ tag → holds tag (l ∷ ls) ≡ true
unfolding holds
last_held tag m l [] e = rw (eq-eqb l.tag tag e)
last_held tag m l (l' ∷ ls) e = rw (last_held tag m l' ls e) (or_right (eqb l.tag tag))
  where
    or_right : (b : Bool) → (b || true) ≡ true
    or_right true = refl
    or_right false = refl

pub only_append : (f : Line → Bool) (xs ys : List Line) → only f (xs ++ ys) ≡ only f xs ++ only f ys
only_append f [] ys = refl
only_append f (x ∷ xs) ys = by (f x) (only_append f xs ys)
  where
    by :
        (b : Bool) → only f (xs ++ ys) ≡ only f xs ++ only f ys →
        pick b (x ∷ only f (xs ++ ys)) (only f (xs ++ ys)) ≡ pick b (x ∷ only f xs) (only f xs) ++ only f ys
    by true e = ap (λ r. x ∷ r) e
    by false e = e

pub matching_append : (tag : ℕ) (xs ys : List Line) → matching tag (xs ++ ys) ≡ matching tag xs ++ matching tag ys
unfolding matching
matching_append tag xs ys = only_append (λ l. eqb l.tag tag) xs ys

pub matching_none : (tag : ℕ) (ls : List Line) → holds tag ls ≡ false → matching tag ls ≡ []
unfolding matching holds
matching_none tag [] h = refl
matching_none tag (l ∷ ls) h = by (eqb l.tag tag) (matching_none tag ls) h
  where
    by :
        (b : Bool) → (any (λ l. eqb l.tag tag) ls ≡ false → only (λ l. eqb l.tag tag) ls ≡ []) →
        (b || any (λ l. eqb l.tag tag) ls) ≡ false → pick b (l ∷ only (λ l. eqb l.tag tag) ls) (only (λ l. eqb l.tag tag) ls) ≡ []
    by true k h = absurd (true≢false h)
    by false k h = k h

pub matching_some : (tag : ℕ) (ls : List Line) → holds tag ls ≡ true → matching tag ls ≡ [] → ⊥
unfolding matching holds
matching_some tag [] h e = true≢false (sym h)
matching_some tag (l ∷ ls) h e = by (eqb l.tag tag) (matching_some tag ls) h e
  where
    by :
        (b : Bool) → (any (λ l. eqb l.tag tag) ls ≡ true → only (λ l. eqb l.tag tag) ls ≡ [] → ⊥) →
        (b || any (λ l. eqb l.tag tag) ls) ≡ true → pick b (l ∷ only (λ l. eqb l.tag tag) ls) (only (λ l. eqb l.tag tag) ls) ≡ [] → ⊥
    by true k h e = let z : ◌≡◌ {A = ℕ} 0 1 = cc in omega arith
    by false k h e = k h e

-- in lines from the tag on, those of the tag stand first
pub matching_first : (tag : ℕ) (ls : List Line) → Rising tag ls → ListN.take (length (matching tag ls)) ls ≡ matching tag ls
unfolding matching
matching_first tag [] r = refl
matching_first tag (l ∷ ls) r = by (eqb l.tag tag) refl (matching_first tag ls)
  where
    rest : List Line
    rest = only (λ l. eqb l.tag tag) ls

    by :
        (b : Bool) → eqb l.tag tag ≡ b → (Rising tag ls → ListN.take (length rest) ls ≡ rest) →
        ListN.take (length (pick b (l ∷ rest) rest)) (l ∷ ls) ≡ pick b (l ∷ rest) rest
    by true e k =
        let same : l.tag ≡ tag = eqb-true l.tag tag e in
        ap (λ r. l ∷ r) (k (rising_less l.tag tag ls (omega arith) r.1))
    by false e k =
        let other : l.tag ≡ tag → ⊥ = eqb-false l.tag tag e in
        let empty : rest ≡ [] = matching_none tag ls (none_above tag l.tag ls (omega arith) r.1) in
        ap (λ z. ListN.take (length z) (l ∷ ls)) empty ∙ sym empty

-- the lines of the tag, by the place of the first and their number
pub matching_run :
    (tag m : ℕ) (ls : List Line) → Rising m ls →
    ListN.take (length (matching tag ls)) (drop (before tag ls) ls) ≡ matching tag ls
unfolding matching
matching_run tag m [] r = refl
matching_run tag m (l ∷ ls) r = by (eqb l.tag tag) refl (matching_run tag l.tag ls r.1)
  where
    rest : List Line
    rest = only (λ l. eqb l.tag tag) ls

    by :
        (b : Bool) → eqb l.tag tag ≡ b → ListN.take (length rest) (drop (before tag ls) ls) ≡ rest →
        ListN.take (length (pick b (l ∷ rest) rest)) (drop (pick b 0 (suc (before tag ls))) (l ∷ ls)) ≡ pick b (l ∷ rest) rest
    by true e k =
        let same : l.tag ≡ tag = eqb-true l.tag tag e in
        ap (λ r. l ∷ r) (matching_first tag ls (rising_less l.tag tag ls (omega arith) r.1))
    by false e k = k

-- how many of the first c runs of p lines hold one of the tag
unfoldable pub runs_of : ℕ → ℕ → ℕ → List Line → ℕ
runs_of tag p c ls = count_if (any (λ l. eqb l.tag tag)) (parts c p ls)

pub runs_zero : (tag p : ℕ) (ls : List Line) → runs_of tag p 0 ls ≡ 0
unfolding runs_of
runs_zero tag p ls = refl

pub runs_more :
    (tag p c : ℕ) (ls : List Line) →
    runs_of tag p (suc c) ls ≡ pick (holds tag (ListN.take p ls)) 1 0 + runs_of tag p c (drop p ls)
unfolding runs_of holds
runs_more tag p c ls = refl

-- no run of lines above the tag holds one of it
pub runs_above : (tag m p c : ℕ) (ls : List Line) → tag < m → Rising m ls → runs_of tag p c ls ≡ 0
runs_above tag m p zero ls h r = runs_zero tag p ls
runs_above tag m p (suc c) ls h r =
    let b : m ≤ last_from m (ListN.take p ls) = last_at_least m (ListN.take p ls) (rising_take m p ls r) in
    rw (runs_more, none_above tag m (ListN.take p ls) h (rising_take m p ls r), zero-add)
    (runs_above tag (last_from m (ListN.take p ls)) p c (drop p ls) (omega arith) (rising_drop m p ls r))
