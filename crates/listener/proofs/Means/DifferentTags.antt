-- The different tags of a list: all of them are tags of its lines, at most one for each line, and at least one where there is a line.
-- Assumes nothing.
use mathlib.Core.Path.{◌≡◌, refl, ap₂}
use Prim.Native.Nat.{ℕ, suc, ◌+◌, ◌≤◌}
use mathlib.Core.Bool.{Bool, true, false, or-true}
use mathlib.Core.List.{List, [], ◌∷◌}
use native.Mathlib.Omega.{arith}
use lib.Dec.{eqb}
use lib.ListN.{length}
use borrow.Author.Tests.{eq-eqb}
use Rattle.columns.specs.Lists.{pick}
use Rattle.buckets.specs.declared.Line.{Line}
use Rattle.cycle.specs.Waits.{tag_among, different_tags, total}

-- functions that agree on the tags of the lines add up to the same
pub total_listed :
    (f g : ℕ → ℕ) (ls : List Line) → ((tag : ℕ) → tag_among tag ls ≡ true → f tag ≡ g tag) →
    total f (different_tags ls) ≡ total g (different_tags ls)
unfolding tag_among
total_listed f g [] h = refl
total_listed f g (l ∷ ls) h =
    by (tag_among l.tag ls) (h l.tag (rw (eq-eqb l.tag l.tag refl)))
    (total_listed f g ls (λ tag e. h tag (rw e (or-true (eqb l.tag tag)))))
  where
    by :
        (b : Bool) → f l.tag ≡ g l.tag → total f (different_tags ls) ≡ total g (different_tags ls) →
        total f (pick b (different_tags ls) (l.tag ∷ different_tags ls)) ≡ total g (pick b (different_tags ls) (l.tag ∷ different_tags ls))
    by true e k = k
    by false e k = ap₂ (λ x y. x + y) e k

pub different_few : (ls : List Line) → length (different_tags ls) ≤ length ls
different_few [] = omega arith
different_few (l ∷ ls) = by (tag_among l.tag ls) (different_few ls)
  where
    by :
        (b : Bool) → length (different_tags ls) ≤ length ls →
        length (pick b (different_tags ls) (l.tag ∷ different_tags ls)) ≤ suc (length ls)
    by true h = omega arith
    by false h = omega arith

pub different_some : (ls : List Line) → 1 ≤ length ls → 1 ≤ length (different_tags ls)
unfolding tag_among
different_some [] h = absurd (omega arith)
different_some (l ∷ []) h = omega arith
different_some (l ∷ m ∷ ls) h = by (tag_among l.tag (m ∷ ls)) (different_some (m ∷ ls) (omega arith))
  where
    by :
        (b : Bool) → 1 ≤ length (different_tags (m ∷ ls)) →
        1 ≤ length (pick b (different_tags (m ∷ ls)) (l.tag ∷ different_tags (m ∷ ls)))
    by true h = h
    by false h = omega arith
