-- A list gone over line by line: a line more and none left, what an iterator over its lines yields, and the first line that passes a
-- test.
-- Assumes nothing.
use mathlib.Core.Path.{◌≡◌, refl, ap, ◌∙◌, subst}
use Prim.Native.Nat.{ℕ, suc, ◌+◌, ◌/◌, ◌<◌}
use native.Mathlib.Numerals.{add-one}
use native.Mathlib.Omega.{arith}
use mathlib.Core.Bool.{Bool, true, false, not, cond}
use mathlib.Core.List.{List, [], ◌∷◌, ◌++◌, map}
use lib.Dec.{ltb}
use lib.ListN.{length, length-append}
use lib.Seq.{take_at, drop_at}
use Rattle.std.specs.Prelude.{Option, None, Some, MatchOption, IsSomeAnd}
use Rattle.std.specs.List.{position_from, position_or_len}
use Rattle.std.specs.Slice.Iter.{chunks_exact_rest, chunks_exact_size, chunks_exact_steps}
use Rattle.std.proofs.lemmas.Iterator.{YieldsList}
use Rattle.std.proofs.lemmas.Iterator.Splits.{YieldsList-from_shown_while}
use Rattle.std.proofs.lemmas.Iterator.Adapters.{position_from-zero}
use Rattle.columns.specs.Lists.{pick}
use Rattle.buckets.specs.declared.Line.{Line}
use Rattle.buckets.specs.ListLine.{spelled, read_line, taken, cut_lines, list_lines, misprint_from}
use Rattle.buckets.specs.Lengths.{line_length}
use Rattle.cycle.specs.Inner.Changing.{first_from}

-- ---- a line more, and none left

module _ (line rest : List ℕ) (wide : length line ≡ line_length) where
  pub cut_more : cut_lines (line ++ rest) ≡ line ∷ cut_lines rest
  unfolding cut_lines
  cut_more =
      let both : length (line ++ rest) ≡ line_length + length rest = simp length-append (omega arith) in
      let more : length (line ++ rest) / line_length ≡ suc (length rest / line_length) = omega arith in
      rw (more, take_at line rest line_length wide, drop_at line rest line_length wide)

  pub lines_more : list_lines (line ++ rest) ≡ spelled line ∷ list_lines rest
  unfolding list_lines
  lines_more = ap (map spelled) cut_more

module _ (rest : List ℕ) (short : length rest < line_length) where
  pub cut_none : cut_lines rest ≡ []
  unfolding cut_lines
  cut_none = let none : length rest / line_length ≡ 0 = omega arith in rw none

  pub lines_none : list_lines rest ≡ []
  unfolding list_lines
  lines_none = ap (map spelled) cut_none

-- ---- an iterator over a list's lines

pub yields_lines :
    (s : _) (list : List ℕ) → chunks_exact_rest s ≡ list → chunks_exact_size {T = ℕ} s ≡ line_length →
    YieldsList chunks_exact_steps (λ line. line.now) s (cut_lines list)
yields_lines s list e wide =
    subst (λ t. YieldsList chunks_exact_steps (λ line. line.now) s (cut_lines t)) e
    (YieldsList-from_shown_while chunks_exact_steps (λ line. line.now) (λ t. cut_lines (chunks_exact_rest t)) (λ t. chunks_exact_size t ≡ line_length)
    (λ t u w h. ap length (cut_none (chunks_exact_rest t) (omega (arith, h.1.0, w))))
    (λ t line u w h. (h.0 ∙ w, ap cut_lines h.1.0 ∙ cut_more line.now (chunks_exact_rest u) (h.1.1 ∙ w)))
    s wide)

-- ---- the first line that passes a test

-- the same first place, as the library counts it
first_place : {A : Type 0} (f : A → Bool) (i : ℕ) (xs : List A) → position_from f i xs ≡ first_from f i xs
first_place f i [] = refl
first_place f i (x ∷ xs) = by (f x) (ap (λ k. position_from f k xs) (add-one i) ∙ first_place f (suc i) xs)
  where
    by : (t : Bool) → position_from f (i + 1) xs ≡ first_from f (suc i) xs
        → cond t (Some i) (position_from f (i + 1) xs) ≡ pick t (Some i) (first_from f (suc i) xs)
    by true e = refl
    by false e = e

-- a place that is handed on as it is
same_place : (o r : Option ℕ) → MatchOption o (r ≡ None) (λ i. IsSomeAnd r (λ j. j ≡ i)) → r ≡ o
same_place None r h = h
same_place (Some i) (Some j) h = ap Some h
same_place (Some i) None h = absurd h

-- the answer of `position` over a list's lines, handed on
pub first_line :
    (f : List ℕ → Bool) (list : List ℕ) (o r : Option ℕ) →
    o ≡ cond (ltb (position_or_len f (cut_lines list)) (length (cut_lines list))) (Some (position_or_len f (cut_lines list))) None →
    MatchOption o (r ≡ None) (λ i. IsSomeAnd r (λ j. j ≡ i)) →
    r ≡ first_from f 0 (cut_lines list)
first_line f list o r found handed = same_place o r handed ∙ found ∙ position_from-zero f (cut_lines list) ∙ first_place f 0 (cut_lines list)

-- lines as numbers
pub first_spelled : (f : Line → Bool) (i : ℕ) (ss : List (List ℕ)) → first_from (λ s. f (spelled s)) i ss ≡ first_from f i (map spelled ss)
first_spelled f i [] = refl
first_spelled f i (s ∷ ss) = ap (pick (f (spelled s)) (Some i)) (first_spelled f (suc i) ss)

-- a line that does not read
pub misprints : (i : ℕ) (ss : List (List ℕ)) → first_from (λ s. not (taken (read_line s))) i ss ≡ misprint_from i ss
misprints i [] = refl
misprints i (s ∷ ss) = by (taken (read_line s)) (misprints (suc i) ss)
  where
    by : (t : Bool) → first_from (λ s. not (taken (read_line s))) (suc i) ss ≡ misprint_from (suc i) ss
        → pick (not t) (Some i) (first_from (λ s. not (taken (read_line s))) (suc i) ss) ≡ pick t (misprint_from (suc i) ss) (Some i)
    by true e = e
    by false e = refl
