-- The first and the last tag of a data bucket, as tags of lines of the text.
-- Assumes nothing.
use mathlib.Core.Path.{◌≡◌, refl, sym, ap, ◌∙◌}
use Prim.Native.Nat.{ℕ, zero, suc, ◌+◌, ◌-◌, ◌*◌, ◌≤◌, ◌<◌, min}
use native.Mathlib.Nat.{add-zero, add-suc, suc-add, suc-mul}
use native.Mathlib.Numerals.{add-one}
use native.Mathlib.Omega.{arith}
use mathlib.Core.List.{List, [], ◌∷◌, map}
use lib.ListN.{take, drop}
use Rattle.columns.specs.Lists.{last_or, span}
use Rattle.buckets.specs.declared.Line.{Line}
use Rattle.buckets.specs.ListLine.{spelled}
use Rattle.cycle.specs.Tree.{lines_of, tags_of, first_tag, last_tag}
use Rattle.cycle.specs.declared.Figures.{Figures}
use Rattle.cycle.specs.declared.Source.{Source}
use Rattle.cycle.specs.Inner.Held.{plan_of, lines_held, tag_at, plan_in, line_at}

-- ---- parts of a row

pub drop_row : {A : Type 0} (g : ℕ → A) (a c m : ℕ) → drop m (map g (span a c)) ≡ map g (span (a + m) (c - m))
drop_row g a c zero = let e : c - 0 ≡ c = omega arith in rw (add-zero, e)
drop_row g a zero (suc m) = let e : 0 - suc m ≡ 0 = omega arith in rw e
drop_row g a (suc c) (suc m) =
    let e : suc c - suc m ≡ c - m = omega arith in rw (add-suc, ← suc-add, e) (drop_row g (suc a) c m)

pub take_row : {A : Type 0} (g : ℕ → A) (a c p : ℕ) → take p (map g (span a c)) ≡ map g (span a (min p c))
take_row g a c zero = let e : min 0 c ≡ 0 = omega arith in rw e
take_row g a zero (suc p) = let e : min (suc p) 0 ≡ 0 = omega arith in rw e
take_row g a (suc c) (suc p) =
    let e : min (suc p) (suc c) ≡ suc (min p c) = omega arith in rw e (ap (λ xs. g a ∷ xs) (take_row g (suc a) c p))

pub map_map : {A B C : Type 0} (g : B → C) (f : A → B) (xs : List A) → map g (map f xs) ≡ map (λ x. g (f x)) xs
map_map g f [] = refl
map_map g f (x ∷ xs) = ap (λ ys. g (f x) ∷ ys) (map_map g f xs)

pub last_row : (z : ℕ) (g : ℕ → ℕ) (a c : ℕ) → last_or z (map g (span a (suc c))) ≡ g (a + c)
last_row z g a zero = rw add-zero
last_row z g a (suc c) = last_row (g a) g (suc a) c ∙ ap g (suc-add a c ∙ sym (add-suc a c))

-- ---- tags

module _ (f : Figures) (source : Source) (text : List ℕ) where
  pub tags_row :
      (q : ℕ) → tags_of (plan_in f source text) q ≡ map (tag_at f source text) (span (q * f.p) (min f.p (f.lines - q * f.p)))
  unfolding tags_of lines_of plan_in plan_of lines_held tag_at spelled
  tags_row q =
      let line : ℕ → Line = λ i. spelled (drop (line_at (plan_of f []) source i) text) in
      let start : 0 + q * f.p ≡ q * f.p = omega arith in
      let none_cut : f.lines - 0 ≡ f.lines = omega arith in
      ap (map (λ l. l.tag))
      (ap (take f.p)
      (ap (λ c. drop (q * f.p) (map line (span 0 c))) none_cut ∙ drop_row line 0 f.lines (q * f.p) ∙ ap (λ a. map line (span a (f.lines - q * f.p))) start)
      ∙ take_row line (q * f.p) (f.lines - q * f.p) f.p)
      ∙ map_map (λ l. l.tag) line (span (q * f.p) (min f.p (f.lines - q * f.p)))

  module _ (q : ℕ) (some : 1 ≤ f.p) (inside : q * f.p < f.lines) where
    full : ℕ
    full = min f.p (f.lines - q * f.p) - 1

    one_more : min f.p (f.lines - q * f.p) ≡ suc full
    unfolding full
    one_more = omega arith

    pub first_tag_lem : first_tag (plan_in f source text) q ≡ tag_at f source text (q * f.p)
    unfolding first_tag
    first_tag_lem = rw (tags_row q, one_more)

    pub last_tag_lem : last_tag (plan_in f source text) q ≡ tag_at f source text (min f.lines ((q + 1) * f.p) - 1)
    unfolding last_tag full
    last_tag_lem =
        let e : (q + 1) * f.p ≡ q * f.p + f.p = rw (add-one q) (suc-mul q f.p) in
        let end : q * f.p + full ≡ min f.lines ((q + 1) * f.p) - 1 = omega arith in
        rw (tags_row q, one_more) (last_row 0 (tag_at f source text) (q * f.p) full ∙ ap (tag_at f source text) end)
