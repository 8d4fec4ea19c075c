-- The numbers of each call's answer tell it: answers with the same numbers are the same.
-- Assumes nothing.
use mathlib.Core.Path.{◌≡◌, ap}
use mathlib.Core.List.{List, ◌∷◌}
use Prim.Native.Nat.{ℕ}
use Rattle.std.specs.Prelude.{Result, Ok}
use Rattle.cycle.specs.Building as building
use Rattle.cycle.specs.ReadingBack as reading_back
use Rattle.cycle.specs.Judging as judging
use Rattle.cycle.specs.Size as sizing
use Rattle.cycle.specs.Changes as changes
use Rattle.cycle.specs.Waits as waits
use Rattle.cycle.specs.declared.Refusal.{Refusal}
use Rattle.cycle.specs.declared.Figures.{Figures}
use Rattle.cycle.specs.declared.Dimensions.{Dimensions}
use Rattle.cycle.specs.declared.Counts.{Counts}
use Rattle.cycle.specs.declared.WaitSum.{WaitSum}
use Rattle.cycle.proofs.Basics.Numbers.{answer_told}
use Rattle.cycle.specs.Tree.{layout_number}
use Rattle.cycle.proofs.Basics.LayoutKinds.{number_told}

pub built_told : (a b : Result ℕ Refusal) → building.numbers a ≡ building.numbers b → a ≡ b
built_told = answer_told _ (λ n m h. cc)

pub read_back_told : (a b : Result ℕ Refusal) → reading_back.numbers a ≡ reading_back.numbers b → a ≡ b
read_back_told = answer_told _ (λ n m h. cc)

pub judged_told : (a b : Result Figures Refusal) → judging.numbers a ≡ judging.numbers b → a ≡ b
judged_told = answer_told _ (λ x y h. figures_told x y (ap (λ (xs : List ℕ). 0 ∷ 0 ∷ xs) h))
  where
    figures_told :
        (f g : Figures) → judging.numbers (Ok f) ≡ judging.numbers (Ok g) → f ≡ g
    figures_told f g h =
        let n : f.n ≡ g.n = cc in
        let p : f.p ≡ g.p = cc in
        let layout : f.layout ≡ g.layout = number_told f.layout g.layout (let number : layout_number f.layout ≡ layout_number g.layout = cc in number) in
        let copies : f.copies ≡ g.copies = cc in
        let lines : f.lines ≡ g.lines = cc in
        let d : f.d ≡ g.d = cc in
        let k : f.k ≡ g.k = cc in
        let size : f.size ≡ g.size = cc in
        let span : f.span ≡ g.span = cc in
        let full : f.full ≡ g.full = cc in
        let last : f.last ≡ g.last = cc in
        λ i.
        record {
          n = n i;
          p = p i;
          layout = layout i;
          copies = copies i;
          lines = lines i;
          d = d i;
          k = k i;
          size = size i;
          span = span i;
          full = full i;
          last = last i;
        }

pub sized_told : (a b : Result Dimensions Refusal) → sizing.numbers a ≡ sizing.numbers b → a ≡ b
sized_told = answer_told _ (λ x y h. dimensions_told x y (ap (λ (xs : List ℕ). 0 ∷ 0 ∷ xs) h))
  where
    dimensions_told : (f g : Dimensions) → sizing.numbers (Ok f) ≡ sizing.numbers (Ok g) → f ≡ g
    dimensions_told f g h =
        let k : f.k ≡ g.k = cc in
        let d : f.d ≡ g.d = cc in
        let n : f.n ≡ g.n = cc in
        let bytes : f.bytes ≡ g.bytes = cc in
        let heard : f.heard ≡ g.heard = cc in
        λ i. record { k = k i; d = d i; n = n i; bytes = bytes i; heard = heard i }

pub changed_told : (a b : Result Counts Refusal) → changes.numbers a ≡ changes.numbers b → a ≡ b
changed_told = answer_told _ (λ x y h. counts_told x y (ap (λ (xs : List ℕ). 0 ∷ 0 ∷ xs) h))
  where
    counts_told : (x y : Counts) → changes.numbers (Ok x) ≡ changes.numbers (Ok y) → x ≡ y
    counts_told x y h =
        let lines : x.lines ≡ y.lines = cc in
        let d : x.d ≡ y.d = cc in
        let k : x.k ≡ y.k = cc in
        let n : x.n ≡ y.n = cc in
        λ i. record { lines = lines i; d = d i; k = k i; n = n i }

pub waited_told : (a b : Result WaitSum Refusal) → waits.numbers a ≡ waits.numbers b → a ≡ b
waited_told = answer_told _ (λ x y h. sums_told x y (ap (λ (xs : List ℕ). 0 ∷ 0 ∷ xs) h))
  where
    sums_told : (x y : WaitSum) → waits.numbers (Ok x) ≡ waits.numbers (Ok y) → x ≡ y
    sums_told x y h =
        let n : x.n ≡ y.n = cc in
        let tags : x.tags ≡ y.tags = cc in
        let sum : x.sum ≡ y.sum = cc in
        λ i. record { n = n i; tags = tags i; sum = sum i }
