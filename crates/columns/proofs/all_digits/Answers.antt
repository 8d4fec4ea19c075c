-- Assumes nothing.
use Rattle.std.proofs.Common.{◌≡◌, ℕ, Bool, List, [], ◌∷◌, refl, ap, ◌∙◌, ◌&&◌, rules}
use Rattle.std.specs.List.{list_all}
use Rattle.std.proofs.lemmas.Iterator.{YieldsList-from_slice}
use Rattle.std.proofs.lemmas.Iterator.Search.{all_from_yields_List}
use borrow.Author.Tests.{tests}
use Rattle.columns.specs.Lists.{every}
use Rattle.columns.specs.PrintedNumbers.{digit}
use Rattle.columns.proofs.all_digits.Goals as goal

every_all : (f : ℕ → Bool) (s : List ℕ) → list_all f s ≡ every f s
every_all f [] = refl
every_all f (c ∷ s) = ap (λ t. f c && t) (every_all f s)

pub returns : goal.returns
returns c =
    all_from_yields_List digit _ _ c.all.result c.all.ensures.ran (YieldsList-from_slice c.args.part.now cc) (λ x b q k. search (rules, tests))
    ∙ every_all digit c.args.part.now
