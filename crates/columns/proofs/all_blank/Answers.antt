-- Assumes nothing.
use Rattle.std.proofs.Common.{◌≡◌, ℕ, Bool, true, ◌&&◌, eqb, List, [], ◌∷◌, sym, ◌∙◌, rules}
use Rattle.std.specs.List.{fold}
use Rattle.std.proofs.lemmas.Iterator.{YieldsList-from_slice}
use Rattle.std.proofs.lemmas.Iterator.Consumers.{fold_from_yields_List}
use borrow.Author.Tests.{tests}
use Rattle.columns.specs.Lists.{every}
use Rattle.columns.specs.PrintedNumbers.{all_blank}
use Rattle.columns.proofs.Strict.{and_true, and_assoc}
use Rattle.columns.proofs.all_blank.Goals as goal

-- what is told of the columns before s and of s
every_fold : (f : ℕ → Bool) (b : Bool) (s : List ℕ) → fold (λ a c. a && f c) b s ≡ b && every f s
every_fold f b [] = sym (and_true b)
every_fold f b (c ∷ s) = every_fold f (b && f c) s ∙ sym (and_assoc b (f c) (every f s))

pub returns : goal.returns
unfolding all_blank
returns c =
    fold_from_yields_List _ (λ a b. a && eqb b 32) true c.fold.result c.fold.ensures.ran (YieldsList-from_slice c.args.part.now cc) (λ a x b q k. search (rules, tests))
    ∙ every_fold (λ b. eqb b 32) true c.args.part.now
