-- The limit on heard buckets that sizing gives is demand 3's: a tag lies in no more than D data buckets.
-- Assumes nothing.
use mathlib.Core.Path.{sym, ap₂, ◌∙◌}
use Prim.Native.Nat.{ℕ, ◌+◌, ◌≤◌}
use native.Mathlib.Nat.{min-eq_left}
use native.Mathlib.Omega.{arith}
use mathlib.Core.Bool.{Bool, true, false}
use mathlib.Core.List.{List, [], ◌∷◌}
use lib.ListN.{length}
use lib.Dec.{eqb}
use Rattle.columns.specs.Lists.{pick, any, parts, up}
use Rattle.columns.proofs.Joined.{length_parts}
use Rattle.buckets.specs.declared.Line.{Line}
use Rattle.buckets.specs.ListLine.{list_lines}
use Rattle.cycle.specs.Tree.{data_buckets, plan}
use Rattle.cycle.specs.declared.Settings.{Settings}
use Rattle.cycle.specs.Size.{heard_most}
use Rattle.cycle.proofs.Building.SizeAgrees.{every_size, heard_given}
use Rattle.listener.specs.Hearing.{count_if, runs_with}
use Rattle.listener.specs.Demand3.{heard_limit}
use Rattle.listener.specs.HeardLimit.{EveryLimit}

-- no more of them pass than there are
count_most_lem : {A : Type 0} (f : A → Bool) (xs : List A) → count_if f xs ≤ length xs
count_most_lem f [] = omega arith
count_most_lem f (x ∷ xs) = go (f x) (count_most_lem f xs)
  where
    go : (b : Bool) → count_if f xs ≤ length xs → pick b 1 0 + count_if f xs ≤ length (x ∷ xs)
    go true h = omega arith
    go false h = omega arith

-- C is at most D
runs_most : (s : Settings) (tag : ℕ) (ls : List Line) → runs_with s.p tag ls ≤ (plan s ls).d
unfolding runs_with plan data_buckets
runs_most s tag ls =
    let cut : List (List Line) = parts (up (length ls) s.p) s.p ls in
    omega (arith, count_most_lem (any (λ l. eqb l.tag tag)) cut, length_parts (up (length ls) s.p) s.p ls)

pub every_limit : EveryLimit
unfolding heard_limit
every_limit s lines c f h list l tag e =
    let agrees = every_size s lines c list 0 l in
    let few : c ≤ f.d = omega (arith, e, agrees.data_agree f h, runs_most s tag (list_lines list)) in
    ap₂ heard_most (agrees.levels_agree f h) (e ∙ sym (min-eq_left few)) ∙ sym (heard_given s lines c f h)
