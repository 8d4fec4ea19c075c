-- The path stands before the tree, and the tree before the data buckets.
use Rattle.std.proofs.Common.{◌≡◌, ℕ, [], refl, sym, length, ◌+◌, arith, Option, None, Some}
use Rattle.std.specs.Option.{is_some}
use Rattle.cycle.specs.Judging.{tree_at}
use Rattle.cycle.specs.Inner.Held.{plan_of}
use Rattle.cycle.specs.Inner.Comparing.{Decides, Finds}
use Rattle.cycle.proofs.Basics.Deciding.{decides_yes, decides_no, decides_by}
use Rattle.cycle.proofs.Segmenting.TreePlaces.{own_tree}
use Rattle.cycle.proofs.ReadingBack.Matching.{matches_on, matches_part, matches_to}
use Rattle.cycle.proofs.ReadingBack.Comparisons.{seats, datas_within}
use Rattle.cycle.proofs.read_back.Checker.is_segment.Goals as goal

pub behind_subtree-requires : goal.behind_subtree-requires
behind_subtree-requires c =
    let v = c.args.self.now in
    own_tree v.part.cycle.now.f v.part.s v.checking.comparing.holding.ready v.checking.comparing.placed

finds_decides : {P : Type 0} (y : ℕ) (r : Option ℕ) → Finds P y r → Decides P (is_some r)
finds_decides y None told = decides_no told
finds_decides y (Some z) told = decides_yes told.0

pub returns-then-is_path : goal.returns-then-is_path
returns-then-is_path c =
    let v = c.args.self.now in
    let f = v.part.cycle.now.f in
    let s = v.part.s in
    let w = v.checking.comparing in
    let sits = seats f v.image.now s w in
    let end : s.tree_at + length (tree_at (plan_of f []) s.height s.root) ≡ s.data_at = sym (w.placed []).tree_length in
    rw c.is_some.ensures
    (decides_by
    (λ tree.
    matches_on (matches_on (c.if-is_path.ensures.yes refl) (matches_to end tree)) (datas_within f v.image.now s w v.checking.datas))
    (matches_part _ _ (omega (arith, sits)) (omega (arith, sits, end)))
    (finds_decides _ c.behind_subtree.result c.behind_subtree.ensures))

pub returns-else-is_path : goal.returns-else-is_path
returns-else-is_path c =
    let v = c.args.self.now in
    let sits = seats v.part.cycle.now.f v.image.now v.part.s v.checking.comparing in
    rw c.if-is_path.false (decides_no (λ whole. c.if-is_path.ensures.no refl (matches_part _ _ (omega arith) (omega (arith, sits)) whole)))
