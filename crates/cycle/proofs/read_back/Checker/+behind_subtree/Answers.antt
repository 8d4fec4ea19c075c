-- A subtree stands where its bucket stands and then each child's subtree, one behind the other.
use Rattle.std.proofs.Common.{refl, sym, arith}
use Rattle.cycle.proofs.Segmenting.Subtrees.{own_there, alone, first_fits, none_behind, child_place, child_fits, child_inside, next_behind, all_behind}
use Rattle.cycle.proofs.ReadingBack.Matching.{matches_one, matches_on, matches_at, matches_part, matches_to}
use Rattle.cycle.proofs.read_back.Checker.+behind_subtree.Goals as goal

pub returns-then-not-is_tree_bucket : goal.returns-then-not-is_tree_bucket
returns-then-not-is_tree_bucket t c =
    let w = c.args.self.now.checking.comparing in
    let there = own_there w.holding.ready w.placed c.requires in
    λ whole. c.if-not-is_tree_bucket.ensures.no refl (matches_at c.args.x (omega arith) there.0 whole)

pub overflow_add-next : goal.overflow_add-next
overflow_add-next t c =
    let w = c.args.self.now.checking.comparing in
    omega (arith, own_there w.holding.ready w.placed c.requires)

pub returns-then-e-eq1 : goal.returns-then-e-eq1
returns-then-e-eq1 t c =
    let w = c.args.self.now.checking.comparing in
    let end = alone w.holding.ready w.placed c.requires c.if-e-eq1.true in
    (matches_to end (matches_one (c.if-not-is_tree_bucket.ensures.yes refl)), end)

pub overflow_mul-first : goal.overflow_mul-first
overflow_mul-first t c =
    let w = c.args.self.now.checking.comparing in
    first_fits w.holding.ready w.placed c.requires

pub loop-i-init : goal.loop-i-init
loop-i-init t c =
    let w = c.args.self.now.checking.comparing in
    (none_behind w.holding.ready w.placed c.requires c.child_count-count.ensures, matches_one (c.if-not-is_tree_bucket.ensures.yes refl))

pub overflow_add-first : goal.overflow_add-first
overflow_add-first t c =
    let w = c.args.self.now.checking.comparing in
    child_fits w.holding.ready w.placed c.requires c.child_count-count.ensures c.loop-i.invariant.0 c.if-e-eq1.false c.loop-i-test.true

pub behind_subtree-requires : goal.behind_subtree-requires
behind_subtree-requires t c =
    let w = c.args.self.now.checking.comparing in
    let place =
    child_place w.holding.ready w.placed c.requires c.child_count-count.ensures c.loop-i.invariant.0 c.if-e-eq1.false
    c.loop-i-test.true in
    (omega (arith, c.requires.low), place)

pub returns-in_err-next : goal.returns-in_err-next
returns-in_err-next t c =
    let w = c.args.self.now.checking.comparing in
    let fits =
    child_inside w.holding.ready w.placed c.requires c.child_count-count.ensures c.loop-i.invariant.0 c.if-e-eq1.false
    c.loop-i-test.true in
    rw c.from_residual.ensures (λ whole. c.in_err-next.ensures (matches_part _ _ (omega (arith, c.loop-i.invariant.0)) fits whole))

pub loop-i-preserved : goal.loop-i-preserved
loop-i-preserved t c =
    let w = c.args.self.now.checking.comparing in
    let told = c.in_ok-next.ensures in (
      next_behind w.holding.ready w.placed c.requires c.child_count-count.ensures c.loop-i.invariant.0 c.loop-i-test.true told.1,
      matches_to (sym told.1) (matches_on c.loop-i.invariant.1 told.0),
    )

pub returns : goal.returns
returns t c =
    let w = c.args.self.now.checking.comparing in
    let end = all_behind w.holding.ready w.placed c.requires c.child_count-count.ensures c.loop-i.invariant.0 c.loop-i-test.false in
    (matches_to end c.loop-i.invariant.1, end)
