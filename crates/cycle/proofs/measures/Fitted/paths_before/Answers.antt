-- Each level of the paths has as many buckets as the level below it has groups of n.
use Rattle.std.proofs.Common.{◌≡◌, [], ℕ, suc, sym, ap, ◌∙◌, ◌+◌, ◌-◌, ◌*◌, ◌≤◌, ◌<◌, arith}
use Rattle.std.proofs.Math.Nat.{add-zero, add_assoc, mul-le-mul_left}
use Rattle.columns.specs.Lists.{up}
use Rattle.buckets.specs.Lengths.{lines_most}
use Rattle.cycle.specs.Inner.Held.{plan_of}
use Rattle.cycle.proofs.Trees.TreeLaws.{up_least}
use Rattle.cycle.proofs.Trees.Readiness.{path_facts}
use Rattle.cycle.proofs.Sequences.PathSizes.{climbs, length_paths}
use Rattle.cycle.proofs.measures.Fitted.paths_before.Goals as goal

-- the lowest level, and those above it
climb_one : (n r b : ℕ) → 0 < r → climbs n r b ≡ b + climbs n (r - 1) (up b n)
climb_one n r b some = let more : r ≡ suc (r - 1) = omega arith in ap (λ y. climbs n y b) more

-- one level more
climb_added :
    (n total left sum x y : ℕ) → 0 < left → x ≡ y → total ≡ sum + climbs n left y →
    total ≡ (sum + x) + climbs n (left - 1) (up x n)
climb_added n total left sum x y l e rest =
    rest
    ∙ ap (λ z. sum + climbs n left z) (sym e)
    ∙ ap (λ z. sum + z) (climb_one n left x l)
    ∙ sym (add_assoc sum x (climbs n (left - 1) (up x n)))

pub returns-then-f-eq0 : goal.returns-then-f-eq0
unfolding plan_of
returns-then-f-eq0 c =
    let f = c.args.self.now.f.now in
    let none : f.copies ≡ 0 = omega arith in
    sym (length_paths (plan_of f []) (omega (arith, c.args.self.now.shaped.n_low)) c.args.b ∙ ap (λ r. climbs f.n r c.args.b) none)

pub loop-init : goal.loop-init
unfolding plan_of
loop-init c =
    let f = c.args.self.now.f.now in
    let few = (path_facts (plan_of f []) c.args.self.now.copies_in c.requires.0).0 in
    record { rest = climb_one f.n f.copies c.args.b (omega arith); few = omega arith; small = omega (arith, few) }

pub up-count-requires : goal.up-count-requires
up-count-requires c = (omega (arith, c.args.self.now.shaped.n_low), omega (arith, c.args.self.now.shaped.n_high, c.loop.invariant.few))

-- what `up` gave is no more than there were
counted : (c : goal.After-up-count) → c.up-count.result ≤ lines_most
counted c =
    let n : ℕ = c.args.self.now.f.now.n in
    let pos : 0 < n = omega (arith, c.args.self.now.shaped.n_low) in
    let much : c.loop.count * 1 ≤ c.loop.count * n = mul-le-mul_left c.loop.count pos in
    let least = up_least c.loop.count n c.loop.count pos (omega arith) in
    omega (arith, c.up-count.ensures, c.loop.invariant.few)

pub overflow_add-sum : goal.overflow_add-sum
overflow_add-sum c = omega (arith, counted c, c.loop.invariant.small)

pub loop-preserved : goal.loop-preserved
loop-preserved c =
    let f = c.args.self.now.f.now in
    let l = c.loop in
    let left : f.copies - l.counter - 1 ≡ f.copies - (l.counter + 1) = omega arith in
    let next =
    climb_added f.n (climbs f.n f.copies c.args.b) (f.copies - l.counter) l.sum c.up-count.result (up l.count f.n) (omega arith)
    c.up-count.ensures l.invariant.rest in
    record { rest = rw left at next; few = counted c; small = omega (arith, counted c, l.invariant.small) }

pub returns : goal.returns
unfolding plan_of
returns c =
    let f = c.args.self.now.f.now in
    let none : f.copies - c.loop.counter ≡ 0 = omega arith in
    let all : climbs f.n f.copies c.args.b ≡ c.loop.sum + 0 = c.loop.invariant.rest ∙ rw none in
    sym (length_paths (plan_of f []) (omega (arith, c.args.self.now.shaped.n_low)) c.args.b ∙ all ∙ add-zero c.loop.sum)
