-- The path bucket at x is held against the cycle's.
use Rattle.std.proofs.Common.{◌≡◌, ◌+◌, ◌-◌, ◌≤◌, arith, rules}
use Rattle.std.proofs.lemmas.Iterator.{serves_from_Range}
use Rattle.cycle.specs.Inner.Held.{plan_in}
use Rattle.cycle.specs.Inner.Comparing.{Decides, MatchesAt, Matches}
use Rattle.cycle.specs.declared.Source.TheVariants.{Image as InImage}
use Rattle.cycle.proofs.Basics.RangeTests.{tells, decides_by_all}
use Rattle.cycle.proofs.Segmenting.SegmentParts.{path_size, path_layout, path_few}
use Rattle.cycle.proofs.read_back.Checker.is_path.Goals as goal

pub all-requires-clause-callable : goal.all-requires-clause-callable
all-requires-clause-callable c =
    let v = c.args.self.now in
    let f = v.part.cycle.now.f in
    let s = v.part.s in
    let w = v.checking.comparing in
    serves_from_Range (λ x q k. search rules)
    (λ x low high.
    let size : s.tree_at ≡ s.start + (f.copies + 1 - s.top) = path_size f s w.holding.ready w.placed in
    let level : s.top + (x - s.start) ≤ f.copies = omega arith in
    let here : x ≡ s.start + (s.top + (x - s.start) - s.top) = omega arith in
    let one = path_layout f s w.holding.ready w.placed (s.top + (x - s.start)) (omega arith) level in
    let few = path_few f s w.holding.ready w.placed one in
    search rules)

pub returns : goal.returns
returns c =
    let v = c.args.self.now in
    let bytes = v.image.now in
    let t = plan_in v.part.cycle.now.f InImage bytes in
    let s = v.part.s in
    decides_by_all (MatchesAt t bytes) (λ x. MatchesAt t bytes x → ⊥) (Matches t bytes s.start s.tree_at) c.all.ensures.ran
    (λ x b q k. let told : Decides (MatchesAt t bytes x) b = search rules in (search rules, tells told))
    (λ e. record { each = e.at })
    (λ x low high not_here m. not_here (m.each x low high))
