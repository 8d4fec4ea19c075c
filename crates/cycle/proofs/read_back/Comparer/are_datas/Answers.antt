-- Data bucket q is held against the cycle at its place in the segment.
use Rattle.std.proofs.Common.{rules, [], ◌+◌, ◌-◌}
use Rattle.cycle.specs.Inner.Held.{plan_in}
use Rattle.cycle.specs.Inner.Comparing.{Decides, MatchesAt, Matches}
use Rattle.cycle.specs.declared.Source.TheVariants.{Image as InImage}
use Rattle.cycle.proofs.Basics.RangeTests.{tells, decides_by_all}
use Rattle.cycle.proofs.ReadingBack.Matching.{matches_row, row_matches}
use Rattle.cycle.proofs.read_back.Comparer.are_datas.Goals as goal

pub returns : goal.returns
returns c =
    let v = c.args.self.now in
    let bytes = v.image.now in
    let t = plan_in v.part.cycle.now.f InImage bytes in
    let s = v.part.s in
    let row = v.comparing.placed [] in
    decides_by_all (λ q. MatchesAt t bytes (s.data_at + (q - s.first))) (λ q. MatchesAt t bytes (s.data_at + (q - s.first)) → ⊥)
    (Matches t bytes s.data_at s.end) c.all.ensures.ran
    (λ x b q k. let told : Decides (MatchesAt t bytes (s.data_at + (x - s.first))) b = search rules in (search rules, tells told))
    (matches_row row.ends row.first_last)
    (λ q low high not_here m. not_here ((row_matches row.ends row.first_last m).at q low high))
