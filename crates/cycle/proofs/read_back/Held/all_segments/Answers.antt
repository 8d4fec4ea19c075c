-- The buckets of a segment are held against the cycle's, and follow those of the segments before it.
use Rattle.std.proofs.Common.{◌≡◌, arith, rules}
use Rattle.cycle.specs.declared.read_back.Checker.{Checker}
use Rattle.cycle.specs.declared.Source.TheVariants.{Image as InImage}
use Rattle.cycle.specs.Inner.Held.{plan_in}
use Rattle.cycle.specs.Inner.Comparing.{Decides, Matches, Comparing}
use Rattle.cycle.proofs.Basics.RangeTests.{decides_by_all}
use Rattle.cycle.proofs.Segmenting.SegmentLoops.{Goes, goes, goes_through}
use Rattle.cycle.proofs.ReadingBack.Matching.{matches_none, matches_on, matches_part}
use Rattle.cycle.proofs.ReadingBack.Comparisons.{moved, seats}
use Rattle.cycle.proofs.read_back.Held.all_segments.Goals as goal

pub returns : goal.returns
returns c =
    let f = c.args.self.now.cycle.f in
    let bytes = c.args.self.now.image.now in
    let t = plan_in f InImage bytes in
    decides_by_all (Goes f (Matches t bytes 0)) (λ i. Matches t bytes 0 f.size → ⊥) (Matches t bytes 0 f.size) c.all.ensures.ran
    (λ x b q k.
    let v : Checker = search rules in
    let told : ((v.part.cycle.now.f ≡ f) × (v.image.now ≡ bytes) × (v.part.s.number ≡ x))
    × Decides (Matches (plan_in v.part.cycle.now.f InImage v.image.now) v.image.now v.part.s.start v.part.s.end) b = search rules in
    let s = v.part.s in
    let w : Comparing f bytes s = moved told.0.0 told.0.1 (λ g a. Comparing g a s) v.checking.comparing in
    let here : Decides (Matches t bytes s.start s.end) b =
    moved told.0.0 told.0.1 (λ g a. Decides (Matches (plan_in g InImage a) a s.start s.end) b) told.1 in
    let sits = seats f bytes s w in (
      search rules,
      record {
        yes = λ e. goes s (w.placed, told.0.2) (λ m. matches_on m (here.yes e));
        no = λ e m. here.no e (matches_part _ _ (omega arith) (omega (arith, sits)) m);
      },
    ))
    (λ each. goes_through c.args.self.now.cycle.ready c.segment_count.ensures (matches_none 0) each)
    (λ i low high none m. none m)
