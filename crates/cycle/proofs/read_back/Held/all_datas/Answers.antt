-- The data buckets of a segment are held against the cycle's; those of the segments before it are those before its first.
use Rattle.std.proofs.Common.{◌≡◌, ℕ, [], sym, ap, ◌∙◌, rules}
use Rattle.cycle.specs.declared.read_back.Comparer.{Comparer}
use Rattle.cycle.specs.declared.Source.TheVariants.{Image as InImage}
use Rattle.cycle.specs.Inner.Held.{plan_of, plan_in}
use Rattle.cycle.specs.Inner.Comparing.{Decides, Matches, DataMatches, Comparing}
use Rattle.cycle.proofs.Basics.RangeTests.{decides_by_all}
use Rattle.cycle.proofs.Segmenting.SegmentData.{sent_by, sent_none}
use Rattle.cycle.proofs.Segmenting.SegmentLoops.{Goes, goes, goes_through}
use Rattle.cycle.proofs.ReadingBack.Matching.{datas_none, datas_to}
use Rattle.cycle.proofs.ReadingBack.Comparisons.{moved, all_sent, datas_within, datas_more}
use Rattle.cycle.proofs.read_back.Held.all_datas.Goals as goal

pub returns : goal.returns
returns c =
    let f = c.args.self.now.cycle.f in
    let ready = c.args.self.now.cycle.ready in
    let bytes = c.args.self.now.image.now in
    let t = plan_in f InImage bytes in
    let P = λ (x : ℕ). DataMatches t bytes 0 (sent_by (plan_of f []) x) in
    decides_by_all (Goes f P) (λ i. DataMatches t bytes 0 f.d → ⊥) (DataMatches t bytes 0 f.d) c.all.ensures.ran
    (λ x b q k.
    let v : Comparer = search rules in
    let told : ((v.part.cycle.now.f ≡ f) × (v.image.now ≡ bytes) × (v.part.s.number ≡ x))
    × Decides (Matches (plan_in v.part.cycle.now.f InImage v.image.now) v.image.now v.part.s.data_at v.part.s.end) b = search rules in
    let s = v.part.s in
    let w : Comparing f bytes s = moved told.0.0 told.0.1 (λ g a. Comparing g a s) v.comparing in
    let here : Decides (Matches t bytes s.data_at s.end) b =
    moved told.0.0 told.0.1 (λ g a. Decides (Matches (plan_in g InImage a) a s.data_at s.end) b) told.1 in (
      search rules,
      record {
        yes = λ e. goes s (w.placed, told.0.2) (λ d. datas_more f bytes s w d (here.yes e));
        no = λ e d. here.no e (datas_within f bytes s w d);
      },
    ))
    (λ each. datas_to (ap (sent_by (plan_of f [])) ready.size_is ∙ all_sent f ready)
    (goes_through ready c.segment_count.ensures (datas_to (sym (sent_none (plan_of f []))) datas_none) each))
    (λ i low high none d. none d)
