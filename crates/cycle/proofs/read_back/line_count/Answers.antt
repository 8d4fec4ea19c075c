-- A bucket more, a data bucket or not; at the end the data buckets tell the number of lines.
use Rattle.std.proofs.Common.{◌≡◌, ℕ, List, sym, ap, ◌∙◌, ◌/◌, ◌<◌, length, length-append, arith, eq-eqb, ne_eqb}
use Rattle.columns.specs.Lists.{parts}
use Rattle.buckets.specs.Lengths.{letter_data, bucket_length}
use Rattle.cycle.specs.Inner.Comparing.{lines_by, counted_from, counted}
use Rattle.cycle.proofs.ReadingBack.LineCount.{counted_bucket, by_none, by_low, by_digit}
use Rattle.cycle.proofs.read_back.line_count.Goals as goal

-- the buckets of some columns, still to be counted
abbrev left : ℕ → ℕ → ℕ → List ℕ → ℕ
left p d last rest = counted_from p d last (parts (length rest / bucket_length) bucket_length rest)

opened : (image rest : List ℕ) (p : ℕ) → rest ≡ image → counted p image ≡ left p 0 48 rest
unfolding counted
opened image rest p e = ap (left p 0 48) (sym e)

-- fewer columns than a bucket's
ended : (p d last : ℕ) (rest : List ℕ) → length rest < bucket_length → left p d last rest ≡ lines_by p d last
ended p d last rest h = let none : length rest / bucket_length ≡ 0 = omega arith in rw none

pub loop-bucket-init : goal.loop-bucket-init
loop-bucket-init c =
    let it = c.into_iter-bucket-iterator.ensures.into_iter_gives in
    let rest = ap (λ (k : _). k.rest.now) it ∙ c.chunks_exact-bucket-items.ensures.rest in
    record {
      size = ap (λ (k : _). k.size) it ∙ c.chunks_exact-bucket-items.ensures.size;
      few = omega (arith, ap length rest);
      left = opened c.args.image.now _ c.args.p rest;
    }

pub loop-bucket-preserved-then-data : goal.loop-bucket-preserved-then-data
loop-bucket-preserved-then-data c =
    let l = c.loop-bucket in
    let rest = c.next.new.self.rest.now in
    let steps = c.in-Some.ensures.steps in
    let bucket = c.in-Some.bucket.now in
    let wide : length bucket ≡ bucket_length = steps.1.1 ∙ l.invariant.size in
    let next = counted_bucket c.args.p l.d l.last bucket rest wide ∙ rw (eq-eqb _ letter_data c.if-data.true) in
    record {
      size = steps.0 ∙ l.invariant.size;
      few = omega (arith, l.invariant.few, ap length steps.1.0 ∙ length-append bucket rest);
      left = l.invariant.left ∙ ap (left c.args.p l.d l.last) steps.1.0 ∙ next;
    }

pub loop-bucket-preserved : goal.loop-bucket-preserved
loop-bucket-preserved c =
    let l = c.loop-bucket in
    let rest = c.next.new.self.rest.now in
    let steps = c.in-Some.ensures.steps in
    let bucket = c.in-Some.bucket.now in
    let wide : length bucket ≡ bucket_length = steps.1.1 ∙ l.invariant.size in
    let next = counted_bucket c.args.p l.d l.last bucket rest wide ∙ rw (ne_eqb _ letter_data c.if-data.false) in
    record {
      size = steps.0 ∙ l.invariant.size;
      few = omega (arith, l.invariant.few, ap length steps.1.0 ∙ length-append bucket rest);
      left = l.invariant.left ∙ ap (left c.args.p l.d l.last) steps.1.0 ∙ next;
    }

pub returns-then-d-eq0 : goal.returns-then-d-eq0
returns-then-d-eq0 c =
    let l = c.loop-bucket in
    let short = c.in-None.ensures.steps.1.0 in
    sym (l.invariant.left ∙ ended c.args.p l.d l.last l.bucket-iterator.rest.now (omega (arith, short, l.invariant.size)) ∙ by_none _ _ _ c.if-d-eq0.true)

pub returns-then-last-lt48 : goal.returns-then-last-lt48
returns-then-last-lt48 c =
    let l = c.loop-bucket in
    let short = c.in-None.ensures.steps.1.0 in
    sym (l.invariant.left ∙ ended c.args.p l.d l.last l.bucket-iterator.rest.now (omega (arith, short, l.invariant.size)) ∙ by_low _ _ _ c.if-d-eq0.false c.if-last-lt48.true)

pub returns : goal.returns
returns c =
    let l = c.loop-bucket in
    let short = c.in-None.ensures.steps.1.0 in
    sym (l.invariant.left ∙ ended c.args.p l.d l.last l.bucket-iterator.rest.now (omega (arith, short, l.invariant.size)) ∙ by_digit _ _ _ c.if-d-eq0.false c.if-last-lt48.false)
