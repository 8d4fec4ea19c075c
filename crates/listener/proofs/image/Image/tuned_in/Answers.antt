-- `listener::image::Image::tuned_in` meets its contract: its tests are 11 and 12.
-- Assumes nothing.
use Rattle.std.proofs.Common.{◌≡◌, ℕ, ◌/◌, ◌%◌, ◌≤◌, ◌<◌, true, false, length, refl, arith}
use Rattle.std.proofs.lemmas.Bool.Decides.{nat_tests}
use Rattle.std.proofs.lemmas.Bool.{lt-leb, le-leb}
use Rattle.cycle.specs.ReadingBack.{whole_buckets}
use Rattle.listener.specs.Lookup.{tune_in_conditions}
use Rattle.listener.proofs.image.Image.tuned_in.Goals as goal
use Rattle.listener.proofs.image.Image.tuned_in.Goals.{then-bytes-ne0-via-then-bytes-ne0, then-bytes-ne0-via-else-bytes-ne0+then-count-lt1, then-bytes-ne0-via-else-bytes-ne0+else-count-lt1+then-count-gt-BUCKETS_MOST}

uneven : (n : ℕ) → (n % 240 ≡ 0 → ⊥) → whole_buckets n ≡ false
unfolding whole_buckets
uneven n h = grind (arith, nat_tests)

none : (n : ℕ) → n % 240 ≡ 0 → n / 240 < 1 → whole_buckets n ≡ false
unfolding whole_buckets
none n e h = grind (arith, nat_tests)

too_many : (n : ℕ) → 99999 < n / 240 → whole_buckets n ≡ false
unfolding whole_buckets
too_many n h = grind (arith, nat_tests)

whole : (n : ℕ) → n % 240 ≡ 0 → 1 ≤ n / 240 → n / 240 ≤ 99999 → whole_buckets n ≡ true
unfolding whole_buckets
whole n e h k = grind (arith, nat_tests)

pub returns-then-bytes-ne0 : goal.returns-then-bytes-ne0
unfolding tune_in_conditions
returns-then-bytes-ne0 c =
    let n = length c.args.bytes.now in
    let w : whole_buckets n ≡ false = elim c.then-bytes-ne0.branch [
      | then-bytes-ne0-via-then-bytes-ne0 w ↦ uneven n w.if-bytes-ne0.true
      | then-bytes-ne0-via-else-bytes-ne0+then-count-lt1 w ↦ none n w.if-bytes-ne0.false w.if-count-lt1.true
      | then-bytes-ne0-via-else-bytes-ne0+else-count-lt1+then-count-gt-BUCKETS_MOST w ↦ too_many n w.if-count-gt-BUCKETS_MOST.true
    ] in
    rw (c.into.ensures, w)

pub returns-then-count-t : goal.returns-then-count-t
unfolding tune_in_conditions
returns-then-count-t c =
    let n = length c.args.bytes.now in
    rw (
      c.into-then-count-t.ensures,
      whole n c.if-bytes-ne0.false c.if-count-lt1.false c.if-count-gt-BUCKETS_MOST.false,
      le-leb (n / 240) c.args.t c.if-count-t.true,
    )

pub returns : goal.returns
unfolding tune_in_conditions
returns c =
    let n = length c.args.bytes.now in (
      rw (
        whole n c.if-bytes-ne0.false c.if-count-lt1.false c.if-count-gt-BUCKETS_MOST.false,
        lt-leb (n / 240) c.args.t c.if-count-t.false,
      ),
      refl,
      refl,
      c.if-count-t.false,
    )
