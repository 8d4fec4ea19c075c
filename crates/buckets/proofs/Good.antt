-- What a bucket that keeps the rules has: the test `good` as named facts, and back.
-- Assumes nothing.
use Prim.Native.Nat.{ℕ, ◌+◌, ◌<◌, ◌≤◌}
use mathlib.Core.Path.{◌≡◌}
use mathlib.Core.Bool.{true, ◌&&◌}
use mathlib.Core.List.{List, map}
use lib.Dec.{leb, ltb}
use lib.ListN.{length}
use borrow.Author.Tests.{leb-true, le-leb, ltb-true, lt-ltb}
use Rattle.columns.specs.Lists.{every}
use Rattle.columns.proofs.Strict.{both}
use Rattle.buckets.specs.declared.Line.{Line}
use Rattle.buckets.specs.ListLine.{tag_fits, fits}
use Rattle.buckets.specs.declared.Pair.{Pair}
use Rattle.buckets.specs.declared.Entry.{Entry}
use Rattle.buckets.specs.Bucket.{Body, index_body, data_body, Bucket, cycle_length, reaches, pair_tag_fits, pair_fits, entry_fits, later_printed, rising, body_good, good}
use Rattle.buckets.specs.Lengths.{pairs_most, entries_most, bucket_lines_most, buckets_most}

-- ---- a distance, an entry

pub record Reaches (n d : ℕ) : Type 0 where
  pub onward : 1 ≤ d
  pub near : d ≤ n

pub reach : (n d : ℕ) → reaches n d ≡ true → Reaches n d
unfolding reaches
reach n d h =
    let told = both (leb 1 d) (leb d n) h in
    record { onward = leb-true 1 d told.0; near = leb-true d n told.1 }

pub reached : (n d : ℕ) → Reaches n d → reaches n d ≡ true
unfolding reaches
reached n d h = rw (le-leb 1 d h.onward, le-leb d n h.near)

pub entry_fits_lem : (n : ℕ) (e : Entry) → entry_fits n e ≡ true → (tag_fits e.tag ≡ true) × Reaches n e.distance
unfolding entry_fits
entry_fits_lem n e h =
    let told = both (tag_fits e.tag) (reaches n e.distance) h in
    (told.0, reach n e.distance told.1)

pub fits_entry : (n : ℕ) (e : Entry) → tag_fits e.tag ≡ true → Reaches n e.distance → entry_fits n e ≡ true
unfolding entry_fits
fits_entry n e t d = rw (t, reached n e.distance d)

pub pair_fits_lem : (n : ℕ) (p : Pair) → pair_fits n p ≡ true → (pair_tag_fits p.tag ≡ true) × Reaches n p.distance
unfolding pair_fits
pair_fits_lem n p h =
    let told = both (pair_tag_fits p.tag) (reaches n p.distance) h in
    (told.0, reach n p.distance told.1)

pub fits_pair : (n : ℕ) (p : Pair) → pair_tag_fits p.tag ≡ true → Reaches n p.distance → pair_fits n p ≡ true
unfolding pair_fits
fits_pair n p t d = rw (t, reached n p.distance d)

-- ---- a body

pub record GoodIndex (c : ℕ) (ps : List Pair) (es : List Entry) : Type 0 where
  pub few_pairs_lem : length ps ≤ pairs_most
  pub few_entries_lem : length es ≤ entries_most
  pub pairs_fit : every (pair_fits c) ps ≡ true
  pub later_printed_lem : later_printed ps ≡ true
  pub entries_fit : every (entry_fits c) es ≡ true
  pub in_order : rising 0 (map (λ e. e.tag) es) ≡ true

pub record GoodData (c f : ℕ) (ls : List Line) : Type 0 where
  pub one_line : 1 ≤ length ls
  pub few_lines_lem : length ls ≤ bucket_lines_most
  pub lines_fit : every fits ls ≡ true
  pub in_order : rising 0 (map (λ l. l.tag) ls) ≡ true
  pub follow_on_near : f < c

abbrev pub GoodBody : ℕ → Body → Type 0
GoodBody c (index_body ps es) = GoodIndex c ps es
GoodBody c (data_body f ls) = GoodData c f ls

pub body_good_lem : (c : ℕ) (x : Body) → body_good c x ≡ true → GoodBody c x
body_good_lem c (index_body ps es) h =
    let order = rising 0 (map (λ (e : Entry). e.tag) es) in
    let entries = every (entry_fits c) es in
    let later = later_printed ps in
    let pairs = every (pair_fits c) ps in
    let first = both (leb (length ps) pairs_most) (leb (length es) entries_most && (pairs && (later && (entries && order)))) h in
    let second = both (leb (length es) entries_most) (pairs && (later && (entries && order))) first.1 in
    let third = both pairs (later && (entries && order)) second.1 in
    let fourth = both later (entries && order) third.1 in
    let fifth = both entries order fourth.1 in
    record {
      few_pairs_lem = leb-true (length ps) pairs_most first.0;
      few_entries_lem = leb-true (length es) entries_most second.0;
      pairs_fit = third.0;
      later_printed_lem = fourth.0;
      entries_fit = fifth.0;
      in_order = fifth.1;
    }
body_good_lem c (data_body f ls) h =
    let order = rising 0 (map (λ (l : Line). l.tag) ls) in
    let first = both (leb 1 (length ls)) (leb (length ls) bucket_lines_most && (every fits ls && (order && ltb f c))) h in
    let second = both (leb (length ls) bucket_lines_most) (every fits ls && (order && ltb f c)) first.1 in
    let third = both (every fits ls) (order && ltb f c) second.1 in
    let fourth = both order (ltb f c) third.1 in
    record {
      one_line = leb-true 1 (length ls) first.0;
      few_lines_lem = leb-true (length ls) bucket_lines_most second.0;
      lines_fit = third.0;
      in_order = fourth.0;
      follow_on_near = ltb-true f c fourth.1;
    }

pub good_body : (c : ℕ) (x : Body) → GoodBody c x → body_good c x ≡ true
good_body c (index_body ps es) h =
    rw (
      le-leb (length ps) pairs_most h.few_pairs_lem,
      le-leb (length es) entries_most h.few_entries_lem,
      h.pairs_fit,
      h.later_printed_lem,
      h.entries_fit,
      h.in_order,
    )
good_body c (data_body f ls) h =
    rw (
      le-leb 1 (length ls) h.one_line,
      le-leb (length ls) bucket_lines_most h.few_lines_lem,
      h.lines_fit,
      h.in_order,
      lt-ltb f c h.follow_on_near,
    )

-- ---- a bucket

pub record Good (b : Bucket) : Type 0 where
  pub short_cycle : b.position + b.to_cycle ≤ buckets_most
  pub cycle_onward : 1 ≤ b.to_cycle
  pub segment_reached : Reaches b.to_cycle b.to_segment
  pub good_rest : GoodBody b.to_cycle b.body

pub bucket_good : (b : Bucket) → good b ≡ true → Good b
unfolding good cycle_length
bucket_good b h =
    let n = b.position + b.to_cycle in
    let c = b.to_cycle in
    let rest = body_good c b.body in
    let first = both (leb n buckets_most) (leb 1 c && (reaches c b.to_segment && rest)) h in
    let second = both (leb 1 c) (reaches c b.to_segment && rest) first.1 in
    let third = both (reaches c b.to_segment) rest second.1 in
    record {
      short_cycle = leb-true n buckets_most first.0;
      cycle_onward = leb-true 1 c second.0;
      segment_reached = reach c b.to_segment third.0;
      good_rest = body_good_lem c b.body third.1;
    }

pub good_bucket : (b : Bucket) → Good b → good b ≡ true
unfolding good cycle_length
good_bucket b h =
    let n = b.position + b.to_cycle in
    rw (
      le-leb n buckets_most h.short_cycle,
      le-leb 1 b.to_cycle h.cycle_onward,
      reached b.to_cycle b.to_segment h.segment_reached,
      good_body b.to_cycle b.body h.good_rest,
    )
