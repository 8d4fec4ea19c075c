-- An index bucket of the cycle keeps the rules: its control pairs and entries are few, in range and in order, and no distance
-- exceeds that to the next cycle's start.
-- Assumes nothing.
use mathlib.Core.Path.{◌≡◌, refl, subst, ◌∙◌}
use Prim.Native.Nat.{ℕ, zero, suc, ◌+◌, ◌-◌, ◌*◌, ◌≤◌, ◌<◌, min}
use native.Mathlib.Decide.{ℕ_discrete}
use native.Mathlib.Omega.{arith}
use mathlib.Core.Bool.{Bool, true, false}
use mathlib.Core.List.{List, [], ◌∷◌, ◌++◌, map}
use lib.ListN.{length, length-map}
use borrow.Author.Tests.{leb-true, le-leb, eqb-true, eq-eqb, ne_eqb}
use Rattle.columns.specs.Lists.{pick, every, span, range}
use Rattle.buckets.specs.declared.Pair.{Pair}
use Rattle.buckets.specs.declared.Entry.{Entry}
use Rattle.buckets.specs.Bucket.{printed_tag, pair_fits, entry_fits, rising}
use Rattle.buckets.specs.Lengths.{pairs_most, entries_most}
use Rattle.buckets.proofs.Good.{Reaches, fits_entry, fits_pair, GoodIndex}
use Rattle.cycle.specs.Tree.{Plan, above, width, children}
use Rattle.cycle.specs.Layouts.{Slot, slots}
use Rattle.cycle.specs.Cycle.{occurs, to_next, is_data, has_pairs, first_pair, later_pair, pairs, entry, entries}
use Rattle.cycle.specs.Inner.Held.{last_of}
use Rattle.cycle.proofs.Basics.Ranges.{length_span}
use Rattle.cycle.proofs.Trees.TreeLaws.{length_children}
use Rattle.cycle.proofs.Reach.Distances.{distance_reaches}
use Rattle.cycle.proofs.Lines.DataTags.{largest_mono}
use Rattle.cycle.proofs.Building.Accepted.{Accepted, laid}
use Rattle.cycle.proofs.Buckets.DataGood.{largest_fits, sent_fits}

-- ---- over numbers in a row

pub every_map :
    {B : Type 0} (f : B → Bool) (g : ℕ → B) (a m : ℕ) → ((c : ℕ) → a ≤ c → c < a + m → f (g c) ≡ true) →
    every f (map g (span a m)) ≡ true
every_map f g a zero h = refl
every_map f g a (suc m) h =
    rw (h a (omega arith) (omega arith)) (every_map f g (suc a) m (λ c u v. h c (omega arith) (omega arith)))

pub rising_map :
    (g : ℕ → Entry) (low a m : ℕ) → (0 < m → low ≤ (g a).tag) → ((c : ℕ) → a ≤ c → suc c < a + m → (g c).tag ≤ (g (suc c)).tag) →
    rising low (map (λ e. e.tag) (map g (span a m))) ≡ true
rising_map g low a zero first h = refl
rising_map g low a (suc m) first h =
    rw (le-leb low (g a).tag (first (omega arith)))
    (rising_map g (g a).tag (suc a) m (λ u. h a (omega arith) (omega arith)) (λ c u v. h c (omega arith) (omega arith)))

-- ---- an index bucket of the cycle

module _
    (t : Plan) (a : Accepted t) (before : List Slot) (x : Slot) (rest : List Slot) (splits : slots t ≡ before ++ (x ∷ rest))
    (index_here : is_data t x ≡ false)
  where
    pos : 0 < t.n
    pos = omega (arith, a.sound.grows)

    low : 1 ≤ x.level
    low = ((laid t a).keeps.each before x rest splits index_here).low

    high : x.level ≤ t.k
    high = ((laid t a).keeps.each before x rest splits index_here).high

    -- the distance to the next cycle's start
    abbrev to_start : ℕ
    to_start = suc (length rest)

    pub next_reached : (i j : ℕ) → Reaches to_start (to_next rest i j)
    unfolding to_next
    next_reached i j = distance_reaches (occurs i j) rest

    -- ---- entries

    pub few_entries_lem : length (entries t rest x) ≤ entries_most
    unfolding entries
    few_entries_lem =
        rw (length-map (children t x.level x.place) (entry t rest (x.level + 1)), length_children t pos x.level x.place)
        (omega (arith, a.n_high))

    child_level_lem : suc x.level ≡ x.level + 1
    child_level_lem = omega arith

    child_width : (c : ℕ) → c < width t (suc x.level) → c < width t (x.level + 1)
    child_width c h = subst (λ i. c < width t i) child_level_lem h

    pub entries_fit : every (entry_fits to_start) (entries t rest x) ≡ true
    unfolding entries entry children
    entries_fit =
        let first : ℕ = x.place * t.n in
        let end : ℕ = min (first + t.n) (width t (suc x.level)) in
        every_map (entry_fits to_start) (entry t rest (x.level + 1)) first (end - first)
        (λ c u v.
        fits_entry to_start (entry t rest (x.level + 1) c) (largest_fits t a (x.level + 1) c) (next_reached (x.level + 1) c))

    pub entries_rise : rising 0 (map (λ e. e.tag) (entries t rest x)) ≡ true
    unfolding entries entry children
    entries_rise =
        let first : ℕ = x.place * t.n in
        let end : ℕ = min (first + t.n) (width t (suc x.level)) in
        rising_map (entry t rest (x.level + 1)) 0 first (end - first) (λ u. omega arith)
        (λ c u v.
        largest_mono t (laid t a) (x.level + 1) c (suc c) (omega (arith, high)) (omega arith) (child_width (suc c) (omega arith)))

    -- ---- control pairs

    pub pairs_level : has_pairs t x ≡ true → x.level ≤ pairs_most
    unfolding has_pairs
    pairs_level h =
        elim (ℕ_discrete t.layout 1) [
          | yes e ↦
              let l : x.level ≤ t.copies = leb-true x.level t.copies (rw (eq-eqb t.layout 1 e) at h) in
              omega (arith, a.few_paths e)
          | no f ↦ let l : x.level ≡ 1 = eqb-true x.level 1 (rw (ne_eqb t.layout 1 f) at h) in omega arith
        ]

    pub later_fit : every (pair_fits to_start) (map (later_pair t rest x) (range 2 (x.level + 1))) ≡ true
    unfolding later_pair
    later_fit =
        every_map (pair_fits to_start) (later_pair t rest x) 2 (x.level + 1 - 2)
        (λ j u v.
        fits_pair to_start (later_pair t rest x j) (largest_fits t a j (above t.n (x.level - j) x.place))
        (next_reached (j - 1) (above t.n (x.level - (j - 1)) x.place)))

    pub later_printed_lem : every (λ q. printed_tag q.tag) (map (later_pair t rest x) (range 2 (x.level + 1))) ≡ true
    unfolding later_pair
    later_printed_lem = every_map (λ (q : Pair). printed_tag q.tag) (later_pair t rest x) 2 (x.level + 1 - 2) (λ j u v. refl)

    pub first_fits :
        (s to_cycle : ℕ) → Reaches to_start to_cycle → pair_fits to_start (first_pair (last_of t s) to_cycle) ≡ true
    unfolding first_pair
    first_fits s to_cycle r = fits_pair to_start (first_pair (last_of t s) to_cycle) (sent_fits t a s) r

    pub later_few : length (map (later_pair t rest x) (range 2 (x.level + 1))) ≡ x.level + 1 - 2
    later_few = length-map (range 2 (x.level + 1)) (later_pair t rest x) ∙ length_span 2 (x.level + 1 - 2)

    -- ---- together

    pub good_index :
        (s to_cycle : ℕ) → Reaches to_start to_cycle →
        GoodIndex to_start (pairs t rest (last_of t s) to_cycle x) (entries t rest x)
    unfolding pairs
    good_index s to_cycle r = by (has_pairs t x) refl
      where
        later : List Pair
        later = map (later_pair t rest x) (range 2 (x.level + 1))

        by :
            (b : Bool) → has_pairs t x ≡ b →
            GoodIndex to_start (pick b (first_pair (last_of t s) to_cycle ∷ later) []) (entries t rest x)
        by true e =
            record {
              few_pairs_lem = omega (arith, later_few, pairs_level e);
              few_entries_lem = few_entries_lem;
              pairs_fit = rw (first_fits s to_cycle r) later_fit;
              later_printed_lem = later_printed_lem;
              entries_fit = entries_fit;
              in_order = entries_rise;
            }
        by false e =
            record {
              few_pairs_lem = omega arith;
              few_entries_lem = few_entries_lem;
              pairs_fit = refl;
              later_printed_lem = refl;
              entries_fit = entries_fit;
              in_order = entries_rise;
            }
