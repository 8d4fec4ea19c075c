-- A data bucket of the cycle keeps the rules, and every tag that a bucket prints is in range.
-- Assumes nothing.
use mathlib.Core.Path.{◌≡◌, refl, sym, ap, ◌∙◌}
use Prim.Native.Nat.{ℕ, zero, suc, ◌+◌, ◌-◌, ◌*◌, ◌≤◌, ◌<◌}
use native.Mathlib.Omega.{arith}
use mathlib.Core.Bool.{Bool, true, false}
use mathlib.Core.List.{List, [], ◌∷◌, ◌++◌}
use lib.Dec.{eqb}
use lib.ListN.{length, drop, length-append, length-take}
use Rattle.columns.specs.Lists.{pick, every, last_or}
use Rattle.columns.proofs.Strict.{both}
use Rattle.buckets.specs.declared.Line.{Line}
use Rattle.buckets.specs.ListLine.{tag_fits, fits}
use Rattle.buckets.specs.Bucket.{pair_tag_fits}
use Rattle.buckets.specs.Lengths.{tag_most, bucket_lines_most}
use Rattle.buckets.proofs.ListLines.{line_fits, small_tag}
use Rattle.buckets.proofs.Good.{GoodData}
use Rattle.buckets.proofs.ListParts.{every_take, every_drop}
use Rattle.cycle.specs.Tree.{Plan, data_under, lines_of, first_tag, last_tag, largest_tag}
use Rattle.cycle.specs.Layouts.{Slot, slots}
use Rattle.cycle.specs.Cycle.{is_data, follow_on_from, cycle_size}
use Rattle.cycle.specs.Inner.Held.{last_of}
use Rattle.cycle.proofs.Sequences.Sequence.{Keeps, data_count}
use Rattle.cycle.proofs.Sequences.Pieces.{count_append}
use Rattle.cycle.proofs.Lines.Rising.{last_from, tags_rising}
use Rattle.cycle.proofs.Lines.DataTags.{Filled, lines_of_lem, last_tag_lem, lines_rise, filled}
use Rattle.cycle.proofs.Building.Accepted.{Accepted, laid}

-- ---- tags in range

pub last_small : (m : ℕ) (ls : List Line) → m ≤ tag_most → every fits ls ≡ true → last_from m ls ≤ tag_most
last_small m [] h e = h
last_small m (l ∷ ls) h e =
    let told = both (fits l) (every fits ls) e in
    last_small l.tag ls (line_fits l told.0).small_tag told.1

module _ (t : Plan) (a : Accepted t) where
  pub bucket_lines_fit : (q : ℕ) → every fits (lines_of t q) ≡ true
  unfolding lines_of
  bucket_lines_fit q = every_take fits t.p (drop (q * t.p) t.lines) (every_drop fits (q * t.p) t.lines a.lines_fit)

  pub last_fits : (q : ℕ) → tag_fits (last_tag t q) ≡ true
  last_fits q = rw last_tag_lem (small_tag (last_from 0 (lines_of t q)) (last_small 0 (lines_of t q) (omega arith) (bucket_lines_fit q)))

  pub largest_fits : (i j : ℕ) → tag_fits (largest_tag t i j) ≡ true
  unfolding largest_tag
  largest_fits i j = last_fits (last_or 0 (data_under t i j))

  pub sent_fits : (s : ℕ) → pair_tag_fits (last_of t s) ≡ true
  sent_fits zero = refl
  sent_fits (suc s) = last_fits s

  -- ---- the lines of a data bucket

  pub some_lines : (q : ℕ) → q < t.d → 1 ≤ length (lines_of t q)
  some_lines q h = let f : Filled t q = filled t (laid t a) q h in rw f.is (omega arith)

  pub few_lines_lem : (q : ℕ) → length (lines_of t q) ≤ bucket_lines_most
  few_lines_lem q = rw (lines_of_lem, length-take) (omega (arith, a.p_high))

-- ---- the follow-on

-- it stays in this cycle
pub follow_near : (t : Plan) (last d : ℕ) (xs : List Slot) → 1 ≤ d → follow_on_from t last d xs < d + length xs
follow_near t last d [] h = omega arith
follow_near t last d (x ∷ xs) h = by (is_data t x) (eqb (first_tag t x.place) last) (follow_near t last (suc d) xs (omega arith))
  where
    by :
        (b c : Bool) → follow_on_from t last (suc d) xs < suc d + length xs →
        pick b (pick c d 0) (follow_on_from t last (suc d) xs) < d + suc (length xs)
    by true true k = omega arith
    by true false k = omega arith
    by false c k = omega arith

-- ---- a data bucket of the cycle

module _
    (t : Plan) (a : Accepted t) (before : List Slot) (x : Slot) (rest : List Slot) (splits : slots t ≡ before ++ (x ∷ rest))
    (data_here : is_data t x ≡ true)
  where
    pub data_below : x.place < t.d
    data_below =
        let k : Keeps t = (laid t a).keeps in
        let here : x.place ≡ data_count t before = k.in_order before x rest splits data_here in
        let count : data_count t (before ++ (x ∷ rest)) ≡ data_count t before + (1 + data_count t rest) =
        count_append t before (x ∷ rest) ∙ rw data_here in
        omega (arith, here, count, ap (data_count t) (sym splits) ∙ k.all_sent)

    pub good_data :
        GoodData (cycle_size t - length before) (follow_on_from t (last_tag t x.place) 1 rest) (lines_of t x.place)
    unfolding cycle_size
    good_data =
        let size : length (slots t) ≡ length before + suc (length rest) = ap length splits ∙ length-append before (x ∷ rest) in
        record {
          one_line = some_lines t a x.place data_below;
          few_lines_lem = few_lines_lem t a x.place;
          lines_fit = bucket_lines_fit t a x.place;
          in_order = tags_rising 0 (lines_of t x.place) (lines_rise t (laid t a) x.place);
          follow_on_near = omega (arith, size, follow_near t (last_tag t x.place) 1 rest (omega arith));
        }
