-- An image that matches the cycle of the lines read off it is built by the list of those lines.
-- Assumes nothing.
use mathlib.Core.Path.{◌≡◌, refl, sym, ap, ◌∙◌, subst}
use Prim.Native.Nat.{ℕ, zero, suc, ◌+◌, ◌*◌, ◌/◌, ◌%◌, ◌≤◌, ◌<◌}
use native.Mathlib.Nat.{mul_comm, mul-div_cancel, mul-mod_left}
use native.Mathlib.Omega.{arith}
use mathlib.Core.Bool.{Bool, true, ◌&&◌}
use Rattle.std.specs.Prelude.{None}
use mathlib.Core.List.{List, [], ◌∷◌, ◌++◌, map}
use lib.Dec.{lit<, eqb, leb}
use lib.ListN
use lib.ListN.{length, drop, length-map}
use lib.Seq.{ext_get_or, take_all}
use borrow.Author.Tests.{eq-eqb, le-leb}
use Rattle.columns.specs.Lists.{joined, every, parts, span, up}
use Rattle.columns.proofs.Joined.{length_parts, parts_at, joined_parts, map_at, every_append}
use Rattle.buckets.specs.declared.Line.{Line}
use Rattle.buckets.specs.ListLine.{fits, print_line, list_lines, whole_lines, fall_from}
use Rattle.buckets.specs.Bucket.{Bucket, print_bucket, good}
use Rattle.buckets.specs.Lengths.{line_length, lines_most, bucket_length}
use Rattle.buckets.proofs.Good.{GoodData, bucket_good}
use Rattle.buckets.proofs.Buckets.{print_of_read_bucket}
use Rattle.buckets.proofs.Lists.{length_printed, lines_of_printed, none_misprinted_of_printed, rising_none_falls}
use Rattle.cycle.specs.Tree.{Plan, plan, lines_of, last_tag, first_tag}
use Rattle.cycle.specs.declared.Settings.{Settings}
use Rattle.cycle.specs.Cycle.{follow_on_from, buckets, cycle_size, image, bucket_at}
use Rattle.cycle.specs.Building.{copies_fit, settings_fit}
use Rattle.cycle.specs.ReadingBack.{Builds}
use Rattle.std.specs.Prelude.{Ok}
use Rattle.cycle.specs.declared.Figures.{Figures}
use Rattle.cycle.specs.declared.Source.TheVariants.{Image as InImage}
use Rattle.cycle.specs.Cycle.{first_place}
use Rattle.cycle.specs.Inner.Held.{plan_of, Ready, lines_held, plan_in, cycle_bucket, no_bucket}
use Rattle.cycle.specs.Inner.Comparing.{RisesAt, Matches, DataMatches}
use Rattle.cycle.proofs.Trees.TreeLaws.{up_covers, up_lt}
use Rattle.cycle.proofs.Sequences.Sequence.{Sound}
use Rattle.cycle.proofs.Lines.Rising.{Rising, last_from, rising_tags, tags_rising}
use Rattle.cycle.proofs.Sequences.Keeping.{keeps}
use Rattle.cycle.proofs.Segmenting.Positions.{data_at_lem}
use Rattle.cycle.proofs.Segmenting.Positions.{length_buckets}
use Rattle.cycle.proofs.Lines.DataTags.{Filled, filled_by, rest_from, lines_of_lem, last_tag_lem}
use Rattle.cycle.proofs.Building.Accepted.{Ranged, Accepted, ranged_sound, ranged_accepted}
use Rattle.cycle.proofs.Building.AcceptedPlans.{copies_shape, shaped_ranged}
use Rattle.cycle.proofs.Building.Outcomes.{builds_cycle}
use Rattle.cycle.proofs.Lines.CarriedLines.{lines_joined}
use Rattle.cycle.proofs.ReadingBack.ImageLines.{data_placed, length_held}
use Rattle.cycle.specs.Inner.Settings.{Figured}
use Rattle.cycle.proofs.ReadingBack.HeldImage.{at_below}
use Rattle.cycle.proofs.Building.PlanFigures.{plan_same}
use Rattle.cycle.proofs.Building.AcceptedLists.{size_shape}
use Rattle.cycle.proofs.Trees.Readiness.{sound}
use Rattle.cycle.proofs.ReadingBack.Matching.{matches_to}

-- ---- parts in order

pub every_joined :
    {A : Type 0} (ok : A → Bool) (g : ℕ → List A) (a c : ℕ) → ((q : ℕ) → a ≤ q → q < a + c → every ok (g q) ≡ true) →
    every ok (joined g (span a c)) ≡ true
every_joined ok g a zero h = refl
every_joined ok g a (suc c) h =
    every_append ok (g a) (joined g (span (suc a) c))
    ∙ rw (h a (omega arith) (omega arith)) (every_joined ok g (suc a) c (λ q low high. h q (omega arith) (omega arith)))

pub rising_append : (m : ℕ) (xs ys : List Line) → Rising m xs → Rising (last_from m xs) ys → Rising m (xs ++ ys)
rising_append m [] ys r s = s
rising_append m (x ∷ xs) ys r s = (r.0, rising_append x.tag xs ys r.1 s)

-- ---- the plan read off the image

module _ (t : Plan) (sound : Sound t) (image_is : List ℕ) where
  -- data buckets are buckets
  pub whole_datas : Matches t image_is 0 (cycle_size t) → DataMatches t image_is 0 t.d
  whole_datas whole =
      record {
        each = λ q low high.
            whole.each (first_place t (t.k + 1) q) (omega arith) (at_below (data_placed t (keeps t sound) q high));
      }

  -- the image is that of the plan
  pub image_same : Matches t image_is 0 (cycle_size t) → length image_is ≡ bucket_length * cycle_size t → image t ≡ image_is
  unfolding image bucket_at cycle_bucket
  image_same whole long =
      let n : ℕ = cycle_size t in
      let all : ListN.take (n * bucket_length) image_is ≡ image_is = take_all (n * bucket_length) image_is (omega (arith, long, mul_comm n bucket_length)) in
      let cut : parts n bucket_length image_is ≡ map print_bucket (buckets t) =
      ext_get_or [] (parts n bucket_length image_is) (map print_bucket (buckets t))
      (length_parts n bucket_length image_is ∙ sym (length-map (buckets t) print_bucket ∙ length_buckets t))
      (λ x h.
      let below : x < n = omega (arith, length_parts n bucket_length image_is) in
      parts_at n bucket_length image_is [] x below
      ∙ ap (λ k. ListN.take bucket_length (drop k image_is)) (mul_comm x bucket_length)
      ∙ (print_of_read_bucket (bucket_at image_is x) (whole.each x (omega arith) below).reads).0
      ∙ sym (map_at print_bucket (buckets t) x no_bucket [] (omega (arith, length_buckets t)))) in
      sym (joined_map (buckets t)) ∙ (ap (joined (λ p. p)) (sym cut) ∙ (joined_parts n bucket_length image_is ∙ all))
    where
      joined_map : (bs : List Bucket) → joined (λ p. p) (map print_bucket bs) ≡ joined print_bucket bs
      joined_map [] = refl
      joined_map (b ∷ bs) = ap (λ s. print_bucket b ++ s) (joined_map bs)

module _ (t : Plan) (sound : Sound t) (image_is : List ℕ) (datas : DataMatches t image_is 0 t.d) where
  pub bytes_are :
      (q : ℕ) → q < t.d →
      (bucket_at image_is (first_place t (t.k + 1) q) ≡ print_bucket (cycle_bucket t (first_place t (t.k + 1) q)))
      × (good (cycle_bucket t (first_place t (t.k + 1) q)) ≡ true)
  bytes_are q h =
      let told = print_of_read_bucket (bucket_at image_is (first_place t (t.k + 1) q)) (datas.each q (omega arith) h).reads in
      (told.0, told.1)

  -- the lines of a data bucket keep its rules
  pub data_good : (q : ℕ) → q < t.d → (every fits (lines_of t q) ≡ true) × Rising 0 (lines_of t q)
  data_good q h =
      let there = data_placed t (keeps t sound) q h in
      let b : Bucket = cycle_bucket t (first_place t (t.k + 1) q) in
      let told : GoodData b.to_cycle (follow_on_from t (last_tag t q) 1 (there.next ++ there.behind)) (lines_of t q) =
      rw (data_at_lem there refl) at (bucket_good b (bytes_are q h).1).good_rest in
      (told.lines_fit, rising_tags 0 (lines_of t q) told.in_order)

  -- no tag falls from it to the next
  pub in_order : (q : ℕ) → RisesAt t q
  in_order q h = (datas.each q (omega arith) (omega arith)).rises q refl h

  module _ (full : length t.lines ≤ t.d * t.p) (low : (q : ℕ) → q < t.d → q * t.p < length t.lines) where
    pub lines_good : every fits t.lines ≡ true
    lines_good =
        ap (every fits) (sym (lines_joined t full)) ∙ every_joined fits (lines_of t) 0 t.d (λ q l h. (data_good q (omega arith)).0)

    has_line : (q : ℕ) → q < t.d → Filled t q
    unfolding rest_from
    has_line q h = filled_by t q t.p (rest_from t q) (lines_of_lem t q) sound.full (simp ListN.length-drop (omega (arith, low q h)))

    -- from a first tag of at least m on
    pub rises_from :
        (m a c : ℕ) → a + c ≡ t.d → (0 < c → m ≤ first_tag t a) → Rising m (joined (lines_of t) (span a c))
    rises_from m a zero e h = tt
    rises_from m a (suc c) e h =
        let g : Filled t a = has_line a (omega arith) in
        let r : Rising 0 (g.line ∷ g.more) = subst (Rising 0) g.is (data_good a (omega arith)).1 in
        let first : m ≤ g.line.tag = rw (← g.first_is) (h (omega arith)) in
        let own : Rising m (lines_of t a) = rw g.is (first, r.1) in
        let last_same : last_from m (lines_of t a) ≡ last_tag t a = ap (last_from m) g.is ∙ sym (last_tag_lem t a ∙ ap (last_from 0) g.is) in
        let one : a + 1 ≡ suc a = omega arith in
        rising_append m (lines_of t a) (joined (lines_of t) (span (suc a) c)) own
        (rw last_same
        (rises_from (last_tag t a) (suc a) c (omega arith) (λ some_left. rw one at (in_order a (omega arith)))))

    pub lines_rise : Rising 0 t.lines
    lines_rise = subst (Rising 0) (lines_joined t full) (rises_from 0 0 t.d (omega arith) (λ h. omega arith))

-- ---- the plan that building accepts

module _ (f : Figures) (bytes : List ℕ) (ready : Ready f) where
  pub held_datas : Matches (plan_in f InImage bytes) bytes 0 f.size → DataMatches (plan_in f InImage bytes) bytes 0 f.d
  unfolding plan_in plan_of
  held_datas whole =
      let ls : List Line = lines_held f InImage bytes in
      let t : Plan = plan_of f ls in
      let size : cycle_size t ≡ f.size = size_shape f ls [] ∙ sym ready.size_is in
      whole_datas t (sound f ls ready.shaped ready.copies_fit_lem) bytes (matches_to (sym size) whole)

  pub held_fit : copies_fit (plan_in f InImage bytes) ≡ true
  unfolding plan_in
  held_fit = copies_shape f (lines_held f InImage bytes) [] ∙ ready.copies_fit_lem

  pub held_ranged : Ranged (plan_in f InImage bytes)
  unfolding plan_in
  held_ranged = shaped_ranged f (lines_held f InImage bytes) ready.shaped (length_held f bytes)

  pub held_accepted : DataMatches (plan_in f InImage bytes) bytes 0 f.d → Accepted (plan_in f InImage bytes)
  unfolding plan_in plan_of
  held_accepted datas =
      let t : Plan = plan_in f InImage bytes in
      let ls : List Line = lines_held f InImage bytes in
      let fine : Sound t = ranged_sound t held_ranged held_fit in
      let d_is : f.d ≡ up (length ls) f.p = held_ranged.d_is in
      let covers : length ls ≤ up (length ls) f.p * f.p = up_covers (length ls) f.p ready.shaped.p_low in
      let full : length ls ≤ f.d * f.p = subst (λ d. length ls ≤ d * f.p) (sym d_is) covers in
      let low : (q : ℕ) → q < f.d → q * f.p < length ls = λ q h. up_lt (length ls) f.p q ready.shaped.p_low (omega (arith, d_is)) in
      ranged_accepted t held_ranged held_fit (lines_good t fine bytes datas full low)
      (tags_rising 0 ls (lines_rise t fine bytes datas full low))

-- ---- the list that builds the image

module _ (s : Settings) (f : Figures) (bytes : List ℕ) (fit : settings_fit s ≡ true) (g : Figured s f) (ready : Ready f)
    (long : length bytes ≡ bucket_length * f.size) (whole : Matches (plan_in f InImage bytes) bytes 0 f.size) where
  pub restored_builds : Builds s (joined print_line (lines_held f InImage bytes)) bytes
  unfolding plan_in plan_of whole_lines
  restored_builds =
      let ls : List Line = lines_held f InImage bytes in
      let t : Plan = plan_of f ls in
      let list : List ℕ = joined print_line ls in
      let count : length ls ≡ f.lines = length_held f bytes in
      let shaped = ready.shaped in
      let fine : Accepted t = held_accepted f bytes ready (held_datas f bytes ready whole) in
      let copies : copies_fit t ≡ true = held_fit f bytes ready in
      let size : cycle_size t ≡ f.size = size_shape f ls [] ∙ sym ready.size_is in
      let same : Matches t bytes 0 (cycle_size t) = matches_to (sym size) whole in
      let lines_back : list_lines list ≡ ls = lines_of_printed ls fine.lines_fit in
      let size_bytes : length list ≡ length ls * line_length = length_printed ls in
      let lines_count : length list / line_length ≡ length ls = rw size_bytes (mul-div_cancel (length ls) {n = line_length} (lit< tt)) in
      let lines_left : length list % line_length ≡ 0 = rw size_bytes (mul-mod_left (length ls) line_length) in
      let few : length list / line_length ≤ lines_most = omega (arith, lines_count, count, shaped.lines_high) in
      let wholes : eqb (length list % line_length) 0 && leb (length list / line_length) lines_most ≡ true = rw (eq-eqb (length list % line_length) 0 lines_left, le-leb (length list / line_length) lines_most few) in
      let falls : fall_from 0 0 (list_lines list) ≡ None = rw lines_back (rising_none_falls 0 0 ls fine.tags_rise) in
      let plans : plan s (list_lines list) ≡ t = ap (plan s) lines_back ∙ sym (plan_same s f ls g count) in
      let n_is : cycle_size (plan s (list_lines list)) ≡ f.size = ap cycle_size plans ∙ size in
      let built = builds_cycle s list (length bytes) fit wholes (none_misprinted_of_printed ls fine.lines_fit) falls
      (ap copies_fit plans ∙ copies) (omega (arith, n_is, ready.size_high)) (omega (arith, n_is, long)) in
      let back : length bytes / bucket_length ≡ f.size = rw (long, mul_comm bucket_length f.size) (mul-div_cancel f.size {n = bucket_length} (lit< tt)) in
      record {
        answers = ap (λ o. o.answer) built ∙ ap Ok (n_is ∙ sym back);
        writes = ap (λ o. o.output) built ∙ (ap image plans ∙ image_same t fine.sound bytes same (long ∙ ap (λ c. bucket_length * c) (sym size)));
      }
