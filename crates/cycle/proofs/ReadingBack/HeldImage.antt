-- The image of a list holds the list's lines, and each of its buckets is found where the lines read off it say.
-- Assumes nothing.
use mathlib.Core.Path.{◌≡◌, refl, sym, ap, ap₂, ◌∙◌, subst}
use Prim.Native.Nat.{ℕ, suc, ◌+◌, ◌*◌, ◌/◌, ◌%◌, ◌≤◌, ◌<◌}
use native.Mathlib.Nat.{mod-lt, div-add-mod', div-lt_iff_lt-mul}
use native.Mathlib.Omega.{arith}
use mathlib.Core.Bool.{true}
use mathlib.Core.List.{List, [], ◌∷◌, ◌++◌}
use lib.ListN.{length, drop, get_or, length-drop, length-take}
use lib.Seq.{ext_get_or, get_or-take, get_or-drop}
use Rattle.columns.specs.Lists.{up}
use Rattle.buckets.specs.declared.Line.{Line}
use Rattle.buckets.specs.ListLine.{spelled, list_lines}
use Rattle.buckets.specs.Lengths.{lines_most, bucket_length, buckets_most}
use Rattle.cycle.specs.Tree.{Plan, plan, lines_of, last_tag}
use Rattle.cycle.specs.declared.Settings.{Settings}
use Rattle.cycle.specs.Layouts.{Slot}
use Rattle.cycle.specs.Cycle.{follow_on_from, cycle_size, image, bucket_at}
use Rattle.cycle.specs.Building.{copies_fit}
use Rattle.cycle.specs.ReadingBack.{Builds}
use Rattle.cycle.specs.declared.Figures.{Figures}
use Rattle.cycle.specs.declared.Source.TheVariants.{Image as InImage}
use Rattle.cycle.specs.Cycle.{first_place}
use Rattle.cycle.specs.Inner.Held.{plan_of, lines_held, plan_in, cycle_bucket}
use Rattle.cycle.specs.Inner.Settings.{Figured}
use Rattle.cycle.specs.Inner.Comparing.{Matches, RisesAt, counted}
use Rattle.cycle.proofs.Trees.TreeLaws.{up_covers}
use Rattle.cycle.proofs.Lines.Rising.{Rising, rising_take}
use Rattle.cycle.proofs.Trees.Shapes.{first_place_shape}
use Rattle.cycle.proofs.Segmenting.Positions.{At, at_length, data_at_lem}
use Rattle.cycle.proofs.Lines.DataTags.{rest_from, Filled, filled, next_rises, lines_of_lem}
use Rattle.cycle.proofs.Building.Accepted.{Accepted, laid}
use Rattle.cycle.proofs.Building.AcceptedPlans.{copies_shape}
use Rattle.cycle.proofs.Building.PlanFigures.{plan_same}
use Rattle.cycle.proofs.Building.Outcomes.{answered, accepted}
use Rattle.cycle.proofs.Buckets.BuiltGood.{built_good}
use Rattle.cycle.proofs.Building.BuiltImage.{image_bucket, image_reads}
use Rattle.cycle.proofs.ReadingBack.LineCount.{counted_lines}
use Rattle.buckets.specs.BucketLines.{line_bytes}
use Rattle.cycle.proofs.ReadingBack.ImageLines.{data_placed, printed_spells, length_held, held_line}

-- a bucket that is sent is within the cycle
pub at_below : {t : Plan} {x i j : ℕ} {xs : List Slot} → At t x i j xs → x < cycle_size t
unfolding cycle_size
at_below w = omega (arith, at_length w)

-- ---- the lines of a built image

-- line i is line i % p of data bucket i / p
pub line_by_bucket :
    (t : Plan) (z : Line) (i : ℕ) → 1 ≤ t.p → get_or (lines_of t (i / t.p)) (i % t.p) z ≡ get_or t.lines i z
unfolding lines_of
line_by_bucket t z i h =
    let small : i % t.p < t.p = mod-lt i (omega arith) in
    let whole : i / t.p * t.p + i % t.p ≡ i = div-add-mod' i t.p in
    get_or-take t.p (drop (i / t.p * t.p) t.lines) (i % t.p) z small
    ∙ get_or-drop (i / t.p * t.p) t.lines (i % t.p) z
    ∙ ap (λ j. get_or t.lines j z) whole

pub place_in_bucket : (t : Plan) (i : ℕ) → 1 ≤ t.p → i < length t.lines → i % t.p < length (lines_of t (i / t.p))
unfolding lines_of
place_in_bucket t i h l =
    let small : i % t.p < t.p = mod-lt i (omega arith) in
    let whole : i / t.p * t.p + i % t.p ≡ i = div-add-mod' i t.p in
    rw (length-take, length-drop) (omega arith)

pub bucket_of_line : (t : Plan) → Accepted t → (i : ℕ) → i < length t.lines → i / t.p < t.d
bucket_of_line t a i l =
    let covers : length t.lines ≤ up (length t.lines) t.p * t.p = up_covers (length t.lines) t.p a.sound.full in
    let high : length t.lines ≤ t.d * t.p = rw a.d_is covers in
    (div-lt_iff_lt-mul a.sound.full).1 (omega arith)

-- tags do not fall from a data bucket to the next
pub no_fall : (t : Plan) → Accepted t → (q : ℕ) → RisesAt t q
no_fall t a q h =
    let next : q + 1 ≡ suc q = omega arith in
    let g : Filled t (suc q) = filled t (laid t a) (suc q) (omega arith) in
    let r : Rising (last_tag t q) (rest_from t (suc q)) = next_rises t (laid t a) q in
    let b : Rising (last_tag t q) (lines_of t (suc q)) = rw lines_of_lem (rising_take (last_tag t q) t.p (rest_from t (suc q)) r) in
    let c : Rising (last_tag t q) (g.line ∷ g.more) = subst (Rising (last_tag t q)) g.is b in
    rw (next, g.first_is) c.0

module _ (f : Figures) (ls : List Line) (a : Accepted (plan_of f ls)) (short : cycle_size (plan_of f ls) ≤ buckets_most) (count : length ls ≡ f.lines) where
  pub held_built : lines_held f InImage (image (plan_of f ls)) ≡ ls
  unfolding plan_of bucket_at
  held_built =
      let t : Plan = plan_of f ls in
      let bytes : List ℕ = image t in
      let z : Line = spelled [] in
      ext_get_or z (lines_held f InImage bytes) ls (length_held f bytes ∙ sym count)
      (λ i h.
      let below : i < f.lines = omega (arith, length_held f bytes) in
      let inside : i < length ls = omega (arith, count) in
      let q : ℕ = i / f.p in
      let m : ℕ = i % f.p in
      let in_d : q < f.d = bucket_of_line t a i inside in
      let there = data_placed t (laid t a).keeps q in_d in
      let x : ℕ = first_place t (f.k + 1) q in
      let in_cycle : x < cycle_size t = at_below there in
      held_line f bytes z i below a.sound.full a.p_high
      ∙ ap (λ y. spelled (line_bytes (bucket_at bytes y) m)) (first_place_shape f [] ls (f.k + 1) q)
      ∙ ap (λ s. spelled (line_bytes s m)) (image_bucket t a short x in_cycle)
      ∙ printed_spells (cycle_bucket t x) (follow_on_from t (last_tag t q) 1 (there.next ++ there.behind)) (lines_of t q) z m
      (built_good t a short x in_cycle) (data_at_lem there refl) (place_in_bucket t i a.sound.full inside)
      ∙ line_by_bucket t z i a.sound.full)

  pub matches_built : Matches (plan_of f ls) (image (plan_of f ls)) 0 (cycle_size (plan_of f ls))
  unfolding bucket_at
  matches_built =
      record {
        each = λ x low high. record { reads = image_reads (plan_of f ls) a short x high; rises = λ q e. no_fall (plan_of f ls) a q };
      }

-- ---- a list that builds the image

-- what is then found
pub record BuiltFrom (f : Figures) (bytes list : List ℕ) : Type 0 where
  pub copies_fit_lem : copies_fit (plan_of f []) ≡ true
  pub size_is : cycle_size (plan_of f (list_lines list)) ≡ length bytes / bucket_length
  pub lines_are : lines_held f InImage bytes ≡ list_lines list
  pub matches : Matches (plan_in f InImage bytes) bytes 0 (cycle_size (plan_of f (list_lines list)))

module _ (s : Settings) (bytes list : List ℕ) (b : Builds s list bytes) where
  pub built_lines : counted s.p bytes ≡ length (list_lines list)
  unfolding plan
  built_lines =
      let o = answered s list (length bytes) (length bytes / bucket_length) b.answers in
      let t : Plan = plan s (list_lines list) in
      ap (counted s.p) (sym (sym o.output_is ∙ b.writes))
      ∙ counted_lines t (accepted s list (length bytes) (length bytes / bucket_length) b.answers) o.short

  pub few_lines_lem : length (list_lines list) ≤ lines_most
  unfolding plan
  few_lines_lem = (accepted s list (length bytes) (length bytes / bucket_length) b.answers).few_lines_lem

  pub built_from : (f : Figures) → Figured s f → f.lines ≡ length (list_lines list) → BuiltFrom f bytes list
  unfolding plan_in
  built_from f g e =
      let ls : List Line = list_lines list in
      let o = answered s list (length bytes) (length bytes / bucket_length) b.answers in
      let same : plan_of f ls ≡ plan s ls = plan_same s f ls g (sym e) in
      let fine : Accepted (plan_of f ls) = subst Accepted (sym same) (accepted s list (length bytes) (length bytes / bucket_length) b.answers) in
      let short : cycle_size (plan_of f ls) ≤ buckets_most = rw same o.short in
      let text : image (plan_of f ls) ≡ bytes = ap image same ∙ (sym o.output_is ∙ b.writes) in
      let held : lines_held f InImage bytes ≡ ls = ap (lines_held f InImage) (sym text) ∙ held_built f ls fine short (sym e) in
      record {
        copies_fit_lem = copies_shape f [] ls ∙ (ap copies_fit same ∙ o.copies);
        size_is = ap cycle_size same ∙ sym o.size_is;
        lines_are = held;
        matches = subst (λ (u : List Line × List ℕ). Matches (plan_of f u.0) u.1 0 (cycle_size (plan_of f ls))) (ap₂ (λ x y. (x, y)) (sym held) text) (matches_built f ls fine short (sym e));
      }
