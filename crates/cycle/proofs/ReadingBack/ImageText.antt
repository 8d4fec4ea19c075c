-- The list that is copied out of an image, line by line, and the tags where one data bucket follows another.
-- Assumes nothing.
use mathlib.Core.Path.{◌≡◌, refl, sym, ap, ap₂, ◌∙◌}
use Prim.Native.Nat.{ℕ, zero, suc, ◌+◌, ◌-◌, ◌*◌, ◌/◌, ◌%◌, ◌≤◌, ◌<◌}
use native.Mathlib.Nat.{add-zero, add-suc, suc-add, mul-div_cancel, mul-mod_left}
use native.Mathlib.Numerals.{add-one}
use native.Mathlib.Omega.{arith}
use mathlib.Core.Bool.{true}
use mathlib.Core.List.{List, [], ◌∷◌, ◌++◌, map}
use lib.Arith.{digits_div, digits_mod}
use lib.ListN
use lib.ListN.{length, drop, get_or, length-append}
use Rattle.columns.specs.Lists.{joined, span, range}
use Rattle.columns.proofs.Put.{length_part}
use Rattle.columns.proofs.Joined.{every_at}
use Rattle.columns.specs.PrintedNumbers.{value}
use Rattle.buckets.specs.declared.Line.{Line}
use Rattle.buckets.specs.ListLine.{fits, line_columns, print_line, ended_line, ended_lines, spelled}
use Rattle.buckets.specs.Lengths.{newline, line_columns_width, line_length, bucket_length, lines_start}
use Rattle.buckets.proofs.ListLines.{spelled_alone}
use Rattle.buckets.proofs.CopiedLines.{ended_places}
use Rattle.cycle.specs.Tree.{Plan, lines_of, last_tag, first_tag}
use Rattle.cycle.specs.Cycle.{follow_on_from, bucket_at}
use Rattle.cycle.specs.declared.Figures.{Figures}
use Rattle.cycle.specs.declared.Source.TheVariants.{Image as InImage}
use Rattle.cycle.specs.Cycle.{first_place}
use Rattle.cycle.specs.Inner.Held.{plan_of, line_at, lines_held, tag_at, plan_in, cycle_bucket}
use Rattle.cycle.specs.Inner.Comparing.{DataMatches, list_text, Holding}
use Rattle.cycle.proofs.Basics.Ranges.{joined_range, joined_same}
use Rattle.cycle.proofs.Sequences.Sequence.{Sound}
use Rattle.cycle.proofs.Sequences.Keeping.{keeps}
use Rattle.cycle.proofs.Trees.Readiness.{sound}
use Rattle.cycle.proofs.Trees.Shapes.{first_place_shape}
use Rattle.cycle.proofs.Segmenting.Positions.{data_at_lem}
use Rattle.cycle.proofs.Reach.DataHeld.{data_ends}
use Rattle.cycle.proofs.Lines.LinesHeld.{line_bucket, line_column}
use Rattle.cycle.proofs.Lines.FollowOns.{full_lines, last_full}
use Rattle.cycle.proofs.Lines.Tags.{first_tag_lem}
use Rattle.buckets.specs.BucketLines.{line_bytes}
use Rattle.buckets.proofs.BucketLines.{printed_line}
use Rattle.cycle.proofs.ReadingBack.ImageLines.{data_placed, spelled_front, image_line, length_held}
use Rattle.cycle.proofs.ReadingBack.HeldImage.{place_in_bucket}
use Rattle.cycle.proofs.ReadingBack.MatchingBuilt.{bytes_are, data_good}

-- ---- the text of the lines

joined_shift :
    {A : Type 0} (g h : ℕ → List A) (a b c : ℕ) → ((i : ℕ) → i < c → g (a + i) ≡ h (b + i)) → joined g (span a c) ≡ joined h (span b c)
joined_shift g h a b zero e = refl
joined_shift g h a b (suc c) e =
    let first : g a ≡ h b = rw (add-zero a, add-zero b) at (e 0 (omega arith)) in
    ap₂ {C = List _} ◌++◌ first
    (joined_shift g h (suc a) (suc b) c (λ i l. rw (add-suc a i, add-suc b i, ← suc-add a i, ← suc-add b i) at (e (suc i) (omega arith))))

joined_map : {A B C : Type 0} (g : B → List C) (h : A → B) (xs : List A) → joined g (map h xs) ≡ joined (λ x. g (h x)) xs
joined_map g h [] = refl
joined_map g h (x ∷ xs) = ap (λ s. g (h x) ++ s) (joined_map g h xs)

module _ (f : Figures) (bytes : List ℕ) (w : Holding f bytes) where
  -- a line lies within the image
  pub line_room : (i : ℕ) → i < f.lines → line_at (plan_of f []) InImage i + line_columns_width ≤ length bytes
  unfolding plan_of
  line_room i h =
      let place = data_ends f (i / f.p) w.ready (line_bucket f i w.ready.shaped h) in
      let column = line_column f i w.ready.shaped in
      omega (arith, w.long)

  pub text_on : (a b c : ℕ) → a ≤ b → b ≤ c → list_text f bytes a c ≡ list_text f bytes a b ++ list_text f bytes b c
  unfolding list_text
  text_on a b c h g = joined_range (λ i. ListN.take line_columns_width (drop (line_at (plan_of f []) InImage i) bytes) ++ newline ∷ []) a b c h g

  pub text_none : (a b : ℕ) → b ≤ a → list_text f bytes a b ≡ []
  unfolding list_text
  text_none a b h = let e : b - a ≡ 0 = omega arith in rw e

  length_line : (i : ℕ) → i < f.lines → length (ListN.take line_columns_width (drop (line_at (plan_of f []) InImage i) bytes) ++ newline ∷ []) ≡ line_length
  length_line i h =
      length-append (ListN.take line_columns_width (drop (line_at (plan_of f []) InImage i) bytes)) (newline ∷ [])
      ∙ ap (λ c. c + 1) (length_part bytes (line_at (plan_of f []) InImage i) line_columns_width (line_room i h))

  length_lines :
      (a c : ℕ) → a + c ≤ f.lines → length (joined (λ i. ListN.take line_columns_width (drop (line_at (plan_of f []) InImage i) bytes) ++ newline ∷ []) (span a c)) ≡ line_length * c
  length_lines a zero h = refl
  length_lines a (suc c) h =
      let line : ℕ → List ℕ = λ i. ListN.take line_columns_width (drop (line_at (plan_of f []) InImage i) bytes) ++ newline ∷ [] in
      let rest : length (joined line (span (suc a) c)) ≡ line_length * c = length_lines (suc a) c (omega arith) in
      let own : length (line a) ≡ line_length = length_line a (omega arith) in
      length-append (line a) (joined line (span (suc a) c)) ∙ omega arith

  pub length_text : (a b : ℕ) → a ≤ b → b ≤ f.lines → length (list_text f bytes a b) ≡ line_length * (b - a)
  unfolding list_text
  length_text a b h g = length_lines a (b - a) (omega arith)

  -- the lines of a data bucket stand side by side
  pub bucket_text :
      (q c : ℕ) → c ≤ f.p →
      ended_lines c (drop (bucket_length * first_place (plan_of f []) (f.k + 1) q + lines_start) bytes) ≡ list_text f bytes (q * f.p) (q * f.p + c)
  unfolding list_text plan_of
  bucket_text q c h =
      let x : ℕ = first_place (plan_of f []) (f.k + 1) q in
      let at : ℕ = bucket_length * x + lines_start in
      let first : at + line_columns_width * 0 ≡ at = omega arith in
      let from : q * f.p + c - q * f.p ≡ c = omega arith in
      rw from
      (sym (ended_places bytes at 0 c ∙ ap (λ k. ended_lines c (drop k bytes)) first)
      ∙ joined_shift (λ i. ended_line (drop (at + line_columns_width * i) bytes)) (λ i. ended_line (drop (line_at (plan_of f []) InImage i) bytes)) 0 (q * f.p) c
      (λ i l.
      let none_before : 0 + i ≡ i = omega arith in
      let bucket : (q * f.p + i) / f.p ≡ q = digits_div q {m = f.p} {r = i} (omega arith) in
      let line : (q * f.p + i) % f.p ≡ i = digits_mod q {m = f.p} {r = i} (omega arith) in
      let place : bucket_length * x + lines_start + line_columns_width * i ≡ bucket_length * x + (lines_start + line_columns_width * i) = omega arith in
      rw (none_before, bucket, line, place)))

  -- if each data bucket is that of the lines read off the image, the columns of a line are its print
  module _ (datas : DataMatches (plan_in f InImage bytes) bytes 0 f.d) where
    pub line_text :
        (i : ℕ) → i < f.lines →
        ListN.take line_columns_width (drop (line_at (plan_of f []) InImage i) bytes) ≡ line_columns (spelled (drop (line_at (plan_of f []) InImage i) bytes))
    unfolding plan_in plan_of
    line_text i below =
        let ls : List Line = lines_held f InImage bytes in
        let t : Plan = plan_of f ls in
        let fine : Sound t = sound f ls w.ready.shaped w.ready.copies_fit_lem in
        let q : ℕ = i / f.p in
        let m : ℕ = i % f.p in
        let z : Line = spelled [] in
        let in_d : q < f.d = line_bucket f i w.ready.shaped below in
        let there = data_placed t (keeps t fine) q in_d in
        let x : ℕ = first_place t (f.k + 1) q in
        let place : first_place (plan_of f []) (f.k + 1) q ≡ x = first_place_shape f [] ls (f.k + 1) q in
        let column : m ≤ 7 = line_column f i w.ready.shaped in
        let inside : m < length (lines_of t q) = place_in_bucket t i w.ready.shaped.p_low (omega (arith, length_held f bytes)) in
        let from : ℕ = follow_on_from t (last_tag t q) 1 (there.next ++ there.behind) in
        let columns : ListN.take line_columns_width (drop (bucket_length * first_place (plan_of f []) (f.k + 1) q + (lines_start + line_columns_width * m)) bytes) ≡ line_columns (get_or (lines_of t q) m z) =
        image_line bytes (first_place (plan_of f []) (f.k + 1) q) m (omega arith)
        ∙ (ap (λ y. line_bytes (bucket_at bytes y) m) place
        ∙ (ap (λ b. line_bytes b m) (bytes_are t fine bytes datas q in_d).0
        ∙ printed_line (cycle_bucket t x) from (lines_of t q) z m (data_at_lem there refl) inside)) in
        let fit : fits (get_or (lines_of t q) m z) ≡ true = every_at fits z (lines_of t q) m (data_good t fine bytes datas q in_d).0 inside in
        columns
        ∙ ap line_columns
        (sym
        (sym (spelled_front line_columns_width (drop (bucket_length * first_place (plan_of f []) (f.k + 1) q + (lines_start + line_columns_width * m)) bytes) (omega arith))
        ∙ (ap spelled columns ∙ spelled_alone (get_or (lines_of t q) m z) fit)))

    -- and the text is the list of those lines
    pub text_list : list_text f bytes 0 f.lines ≡ joined print_line (lines_held f InImage bytes)
    unfolding list_text lines_held print_line
    text_list =
        let h : ℕ → Line = λ i. spelled (drop (line_at (plan_of f []) InImage i) bytes) in
        joined_same (λ i. ListN.take line_columns_width (drop (line_at (plan_of f []) InImage i) bytes) ++ newline ∷ []) (λ i. print_line (h i)) 0 (f.lines - 0)
        (λ i low high. ap (λ s. s ++ newline ∷ []) (line_text i (omega arith)))
        ∙ sym (joined_map print_line h (range 0 f.lines))

  -- ---- from one data bucket to the next

  -- where data bucket q has a next one: its last tag and the next one's first
  pub record Seam (q : ℕ) : Type 0 where
    pub last_is_lem : last_tag (plan_in f InImage bytes) q ≡ tag_at f InImage bytes ((q + 1) * f.p - 1)
    pub first_is : first_tag (plan_in f InImage bytes) (q + 1) ≡ tag_at f InImage bytes ((q + 1) * f.p)
    pub stands_at :
        tag_at f InImage bytes ((q + 1) * f.p)
        ≡ value 0 (ListN.take 10 (drop (bucket_length * first_place (plan_of f []) (f.k + 1) (q + 1) + lines_start) bytes))

  pub seam : (q : ℕ) → q + 1 < f.d → Seam q
  unfolding tag_at plan_of
  seam q high =
      let ready = w.ready in
      let next : q + 1 ≡ suc q = add-one q in
      let p_low = ready.shaped.p_low in
      let bucket : (q + 1) * f.p / f.p ≡ q + 1 = mul-div_cancel (q + 1) {n = f.p} p_low in
      let column : (q + 1) * f.p % f.p ≡ 0 = mul-mod_left (q + 1) f.p in
      record {
        last_is_lem = rw next (last_full f ready InImage bytes q (omega arith));
        first_is = first_tag_lem f InImage bytes (q + 1) p_low (full_lines f ready.shaped (q + 1) high);
        stands_at = rw (bucket, column);
      }
