-- A data bucket written at its place is that part of the image, and its lines stand in the list.
-- Assumes nothing.
use mathlib.Core.Path.{◌≡◌, refl, sym, ap, ap₂, ◌∙◌}
use mathlib.Core.Logic.{⊎_elim}
use Prim.Native.Nat.{ℕ, ◌+◌, ◌-◌, ◌*◌, ◌%◌, ◌≤◌, ◌<◌, min}
use native.Mathlib.Nat.{suc-mul}
use native.Mathlib.Numerals.{add-one}
use native.Mathlib.Omega.{arith}
use Rattle.std.specs.Prelude.{None}
use mathlib.Core.List.{List, [], ◌∷◌, ◌++◌}
use lib.ListN.{length, take, drop, length-drop}
use lib.Seq.{take_all}
use Rattle.columns.specs.Lists.{put, up}
use Rattle.columns.proofs.Put.{length_part}
use Rattle.buckets.specs.declared.Line.{Line}
use Rattle.buckets.specs.declared.Head.{Head}
use Rattle.buckets.specs.ListLine.{cut_lines, list_lines, misprint_from}
use Rattle.buckets.specs.Inner.Columns.{PlainList}
use Rattle.buckets.specs.Bucket.{data_body, print_bucket, follow_on}
use Rattle.buckets.specs.Inner.Held.{bucket_with, head_of}
use Rattle.buckets.specs.Lengths.{line_length, lines_most, bucket_lines_most, bucket_length}
use Rattle.buckets.proofs.Holding.{bucket_whole}
use Rattle.cycle.specs.Tree.{Plan, lines_of, last_tag}
use Rattle.cycle.specs.Layouts.{Slot, slot}
use Rattle.cycle.specs.Cycle.{follow_on_from}
use Rattle.cycle.specs.declared.Figures.{Figures}
use Rattle.cycle.specs.declared.Source.TheVariants.{List as InList}
use Rattle.cycle.specs.Inner.Held.{plan_of, AcceptedList, lines_held, plan_in, StandsAt, cycle_bucket, written}
use Rattle.cycle.proofs.Basics.Ranges.{le_or_lt}
use Rattle.cycle.proofs.Trees.TreeLaws.{up_lt}
use Rattle.cycle.proofs.Trees.Shapes.{stand_shape}
use Rattle.cycle.proofs.Segmenting.Positions.{stand_at, data_at_lem}
use Rattle.cycle.proofs.Building.AcceptedPlans.{sending_lines}
use Rattle.cycle.proofs.Building.AcceptedLists.{plan_in_lem, long_in, bucket_in, head_in, text_whole, text_reads, text_lines, text_plain}
use Rattle.cycle.proofs.Building.Written.{written_one}

plan_lines : (f : Figures) (list : List ℕ) (s : AcceptedList f list) (q : ℕ) → take f.p (drop (q * f.p) (list_lines list)) ≡ lines_of (plan_in f InList list) q
unfolding lines_of plan_of
plan_lines f list s q = sym (ap (λ t. lines_of t q) (plan_in_lem f list s))

module _ (f : Figures) (list : List ℕ) (s : AcceptedList f list) where
  stand_in : {x : ℕ} {xs : List Slot} → StandsAt (plan_of f []) x xs → StandsAt (plan_in f InList list) x xs
  unfolding plan_in
  stand_in st = stand_shape f [] (lines_held f InList list) st

  module _ (x : ℕ) (below : x < f.size) (d : List ℕ) (room : 240 * f.size ≤ length d) (head : Head)
      (head_is : head ≡ head_of (cycle_bucket (plan_of f []) x)) where
    pub data_written :
        (q follow : ℕ) (ls : List Line) → StandsAt (plan_of f []) x (slot (f.k + 1) q ∷ []) →
        follow ≡ follow_on (cycle_bucket (plan_in f InList list) x).body → ls ≡ lines_of (plan_in f InList list) q →
        put d (bucket_length * x) (print_bucket (bucket_with head (data_body follow ls))) ≡ written (plan_in f InList list) d x (x + 1)
    unfolding plan_in plan_of
    data_written q follow ls st is lines =
        let t : Plan = plan_in f InList list in
        let a = stand_at (stand_in st) in
        let from : ℕ = follow_on_from t (last_tag t q) 1 (a.next ++ a.behind) in
        let body : (cycle_bucket t x).body ≡ data_body from (lines_of t q) = data_at_lem a refl in
        let follows : follow ≡ from = is ∙ ap follow_on body in
        let whole : bucket_with head (data_body follow ls) ≡ cycle_bucket t x =
        ap₂ bucket_with (head_is ∙ head_in f list s x below) (ap₂ data_body follows lines ∙ sym body) ∙ bucket_whole (cycle_bucket t x) in
        written_one t f.size (long_in f list s) d room x (print_bucket (bucket_with head (data_body follow ls)))
        (bucket_in f list s x below ∙ sym (ap print_bucket whole))

  -- the lines of data bucket q, as they stand in the list
  pub record DataText (q from end : ℕ) : Type 0 where
    pub low : q * f.p < f.lines
    pub next : (q + 1) * f.p ≤ lines_most + bucket_lines_most
    pub few_all : f.lines ≤ lines_most
    pub ordered : from ≤ end
    pub within : end ≤ length list
    pub few : length (take (end - from) (drop from list)) ≤ bucket_lines_most * line_length
    pub whole_lines_lem : length (take (end - from) (drop from list)) % line_length ≡ 0
    pub printed : misprint_from 0 (cut_lines (take (end - from) (drop from list))) ≡ None
    pub no_zeros : PlainList list → PlainList (take (end - from) (drop from list))
    pub lines_are : list_lines (take (end - from) (drop from list)) ≡ lines_of (plan_in f InList list) q

  pub data_text :
      (q from end : ℕ) → q < f.d → from ≡ line_length * (q * f.p) → end ≡ line_length * min f.lines ((q + 1) * f.p) → DataText q from end
  data_text q from end h from_is end_is =
      let a : ℕ = q * f.p in
      let shaped = s.ready.shaped in
      let p_low = shaped.p_low in
      let p_high = shaped.p_high in
      let next : (q + 1) * f.p ≡ a + f.p = rw (add-one q) (suc-mul q f.p) in
      let in_d : q < up f.lines f.p = omega (arith, shaped.d_is) in
      let low : a < f.lines = up_lt f.lines f.p q (omega arith) in_d in
      let c : ℕ = min f.lines ((q + 1) * f.p) - a in
      let span_is : end - from ≡ line_length * c = omega arith in
      let ls : List Line = list_lines list in
      let long : length ls ≡ f.lines = sending_lines f list s in
      let few_lines_lem : c ≤ bucket_lines_most = omega arith in
      let ms : List Line = take c (drop a ls) in
      let text : take (end - from) (drop from list) ≡ take (line_length * c) (drop (line_length * a) list) =
      ap₂ (λ w k. take w (drop k list)) span_is from_is in
      let size : length (take (end - from) (drop from list)) ≡ end - from = length_part list from (end - from) (omega (arith, s.whole)) in
      let rest : length (drop a ls) ≡ length ls - a = length-drop a ls in
      let same : ms ≡ take f.p (drop a ls) = taken_most c f.p (drop a ls) (omega arith) in
      record {
        low = low;
        next = omega (arith, shaped.lines_high);
        few_all = shaped.lines_high;
        ordered = omega arith;
        within = omega (arith, s.whole);
        few = rw size (omega arith);
        whole_lines_lem = rw text (text_whole f list s a c (omega arith));
        printed = rw text (text_reads f list s a c (omega arith));
        no_zeros = λ plain. rw text (text_plain f list s a c (omega arith) plain);
        lines_are = ap list_lines text ∙ text_lines f list s a c (omega arith) ∙ same ∙ lines_there;
      }
    where
      taken_most : (c p : ℕ) (xs : List Line) → c ≡ min p (length xs) → take c xs ≡ take p xs
      taken_most c p xs e =
          ⊎_elim
          (λ (l : p ≤ length xs). let g : c ≡ p = omega arith in rw g)
          (λ (l : length xs < p). take_all c xs (omega arith) ∙ sym (take_all p xs (omega arith)))
          (le_or_lt p (length xs))

      lines_there : take f.p (drop (q * f.p) (list_lines list)) ≡ lines_of (plan_in f InList list) q
      lines_there = plan_lines f list s q
