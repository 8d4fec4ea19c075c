-- A list that can be sent: its plan, the size of its image, each of its buckets, and the text of some of its lines.
-- Assumes nothing.
use mathlib.Core.Path.{◌≡◌, sym, ap, ap₂, ◌∙◌, subst}
use Prim.Native.Nat.{ℕ, suc, ◌+◌, ◌-◌, ◌*◌, ◌/◌, ◌%◌, ◌≤◌, ◌<◌}
use native.Mathlib.Nat.{mul_comm, mul-mod_left, mul-div_cancel}
use native.Mathlib.Omega.{arith}
use mathlib.Core.Bool.{true}
use Rattle.std.specs.Prelude.{None}
use mathlib.Core.List.{List, [], map}
use lib.Dec.{lit<}
use lib.ListN.{length, take, drop, get_or, length-drop, length-map}
use lib.Seq.{ext_get_or}
use Rattle.columns.specs.Lists.{joined, every, range}
use Rattle.columns.proofs.Joined.{every_at, map_at, drop_joined, take_joined}
use Rattle.buckets.specs.declared.Line.{Line}
use Rattle.buckets.specs.ListLine.{fits, print_line, spelled, taken, read_line, cut_lines, list_lines, misprint_from}
use Rattle.buckets.specs.Inner.Columns.{PlainList}
use Rattle.buckets.specs.Bucket.{print_bucket}
use Rattle.buckets.specs.declared.Head.{Head}
use Rattle.buckets.specs.Inner.Held.{head_of}
use Rattle.buckets.specs.Lengths.{line_length, bucket_length, buckets_most}
use Rattle.buckets.proofs.ListLines.{length_print_line}
use Rattle.buckets.proofs.LenientLines.{LineReads, line_reads}
use Rattle.buckets.proofs.Lists.{length_cut_lines, cut_at, line_at, none_misprinted, print_of_list, part_whole, part_reads, lines_part}
use Rattle.cycle.specs.Layouts.{Slot, slots}
use Rattle.cycle.specs.Cycle.{cycle_size, image, to_next_segment}
use Rattle.cycle.specs.declared.Figures.{Figures}
use Rattle.cycle.specs.declared.Source.TheVariants.{List as InList}
use Rattle.cycle.specs.Inner.Held.{plan_of, AcceptedList, lines_held, plan_in, cycle_bucket, image_part}
use Rattle.cycle.proofs.ReadingBack.ImageLines.{spelled_front}
use Rattle.cycle.proofs.Basics.Ranges.{length_range, get_d_range}
use Rattle.cycle.proofs.Trees.Shapes.{slots_shape}
use Rattle.cycle.proofs.Building.Accepted.{Accepted}
use Rattle.cycle.proofs.Building.AcceptedPlans.{sending_lines, sending_accepted}
use Rattle.cycle.proofs.Segmenting.Positions.{at_position, head_at}
use Rattle.cycle.proofs.Building.BuiltImage.{length_image, image_bucket}

-- ---- the lines as they stand in the list

pub size_shape : (f : Figures) (ls ms : List Line) → cycle_size (plan_of f ls) ≡ cycle_size (plan_of f ms)
unfolding cycle_size
size_shape f ls ms = ap length (slots_shape f ls ms)

-- a head does not look at the lines
pub head_shape :
    (f : Figures) (ls ms : List Line) (x : ℕ) → x < cycle_size (plan_of f ls) →
    head_of (cycle_bucket (plan_of f ls) x) ≡ head_of (cycle_bucket (plan_of f ms) x)
unfolding cycle_size
head_shape f ls ms x h =
    let same : slots (plan_of f ls) ≡ slots (plan_of f ms) = slots_shape f ls ms in
    let there : x < length (slots (plan_of f ms)) = rw same at h in
    let shown : List Slot → Head =
    λ xs. record { position = x; to_cycle = length xs - x; to_segment = to_next_segment (drop (suc x) xs) } in
    head_at (at_position (plan_of f ls) x h).1 ∙ ap shown same ∙ sym (head_at (at_position (plan_of f ms) x there).1)

module _ (f : Figures) (list : List ℕ) (s : AcceptedList f list) where
  count : length list / line_length ≡ f.lines
  count = rw (s.whole, mul_comm line_length f.lines) (mul-div_cancel f.lines (lit< tt))

  pub whole_lines_lem : length list % line_length ≡ 0
  whole_lines_lem = rw (s.whole, mul_comm line_length f.lines) (mul-mod_left f.lines line_length)

  pub lines_in_lem : lines_held f InList list ≡ list_lines list
  unfolding lines_held
  lines_in_lem =
      let none_there : Line = spelled [] in
      let text : ℕ → Line = λ i. spelled (drop (line_length * i) list) in
      let long : length (range 0 f.lines) ≡ f.lines = length_range 0 f.lines ∙ omega arith in
      ext_get_or none_there (map text (range 0 f.lines)) (list_lines list) (length-map (range 0 f.lines) text ∙ long ∙ sym (sending_lines f list s))
      (λ i h.
      let below : i < f.lines = omega (arith, length-map (range 0 f.lines) text, long) in
      let there : i < length list / line_length = omega (arith, count) in
      let e : i * line_length ≡ line_length * i = mul_comm i line_length in
      map_at text (range 0 f.lines) i 0 none_there (omega (arith, long))
      ∙ ap text (get_d_range 0 0 f.lines i (omega arith))
      ∙ ap (λ k. spelled (drop (line_length * k) list)) (zero_plus i)
      ∙ sym (line_at list none_there i there ∙ spelled_front line_length (drop (i * line_length) list) (omega arith) ∙ ap (λ k. spelled (drop k list)) e))
    where
      zero_plus : (i : ℕ) → 0 + i ≡ i
      zero_plus i = omega arith

  pub plan_in_lem : plan_in f InList list ≡ plan_of f (list_lines list)
  unfolding plan_in
  plan_in_lem = ap (plan_of f) lines_in_lem

  pub accepted_in : Accepted (plan_in f InList list)
  accepted_in = subst Accepted (sym plan_in_lem) (sending_accepted f list s)

  pub size_in : cycle_size (plan_in f InList list) ≡ f.size
  unfolding plan_in
  size_in = size_shape f (lines_held f InList list) [] ∙ sym s.ready.size_is

  short_in : cycle_size (plan_in f InList list) ≤ buckets_most
  short_in = omega (arith, size_in, s.ready.size_high)

  pub long_in : length (image (plan_in f InList list)) ≡ bucket_length * f.size
  long_in = length_image (plan_in f InList list) accepted_in short_in ∙ ap (λ c. bucket_length * c) size_in

  module _ (x : ℕ) (h : x < f.size) where
    pub bucket_in : image_part (plan_in f InList list) x 1 ≡ print_bucket (cycle_bucket (plan_in f InList list) x)
    unfolding image_part
    bucket_in = image_bucket (plan_in f InList list) accepted_in short_in x (omega (arith, size_in))

    pub head_in : head_of (cycle_bucket (plan_of f []) x) ≡ head_of (cycle_bucket (plan_in f InList list) x)
    unfolding plan_in
    head_in = head_shape f [] (lines_held f InList list) x (omega (arith, s.ready.size_is))

  pub lines_fit : every fits (list_lines list) ≡ true
  lines_fit = (print_of_list list whole_lines_lem s.printed).1

  -- line l reads
  pub line_in : (l : ℕ) → l < f.lines → LineReads (take line_length (drop (l * line_length) list))
  line_in l h =
      let there : l < length list / line_length = omega (arith, count) in
      subst LineReads (cut_at list [] l there)
      (line_reads (get_or (cut_lines list) l [])
      (every_at (λ t. taken (read_line t)) [] (cut_lines list) l (none_misprinted 0 (cut_lines list) s.printed) (omega (arith, there, length_cut_lines list))))

  -- c lines from line a on: their text, their numbers, and that they are printed as the list is
  module _ (a c : ℕ) (h : a + c ≤ f.lines) where
    abbrev text : List ℕ
    text = take (line_length * c) (drop (line_length * a) list)

    text_is : text ≡ take (c * line_length) (drop (a * line_length) list)
    text_is = ap₂ (λ w k. take w (drop k list)) (mul_comm line_length c) (mul_comm line_length a)

    within : a + c ≤ length list / line_length
    within = omega (arith, count)

    pub text_whole : length text % line_length ≡ 0
    text_whole = rw text_is (part_whole list a c within)

    pub text_reads : misprint_from 0 (cut_lines text) ≡ None
    text_reads = rw text_is (part_reads list a c within s.printed)

    pub text_lines : list_lines text ≡ take c (drop a (list_lines list))
    text_lines = ap list_lines text_is ∙ lines_part list a c within

    pub text_plain : PlainList list → PlainList text
    text_plain plain =
        let ls : List Line = list_lines list in
        let long : length ls ≡ f.lines = sending_lines f list s in
        let wide : (l : Line) → length (print_line l) ≡ line_length = length_print_line in
        let behind : length (drop a ls) ≡ length ls - a = length-drop a ls in
        ap (λ t. take (line_length * c) (drop (line_length * a) t)) plain
        ∙ ap (λ k. take (line_length * c) (drop k (joined print_line ls))) (mul_comm line_length a)
        ∙ ap (take (line_length * c)) (drop_joined print_line line_length wide ls a (omega arith))
        ∙ ap (λ k. take k (joined print_line (drop a ls))) (mul_comm line_length c)
        ∙ take_joined print_line line_length wide (drop a ls) c (omega arith)
        ∙ ap (joined print_line) (sym text_lines)
