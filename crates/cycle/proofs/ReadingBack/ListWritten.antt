-- The list that is written out of an image: data bucket by data bucket, and segment by segment.
-- Assumes nothing.
use mathlib.Core.Path.{◌≡◌, sym, ap, ap₂, ◌∙◌}
use mathlib.Core.Logic.{⊎_elim}
use Prim.Native.Nat.{ℕ, zero, suc, ◌+◌, ◌-◌, ◌*◌, ◌≤◌, ◌<◌, min, max}
use native.Mathlib.Nat.{zero-mul, suc-mul, mul-le-mul_right, eq-or-lt_of_le}
use native.Mathlib.Numerals.{add-one}
use native.Mathlib.Omega.{arith}
use mathlib.Core.List.{List, []}
use lib.ListN.{length, drop}
use Rattle.columns.specs.Lists.{put, up}
use Rattle.columns.proofs.Put.{put_nil, put_put, length_put}
use Rattle.buckets.specs.ListLine.{ended_lines}
use Rattle.buckets.specs.Lengths.{line_length, bucket_length, lines_start}
use Rattle.cycle.specs.Tree.{Plan}
use Rattle.cycle.specs.declared.Figures.{Figures}
use Rattle.cycle.specs.declared.Segment.{Segment}
use Rattle.cycle.specs.Cycle.{first_place}
use Rattle.cycle.specs.Inner.Held.{plan_of, HoldsSegment}
use Rattle.cycle.specs.Inner.Comparing.{list_text, Holding}
use Rattle.cycle.proofs.Trees.TreeLaws.{up_covers}
use Rattle.cycle.proofs.Sequences.Sequence.{Sound}
use Rattle.cycle.proofs.Trees.Readiness.{sound}
use Rattle.cycle.proofs.Lines.FollowOns.{full_lines}
use Rattle.cycle.proofs.Segmenting.SegmentData.{sent_by, sent_none, sent_all, sent_behind, first_sent}
use Rattle.cycle.proofs.ReadingBack.ImageText.{text_on, text_none, length_text, bucket_text}

-- the list as far as position x
unfoldable pub text_to : Figures → List ℕ → ℕ → List ℕ
text_to f bytes x = list_text f bytes 0 (min f.lines (sent_by (plan_of f []) x * f.p))

module _ (f : Figures) (bytes : List ℕ) (w : Holding f bytes) where
  -- the lines before a data bucket
  pub lines_before_lem : (q : ℕ) → q < max 1 f.d → q * f.p ≤ f.lines
  lines_before_lem zero h = rw (zero-mul f.p) (omega arith)
  lines_before_lem (suc q) h = let l = full_lines f w.ready.shaped (suc q) (omega arith) in omega arith

  -- ---- the data buckets of a segment, whose first line is a

  pub bucket_more :
      (d out behind : List ℕ) (a q x count : ℕ) → line_length * f.lines ≤ length d → q < f.d → a ≤ q * f.p →
      x ≡ first_place (plan_of f []) (f.k + 1) q → count ≡ min f.p (f.lines - q * f.p) →
      out ≡ put d (line_length * a) (list_text f bytes a (min f.lines (q * f.p))) →
      behind ≡ put out (line_length * (q * f.p)) (ended_lines count (drop (bucket_length * x + lines_start) bytes)) →
      behind ≡ put d (line_length * a) (list_text f bytes a (min f.lines ((q + 1) * f.p)))
  bucket_more d out behind a q x count room inside low place count_is here next =
      let b : ℕ = q * f.p in
      let within : b < f.lines = full_lines f w.ready.shaped q inside in
      let own : min f.lines b ≡ b = omega arith in
      let wide : (q + 1) * f.p ≡ b + f.p = rw (add-one q) (suc-mul q f.p) in
      let end : b + count ≡ min f.lines ((q + 1) * f.p) = omega arith in
      let long : length (list_text f bytes a b) ≡ line_length * (b - a) = length_text f bytes w a b low (omega arith) in
      let text : ended_lines count (drop (bucket_length * x + lines_start) bytes) ≡ list_text f bytes b (b + count) =
      ap (λ y. ended_lines count (drop (bucket_length * y + lines_start) bytes)) place ∙ bucket_text f bytes w q count (omega arith) in
      next
      ∙ (ap₂ (λ o t. put o (line_length * b) t) (here ∙ ap (λ c. put d (line_length * a) (list_text f bytes a c)) own) text
      ∙ (put_put d (line_length * a) (list_text f bytes a b) (line_length * b) (list_text f bytes b (b + count)) (omega arith) (omega arith)
      ∙ ap (put d (line_length * a)) (sym (text_on f bytes w a b (b + count) low (omega arith)) ∙ ap (list_text f bytes a) end)))

  -- what was written has the buffer's length
  pub length_written :
      (d : List ℕ) (a q : ℕ) → line_length * f.lines ≤ length d → a ≤ f.lines → a ≤ q * f.p →
      length (put d (line_length * a) (list_text f bytes a (min f.lines (q * f.p)))) ≡ length d
  length_written d a q room high low =
      let long = length_text f bytes w a (min f.lines (q * f.p)) (omega arith) (omega arith) in
      length_put d (line_length * a) (list_text f bytes a (min f.lines (q * f.p))) (omega arith)

  -- ---- the segments

  fine : Sound (plan_of f [])
  fine = sound f [] w.ready.shaped w.ready.copies_fit_lem

  pub text_none_sent : text_to f bytes 0 ≡ []
  unfolding text_to
  text_none_sent =
      text_none f bytes w 0 (min f.lines (sent_by (plan_of f []) 0 * f.p))
      (rw (sent_none (plan_of f []), zero-mul f.p) (omega arith))

  pub text_all_sent : text_to f bytes f.size ≡ list_text f bytes 0 f.lines
  unfolding text_to plan_of
  text_all_sent =
      let all : sent_by (plan_of f []) f.size ≡ f.d = ap (sent_by (plan_of f [])) w.ready.size_is ∙ sent_all (plan_of f []) fine in
      let covers : f.lines ≤ up f.lines f.p * f.p = up_covers f.lines f.p w.ready.shaped.p_low in
      let d_is = w.ready.shaped.d_is in
      let end : min f.lines (up f.lines f.p * f.p) ≡ f.lines = omega arith in
      ap (λ c. list_text f bytes 0 (min f.lines (c * f.p))) (all ∙ d_is) ∙ ap (list_text f bytes 0) end

  pub length_to : (d : List ℕ) (x : ℕ) → line_length * f.lines ≤ length d → length (put d 0 (text_to f bytes x)) ≡ length d
  unfolding text_to
  length_to d x room =
      let c : ℕ = min f.lines (sent_by (plan_of f []) x * f.p) in
      let long : length (list_text f bytes 0 c) ≡ line_length * (c - 0) = length_text f bytes w 0 c (omega arith) (omega arith) in
      length_put d 0 (list_text f bytes 0 c) (omega arith)

  pub segment_more :
      (d out behind : List ℕ) (s : Segment) → HoldsSegment (plan_of f []) s → line_length * f.lines ≤ length d → out ≡ put d 0 (text_to f bytes s.start) →
      behind ≡ put out (line_length * (s.first * f.p)) (list_text f bytes (s.first * f.p) (min f.lines (s.last * f.p))) →
      behind ≡ put d 0 (text_to f bytes s.end)
  unfolding text_to plan_of
  segment_more d out behind s p room here next =
      let t : Plan = plan_of f [] in
      let a : ℕ = s.first * f.p in
      let z : ℕ = min f.lines (s.last * f.p) in
      let sent = sent_behind t fine s p in
      ⊎_elim
      (λ (e : s.first ≡ s.last).
      let same : sent_by t s.start ≡ sent_by t s.end = omega (arith, sent) in
      let none_own : a ≡ s.last * f.p = ap (λ c. c * f.p) e in
      next
      ∙ (ap (put out (line_length * a)) (text_none f bytes w a z (omega arith))
      ∙ (put_nil out (line_length * a) ∙ (here ∙ ap (λ c. put d 0 (list_text f bytes 0 (min f.lines (c * f.p)))) same))))
      (λ (h : s.first < s.last).
      let first : sent_by t s.start ≡ s.first = sym (first_sent t fine s p h) in
      let last : s.last ≡ sent_by t s.end = omega (arith, sent, first) in
      let within : a ≤ f.lines = lines_before_lem s.first p.first_in in
      let grows : a ≤ s.last * f.p = mul-le-mul_right f.p (omega arith) in
      let own : min f.lines a ≡ a = omega arith in
      let long : length (list_text f bytes 0 a) ≡ line_length * (a - 0) = length_text f bytes w 0 a (omega arith) (omega arith) in
      next
      ∙ (ap (λ o. put o (line_length * a) (list_text f bytes a z))
      (here ∙ (ap (λ c. put d 0 (list_text f bytes 0 (min f.lines (c * f.p)))) first ∙ ap (λ c. put d 0 (list_text f bytes 0 c)) own))
      ∙ (put_put d 0 (list_text f bytes 0 a) (line_length * a) (list_text f bytes a z) (omega arith) (omega arith)
      ∙ (ap (put d 0) (sym (text_on f bytes w 0 a z (omega arith) (omega arith)))
      ∙ ap (λ c. put d 0 (list_text f bytes 0 (min f.lines (c * f.p)))) last))))
      (eq-or-lt_of_le p.first_last)
