-- A segment laid out in its cycle: where its path, its tree and its data buckets stand, where the next segment starts, and
-- which tag was sent last.
-- Assumes nothing.
use mathlib.Core.Path.{◌≡◌, sym, ap, ap₂, subst, ◌∙◌}
use Prim.Native.Nat.{ℕ, suc, ◌+◌, ◌-◌, ◌≤◌, ◌<◌}
use native.Mathlib.Nat.{add-zero, add_assoc}
use native.Mathlib.Omega.{arith}
use mathlib.Core.List.{List, [], ◌++◌, map, append_assoc, append-nil}
use lib.ListN.{length, take, drop, length-append}
use lib.Seq.{take-append-le, take-append-add}
use Rattle.columns.specs.Lists.{range}
use Rattle.cycle.specs.Tree.{Plan}
use Rattle.cycle.specs.Layouts.{Slot, segment, sent, slots}
use Rattle.cycle.specs.Cycle.{to_next_segment}
use Rattle.cycle.specs.Inner.Held.{bare, StandsAt, last_sent_before, last_of}
use Rattle.cycle.proofs.Sequences.Sequence.{data_count, Keeps}
use Rattle.cycle.proofs.Basics.Ranges.{length_range}
use Rattle.cycle.proofs.Sequences.Pieces.{count_append}
use Rattle.cycle.proofs.Segmenting.SegmentSizes.{length_segment, length_sent}
use Rattle.buckets.proofs.ListParts.{map_take}
use Rattle.cycle.proofs.Segmenting.SegmentBuckets.{bare_append, bare_sent, bare_segment, part_stands, to_start, own_start, next_start}
use Rattle.cycle.proofs.Sequences.LastSent.{count_bare, quiet_take, last_sent_lem}

pub record SegmentAt (t : Plan) (start : ℕ) (p q : List Slot) (first last : ℕ) : Type 0 where
  pub path_stands : StandsAt t start p
  pub tree_stands : StandsAt t (start + length p) q
  pub data_stands : StandsAt t (start + length p + length q) (sent t (range first last))
  pub own_starts : to_next_segment (drop start (slots t)) ≡ 1
  pub next_starts :
      (x : ℕ) → start ≤ x → x < start + length p + length q + (last - first) →
      to_next_segment (drop (suc x) (slots t)) ≡ start + length p + length q + (last - first) - x
  pub sent_before_lem : (x : ℕ) → start ≤ x → x < start + length p + length q → last_sent_before t x ≡ last_of t first

module _ (t : Plan) (kept : Keeps t) (before p q behind : List Slot) (first last : ℕ) (splits : slots t ≡ before ++ (segment (p ++ (q ++ sent t (range first last))) ++ behind)) where
  abbrev holds : List Slot
  holds = p ++ (q ++ sent t (range first last))

  length_holds : length holds ≡ length p + (length q + (last - first))
  length_holds =
      length-append p (q ++ sent t (range first last))
      ∙ ap (λ x. length p + x)
      (length-append q (sent t (range first last))
      ∙ ap (λ x. length q + x) (length_sent t (range first last) ∙ length_range first last))

  pub laid :
      0 < length q → map bare p ≡ p → map bare q ≡ q → data_count t p ≡ 0 → data_count t q ≡ 0 → data_count t before ≡ first →
      to_start behind ≡ 1 → SegmentAt t (length before) p q first last
  laid tree bare_p bare_q quiet_p quiet_q sent_first opens =
      let data_sent : List Slot = sent t (range first last) in
      let s : ℕ = length before in
      let plain : map bare holds ≡ holds =
      bare_append p (q ++ data_sent) bare_p (bare_append q data_sent bare_q (bare_sent t (range first last))) in
      let alike : map bare (segment holds) ≡ holds = bare_segment holds ∙ plain in
      let size = length_holds in
      record {
        path_stands =
            subst (λ x. StandsAt t x p) (add-zero s) (part_stands t before (segment holds) behind splits [] p (q ++ data_sent) alike);
        tree_stands = part_stands t before (segment holds) behind splits p q data_sent alike;
        data_stands =
            (let place : s + length (p ++ q) ≡ s + length p + length q =
            ap (λ x. s + x) (length-append p q) ∙ sym (add_assoc s (length p) (length q)) in
            subst (λ x. StandsAt t x data_sent) place
            (part_stands t before (segment holds) behind splits (p ++ q) data_sent []
            (alike ∙ sym (append_assoc p q data_sent) ∙ ap (λ xs. (p ++ q) ++ xs) (sym (append-nil data_sent)))));
        own_starts = own_start t before holds behind splits (omega arith);
        next_starts = λ x low high.
            (let y : ℕ = x - s in
            let at : s + y ≡ x = omega arith in
            let n = next_start t before holds behind splits plain opens y (omega arith) in
            (rw at at n) ∙ omega arith);
        sent_before_lem = λ x low high.
            (let y : ℕ = x - s in
            let at : x ≡ s + y = omega arith in
            let front : take x (slots t) ≡ before ++ take y (segment holds) =
            ap₂ (λ n zs. take n zs) at splits
            ∙ take-append-add before (segment holds ++ behind) y
            ∙ ap (λ zs. before ++ zs) (take-append-le y (segment holds) behind (rw (length_segment holds) (omega arith))) in
            let index : map bare (take y (segment holds)) ≡ take y (p ++ q) =
            map_take bare y (segment holds)
            ∙ ap (take y) (alike ∙ sym (append_assoc p q data_sent))
            ∙ take-append-le y (p ++ q) data_sent (rw (length-append p q) (omega arith)) in
            let quiet : data_count t (take y (segment holds)) ≡ 0 =
            sym (count_bare t (take y (segment holds)))
            ∙ ap (data_count t) index
            ∙ quiet_take t y (p ++ q) (count_append t p q ∙ ap₂ (λ u v. u + v) quiet_p quiet_q) in
            last_sent_lem t kept x
            ∙ ap (last_of t)
            (ap (data_count t) front
            ∙ count_append t before (take y (segment holds))
            ∙ ap₂ (λ u v. u + v) sent_first quiet
            ∙ add-zero first));
      }
