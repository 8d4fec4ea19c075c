-- The first segment start behind a tune-in, and the start of a data bucket's segment: the bucket is sent before the one exactly
-- if the tune-in is not before the other.
-- Assumes nothing.
use mathlib.Core.Path.{◌≡◌, sym, ◌∙◌, ap, subst}
use mathlib.Core.Logic.{⊎_elim}
use Prim.Native.Nat.{ℕ, suc, ◌+◌, ◌-◌, ◌≤◌, ◌<◌}
use mathlib.Core.Bool.{true, false, true≢false}
use mathlib.Core.List.{List, [], ◌∷◌, ◌++◌, append_assoc}
use native.Mathlib.Omega.{arith}
use lib.Dec.{leb}
use lib.ListN.{length, drop, get_or, length-append, length-drop}
use lib.Seq.{drop-append-le, get_or-append_seam}
use borrow.Author.Tests.{lt-ltb, le-ltb, lt-leb, le-leb}
use Rattle.columns.specs.Lists.{pick, only, any, last_or, span}
use Rattle.cycle.specs.Tree.{Plan}
use Rattle.cycle.specs.Layouts.{Slot, slot, slots}
use Rattle.cycle.specs.Cycle.{to_next_segment, cycle_size}
use Rattle.cycle.specs.Waits.{starts_at, segment_start}
use Rattle.cycle.proofs.Basics.Ranges.{le_or_lt}
use Rattle.cycle.proofs.Basics.Lasts.{Last, last_only}
use Rattle.cycle.proofs.Lines.DataTags.{AcceptedPlan}
use Rattle.cycle.proofs.Segmenting.BucketAt.{Place, place_of}
use Rattle.cycle.proofs.Reach.Distances.{First, first_or_none, some_hit, distance_found}
use Rattle.cycle.proofs.Sequences.DataOnce.{Counted, counted}
use Rattle.listener.specs.EndPlace.{target, last_heard, position, segment_behind, sent_before, end_from, end_place}
use Rattle.listener.proofs.Walks.Ways.{Spot, here, sent_to, spot_of, spot_here, here_below, further, further_here}
use Rattle.listener.proofs.Walks.DataRun.{data_position}
use Rattle.listener.proofs.Walks.Roots.{root, root_here}
use Rattle.listener.proofs.Walks.EndCases.{position_below, behind_within, behind_round}

-- ---- the first segment start behind a tune-in

pub starts_here : {t : Plan} (s : Spot t) → starts_at t (here s) ≡ s.slot.starts
unfolding starts_at here
starts_here s =
    ap (λ xs. (get_or xs (length s.before) (slot 0 0)).starts) s.splits ∙
    ap (λ x. x.starts) (get_or-append_seam s.before s.slot s.rest (slot 0 0))

-- no segment starts before it
pub first_start :
    (t : Plan) (u x : ℕ) → u < x → x < cycle_size t → starts_at t x ≡ true → segment_behind t u ≤ x
unfolding segment_behind to_next_segment spot_of
first_start t u x l h is =
    let p : Place t x = place_of t x h in
    let between : List Slot = drop (suc u) p.before in
    let front : List Slot = between ++ (p.slot ∷ []) in
    let e : drop (suc u) (slots t) ≡ front ++ p.rest =
    ap (drop (suc u)) p.splits ∙
    (drop-append-le (suc u) p.before (p.slot ∷ p.rest) (omega (arith, p.is)) ∙ sym (append_assoc between (p.slot ∷ []) p.rest)) in
    let starts : p.slot.starts ≡ true = sym (starts_here (spot_of p)) ∙ (ap (starts_at t) (spot_here p) ∙ is) in
    let r = distance_found (λ y. y.starts) front p.rest (some_hit (λ y. y.starts) between p.slot [] starts) in
    let long : length front ≡ length between + 1 = length-append between (p.slot ∷ []) in
    rw e (omega (arith, r.near, long, length-drop (suc u) p.before, p.is))

-- x is a segment start behind u, or the coming cycle's
pub record Behind (t : Plan) (u x : ℕ) : Type 0 where
  pub later : u < x
  pub starts : x < cycle_size t → starts_at t x ≡ true

module _ (t : Plan) (a : AcceptedPlan t) where
  pub behind_here : (s : Spot t) → Behind t (here s) (segment_behind t (here s))
  unfolding further
  behind_here s =
      ⊎_elim
      (λ (f : First (λ x. x.starts) s.rest).
      let next : Spot t = further s f.skipped f.hit f.behind f.splits in
      record {
        later = omega (arith, behind_within t a s f, further_here s f.skipped f.hit f.behind f.splits);
        starts = λ h. ap (starts_at t) (behind_within t a s f) ∙ (starts_here next ∙ f.is);
      })
      (λ (n : any (λ x. x.starts) s.rest ≡ false).
      record {
        later = omega (arith, behind_round t a s n, here_below s);
        starts = λ h. absurd (omega (arith, behind_round t a s n));
      })
      (first_or_none (λ x. x.starts) s.rest)

  pub behind : (u : ℕ) → u < cycle_size t → Behind t u (segment_behind t u)
  behind u h =
      let p : Place t u = place_of t u h in
      subst (λ x. Behind t x (segment_behind t x)) (spot_here p) (behind_here (spot_of p))

  -- ---- the start of a data bucket's segment

  module _ (q : ℕ) (l : q < t.d) where
    -- no segment starts with the bucket itself
    pub data_no_start : starts_at t (position t q) ≡ false
    unfolding sent_to
    data_no_start =
        let g : Counted t q (slots t) = counted t q (slots t) (rw a.keeps.all_sent l) in
        let s : Spot t = record { before = g.skipped; slot = g.hit; rest = g.behind; splits = g.splits } in
        let p : position t q ≡ here s = ap (position t) (sym g.count) ∙ data_position t a s g.passes in
        ap (starts_at t) p ∙
        (starts_here s ∙ a.keeps.data_starts g.skipped g.hit g.behind g.splits g.passes)

    pub start_last : Last (starts_at t) (position t q) (segment_start t q)
    unfolding segment_start position root
    start_last =
        let first : starts_at t 0 ≡ true = ap (starts_at t) (sym (root_here t a)) ∙ starts_here (root t a) in
        let some : 0 < position t q =
        ⊎_elim
        (λ (h : position t q ≤ 0).
        let none : position t q ≡ 0 = omega arith in
        absurd (true≢false (sym first ∙ (ap (starts_at t) (sym none) ∙ data_no_start))))
        (λ (h : 0 < position t q). h)
        (le_or_lt (position t q) 0) in
        let more : position t q - 0 ≡ suc (position t q - 1) = omega arith in
        let all : 1 + (position t q - 1) ≡ position t q = omega arith in
        rw (more, first)
        (subst (λ b. Last (starts_at t) b (last_or 0 (only (starts_at t) (span 1 (position t q - 1))))) all
        (last_only (starts_at t) (position t q - 1) 0 1 first (omega arith) (λ x u v. absurd (omega arith))))

    -- "q is not sent before a" is "t is before the start of q's segment"
    pub sent_by_segment : (u : ℕ) → u < cycle_size t → sent_before t q (segment_behind t u) ≡ leb (segment_start t q) u
    unfolding sent_before
    sent_by_segment u h =
        ⊎_elim
        (λ (k : z ≤ u). lt-ltb (position t q) x (passed k) ∙ sym (le-leb z u k))
        (λ (k : u < z).
        le-ltb (position t q) x
        (omega (arith, w.below, first_start t u z k (omega (arith, w.below, position_below t a q l)) w.passes)) ∙
        sym (lt-leb z u k))
        (le_or_lt z u)
      where
        z : ℕ
        z = segment_start t q

        x : ℕ
        x = segment_behind t u

        w : Last (starts_at t) (position t q) z
        w = start_last

        b : Behind t u x
        b = behind u h

        none : z ≤ u → x ≤ position t q → starts_at t x ≡ false
        none k m =
            ⊎_elim
            (λ (n : position t q ≤ x). let same : x ≡ position t q = omega arith in ap (starts_at t) same ∙ data_no_start)
            (λ (n : x < position t q). w.none_behind x (omega (arith, b.later)) n)
            (le_or_lt (position t q) x)

        passed : z ≤ u → position t q < x
        passed k =
            ⊎_elim
            (λ (m : x ≤ position t q). absurd (true≢false (sym (b.starts (omega (arith, position_below t a q l))) ∙ none k m)))
            (λ (m : position t q < x). m)
            (le_or_lt x (position t q))

  -- where a hearing ends, by the start of the target's segment
  pub end_by_segment :
      (tag u : ℕ) → target t tag < t.d → u < cycle_size t →
      end_place t tag u ≡
      pick (leb (segment_start t (target t tag)) u) (cycle_size t + position t (last_heard t tag)) (position t (last_heard t tag))
  unfolding end_place end_from
  end_by_segment tag u l h = rw (lt-ltb (target t tag) t.d l, sent_by_segment (target t tag) l u h)
