-- Layout 2, (1,m): the cycle keeps what listeners rest on.
-- Assumes nothing.
use mathlib.Core.Path.{◌≡◌, refl, ap, subst}
use Prim.Native.Nat.{ℕ, zero, suc, ◌+◌, ◌-◌, ◌*◌, ◌/◌, ◌≤◌, ◌<◌}
use native.Mathlib.Nat.{zero-mul, zero-div, mul-div_cancel_left, mul-le-mul_right, le-div_iff_mul-le, div-mul-le_self, le_trans}
use native.Mathlib.Omega.{arith}
use mathlib.Core.Bool.{true, false}
use mathlib.Core.List.{List, ◌∷◌, ◌++◌, append_assoc}
use borrow.Author.Tests.{ne_eqb, eq-eqb}
use Rattle.columns.specs.Lists.{joined, span, range}
use Rattle.cycle.specs.Tree.{Plan, children}
use Rattle.cycle.specs.Layouts.{Slot, slot, slots, subtree, tree_below, sent, whole_segment, one_m}
use Rattle.cycle.proofs.Sequences.Sequence.{Sound, Keeps}
use Rattle.cycle.proofs.Sequences.Suffixes.{paired, Stands, Sends, done, sends_at, root, keeps_sent}
use Rattle.cycle.proofs.Sequences.Pieces.{next_index, sends_data, sends_joined, child_rooted, sends_subtree, child_comes}

-- the data buckets sent where part i begins
abbrev pub part_start : Plan → ℕ → ℕ
part_start t i = i * t.d / t.copies

-- what follows a root: its subtrees, part i, and the rest
abbrev pub behind_root : Plan → ℕ → List Slot → List Slot
behind_root t i rest =
    joined (λ c. subtree t (t.k - 1) 2 c) (children t 1 0) ++ (sent t (range (part_start t i) (part_start t (suc i))) ++ rest)

pub part_step : (t : Plan) (i : ℕ) → 0 < t.copies → part_start t i ≤ part_start t (suc i)
part_step t i pos =
    (le-div_iff_mul-le pos).1
    (le_trans (div-mul-le_self (i * t.d) t.copies) (mul-le-mul_right t.d (omega arith)))

module _ (t : Plan) (sound : Sound t) (other : t.layout ≡ 1 → ⊥) where
  pub whole_root : (i : ℕ) (rest : List Slot) → whole_segment t i ++ rest ≡ root ∷ behind_root t i rest
  unfolding whole_segment tree_below slot
  whole_root i rest =
      let height : t.k + 1 - 1 ≡ suc (t.k - 1) = omega (arith, sound.levelled) in
      rw height (ap (λ xs. root ∷ xs) (append_assoc (joined (λ c. subtree t (t.k - 1) 2 c) (children t 1 0)) (sent t (range (part_start t i) (part_start t (suc i)))) rest))

  pub root_paired : paired t 1 ≡ true
  root_paired = rw (ne_eqb t.layout 1 other) (eq-eqb 1 1 refl)

  pub lower_unpaired : (a : ℕ) → 2 ≤ a → paired t a ≡ false
  lower_unpaired a h = rw (ne_eqb t.layout 1 other) (ne_eqb a 1 (λ e. omega arith))

  pub sends_behind_root :
      (i : ℕ) (rest : List Slot) → Sends t (part_start t (suc i)) rest → Sends t (part_start t i) (behind_root t i rest)
  sends_behind_root i rest r =
      let grows : part_start t i ≤ part_start t (suc i) = part_step t i (sound.parts_some other) in
      let start : ℕ = part_start t i in
      let end : ℕ = part_start t (suc i) in
      let all : start + (end - start) ≡ end = omega arith in
      let pos : 0 < t.n = omega (arith, sound.grows) in
      sends_joined (λ c. subtree t (t.k - 1) 2 c) (children t 1 0)
      (λ c m more r'.
      sends_subtree t pos (t.k - 1) 2 c start more (omega arith) (child_rooted t pos 1 0 c (omega arith) refl m)
      (omega (arith, sound.levelled)) lower_unpaired r')
      (sent t (range start end) ++ rest)
      (sends_data start (end - start) (sends_at all r))

  pub root_stands :
      (i : ℕ) (rest : List Slot) → Sends t (part_start t (suc i)) rest → Stands t (part_start t i) 1 0 (behind_root t i rest)
  root_stands i rest r =
      record {
        low = omega arith;
        high = sound.levelled;
        rooted = refl;
        child = λ q l u p.
            child_comes t (omega (arith, sound.grows)) (t.k - 1) 1 0 q (part_start t i)
            (sent t (range (part_start t i) (part_start t (suc i))) ++ rest) (omega (arith, sound.levelled)) l u p
            (sends_behind_root i rest r);
        left_of = λ p q l u. omega arith;
        again = λ p q l u a low lt. absurd (omega arith);
      }

  pub sends_parts : (m i : ℕ) → i + m ≡ t.copies → Sends t (part_start t i) (joined (whole_segment t) (span i m))
  sends_parts zero i e =
      let all : i ≡ t.copies = omega arith in
      let whole : part_start t i ≡ t.d = rw all (mul-div_cancel_left t.d (sound.parts_some other)) in
      done whole
  sends_parts (suc m) i e =
      let later = sends_parts m (suc i) (omega arith) in
      rw (whole_root i (joined (whole_segment t) (span (suc i) m)))
      (next_index root (λ u. root_paired) (root_stands i (joined (whole_segment t) (span (suc i) m)) later)
      (sends_behind_root i (joined (whole_segment t) (span (suc i) m)) later))

  pub one_m_opens : slots t ≡ root ∷ behind_root t 0 (joined (whole_segment t) (span 1 (t.copies - 1)))
  unfolding slots one_m
  one_m_opens =
      let some : t.copies - 0 ≡ suc (t.copies - 1) = omega (arith, sound.parts_some other) in
      rw (ne_eqb t.layout 1 other, some) (whole_root 0 (joined (whole_segment t) (span 1 (t.copies - 1))))

  pub keeps_one_m : Keeps t
  keeps_one_m =
      let rest : List Slot = joined (whole_segment t) (span 1 (t.copies - 1)) in
      let none : part_start t 0 ≡ 0 = rw (zero-mul, zero-div) in
      let later : Sends t (part_start t 1) rest = sends_parts (t.copies - 1) 1 (omega (arith, sound.parts_some other)) in
      keeps_sent t (behind_root t 0 rest) one_m_opens
      (subst (λ s. Stands t s 1 0 (behind_root t 0 rest)) none (root_stands 0 rest later))
      (subst (λ s. Sends t s (behind_root t 0 rest)) none (sends_behind_root 0 rest later))
