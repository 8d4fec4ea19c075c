-- Layout 1: the next occurrence that a later control pair reaches, as the code works it out.
-- Assumes nothing.
use mathlib.Core.Path.{◌≡◌, sym, ap, subst, ◌∙◌}
use mathlib.Core.Logic.{inl, inr, ⊎_elim}
use Prim.Native.Nat.{ℕ, suc, ◌+◌, ◌-◌, ◌*◌, ◌/◌, ◌%◌, ◌≤◌, ◌<◌}
use native.Mathlib.Nat.{div-add-mod', mod-lt}
use native.Mathlib.Decide.{ℕ_discrete}
use native.Mathlib.Numerals.{add-one}
use native.Mathlib.Omega.{arith}
use lib.ListN.{length}
use borrow.Author.Tests.{eq-eqb, ne_eqb, lt-ltb, le-ltb}
use Rattle.cycle.specs.Tree.{Plan, width, above}
use Rattle.cycle.specs.Layouts.{slots}
use Rattle.cycle.specs.Cycle.{to_next}
use Rattle.cycle.specs.Cycle.{first_place}
use Rattle.cycle.specs.Inner.Held.{pair_reach, place_over}
use Rattle.cycle.proofs.Sequences.Sequence.{Sound}
use Rattle.cycle.proofs.Basics.Ranges.{le_or_lt}
use Rattle.cycle.proofs.Trees.TreeLaws.{bounds_child}
use Rattle.cycle.proofs.Sequences.Blocks.{block_level, block_count}
use Rattle.cycle.proofs.Reach.NextOccurrence.{to_send}
use Rattle.cycle.proofs.Reach.Occurrences.{top_of, place_on}
use Rattle.cycle.proofs.Reach.PathPairs.{path_at, parent_above, pair_last, pair_turn, turn_ahead}

module _ (t : Plan) (size x j place : ℕ) where
  pub reach_last : (place + 1) % t.n ≡ 0 → pair_reach t size x j place ≡ size - x
  unfolding pair_reach
  reach_last e = rw (eq-eqb ((place + 1) % t.n) 0 e)

  pub reach_end :
      ((place + 1) % t.n ≡ 0 → ⊥) → width t j ≤ place + 1 → pair_reach t size x j place ≡ size - x
  unfolding pair_reach
  reach_end f h = rw (ne_eqb ((place + 1) % t.n) 0 f, le-ltb (place + 1) (width t j) h)

  pub reach_turn :
      ((place + 1) % t.n ≡ 0 → ⊥) → place + 1 < width t j → pair_reach t size x j place ≡ first_place t j (place + 1) - 1 - x
  unfolding pair_reach
  reach_turn f h = rw (ne_eqb ((place + 1) % t.n) 0 f, lt-ltb (place + 1) (width t j) h)

-- a number that is no multiple has the same quotient as the one before it
pub same_quotient : (t : Plan) (c : ℕ) → 0 < t.n → (suc c % t.n ≡ 0 → ⊥) → suc c / t.n ≡ c / t.n
same_quotient t c pos f =
    let z : ℕ = suc c / t.n in
    let whole : z * t.n + suc c % t.n ≡ suc c = div-add-mod' (suc c) t.n in
    let small : suc c % t.n < t.n = mod-lt (suc c) pos in
    sym (bounds_child t pos z c (omega (arith, f)) (omega arith))

module _ (t : Plan) (sound : Sound t) (one : t.layout ≡ 1) (b i m : ℕ) (low : top_of t b ≤ i) (high : i ≤ t.copies) (count : b + suc m ≡ block_count t) (j : ℕ) (from : 2 ≤ j) (to : j ≤ i) where
  abbrev here : ℕ
  here = above t.n (block_level t - j) b

  grows : 0 < t.n
  grows = omega (arith, sound.grows)

  over : above t.n (block_level t - (j - 1)) b ≡ here / t.n
  over = parent_above t sound one b j (omega arith) (omega arith)

  pub reach_ahead : ((here + 1) % t.n ≡ 0 → ⊥) → here + 1 < width t j → place_on t b i < first_place t j (here + 1)
  reach_ahead f h =
      rw (add-one here)
      (turn_ahead t sound one b i m low high count j from to (omega arith)
      (same_quotient t here grows (subst (λ z. z % t.n ≡ 0 → ⊥) (add-one here) f) ∙ sym over))

  pub pair_reaches :
      to_next (to_send (path_at t sound one b i m low high count)) (j - 1) (place_over t b (j - 1))
      ≡ pair_reach t (length (slots t)) (place_on t b i) j (place_over t b j)
  unfolding place_over
  pair_reaches =
      let size : ℕ = length (slots t) in
      let x : ℕ = place_on t b i in
      elim (ℕ_discrete ((here + 1) % t.n) 0) [
        | yes e ↦
            pair_last t sound one b i m low high count j from to (inl (ap (λ z. z % t.n) (sym (add-one here)) ∙ e))
            ∙ sym (reach_last t size x j here e)
        | no f ↦
            ⊎_elim
            (λ (h : width t j ≤ here + 1).
            pair_last t sound one b i m low high count j from to (inr (omega arith)) ∙ sym (reach_end t size x j here f h))
            (λ (h : here + 1 < width t j).
            pair_turn t sound one b i m low high count j from to (omega arith)
            (same_quotient t here grows (subst (λ z. z % t.n ≡ 0 → ⊥) (add-one here) f) ∙ sym over)
            ∙ ap (λ z. first_place t j z - 1 - x) (sym (add-one here))
            ∙ sym (reach_turn t size x j here f h))
            (le_or_lt (width t j) (here + 1))
      ]
