-- The distance to the next occurrence of a bucket, by where it stands: skipped buckets, and the rest of the cycle.
-- Assumes nothing.
use mathlib.Core.Path.{◌≡◌, sym, ap, ◌∙◌}
use mathlib.Core.Logic.{◌⊎◌, inl, inr}
use Prim.Native.Nat.{ℕ, ◌+◌, ◌-◌, ◌≤◌}
use native.Mathlib.Omega.{arith}
use mathlib.Core.Bool.{true, false}
use mathlib.Core.List.{List, [], ◌∷◌, ◌++◌, append_assoc}
use lib.ListN.{length, length-append}
use borrow.Author.Tests.{lt-ltb, le-ltb}
use Rattle.columns.specs.Lists.{any}
use Rattle.cycle.specs.Tree.{Plan}
use Rattle.cycle.specs.Layouts.{Slot, slots}
use Rattle.cycle.specs.Cycle.{occurs, distance_to, to_next}
use Rattle.cycle.specs.Cycle.{first_place}
use Rattle.cycle.specs.Inner.Held.{ahead_of}
use Rattle.cycle.proofs.Segmenting.Positions.{At, at_length}
use Rattle.cycle.proofs.Reach.Distances.{some_left, distance_past, distance_within, distance_none, distance_low, distance_near, distance_hit}

-- the first occurrence, by what is sent before it
pub first_hit :
    (t : Plan) (l c : ℕ) (xs : List Slot) (y : Slot) (ys : List Slot) → slots t ≡ xs ++ (y ∷ ys) → any (occurs l c) xs ≡ false →
    occurs l c y ≡ true → first_place t l c ≡ length xs
unfolding first_place
first_hit t l c xs y ys e h o =
    let p : distance_to (occurs l c) (slots t) ≡ length xs + 1 = ap (distance_to (occurs l c)) e ∙ distance_hit (occurs l c) xs y ys h o in
    omega arith

module _ {t : Plan} {x i j : ℕ} {xs : List Slot} (a : At t x i j xs) where
  -- up to the bucket at x, and behind it
  abbrev pub sent_yet : List Slot
  sent_yet = a.before ++ (a.it ∷ [])

  abbrev pub to_send : List Slot
  to_send = a.next ++ a.behind

  pub at_parts : slots t ≡ sent_yet ++ to_send
  at_parts = a.splits ∙ sym (append_assoc a.before (a.it ∷ []) to_send)

  pub length_sent_yet : length sent_yet ≡ x + 1
  length_sent_yet = length-append a.before (a.it ∷ []) ∙ ap (λ y. y + 1) a.here

module _ {t : Plan} {x i j : ℕ} {xs : List Slot} (a : At t x i j xs) (l c : ℕ) where
  -- the first occurrence is ahead
  pub first_ahead :
      any (occurs l c) (sent_yet a) ≡ false → first_place t l c ≡ x + distance_to (occurs l c) (to_send a)
  unfolding first_place
  first_ahead p =
      let e : distance_to (occurs l c) (slots t) ≡ length (sent_yet a) + distance_to (occurs l c) (to_send a) =
      ap (distance_to (occurs l c)) (at_parts a) ∙ distance_past (occurs l c) (sent_yet a) (to_send a) p in
      omega (arith, length_sent_yet a)

  pub next_later : any (occurs l c) (sent_yet a) ≡ false → to_next (to_send a) l c ≡ first_place t l c - x
  unfolding to_next
  next_later p = omega (arith, first_ahead p)

  -- none is left in this cycle
  pub next_none : any (occurs l c) (to_send a) ≡ false → to_next (to_send a) l c ≡ length (slots t) - x
  unfolding to_next
  next_none p = omega (arith, distance_none (occurs l c) (to_send a) p, at_length a)

  pub first_past : any (occurs l c) (sent_yet a) ≡ true → first_place t l c ≤ x
  unfolding first_place
  first_past p =
      let e : distance_to (occurs l c) (slots t) ≡ distance_to (occurs l c) (sent_yet a) =
      ap (distance_to (occurs l c)) (at_parts a) ∙ distance_within (occurs l c) (sent_yet a) (to_send a) p in
      omega (arith, length_sent_yet a, distance_near (occurs l c) (sent_yet a) p)

  -- where every occurrence is ahead, or every one is past
  pub next_ahead :
      any (occurs l c) (slots t) ≡ true → (any (occurs l c) (sent_yet a) ≡ false) ⊎ (any (occurs l c) (to_send a) ≡ false) →
      to_next (to_send a) l c ≡ ahead_of (length (slots t)) x (first_place t l c)
  unfolding ahead_of
  next_ahead h (inl p) =
      let e : first_place t l c ≡ x + distance_to (occurs l c) (to_send a) = first_ahead p in
      let s : 1 ≤ distance_to (occurs l c) (to_send a) = distance_low (occurs l c) (to_send a) in
      rw (lt-ltb x (first_place t l c) (omega arith)) (next_later p)
  next_ahead h (inr p) =
      let q : any (occurs l c) (sent_yet a) ≡ true =
      some_left (occurs l c) (sent_yet a) (to_send a) (sym (ap (any (occurs l c)) (at_parts a)) ∙ h) p in
      rw (le-ltb x (first_place t l c) (first_past q)) (next_none p)
