-- The target of a tag: the first data bucket whose last tag is at least ours, or D if there is none. How the tags of data
-- buckets and of the buckets above them compare with ours is told by places alone.
-- Assumes nothing.
use mathlib.Core.Path.{◌≡◌, sym, ◌∙◌}
use mathlib.Core.Logic.{⊎_elim}
use Prim.Native.Nat.{ℕ, ◌+◌, ◌-◌, ◌*◌, ◌^◌, ◌≤◌, ◌<◌, min}
use mathlib.Core.Bool.{true, false}
use native.Mathlib.Omega.{arith}
use lib.Dec.{leb, ltb}
use borrow.Author.Tests.{leb-true, leb-false, le-leb, lt-leb, lt-ltb, le-ltb}
use Rattle.columns.specs.Lists.{last_or, range}
use Rattle.cycle.specs.Tree.{Plan, width, data_under, last_tag, largest_tag}
use Rattle.cycle.proofs.Sequences.Sequence.{place_above}
use Rattle.cycle.proofs.Basics.Ranges.{le_or_lt, last_range, range_empty}
use Rattle.cycle.proofs.Trees.TreeLaws.{data_under_range}
use Rattle.cycle.proofs.Basics.Least.{least_to, least_fails, least_passes}
use Rattle.cycle.proofs.Lines.DataTags.{AcceptedPlan, last_mono, Lowest, lowest}
use Rattle.listener.specs.EndPlace.{target}

-- ---- the target

pub target_le : (t : Plan) (tag : ℕ) → target t tag ≤ t.d
unfolding target
target_le t tag = omega (arith, least_to t.d 0 (λ q. leb tag (last_tag t q)))

pub before_target : (t : Plan) (tag q : ℕ) → q < target t tag → last_tag t q < tag
unfolding target
before_target t tag q h =
    leb-false tag (last_tag t q) (least_fails t.d 0 (λ q. leb tag (last_tag t q)) q (omega arith) h)

pub at_target : (t : Plan) (tag : ℕ) → target t tag < t.d → tag ≤ last_tag t (target t tag)
unfolding target
at_target t tag h =
    leb-true tag (last_tag t (target t tag)) (least_passes t.d 0 (λ q. leb tag (last_tag t q)) (omega arith))

pub from_target : (t : Plan) → AcceptedPlan t → (tag q : ℕ) → target t tag ≤ q → q < t.d → tag ≤ last_tag t q
from_target t a tag q h l =
    let e : target t tag + (q - target t tag) ≡ q = omega arith in
    let b : last_tag t (target t tag) ≤ last_tag t (target t tag + (q - target t tag)) =
    last_mono t a (target t tag) (q - target t tag) (omega arith) in
    let c : last_tag t (target t tag) ≤ last_tag t q = rw e at b in
    omega (arith, at_target t tag (omega arith))

-- ---- the largest tag below a bucket

module _ (t : Plan) (a : AcceptedPlan t) (tag : ℕ) where
  -- our tag is at most that of a bucket if the target's bucket on its level is at most it
  pub entry_test :
      (i c : ℕ) → target t tag < t.d → i ≤ t.k + 1 → c < width t i →
      leb tag (largest_tag t i c) ≡ leb (place_above t i (target t tag)) c
  entry_test i c h g l =
      ⊎_elim
      (λ (u : place_above t i (target t tag) ≤ c).
      let b : tag ≤ last_tag t w.last = from_target t a tag w.last (w.holds (target t tag) h u) w.there in
      le-leb tag (largest_tag t i c) (rw w.is b) ∙ sym (le-leb (place_above t i (target t tag)) c u))
      (λ (u : c < place_above t i (target t tag)).
      let b : last_tag t w.last < tag = before_target t tag w.last (w.leaves (target t tag) u) in
      lt-leb tag (largest_tag t i c) (rw w.is b) ∙ sym (lt-leb (place_above t i (target t tag)) c u))
      (le_or_lt (place_above t i (target t tag)) c)
    where
      w : Lowest t i c
      w = lowest t a.sound i c g l

  -- its tag is below ours if it is before the target's bucket on its level
  pub pair_test :
      (i c : ℕ) → target t tag < t.d → i ≤ t.k + 1 → c < width t i →
      ltb (largest_tag t i c) tag ≡ ltb c (place_above t i (target t tag))
  pair_test i c h g l =
      ⊎_elim
      (λ (u : place_above t i (target t tag) ≤ c).
      let b : tag ≤ last_tag t w.last = from_target t a tag w.last (w.holds (target t tag) h u) w.there in
      le-ltb (largest_tag t i c) tag (rw w.is b) ∙ sym (le-ltb c (place_above t i (target t tag)) u))
      (λ (u : c < place_above t i (target t tag)).
      let b : last_tag t w.last < tag = before_target t tag w.last (w.leaves (target t tag) u) in
      lt-ltb (largest_tag t i c) tag (rw w.is b) ∙ sym (lt-ltb c (place_above t i (target t tag)) u))
      (le_or_lt (place_above t i (target t tag)) c)
    where
      w : Lowest t i c
      w = lowest t a.sound i c g l

  -- a tag above the whole list
  pub over_entry : (i c : ℕ) → target t tag ≡ t.d → i ≤ t.k + 1 → c < width t i → leb tag (largest_tag t i c) ≡ false
  over_entry i c e g l =
      let w : Lowest t i c = lowest t a.sound i c g l in
      let b : last_tag t w.last < tag = before_target t tag w.last (rw e w.there) in
      lt-leb tag (largest_tag t i c) (rw w.is b)

  pub over_pair : (i c : ℕ) → target t tag ≡ t.d → 0 < t.d → i ≤ t.k → ltb (largest_tag t i c) tag ≡ true
  unfolding largest_tag
  over_pair i c e some g =
      lt-ltb (largest_tag t i c) tag
      (before_target t tag (last_or 0 (data_under t i c)) (rw (e, data_under_range t (omega (arith, a.sound.grows)) i c g) below))
    where
      m : ℕ
      m = t.n ^ (t.k + 1 - i)

      below : last_or 0 (range (c * m) (min t.d ((c + 1) * m))) < t.d
      below =
          ⊎_elim
          (λ (h : min t.d ((c + 1) * m) ≤ c * m). rw (range_empty (c * m) (min t.d ((c + 1) * m)) h) some)
          (λ (h : c * m < min t.d ((c + 1) * m)). rw (last_range 0 (c * m) (min t.d ((c + 1) * m)) h) (omega arith))
          (le_or_lt (min t.d ((c + 1) * m)) (c * m))
