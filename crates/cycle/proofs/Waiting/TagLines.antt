-- Where the lines of a tag stand, on lines whose tags never fall: their data buckets, and the different tags from a line on.
-- Assumes nothing.
use mathlib.Core.Path.{◌≡◌, refl, sym, ap, ◌∙◌}
use Prim.Native.Nat.{ℕ, zero, suc, ◌+◌, ◌-◌, ◌*◌, ◌/◌, ◌≤◌, ◌<◌, min}
use native.Mathlib.Nat.{div-mul-le_self, lt-div-mul-add, mul-le-mul_right, suc-mul}
use native.Mathlib.Omega.{arith}
use mathlib.Core.Bool.{true, false}
use mathlib.Core.List.{List, [], ◌∷◌}
use lib.Dec.{eqb}
use lib.ListN.{length, take, drop, get_or, length-take, length-drop}
use lib.Seq.{drop-cons, get_or-take, get_or-drop}
use borrow.Author.Tests.{eq-eqb, ne_eqb}
use Rattle.buckets.specs.declared.Line.{Line}
use Rattle.buckets.specs.ListLine.{spelled}
use Rattle.cycle.specs.Tree.{Plan, lines_of}
use Rattle.cycle.specs.Waits.{tag_among, different_tags, first_with, last_with}
use Rattle.cycle.proofs.Trees.TreeLaws.{lt_up}
use Rattle.cycle.proofs.Basics.Least.{least_is}
use Rattle.cycle.proofs.Basics.Lasts.{last_found}
use Rattle.cycle.proofs.Lines.Rising.{Rising}
use Rattle.cycle.proofs.Lines.DataTags.{AcceptedPlan}
use Rattle.cycle.proofs.Waiting.Passing.{any_at, any_nowhere}

-- ---- the tag of a line

-- what stands behind the last line
abbrev pub nowhere : Line
nowhere = spelled []

-- the tag of line j
unfoldable pub line_tag : List Line → ℕ → ℕ
line_tag ls j = (get_or ls j nowhere).tag

pub tag_drop : (ls : List Line) (a i : ℕ) → line_tag (drop a ls) i ≡ line_tag ls (a + i)
unfolding line_tag
tag_drop ls a i = ap (λ l. l.tag) (get_or-drop a ls i nowhere)

pub tag_take : (ls : List Line) (p i : ℕ) → i < p → line_tag (take p ls) i ≡ line_tag ls i
unfolding line_tag
tag_take ls p i h = ap (λ l. l.tag) (get_or-take p ls i nowhere h)

pub tag_among_lem : (tag : ℕ) (ls : List Line) (i : ℕ) → i < length ls → line_tag ls i ≡ tag → tag_among tag ls ≡ true
unfolding line_tag tag_among
tag_among_lem tag ls i h e = any_at (λ l. eqb l.tag tag) nowhere ls i h (eq-eqb (get_or ls i nowhere).tag tag e)

pub tag_nowhere : (tag : ℕ) (ls : List Line) → ((i : ℕ) → i < length ls → line_tag ls i ≡ tag → ⊥) → tag_among tag ls ≡ false
unfolding line_tag tag_among
tag_nowhere tag ls n =
    any_nowhere (λ l. eqb l.tag tag) nowhere ls (λ i h. ne_eqb (get_or ls i nowhere).tag tag (n i h))

-- tags never fall
tag_low : (m : ℕ) (ls : List Line) → Rising m ls → (j : ℕ) → j < length ls → m ≤ line_tag ls j
unfolding line_tag
tag_low m [] r j h = absurd (omega arith)
tag_low m (l ∷ ls) r zero h = r.0
tag_low m (l ∷ ls) r (suc j) h = omega (arith, r.0, tag_low l.tag ls r.1 j (omega arith))

pub later_tag : (m : ℕ) (ls : List Line) → Rising m ls → (i j : ℕ) → i ≤ j → j < length ls → line_tag ls i ≤ line_tag ls j
unfolding line_tag
later_tag m [] r i j h l = absurd (omega arith)
later_tag m (x ∷ ls) r zero zero h l = omega arith
later_tag m (x ∷ ls) r zero (suc j) h l = tag_low x.tag ls r.1 j (omega arith)
later_tag m (x ∷ ls) r (suc i) zero h l = absurd (omega arith)
later_tag m (x ∷ ls) r (suc i) (suc j) h l = later_tag x.tag ls r.1 i j (omega arith) (omega arith)

-- ---- the data buckets with a line of the tag

module _ (t : Plan) where
  pub in_bucket :
      (tag q j : ℕ) → q * t.p ≤ j → j < q * t.p + t.p → j < length t.lines → line_tag t.lines j ≡ tag →
      tag_among tag (lines_of t q) ≡ true
  unfolding lines_of
  in_bucket tag q j low high inside e =
      let a : ℕ = q * t.p in
      let rest : List Line = drop a t.lines in
      let there : a + (j - a) ≡ j = omega arith in
      let left : length rest ≡ length t.lines - a = length-drop a t.lines in
      let long : length (take t.p rest) ≡ min t.p (length rest) = length-take t.p rest in
      tag_among_lem tag (take t.p rest) (j - a) (omega arith)
      (tag_take rest t.p (j - a) (omega arith) ∙ tag_drop t.lines a (j - a) ∙ ap (line_tag t.lines) there ∙ e)

  pub not_in_bucket :
      (tag q : ℕ) →
      ((j : ℕ) → q * t.p ≤ j → j < q * t.p + t.p → j < length t.lines → line_tag t.lines j ≡ tag → ⊥) →
      tag_among tag (lines_of t q) ≡ false
  unfolding lines_of
  not_in_bucket tag q n =
      let a : ℕ = q * t.p in
      let rest : List Line = drop a t.lines in
      let left : length rest ≡ length t.lines - a = length-drop a t.lines in
      let long : length (take t.p rest) ≡ min t.p (length rest) = length-take t.p rest in
      tag_nowhere tag (take t.p rest)
      (λ i (h : i < length (take t.p rest)) e.
      n (a + i) (omega arith) (omega arith) (omega arith)
      (sym (tag_drop t.lines a i) ∙ sym (tag_take rest t.p i (omega arith)) ∙ e))

module _ (t : Plan) (a : AcceptedPlan t) (j : ℕ) (inside : j < length t.lines) where
  -- line j is in data bucket j / p
  pub bucket_inside : j / t.p < t.d
  bucket_inside =
      let from : j / t.p * t.p ≤ j = div-mul-le_self j t.p in
      rw a.d_is (lt_up (length t.lines) t.p (j / t.p) a.sound.full (omega arith))

  here : tag_among (line_tag t.lines j) (lines_of t (j / t.p)) ≡ true
  here =
      in_bucket t (line_tag t.lines j) (j / t.p) j (div-mul-le_self j t.p) (lt-div-mul-add a.sound.full) inside refl

  -- the first line of its tag
  pub first_with_lem :
      ((i : ℕ) → i < j → line_tag t.lines i ≡ line_tag t.lines j → ⊥) → first_with t (line_tag t.lines j) ≡ j / t.p
  unfolding first_with
  first_with_lem n =
      let from : j / t.p * t.p ≤ j = div-mul-le_self j t.p in
      least_is t.d 0 (λ q. tag_among (line_tag t.lines j) (lines_of t q)) (j / t.p) (omega arith) (omega (arith, bucket_inside)) here
      (λ q (u : 0 ≤ q) (v : q < j / t.p).
      not_in_bucket t (line_tag t.lines j) q
      (λ i low high there e.
      let next : suc q * t.p ≤ j / t.p * t.p = mul-le-mul_right t.p v in
      let wide : suc q * t.p ≡ q * t.p + t.p = suc-mul q t.p in
      n i (omega arith) e))

  -- the last line of its tag
  pub last_with_lem :
      ((i : ℕ) → j < i → i < length t.lines → line_tag t.lines i ≡ line_tag t.lines j → ⊥) →
      last_with t (line_tag t.lines j) ≡ j / t.p
  unfolding last_with
  last_with_lem n =
      let to : j < j / t.p * t.p + t.p = lt-div-mul-add a.sound.full in
      let all : t.d - 0 ≡ t.d = omega arith in
      last_found (λ q. tag_among (line_tag t.lines j) (lines_of t q)) (t.d - 0) 0 0 (j / t.p) (omega arith) (omega (arith, bucket_inside)) here
      (λ q (u : j / t.p < q) (v : q < 0 + (t.d - 0)).
      not_in_bucket t (line_tag t.lines j) q
      (λ i low high there e.
      let next : suc (j / t.p) * t.p ≤ q * t.p = mul-le-mul_right t.p u in
      let wide : suc (j / t.p) * t.p ≡ j / t.p * t.p + t.p = suc-mul (j / t.p) t.p in
      n i (omega arith) there e))

-- ---- the different tags from a line on

module _ (ls : List Line) (i : ℕ) (inside : i < length ls) where
  pub tags_same : suc i < length ls → line_tag ls (suc i) ≡ line_tag ls i → different_tags (drop i ls) ≡ different_tags (drop (suc i) ls)
  unfolding line_tag
  tags_same h e =
      let left : length (drop (suc i) ls) ≡ length ls - suc i = length-drop (suc i) ls in
      let first : suc i + 0 ≡ suc i = omega arith in
      let found : tag_among (get_or ls i nowhere).tag (drop (suc i) ls) ≡ true =
      tag_among_lem (get_or ls i nowhere).tag (drop (suc i) ls) 0 (omega arith) (tag_drop ls (suc i) 0 ∙ ap (line_tag ls) first ∙ e) in
      rw (drop-cons ls i nowhere inside, found)

  pub tags_next :
      ((j : ℕ) → i < j → j < length ls → line_tag ls j ≡ line_tag ls i → ⊥) →
      different_tags (drop i ls) ≡ line_tag ls i ∷ different_tags (drop (suc i) ls)
  unfolding line_tag
  tags_next n =
      let left : length (drop (suc i) ls) ≡ length ls - suc i = length-drop (suc i) ls in
      let gone : tag_among (get_or ls i nowhere).tag (drop (suc i) ls) ≡ false =
      tag_nowhere (get_or ls i nowhere).tag (drop (suc i) ls)
      (λ j (h : j < length (drop (suc i) ls)) e. n (suc i + j) (omega arith) (omega arith) (sym (tag_drop ls (suc i) j) ∙ e)) in
      rw (drop-cons ls i nowhere inside, gone)
