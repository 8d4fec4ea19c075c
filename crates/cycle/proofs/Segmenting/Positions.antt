-- The bucket at a position of the cycle: which one of the tree it is, what is sent before and behind it, and what stands in it.
-- Assumes nothing.
use mathlib.Core.Path.{◌≡◌, refl, sym, ap, ap₂, ◌∙◌}
use Prim.Native.Nat.{ℕ, suc, ◌+◌, ◌-◌, ◌≤◌, ◌<◌}
use native.Mathlib.Nat.{add-zero, add-suc, suc-add}
use native.Mathlib.Omega.{arith}
use Rattle.std.specs.Prelude.{Option, None}
use mathlib.Core.List.{List, [], ◌∷◌, ◌++◌, map, append_assoc}
use lib.ListN.{length, take, drop, get_or, length-append}
use lib.Seq.{take_at, drop_at, split_at, length-take-le, get_or-append_seam}
use Rattle.buckets.specs.Bucket.{index_body, data_body}
use Rattle.buckets.specs.Inner.Held.{head_of}
use Rattle.cycle.specs.Tree.{Plan, last_tag, lines_of}
use Rattle.cycle.specs.Layouts.{Slot, slot, slots}
use Rattle.cycle.specs.Cycle.{is_data, has_pairs, later_pair, pairs, entries, follow_on_from, to_next_segment, body_of, bucket_of, last_sent, buckets_from, buckets, cycle_size}
use Rattle.cycle.specs.Inner.Held.{bare, StandsAt, last_sent_in, last_sent_before, no_bucket, cycle_bucket}
use Rattle.cycle.proofs.Sequences.Pieces.{index_slot, data_slot}

-- bucket j of level i stands at position x, and xs behind it
pub record At (t : Plan) (x i j : ℕ) (xs : List Slot) : Type 0 where
  pub before : List Slot
  pub it : Slot
  pub next : List Slot
  pub behind : List Slot
  pub splits : slots t ≡ before ++ (it ∷ (next ++ behind))
  pub here : length before ≡ x
  pub level_is : it.level ≡ i
  pub place_is : it.place ≡ j
  pub alike : map bare next ≡ xs

pub stand_at : {t : Plan} {x i j : ℕ} {xs : List Slot} → StandsAt t x (slot i j ∷ xs) → At t x i j xs
unfolding bare slot
stand_at {t} {x} {i} {j} {xs} s = of s.middle s.splits s.alike
  where
    of : (m : List Slot) → slots t ≡ s.before ++ (m ++ s.behind) → map bare m ≡ slot i j ∷ xs → At t x i j xs
    of [] e a = let z : ◌≡◌ {A = ℕ} 0 1 = cc in absurd (omega arith)
    of (y ∷ ys) e a =
        let first : bare y ≡ slot i j = cc in
        record {
          before = s.before;
          it = y;
          next = ys;
          behind = s.behind;
          splits = e;
          here = s.here;
          level_is = ap (λ z. z.level) first;
          place_is = ap (λ z. z.place) first;
          alike = cc;
        }

-- every position below N has a bucket
pub at_position : (t : Plan) (x : ℕ) → x < length (slots t) → (y : Slot) × At t x y.level y.place []
at_position t x h =
    let none_there : Slot = slot 0 0 in
    let y : Slot = get_or (slots t) x none_there in (
      y,
      record {
        before = take x (slots t);
        it = y;
        next = [];
        behind = drop (suc x) (slots t);
        splits = split_at (slots t) x none_there h;
        here = length-take-le x (slots t) (omega arith);
        level_is = refl;
        place_is = refl;
        alike = refl;
      },
    )

-- ---- the buckets of a cycle, one by one

pub length_buckets_from : (t : Plan) (size p : ℕ) (last : Option ℕ) (xs : List Slot) → length (buckets_from t size p last xs) ≡ length xs
length_buckets_from t size p last [] = refl
length_buckets_from t size p last (x ∷ xs) = ap suc (length_buckets_from t size (suc p) (last_sent t x last) xs)

pub length_buckets : (t : Plan) → length (buckets t) ≡ cycle_size t
unfolding buckets cycle_size
length_buckets t = length_buckets_from t (length (slots t)) 0 None (slots t)

pub get_d_buckets_from :
    (t : Plan) (size p : ℕ) (last : Option ℕ) (before : List Slot) (x : Slot) (rest : List Slot) →
    get_or (buckets_from t size p last (before ++ (x ∷ rest))) (length before) no_bucket
    ≡ bucket_of t size (p + length before) (last_sent_in t last before) x rest
get_d_buckets_from t size p last [] x rest = rw add-zero
get_d_buckets_from t size p last (y ∷ ys) x rest =
    rw (add-suc, ← suc-add) (get_d_buckets_from t size (suc p) (last_sent t y last) ys x rest)

module _ {t : Plan} {x i j : ℕ} {xs : List Slot} (a : At t x i j xs) where
  pub at_length : x + suc (length (a.next ++ a.behind)) ≡ length (slots t)
  at_length =
      let e : length (slots t) ≡ length a.before + suc (length (a.next ++ a.behind)) =
      ap length a.splits ∙ length-append a.before (a.it ∷ (a.next ++ a.behind)) in
      omega (arith, a.here)

  pub at_before : take x (slots t) ≡ a.before
  at_before = ap (take x) a.splits ∙ take_at a.before (a.it ∷ (a.next ++ a.behind)) x a.here

  pub at_rest : drop (suc x) (slots t) ≡ a.next ++ a.behind
  at_rest =
      let front : List Slot = a.before ++ (a.it ∷ []) in
      let e : slots t ≡ front ++ (a.next ++ a.behind) =
      a.splits ∙ sym (append_assoc a.before (a.it ∷ []) (a.next ++ a.behind)) in
      let l : length front ≡ length a.before + 1 = length-append a.before (a.it ∷ []) in
      ap (drop (suc x)) e ∙ drop_at front (a.next ++ a.behind) (suc x) (omega (arith, a.here))

  pub at_slot : (z : Slot) → get_or (slots t) x z ≡ a.it
  at_slot z =
      ap₂ (λ ys p. get_or ys p z) a.splits (sym a.here) ∙ get_or-append_seam a.before a.it (a.next ++ a.behind) z

  pub at_last : last_sent_before t x ≡ last_sent_in t None a.before
  unfolding last_sent_before
  at_last = ap (last_sent_in t None) at_before

  pub bucket_at_lem : cycle_bucket t x ≡ bucket_of t (length (slots t)) x (last_sent_before t x) a.it (a.next ++ a.behind)
  unfolding cycle_bucket buckets
  bucket_at_lem =
      let rest : List Slot = a.next ++ a.behind in
      let one : get_or (buckets_from t (length (slots t)) 0 None (a.before ++ (a.it ∷ rest))) (length a.before) no_bucket
      ≡ bucket_of t (length (slots t)) (0 + length a.before) (last_sent_in t None a.before) a.it rest =
      get_d_buckets_from t (length (slots t)) 0 None a.before a.it rest in
      let p : 0 + length a.before ≡ x = omega (arith, a.here) in
      ap₂ (λ ys p'. get_or (buckets_from t (length (slots t)) 0 None ys) p' no_bucket) a.splits (sym a.here)
      ∙ one
      ∙ ap₂ (λ p' l. bucket_of t (length (slots t)) p' l a.it rest) p (sym at_last)

  -- the mark of a segment's start is not printed
  pub body_at :
      (cycle_bucket t x).body ≡ body_of t (length (slots t) - x) (last_sent_before t x) (slot i j) (a.next ++ a.behind)
  unfolding bucket_of body_of is_data pairs has_pairs later_pair entries slot
  body_at =
      ap (λ b. b.body) bucket_at_lem
      ∙ ap₂ (λ u v. body_of t (length (slots t) - x) (last_sent_before t x) (slot u v) (a.next ++ a.behind))
      a.level_is a.place_is

  pub index_at :
      i ≤ t.k →
      (cycle_bucket t x).body
      ≡ index_body
      (pairs t (a.next ++ a.behind) (last_sent_before t x) (length (slots t) - x) (slot i j))
      (entries t (a.next ++ a.behind) (slot i j))
  unfolding body_of slot
  index_at h = body_at ∙ rw (index_slot t (slot i j) h)

  pub data_at_lem :
      i ≡ t.k + 1 →
      (cycle_bucket t x).body ≡ data_body (follow_on_from t (last_tag t j) 1 (a.next ++ a.behind)) (lines_of t j)
  unfolding body_of slot
  data_at_lem e = body_at ∙ rw (e, data_slot t j)

  pub head_at :
      head_of (cycle_bucket t x)
      ≡ record
      { position = x; to_cycle = length (slots t) - x; to_segment = to_next_segment (drop (suc x) (slots t)) }
  unfolding head_of bucket_of
  head_at = rw (bucket_at_lem, at_rest)

-- one bucket stands there
pub at_same :
    {t : Plan} {x i j l m : ℕ} {xs ys : List Slot} → At t x i j xs → At t x l m ys → (i ≡ l) × (j ≡ m)
at_same a b =
    let same : a.it ≡ b.it = sym (at_slot a (slot 0 0)) ∙ at_slot b (slot 0 0) in
    (sym a.level_is ∙ (ap (λ y. y.level) same ∙ b.level_is), sym a.place_is ∙ (ap (λ y. y.place) same ∙ b.place_is))
