-- A loop that reads items: what the reading of all of them is, once some were read.
-- Assumes nothing.
use Prim.Native.Nat.{ℕ, zero, suc, ◌+◌, ◌-◌, ◌*◌, ◌<◌, ◌≤◌}
use mathlib.Core.Path.{◌≡◌, refl, sym, ap, ◌∙◌}
use mathlib.Core.Bool.{Bool, true, false}
use Rattle.std.specs.Prelude.{Option, None, Some}
use mathlib.Core.List.{List, [], ◌∷◌, ◌++◌, map, append_assoc, append-nil}
use native.Mathlib.Omega.{arith}
use native.Mathlib.Nat.{zero-mul, suc-mul}
use native.Mathlib.Numerals.{add-one}
use lib.ListN.{length, take, drop, length-append, length-drop}
use lib.Seq.{drop-drop, take_all}
use borrow.Author.Tests.{ne_eqb}
use Rattle.std.specs.Option.{option_map}
use Rattle.columns.specs.Lists.{pick}
use Rattle.columns.specs.PrintedNumbers.{all_blank}
use Rattle.buckets.specs.Inner.Columns.{and_then, read_pair, read_run, read_items, read_pairs}
use Rattle.buckets.specs.Lengths.{entry_width}

-- ---- parts of a slice, as the code lends them

pub part_at : (k w : ℕ) (s : List ℕ) → take (k + w - k) (drop k s) ≡ take w (drop k s)
part_at k w s = let e : k + w - k ≡ w = omega arith in rw e

-- a part to the end
pub part_rest : (k : ℕ) (s : List ℕ) → take (length s - k) (drop k s) ≡ drop k s
part_rest k s = take_all (length s - k) (drop k s) (simp length-drop (omega arith))

-- ---- the items read so far

-- the items xs, and behind them what a reading finds
abbrev pub behind : {A : Type 0} → List A → Option (List A) → Option (List A)
behind xs o = and_then o (λ ys. Some (xs ++ ys))

behind_nil : {A : Type 0} (o : Option (List A)) → behind [] o ≡ o
behind_nil None = refl
behind_nil (Some ys) = refl

behind_more : {A : Type 0} (xs : List A) (a : A) (o : Option (List A))
    → behind xs (and_then o (λ ys. Some (a ∷ ys))) ≡ behind (xs ++ a ∷ []) o
behind_more xs a None = refl
behind_more xs a (Some ys) = ap {B = Option (List _)} Some (sym (append_assoc xs (a ∷ []) ys))

-- i items of c are read, xs, and leave m
pub record ReadSoFar {A : Type 0} (read : ℕ → List ℕ → Option A) (next : ℕ → A → ℕ) (w c : ℕ) (s : List ℕ) (xs : List A)
    (m i : ℕ) : Type 0 where
  pub few : i ≤ c
  pub count : length xs ≡ i
  pub left : read_run read next w 0 c s ≡ behind xs (read_run read next w m (c - i) (drop (i * w) s))

module _ {A : Type 0} (read : ℕ → List ℕ → Option A) (next : ℕ → A → ℕ) (w c : ℕ) (s : List ℕ) where
  pub nothing_yet : ReadSoFar read next w c s [] 0 0
  nothing_yet =
      let all : c - 0 ≡ c = omega arith in
      record {
        few = omega arith;
        count = refl;
        left = rw (all, zero-mul w) (sym (behind_nil (read_run read next w 0 c s)));
      }

  module _ {xs : List A} {m i : ℕ} (so : ReadSoFar read next w c s xs m i) where
    pub one_more : i < c → (a : A) → Some a ≡ read m (take (i * w + w - i * w) (drop (i * w) s))
        → ReadSoFar read next w c s (xs ++ a ∷ []) (next m a) (i + 1)
    one_more l a e =
        let rest : c - i ≡ suc (c - (i + 1)) = omega arith in
        let on : i * w + w ≡ (i + 1) * w = sym (rw add-one (suc-mul i w)) in
        record {
          few = omega arith;
          count = simp length-append (omega (arith, so.count));
          left =
              so.left
              ∙ rw (rest, ← part_at (i * w) w s, sym e, drop-drop w (i * w) s, on)
              (behind_more xs a (read_run read next w (next m a) (c - (i + 1)) (drop ((i + 1) * w) s)));
        }

  -- the columns behind the items were tested: r tells whether they are blank
  module _ {r : Bool} (test : r ≡ all_blank (take (length s - c * w) (drop (c * w) s))) where
    pub not_blank_behind : r ≡ false → read_items read next w c s ≡ None
    unfolding read_items
    not_blank_behind n = rw (← part_rest (c * w) s, sym test ∙ n)

    module _ (n : r ≡ true) {xs : List A} {m i : ℕ} (so : ReadSoFar read next w c s xs m i) where
      whole : read_items read next w c s ≡ behind xs (read_run read next w m (c - i) (drop (i * w) s))
      unfolding read_items
      whole = rw (← part_rest (c * w) s, sym test ∙ n) so.left

      pub item_misprinted : i < c → None ≡ read m (take (i * w + w - i * w) (drop (i * w) s)) → read_items read next w c s ≡ None
      item_misprinted l e =
          let rest : c - i ≡ suc (c - (i + 1)) = omega arith in
          whole ∙ rw (rest, ← part_at (i * w) w s, sym e)

      pub all_read : c ≤ i → read_items read next w c s ≡ Some xs
      all_read l =
          let none_left : c - i ≡ 0 = omega arith in
          whole ∙ rw none_left (ap {B = Option (List A)} Some (append-nil xs))

-- ---- items of which a number is held

module _ {A : Type 0} (read : ℕ → List ℕ → Option A) (key : A → ℕ) (w : ℕ) where
  key_behind : (a : A) (o : Option (List A)) → and_then (option_map (map key) o) (λ ks. Some (key a ∷ ks))
      ≡ option_map (map key) (and_then o (λ xs. Some (a ∷ xs)))
  key_behind a None = refl
  key_behind a (Some xs) = refl

  key_first : (o : Option A) (keys : ℕ → Option (List ℕ)) (rest : ℕ → Option (List A)) → ((k : ℕ) → keys k ≡ option_map (map key) (rest k))
      → and_then (option_map key o) (λ k. and_then (keys k) (λ ks. Some (k ∷ ks)))
      ≡ option_map (map key) (and_then o (λ a. and_then (rest (key a)) (λ xs. Some (a ∷ xs))))
  key_first None keys rest e = refl
  key_first (Some a) keys rest e = rw (e (key a)) (key_behind a (rest (key a)))

  run_keys : (m c : ℕ) (s : List ℕ) → read_run (λ m s. option_map key (read m s)) (λ m k. k) w m c s
      ≡ option_map (map key) (read_run read (λ m a. key a) w m c s)
  run_keys m zero s = refl
  run_keys m (suc c) s =
      key_first (read m (take w s)) (λ k. read_run (λ m s. option_map key (read m s)) (λ m k. k) w k c (drop w s))
      (λ k. read_run read (λ m a. key a) w k c (drop w s)) (λ k. run_keys k c (drop w s))

  -- they are read as the items are
  pub keys_read : (c : ℕ) (s : List ℕ) → read_items (λ m s. option_map key (read m s)) (λ m k. k) w c s
      ≡ option_map (map key) (read_items read (λ m a. key a) w c s)
  unfolding read_items
  keys_read c s = by_test (all_blank (drop (c * w) s))
    where
      by_test : (t : Bool) → pick t (read_run (λ m s. option_map key (read m s)) (λ m k. k) w 0 c s) None
          ≡ option_map (map key) (pick t (read_run read (λ m a. key a) w 0 c s) None)
      by_test true = run_keys 0 c s
      by_test false = refl

-- ---- control pairs, of which the first one's tag alone may be blank

pair_later : (n i : ℕ) (s : List ℕ) → read_pair n (suc i) s ≡ read_pair n 1 s
unfolding read_pair
pair_later n i s = rw (ne_eqb (suc i) 0 (λ e. omega arith))

later_pairs : (n i c : ℕ) (s : List ℕ) → read_run (read_pair n) (λ k p. 1) entry_width 1 c s
    ≡ read_run (read_pair n) (λ k p. suc k) entry_width (suc i) c s
later_pairs n i zero s = refl
later_pairs n i (suc c) s = rw (pair_later n i (take entry_width s), later_pairs n (suc i) c (drop entry_width s))

-- 1 in place of the number of those before one gives the same
pub pairs_read : (n c : ℕ) (s : List ℕ) → read_items (read_pair n) (λ k p. 1) entry_width c s ≡ read_pairs n c s
unfolding read_items read_pairs
pairs_read n zero s = refl
pairs_read n (suc c) s = rw (later_pairs n 0 c (drop entry_width s))
