-- Items read one behind the other: reading undoes printing and printing undoes reading.
-- Assumes nothing.
use Prim.Native.Nat.{ℕ, zero, suc, ◌+◌, ◌-◌, ◌*◌, ◌≤◌}
use mathlib.Core.Path.{◌≡◌, refl, sym, ap, ap₂, ◌∙◌}
use mathlib.Core.Bool.{Bool, true, false, ◌&&◌}
use Rattle.std.specs.Prelude.{Option, Some}
use mathlib.Core.List.{List, [], ◌∷◌, ◌++◌, map, append_assoc}
use native.Mathlib.Omega.{arith}
use native.Mathlib.Nat.{zero-mul, suc-mul}
use lib.Dec.{leb}
use lib.ListN.{length, take, drop, replicate, length-take, length-drop, take-append-drop}
use lib.Seq.{take_at, drop_at, take-add}
use Rattle.columns.specs.Lists.{joined, every, padded}
use Rattle.columns.proofs.Strict.{both, and_false}
use Rattle.columns.proofs.Joined.{length_joined}
use Rattle.buckets.specs.Bucket.{rising}
use Rattle.columns.specs.PrintedNumbers.{all_blank}
use Rattle.buckets.specs.Inner.Columns.{and_then, read_run, read_items}
use Rattle.buckets.proofs.Chained.{then_found, pick_found}
use Rattle.buckets.proofs.Within.{blank_blanks, blanks_of_blank}

-- each item keeps its rule, given what those before it leave
abbrev pub keeps : {A : Type 0} → (ℕ → A → Bool) → (ℕ → A → ℕ) → ℕ → List A → Bool
keeps ok next m [] = true
keeps ok next m (x ∷ xs) = ok m x && keeps ok next (next m x) xs

pub and_regroup : (a b c d : Bool) → (a && b) && (c && d) ≡ (a && c) && (b && d)
and_regroup true true c d = refl
and_regroup true false c d = sym (and_false c)
and_regroup false b c d = refl

-- items whose keys never fall
pub keeps_rising : {A : Type 0} (p : A → Bool) (key : A → ℕ) (m : ℕ) (xs : List A)
    → keeps (λ k x. p x && leb k (key x)) (λ k x. key x) m xs ≡ every p xs && rising m (map key xs)
keeps_rising p key m [] = refl
keeps_rising p key m (x ∷ xs) =
    rw (keeps_rising p key (key x) xs) (and_regroup (p x) (leb m (key x)) (every p xs) (rising (key x) (map key xs)))

-- as many items are read as are asked for
module _ {A : Type 0} (read : ℕ → List ℕ → Option A) (next : ℕ → A → ℕ) (w : ℕ) where
  run_count : (m c : ℕ) (s : List ℕ) (xs : List A) → read_run read next w m c s ≡ Some xs → length xs ≡ c
  run_count m zero s xs h = let is : xs ≡ [] = cc in rw is
  run_count m (suc c) s xs h =
      let first = then_found (read m (take w s)) (λ a. and_then (read_run read next w (next m a) c (drop w s)) (λ ys. Some (a ∷ ys))) h in
      let a = first.0 in
      let rest = then_found (read_run read next w (next m a) c (drop w s)) (λ ys. Some (a ∷ ys)) first.2 in
      let is : xs ≡ a ∷ rest.0 = cc in
      rw is (ap suc (run_count (next m a) c (drop w s) rest.0 rest.1))

  pub items_count : (c : ℕ) (s : List ℕ) (xs : List A) → read_items read next w c s ≡ Some xs → length xs ≡ c
  unfolding read_items
  items_count c s xs h = run_count 0 c s xs (pick_found (all_blank (drop (c * w) s)) (read_run read next w 0 c s) h).1

-- what a run of items that was read tells
record Run {A : Type 0} (ok : ℕ → A → Bool) (next : ℕ → A → ℕ) (show : A → List ℕ) (m c : ℕ) (s : List ℕ) (xs : List A) : Type 0 where
  count : length xs ≡ c
  kept : keeps ok next m xs ≡ true
  shown : s ≡ joined show xs

module _ {A : Type 0} (read : ℕ → List ℕ → Option A) (next : ℕ → A → ℕ) (ok : ℕ → A → Bool) (show : A → List ℕ) (w : ℕ)
    (wide : (a : A) → length (show a) ≡ w) where
  run_back : ((m : ℕ) (a : A) → ok m a ≡ true → read m (show a) ≡ Some a)
      → (m : ℕ) (xs : List A) (rest : List ℕ) → keeps ok next m xs ≡ true
      → read_run read next w m (length xs) (joined show xs ++ rest) ≡ Some xs
  run_back back m [] rest h = refl
  run_back back m (x ∷ xs) rest h =
      let told = both (ok m x) (keeps ok next (next m x) xs) h in
      let whole : (show x ++ joined show xs) ++ rest ≡ show x ++ (joined show xs ++ rest) =
      append_assoc (show x) (joined show xs) rest in
      rw (
        whole,
        take_at (show x) (joined show xs ++ rest) w (wide x),
        drop_at (show x) (joined show xs ++ rest) w (wide x),
        back m x told.0,
        run_back back (next m x) xs rest told.1,
      )

  run_only : ((m : ℕ) (s : List ℕ) (a : A) → length s ≡ w → read m s ≡ Some a → (s ≡ show a) × (ok m a ≡ true))
      → (m c : ℕ) (s : List ℕ) (xs : List A) → c * w ≤ length s → read_run read next w m c s ≡ Some xs
      → Run ok next show m c (take (c * w) s) xs
  run_only only m zero s xs room h =
      let is : xs ≡ [] = cc in
      rw (is, zero-mul) (record { count = refl; kept = refl; shown = refl })
  run_only only m (suc c) s xs room h =
      let on : suc c * w ≡ w + c * w = rw suc-mul (omega arith) in
      let first = then_found (read m (take w s)) (λ a. and_then (read_run read next w (next m a) c (drop w s)) (λ ys. Some (a ∷ ys))) h in
      let a = first.0 in
      let rest = then_found (read_run read next w (next m a) c (drop w s)) (λ ys. Some (a ∷ ys)) first.2 in
      let ys = rest.0 in
      let is : xs ≡ a ∷ ys = cc in
      let front : length (take w s) ≡ w = rw length-take (omega arith) in
      let left : c * w ≤ length (drop w s) = rw length-drop (omega arith) in
      let one = only m (take w s) a front first.1 in
      let more = run_only only (next m a) c (drop w s) ys left rest.1 in
      rw (is, on, take-add w (c * w) s)
      (record {
        count = ap suc more.count;
        kept = rw (one.1, more.kept);
        shown = ap₂ {C = List ℕ} ◌++◌ one.0 more.shown;
      })

  -- items printed at the front of k columns, the others blank
  pub items_back : ((m : ℕ) (a : A) → ok m a ≡ true → read m (show a) ≡ Some a)
      → (k : ℕ) (xs : List A) → keeps ok next 0 xs ≡ true
      → read_items read next w (length xs) (padded k (joined show xs)) ≡ Some xs
  unfolding read_items padded
  items_back back k xs h =
      let pad : List ℕ = replicate (k - length (joined show xs)) 32 in
      rw (
        drop_at (joined show xs) pad (length xs * w) (length_joined show w wide xs),
        blank_blanks (k - length (joined show xs)),
      )
      (run_back back 0 xs pad h)

  pub items_only : ((m : ℕ) (s : List ℕ) (a : A) → length s ≡ w → read m s ≡ Some a → (s ≡ show a) × (ok m a ≡ true))
      → (k c : ℕ) (s : List ℕ) (xs : List A) → length s ≡ k → c * w ≤ k → read_items read next w c s ≡ Some xs
      → (length xs ≡ c) × (keeps ok next 0 xs ≡ true) × (s ≡ padded k (joined show xs))
  unfolding read_items padded
  items_only only k c s xs long room h =
      let test = pick_found (all_blank (drop (c * w) s)) (read_run read next w 0 c s) h in
      let run = run_only only 0 c s xs (omega arith) test.1 in
      let pad : drop (c * w) s ≡ replicate (length (drop (c * w) s)) 32 = blanks_of_blank (drop (c * w) s) test.0 in
      let left : length (drop (c * w) s) ≡ k - length (joined show xs) =
      rw (length-drop, ← run.shown, length-take) (omega arith) in (
        run.count,
        run.kept,
        sym (take-append-drop (c * w) s) ∙ ap₂ {C = List ℕ} ◌++◌ run.shown (pad ∙ ap (λ n. replicate n 32) left),
      )
