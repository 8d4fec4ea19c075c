-- Columns that are blank from a place on: what a number printed there asks, and where the blanks begin behind it.
-- Assumes nothing.
use Rattle.std.proofs.Common.{◌≡◌, ℕ, ◌+◌, ◌-◌, ◌≤◌, true, ◌&&◌, leb, List, [], ◌∷◌, length, take, drop, set, sym, ap, ◌∙◌, arith, drop-drop, take_at, drop_at, leb-true}
use Rattle.columns.specs.Lists.{put}
use Rattle.columns.specs.PrintedNumbers.{blanks}
use Rattle.columns.proofs.Strict.{both}
use Rattle.columns.proofs.FromTheRight.{length_blanks}
use Rattle.columns.proofs.Put.{length_put, drop_put, put_set}
use Rattle.columns.proofs.Padded.{blanks_append}

-- d has n columns, blank from column a on
pub record BlankFrom (n a : ℕ) (d : List ℕ) : Type 0 where
  pub wide : length d ≡ n
  pub behind : drop a d ≡ blanks (n - a)

module _ (n : ℕ) (d : List ℕ) where
  pub all_blank_lem : (m : ℕ) → d ≡ blanks m → m ≡ n → BlankFrom n 0 d
  all_blank_lem m is e =
      let all : n - 0 ≡ n = omega arith in
      record { wide = ap length is ∙ length_blanks m ∙ e; behind = rw all (is ∙ ap blanks e) }

  -- a write of t at column a, and what is blank behind it
  pub blank_behind : (a b : ℕ) (t : List ℕ) {last : List ℕ} → last ≡ put d a t → BlankFrom n a d → a + length t ≡ b → leb b n ≡ true
      → BlankFrom n b last
  blank_behind a b t is h e room =
      let fits : b ≤ n = leb-true b n room in
      let long : length d ≡ n = h.wide in
      let left : n - a ≡ length t + (n - b) = omega arith in
      record {
        wide = ap length is ∙ length_put d a t (omega arith) ∙ long;
        behind =
            ap (drop b) is
            ∙ drop_put d a t b (omega arith) (omega arith)
            ∙ ap (λ (k : ℕ). drop k d) (sym e)
            ∙ sym (drop-drop (length t) a d)
            ∙ rw (h.behind, left, ← blanks_append (length t) (n - b))
            (drop_at (blanks (length t)) (blanks (n - b)) (length t) (length_blanks (length t)));
      }

  pub set_behind : (a b v : ℕ) → BlankFrom n a d → a + 1 ≡ b → leb b n ≡ true → BlankFrom n b (set d a v)
  set_behind a b v h e room =
      let fits : b ≤ n = leb-true b n room in
      let long : length d ≡ n = h.wide in
      blank_behind a b (v ∷ []) (put_set d a v (omega arith)) h e room

  -- what is asked of columns from a up to b
  pub ready : (a b : ℕ) → BlankFrom n a d → leb a b && leb b n ≡ true
      → (a ≤ b) × ((b ≤ length d) × (take (b - a) (drop a d) ≡ blanks (b - a)))
  ready a b h tests =
      let told = both (leb a b) (leb b n) tests in
      let up : a ≤ b = leb-true a b told.0 in
      let fits : b ≤ n = leb-true b n told.1 in
      let long : length d ≡ n = h.wide in
      let left : n - a ≡ b - a + (n - b) = omega arith in
      (up, (omega arith, rw (h.behind, left, ← blanks_append (b - a) (n - b)) (take_at (blanks (b - a)) (blanks (n - b)) (b - a) (length_blanks (b - a)))))
