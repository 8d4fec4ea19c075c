-- A number's columns as they are written: from the right, over blanks.
--     blanks_set     a column stored left of what is written, over a blank
--     print_digit    one more column of a number that reaches it
--     print_front    a number in more columns than it reaches: blanks first
-- Assumes nothing.
use Rattle.std.proofs.Common.{append-nil, ◌∙◌, ◌≡◌, ℕ, zero, suc, ◌+◌, ◌-◌, ◌/◌, ◌%◌, ◌^◌, ◌<◌, ◌≤◌, List, ◌∷◌, ◌++◌, length, set, sym, refl, ap, div-lt_iff_lt-mul, pow-suc, le-div_iff_mul-le, zero-add, div-one, arith, lt-ltb}
use native.Mathlib.Nat.{pow-le-pow_right, div-div-eq-div-mul}
use Rattle.columns.specs.PrintedNumbers.{column, print, blanks}
use Rattle.columns.proofs.Printed.{ten_pos}
use Rattle.columns.proofs.OnePass.{column_reached}

pub length_blanks : (n : ℕ) → length (blanks n) ≡ n
unfolding blanks
length_blanks zero = refl
length_blanks (suc n) = ap suc (length_blanks n)

pub blanks_set : (i v : ℕ) (t : List ℕ) → set (blanks (suc i) ++ t) i v ≡ blanks i ++ v ∷ t
unfolding blanks
blanks_set zero v t = refl
blanks_set (suc i) v t = ap (λ (s : List ℕ). 32 ∷ s) (blanks_set i v t)

pub blanks_set_last : (i v : ℕ) (t : List ℕ) → 0 < i → set (blanks i ++ t) (i - 1) v ≡ blanks (i - 1) ++ v ∷ t
blanks_set_last zero v t h = absurd (omega arith)
blanks_set_last (suc i) v t h = let e : suc i - 1 ≡ i = omega arith in rw e (blanks_set i v t)

-- a quotient that is 0: the number does not reach the column; one that is not: it does
pub below_ten : (w x : ℕ) → x / 10 ^ w ≡ 0 → x < 10 ^ w
below_ten w x e =
    let h : x / 10 ^ w < 1 = omega arith in
    omega (arith, (div-lt_iff_lt-mul {k = 10 ^ w} {x = x} {y = 1} (ten_pos w)).0 h)

pub reaches_ten : (w x : ℕ) → (x / 10 ^ w ≡ 0 → ⊥) → 10 ^ w ≤ x
reaches_ten w x n =
    let h : 1 ≤ x / 10 ^ w = omega (arith, n) in
    omega (arith, (le-div_iff_mul-le {k = 10 ^ w} {x = 1} {y = x} (ten_pos w)).0 h)

pub column_blank : (w x : ℕ) → x < 10 ^ suc w → column (suc w) x ≡ 32
column_blank w x h = rw (lt-ltb x (10 ^ suc w) h)

-- one more column of a number that reaches it, or the last
pub print_digit : (w x : ℕ) → (0 < w → 0 < x / 10 ^ w) → (48 + x / 10 ^ w % 10) ∷ print w x ≡ print (suc w) x
print_digit zero x n = rw div-one
print_digit (suc w) x n =
    let there : x / 10 ^ suc w ≡ 0 → ⊥ = λ e. omega (arith, n (omega arith)) in
    rw (column_reached (suc w) x (reaches_ten (suc w) x there))

-- the next quotient
pub next_quotient : (w x : ℕ) → x / 10 ^ w / 10 ≡ x / 10 ^ suc w
next_quotient w x = rw pow-suc (div-div-eq-div-mul x (10 ^ w) 10)

-- a number in more columns than it reaches
pub print_front : (k w x : ℕ) → x < 10 ^ suc w → print (k + suc w) x ≡ blanks k ++ print (suc w) x
unfolding blanks
print_front zero w x h = rw zero-add
print_front (suc k) w x h =
    let e : suc k + suc w ≡ suc (suc (k + w)) = omega arith in
    let e' : k + suc w ≡ suc (k + w) = omega arith in
    let p : 10 ^ suc w ≤ 10 ^ suc (k + w) = pow-le-pow_right {n = 10} (omega arith) {i = suc w} {j = suc (k + w)} (omega arith) in
    rw (e, column_blank (k + w) x (omega arith)) (ap (λ (s : List ℕ). 32 ∷ s) (rw e' at (print_front k w x h)))

pub print_whole : (k w x : ℕ) → 0 < w → x / 10 ^ w ≡ 0 → blanks k ++ print w x ≡ print (k + w) x
print_whole k zero x h e = absurd (omega arith)
print_whole k (suc w) x h e = sym (print_front k w x (below_ten (suc w) x e))

-- ---- columns written from the right

-- n columns, of which the last w are written from i on, and what is left of x
pub record Written (part : List ℕ) (x n i rest : ℕ) : Type 0 where
  pub w : ℕ
  pub whole : n ≡ i + w
  pub is : part ≡ blanks i ++ print w x
  pub left : rest ≡ x / 10 ^ w

-- and there is more to write
pub record Open (part : List ℕ) (x n i rest : ℕ) : Type 0 where
  pub so_far : Written part x n i rest
  pub more : 0 < so_far.w → 0 < rest

pub none_written : (part : List ℕ) (x n : ℕ) → part ≡ blanks n → Open part x n n x
none_written part x n e =
    record {
      so_far = record { w = 0; whole = omega arith; is = e ∙ sym (append-nil (blanks n)); left = sym (div-one x) };
      more = λ h. absurd (omega arith);
    }

-- one more column
pub digit_written : {part : List ℕ} {x n i rest : ℕ} → Open part x n i rest → 0 < i → Written (set part (i - 1) (48 + rest % 10)) x n (i - 1) (rest / 10)
digit_written {part} {x} {n} {i} {rest} o p =
    let f = o.so_far in
    let reached : 0 < f.w → 0 < x / 10 ^ f.w = λ h. rw f.left at (o.more h) in
    record {
      w = suc f.w;
      whole = omega (arith, f.whole);
      is =
          rw (f.is, f.left)
          (blanks_set_last i (48 + x / 10 ^ f.w % 10) (print f.w x) p
          ∙ ap (λ (t : List ℕ). blanks (i - 1) ++ t) (print_digit f.w x reached));
      left = rw f.left (next_quotient f.w x);
    }

-- nothing is left, or no column
pub done_written : {part : List ℕ} {x n i rest : ℕ} → Written part x n i rest → i < n → rest ≡ 0 → part ≡ print n x
done_written {part} {x} {n} {i} {rest} f h z = rw (f.is, f.whole) (print_whole i f.w x (omega (arith, f.whole)) (sym f.left ∙ z))

pub full_written : {part : List ℕ} {x n i rest : ℕ} → Written part x n i rest → i ≡ 0 → part ≡ print n x
unfolding blanks
full_written {part} {x} {n} {i} {rest} f z = let e : n ≡ f.w = omega (arith, f.whole) in rw (f.is, z, e)
