-- Columns filled from the front: the laws of `padded n s`, s and then blanks up to n columns.
--     padded_blanks                  s, and blanks for the rest
--     padded_nil, padded_full        nothing filled, all filled
--     padded_on                      blanks behind s may be counted as filled
--     padded_blank                   the columns behind s are blank
--     put_padded, set_padded         a write right behind s
--     padded_behind, padded_over     what is filled behind a front, and another front written there
--     lent_blank, back_padded        the part right behind s, lent, and what it comes back as
--     ready, printed                 a number printed right behind s
-- Assumes nothing.
use Rattle.std.proofs.Common.{◌≡◌, ℕ, ◌+◌, ◌-◌, ◌<◌, ◌≤◌, List, [], ◌∷◌, ◌++◌, length, take, drop, set, sym, refl, ◌∙◌, append_assoc, append-nil, arith, length-append, take_at, drop_at}
use lib.ListN.{replicate-append-replicate}
use Rattle.columns.specs.Lists.{put, padded}
use Rattle.columns.specs.PrintedNumbers.{print, blanks}
use Rattle.columns.proofs.FromTheRight.{length_blanks}
use Rattle.columns.proofs.Printed.{length_padded, length_print}
use Rattle.columns.proofs.Put.{put_part, put_behind, put_front, put_set, put_all}

pub padded_blanks : (n : ℕ) (s : List ℕ) → padded n s ≡ s ++ blanks (n - length s)
unfolding padded blanks
padded_blanks n s = refl

pub padded_nil : (n : ℕ) → padded n [] ≡ blanks n
padded_nil n = let e : n - 0 ≡ n = omega arith in padded_blanks n [] ∙ rw e

pub padded_full : (n : ℕ) (s : List ℕ) → length s ≡ n → padded n s ≡ s
unfolding blanks
padded_full n s h = let e : n - length s ≡ 0 = omega arith in padded_blanks n s ∙ rw e (append-nil s)

pub blanks_append : (a b : ℕ) → blanks a ++ blanks b ≡ blanks (a + b)
unfolding blanks
blanks_append a b = replicate-append-replicate a b 32

-- n columns, of which s fills the first k
module _ (n k : ℕ) (s : List ℕ) (h : length s ≡ k) where
  -- blanks may be counted as filled
  pub padded_on : (w : ℕ) → k + w ≤ n → padded n s ≡ padded n (s ++ blanks w)
  padded_on w f =
      let e : n - length s ≡ w + (n - length (s ++ blanks w)) = simp (length-append, length_blanks) (omega arith) in
      padded_blanks n s
      ∙ rw (e, ← blanks_append w (n - length (s ++ blanks w)), ← append_assoc s (blanks w) (blanks (n - length (s ++ blanks w))))
      (sym (padded_blanks n (s ++ blanks w)))

  -- the columns behind are blank
  pub padded_blank : (w : ℕ) → k + w ≤ n → take w (drop k (padded n s)) ≡ blanks w
  padded_blank w f =
      let e : n - length s ≡ w + (n - (k + w)) = omega arith in
      rw (padded_blanks n s, drop_at s (blanks (n - length s)) k h, e, ← blanks_append w (n - (k + w)))
      (take_at (blanks w) (blanks (n - (k + w))) w (length_blanks w))

  -- a write right behind
  pub put_padded : (t : List ℕ) → k + length t ≤ n → put (padded n s) k t ≡ padded n (s ++ t)
  put_padded t f =
      let here : k ≡ length s + 0 = omega arith in
      let e : n - length s ≡ length t + (n - length (s ++ t)) = simp length-append (omega arith) in
      let same : length t ≡ length (blanks (length t)) = sym (length_blanks (length t)) in
      let room : 0 + length t ≤ length (blanks (length t)) = omega arith in
      rw (
        padded_blanks n s,
        put_behind s (blanks (n - length s)) k 0 t here,
        e,
        ← blanks_append (length t) (n - length (s ++ t)),
        put_front (blanks (length t)) (blanks (n - length (s ++ t))) 0 t room,
        put_all (blanks (length t)) t same,
        padded_blanks n (s ++ t),
      )
      (sym (append_assoc s t (blanks (n - length (s ++ t)))))

  pub set_padded : (v : ℕ) → k < n → set (padded n s) k v ≡ padded n (s ++ v ∷ [])
  set_padded v f =
      let room : k < length (padded n s) = omega (arith, length_padded n s (omega arith)) in
      let one : k + 1 ≤ n = omega arith in
      put_set (padded n s) k v room ∙ put_padded (v ∷ []) one

  -- the same said of the part behind a front
  pub padded_behind : (t : List ℕ) → k ≤ n → s ++ padded (n - k) t ≡ padded n (s ++ t)
  padded_behind t f =
      let e : n - k - length t ≡ n - length (s ++ t) = simp length-append (omega arith) in
      rw (padded_blanks (n - k) t, padded_blanks n (s ++ t), e) (sym (append_assoc s t (blanks (n - length (s ++ t)))))

-- a front written over another
pub padded_over : (n k : ℕ) (a b s : List ℕ) → length a ≡ k → length b ≡ k → b ++ drop k (padded n (a ++ s)) ≡ padded n (b ++ s)
padded_over n k a b s h g =
    let e : n - length (a ++ s) ≡ n - length (b ++ s) = simp length-append (omega arith) in
    rw (padded_blanks n (a ++ s), append_assoc a s (blanks (n - length (a ++ s))), drop_at a (s ++ blanks (n - length (a ++ s))) k h, e)
    (sym (append_assoc b s (blanks (n - length (b ++ s)))))
    ∙ sym (padded_blanks n (b ++ s))

-- a list d that s fills to place a is lent from there, w columns
module _ {d : List ℕ} (n a w : ℕ) (s : List ℕ) (e : d ≡ padded n s) (h : length s ≡ a) (f : a + w ≤ n) where
  pub lent_blank : take w (drop a d) ≡ blanks w
  lent_blank = rw e (padded_blank n a s h w f)

  pub back_padded : {last : List ℕ} (t : List ℕ) → last ≡ t → length t ≡ w → take a d ++ (last ++ drop w (drop a d)) ≡ padded n (s ++ t)
  back_padded t l g = let room : a + length t ≤ n = omega arith in rw (l, put_part d a w t g, e) (put_padded n a s h t room)

-- a number printed over the w columns from a up to b
module _ {d : List ℕ} (n a w b : ℕ) (s : List ℕ) (e : d ≡ padded n s) (h : length s ≡ a) (g : b ≡ a + w) (f : b ≤ n) where
  pub ready : (a ≤ b) × ((b ≤ length d) × (take (b - a) (drop a d) ≡ blanks (b - a)))
  ready =
      let wide : length d ≡ n = rw e (length_padded n s (omega arith)) in
      (omega arith, (omega arith, lent_blank n a (b - a) s e h (omega arith)))

  pub printed : (x : ℕ) {last : List ℕ} → last ≡ put d a (print (b - a) x) → last ≡ padded n (s ++ print w x)
  printed x p =
      let wide : b - a ≡ w = omega arith in
      let room : a + length (print w x) ≤ n = omega (arith, length_print w x) in
      p ∙ rw (wide, e) (put_padded n a s h (print w x) room)
