-- Numbers in a row, and lists joined over them.
-- Assumes nothing.
use mathlib.Core.Path.{◌≡◌, refl, sym, ap, ap₂, ◌∙◌}
use mathlib.Core.Logic.{◌⊎◌, inl, inr, ⊎_elim}
use Prim.Native.Nat.{ℕ, zero, suc, ◌+◌, ◌-◌, ◌*◌, ◌≤◌, ◌<◌, min}
use native.Mathlib.Nat.{zero-add, suc-add, add-zero, add-suc, add-mul, lt_of_not-le}
use native.Mathlib.Decide.{dec_le}
use native.Mathlib.Omega.{arith}
use mathlib.Core.List.{List, [], ◌∷◌, ◌++◌, map, Memᴰ}
use lib.ListN.{length, get_or}
use Rattle.columns.proofs.Joined.{joined_append}
use Rattle.columns.specs.Lists.{joined, last_or, span, range}

-- ---- numbers in a row

pub length_span : (a c : ℕ) → length (span a c) ≡ c
length_span a zero = refl
length_span a (suc c) = ap suc (length_span (suc a) c)

pub length_range : (a b : ℕ) → length (range a b) ≡ b - a
length_range a b = length_span a (b - a)

pub span_append : (a x y : ℕ) → span a (x + y) ≡ span a x ++ span (a + x) y
span_append a zero y = rw (zero-add, add-zero)
span_append a (suc x) y = rw (suc-add, add-suc, ← suc-add) (ap (λ s. a ∷ s) (span_append (suc a) x y))

pub range_empty : (a b : ℕ) → b ≤ a → range a b ≡ []
range_empty a b h = let e : b - a ≡ 0 = omega arith in rw e

pub range_cons : (a b : ℕ) → a < b → range a b ≡ a ∷ range (suc a) b
range_cons a b h = let e : b - a ≡ suc (b - suc a) = omega arith in rw e

pub range_snoc : (a b : ℕ) → a ≤ b → range a (suc b) ≡ range a b ++ (b ∷ [])
range_snoc a b h =
    let e : suc b - a ≡ (b - a) + 1 = omega arith in
    let f : a + (b - a) ≡ b = omega arith in
    ap (span a) e ∙ span_append a (b - a) 1 ∙ ap (λ x. span a (b - a) ++ (x ∷ [])) f

pub range_append : (a b c : ℕ) → a ≤ b → b ≤ c → range a c ≡ range a b ++ range b c
range_append a b c h g =
    let e : c - a ≡ (b - a) + (c - b) = omega arith in
    let f : a + (b - a) ≡ b = omega arith in
    ap (span a) e ∙ span_append a (b - a) (c - b) ∙ ap (λ x. span a (b - a) ++ span x (c - b)) f

pub le_or_lt : (a b : ℕ) → (a ≤ b) ⊎ (b < a)
le_or_lt a b = elim (dec_le a b) [ yes h ↦ inl h | no f ↦ inr (lt_of_not-le f) ]

-- an end d cuts a range that begins behind it down to nothing
pub range_cut : (d x y : ℕ) → range x (min d y) ≡ range (min d x) (min d y)
range_cut d x y =
    ⊎_elim
    (λ (h : x ≤ d). let e : min d x ≡ x = omega arith in rw e)
    (λ (h : d < x).
    range_empty x (min d y) (omega arith) ∙ sym (range_empty (min d x) (min d y) (omega arith)))
    (le_or_lt x d)

pub last_span : (z a c : ℕ) → last_or z (span a (suc c)) ≡ a + c
last_span z a zero = sym (add-zero a)
last_span z a (suc c) = last_span a (suc a) c ∙ suc-add a c ∙ sym (add-suc a c)

pub last_range : (z a b : ℕ) → a < b → last_or z (range a b) ≡ b - 1
last_range z a b h =
    let e : b - a ≡ suc (b - suc a) = omega arith in
    let f : a + (b - suc a) ≡ b - 1 = omega arith in
    ap (λ c. last_or z (span a c)) e ∙ last_span z a (b - suc a) ∙ f

pub get_d_span : (z a c i : ℕ) → i < c → get_or (span a c) i z ≡ a + i
get_d_span z a zero i h = absurd (omega arith)
get_d_span z a (suc c) zero h = sym (add-zero a)
get_d_span z a (suc c) (suc i) h = get_d_span z (suc a) c i (omega arith) ∙ suc-add a i ∙ sym (add-suc a i)

pub get_d_range : (z a b i : ℕ) → a + i < b → get_or (range a b) i z ≡ a + i
get_d_range z a b i h = get_d_span z a (b - a) i (omega arith)

pub in_span : {x : ℕ} (a c : ℕ) → Memᴰ x (span a c) → (a ≤ x) × (x < a + c)
in_span a zero m = absurd (mathlib.Core.List.Memᴰ.not-nil m)
in_span {x} a (suc c) m =
    ⊎_elim
    (λ (e : x ≡ a). (omega arith, omega arith))
    (λ (b : Memᴰ x (span (suc a) c)). let h = in_span (suc a) c b in (omega arith, omega arith))
    (mathlib.Core.List.Memᴰ.cases_cons m)

pub in_range : {x : ℕ} (a b : ℕ) → Memᴰ x (range a b) → (a ≤ x) × (x < b)
in_range {x} a b m = let h = in_span a (b - a) m in (h.0, omega arith)

-- ---- lists joined

pub map_joined : {A B : Type 0} (f : A → B) (xs : List A) → map f xs ≡ joined (λ x. f x ∷ []) xs
map_joined f [] = refl
map_joined f (x ∷ xs) = ap (λ ys. f x ∷ ys) (map_joined f xs)

module _ {B : Type 0} where
  pub joined_range :
      (f : ℕ → List B) (a b c : ℕ) → a ≤ b → b ≤ c → joined f (range a c) ≡ joined f (range a b) ++ joined f (range b c)
  joined_range f a b c h g = ap (joined f) (range_append a b c h g) ∙ joined_append f (range a b) (range b c)

  pub joined_same :
      (f g : ℕ → List B) (a c : ℕ) → ((x : ℕ) → a ≤ x → x < a + c → f x ≡ g x) → joined f (span a c) ≡ joined g (span a c)
  joined_same f g a zero h = refl
  joined_same f g a (suc c) h =
      let e : f a ≡ g a = h a (omega arith) (omega arith) in
      ap₂ (λ x y. x ++ y) e (joined_same f g (suc a) c (λ x p q. h x (omega arith) (omega arith)))

-- parts of a row, each m long but for the end d, make the row
pub joined_ranges :
    (f : ℕ → List ℕ) (m d a c : ℕ) → ((x : ℕ) → a ≤ x → x < a + c → f x ≡ range (x * m) (min d (suc x * m))) →
    joined f (span a c) ≡ range (min d (a * m)) (min d ((a + c) * m))
joined_ranges f m d a zero h =
    let e : a + 0 ≡ a = omega arith in rw e (sym (range_empty (min d (a * m)) (min d (a * m)) (omega arith)))
joined_ranges f m d a (suc c) h =
    let e : a + suc c ≡ suc a + c = omega arith in
    let p : f a ≡ range (min d (a * m)) (min d (suc a * m)) = h a (omega arith) (omega arith) ∙ range_cut d (a * m) (suc a * m) in
    let l : (suc a + c) * m ≡ suc a * m + c * m = add-mul (suc a) c m in
    let q : joined f (span (suc a) c) ≡ range (min d (suc a * m)) (min d ((suc a + c) * m)) =
    joined_ranges f m d (suc a) c (λ x u v. h x (omega arith) (omega arith)) in
    rw (e, p, q)
    (sym (range_append (min d (a * m)) (min d (suc a * m)) (min d ((suc a + c) * m)) (omega arith) (omega arith)))
