-- Strict reading takes the print of what keeps the rules, and nothing else; equality of byte lists by the test `same`.
-- Assumes nothing.
use Rattle.std.proofs.Common.{◌≡◌, ℕ, Bool, true, false, ◌&&◌, ◌||◌, eqb, List, [], ◌∷◌, ◌++◌, length, sym, refl, ap, ◌∙◌, ap₂, arith, eq-eqb, eqb-true}
use Rattle.std.specs.Prelude.{None, Some}
use Rattle.columns.specs.Lists.{pick, same, strict}

-- both tests of a conjunction that holds
pub both : (a b : Bool) → a && b ≡ true → (a ≡ true) × (b ≡ true)
both true true h = (refl, refl)
both true false h = (refl, h)
both false true h = (h, refl)
both false false h = (h, h)

-- the second test of a conjunction does not hold
pub and_false : (a : Bool) → a && false ≡ false
and_false true = refl
and_false false = refl

-- the second test of a conjunction holds
pub and_true : (a : Bool) → a && true ≡ a
and_true true = refl
and_true false = refl

pub or_false : (a : Bool) → a || false ≡ a
or_false true = refl
or_false false = refl

pub and_comm : (a b : Bool) → a && b ≡ b && a
and_comm true b = sym (and_true b)
and_comm false b = sym (and_false b)

pub or_comm : (a b : Bool) → a || b ≡ b || a
or_comm true true = refl
or_comm true false = refl
or_comm false true = refl
or_comm false false = refl

pub and_assoc : (p q r : Bool) → p && (q && r) ≡ (p && q) && r
and_assoc true q r = refl
and_assoc false q r = refl

pub same_refl : (s : List ℕ) → same s s ≡ true
same_refl [] = refl
same_refl (x ∷ s) = rw (eq-eqb x x refl, same_refl s)

pub same_eq : (s t : List ℕ) → same s t ≡ true → s ≡ t
same_eq [] [] h = refl
same_eq [] (y ∷ t) h = cc
same_eq (x ∷ s) [] h = cc
same_eq (x ∷ s) (y ∷ t) h = heads (both (eqb x y) (same s t) h) (same_eq s t)
  where
    heads : (eqb x y ≡ true) × (same s t ≡ true) → (same s t ≡ true → s ≡ t) → x ∷ s ≡ y ∷ t
    heads e rest = ap₂ {C = List ℕ} ◌∷◌ (eqb-true x y e.0) (rest e.1)

-- two fronts of equal length are compared on their own
pub same_append : (a b c d : List ℕ) → length a ≡ length c → same (a ++ b) (c ++ d) ≡ same a c && same b d
same_append [] b [] d h = refl
same_append [] b (y ∷ c) d h = absurd (omega arith)
same_append (x ∷ a) b [] d h = absurd (omega arith)
same_append (x ∷ a) b (y ∷ c) d h =
    let e : length a ≡ length c = omega arith in
    rw (same_append a b c d e, and_assoc (eqb x y) (same a c) (same b d))

module _ {A : Type 0} (spell : List ℕ → A) (ok : A → Bool) (show : A → List ℕ) where
  pub strict_back : (a : A) → ok a ≡ true → spell (show a) ≡ a → strict spell ok show (show a) ≡ Some a
  unfolding strict
  strict_back a h e = rw (e, h, same_refl (show a))

  pub strict_only : (s : List ℕ) {a : A} → strict spell ok show s ≡ Some a → (s ≡ show a) × (ok a ≡ true) × (a ≡ spell s)
  unfolding strict
  strict_only s {a} h = go (ok (spell s)) (same s (show (spell s))) refl refl h
    where
      go : (p q : Bool) → ok (spell s) ≡ p → same s (show (spell s)) ≡ q → pick (p && q) (Some (spell s)) None ≡ Some a
          → (s ≡ show a) × (ok a ≡ true) × (a ≡ spell s)
      go true true e f k =
          let is : spell s ≡ a = cc in
          (same_eq s (show (spell s)) f ∙ ap show is, (rw is at e), sym is)
      go true false e f k = absurd (let z : ◌≡◌ {A = ℕ} 0 1 = cc in omega arith)
      go false true e f k = absurd (let z : ◌≡◌ {A = ℕ} 0 1 = cc in omega arith)
      go false false e f k = absurd (let z : ◌≡◌ {A = ℕ} 0 1 = cc in omega arith)
