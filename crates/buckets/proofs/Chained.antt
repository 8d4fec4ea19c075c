-- Readings that go on with what the one before found, and when two readings are one.
-- Assumes nothing.
use Prim.Native.Nat.{ℕ}
use mathlib.Core.Path.{◌≡◌, refl, sym, ap, ◌∙◌}
use mathlib.Core.Bool.{Bool, true, false, ◌&&◌, true≢false}
use Rattle.std.specs.Prelude.{Option, None, Some}
use mathlib.Core.List.{List}
use native.Mathlib.Omega.{arith}
use lib.Dec.{eqb}
use borrow.Author.Tests.{eq-eqb, ne_eqb}
use Rattle.std.specs.Option.{option_map, is_some}
use Rattle.buckets.specs.ListLine.{taken}
use Rattle.columns.specs.Lists.{pick}
use Rattle.buckets.specs.Inner.Columns.{and_then}

pub none_not_some : {A : Type 0} {a : A} → ◌≡◌ {A = Option A} None (Some a) → ⊥
none_not_some h = let z : ◌≡◌ {A = ℕ} 0 1 = cc in omega arith

-- both readings of a chain found something
pub then_found : {A B : Type 0} (o : Option A) (k : A → Option B) {b : B} → and_then o k ≡ Some b
    → (a : A) × (o ≡ Some a) × (k a ≡ Some b)
then_found None k h = absurd (none_not_some h)
then_found (Some a) k h = (a, refl, h)

-- a reading under a test found something
pub pick_found : {B : Type 0} (t : Bool) (o : Option B) {b : B} → pick t o None ≡ Some b → (t ≡ true) × (o ≡ Some b)
pick_found true o h = (refl, h)
pick_found false o h = absurd (none_not_some h)

-- a reading that was mapped
pub map_found : {A B : Type 0} (f : A → B) (o : Option A) (b : B) → Some b ≡ option_map f o → (a : A) × (Some a ≡ o) × (b ≡ f a)
map_found f None b h = absurd (none_not_some (sym h))
map_found f (Some a) b h = (a, refl, cc)

pub map_none : {A B : Type 0} (f : A → B) (o : Option A) → ◌≡◌ {A = Option B} None (option_map f o) → None ≡ o
map_none f None h = refl
map_none f (Some a) h = absurd (none_not_some h)

-- whether what was mapped is there
pub mapped_none : {A B : Type 0} (f : A → B) (o : Option A) {r : Option B} → r ≡ option_map f o → is_some r ≡ false → o ≡ None
mapped_none f None e h = refl
mapped_none f (Some a) e h = absurd (true≢false (sym (ap is_some e) ∙ h))

pub mapped_some : {A B : Type 0} (f : A → B) (o : Option A) {r : Option B} → r ≡ option_map f o → is_some r ≡ true → taken o ≡ true
mapped_some f None e h = absurd (true≢false (sym h ∙ ap is_some e))
mapped_some f (Some a) e h = refl

-- a reading under two tests of numbers
module _ {B : Type 0} (x y u v : ℕ) (o : Option B) where
  pub both_on : x ≡ y → u ≡ v → pick (eqb x y && eqb u v) o None ≡ o
  both_on e k = rw (eq-eqb x y e, eq-eqb u v k)

  pub first_out : (x ≡ y → ⊥) → pick (eqb x y && eqb u v) o None ≡ None
  first_out n = rw (ne_eqb x y n)

  pub second_out : x ≡ y → (u ≡ v → ⊥) → pick (eqb x y && eqb u v) o None ≡ None
  second_out e n = rw (eq-eqb x y e, ne_eqb u v n)

-- two readings that find the same are one
pub same_found : {A : Type 0} (o p : Option A) → ((a : A) → o ≡ Some a → p ≡ Some a) → ((a : A) → p ≡ Some a → o ≡ Some a) → o ≡ p
same_found None None f g = refl
same_found None (Some a) f g = g a refl
same_found (Some a) p f g = sym (f a refl)

-- two readings are one that undo the same printing of what keeps the same rule, and find only what is printed so
pub same_reading : {A : Type 0} (show : A → List ℕ) (ok : A → Bool) (o p : List ℕ → Option A)
    → ((a : A) → ok a ≡ true → o (show a) ≡ Some a) → ((s : List ℕ) (a : A) → o s ≡ Some a → (s ≡ show a) × (ok a ≡ true))
    → ((a : A) → ok a ≡ true → p (show a) ≡ Some a) → ((s : List ℕ) (a : A) → p s ≡ Some a → (s ≡ show a) × (ok a ≡ true))
    → (s : List ℕ) → o s ≡ p s
same_reading show ok o p o_back o_only p_back p_only s =
    same_found (o s) (p s) (λ a e. let told = o_only s a e in rw told.0 (p_back a told.1))
    (λ a e. let told = p_only s a e in rw told.0 (o_back a told.1))
