-- Equal parts: what `joined` writes one behind the other, `parts` cuts again, and each part stands where its number says.
-- Assumes nothing.
use Rattle.std.proofs.Common.{◌≡◌, ℕ, zero, suc, ◌+◌, ◌*◌, ◌<◌, ◌≤◌, Bool, true, ◌&&◌, List, [], ◌∷◌, ◌++◌, map, length, get_or, take, drop, sym, refl, ap, append_assoc, suc-mul, zero-mul, arith, length-append, drop-drop, take_at, take-add, drop_at}
use lib.Seq.{drop-append-add, take-append-add}
use Rattle.columns.specs.Lists.{joined, every, parts}
use Rattle.columns.proofs.Strict.{both, and_assoc}

pub joined_append : {A B : Type 0} (f : A → List B) (xs ys : List A) → joined f (xs ++ ys) ≡ joined f xs ++ joined f ys
joined_append f [] ys = refl
joined_append f (x ∷ xs) ys = rw (joined_append f xs ys) (simp append_assoc)

pub every_append : {A : Type 0} (f : A → Bool) (xs ys : List A) → every f (xs ++ ys) ≡ every f xs && every f ys
every_append f [] ys = refl
every_append f (x ∷ xs) ys = rw (every_append f xs ys) (and_assoc (f x) (every f xs) (every f ys))

-- a test that always passes
pub every_always : {A : Type 0} (f : A → Bool) → ((a : A) → f a ≡ true) → (xs : List A) → every f xs ≡ true
every_always f h [] = refl
every_always f h (x ∷ xs) = rw (h x, every_always f h xs)

-- what passes everywhere passes at a place
pub every_at : {A : Type 0} (f : A → Bool) (d : A) (xs : List A) (i : ℕ) → every f xs ≡ true → i < length xs
    → f (get_or xs i d) ≡ true
every_at f d [] i e h = absurd (omega arith)
every_at f d (x ∷ xs) zero e h = (both (f x) (every f xs) e).0
every_at f d (x ∷ xs) (suc i) e h = every_at f d xs i (both (f x) (every f xs) e).1 (omega arith)

-- what is at a place after a map
pub map_at : {A B : Type 0} (f : A → B) (xs : List A) (i : ℕ) (d : A) (e : B) → i < length xs
    → get_or (map f xs) i e ≡ f (get_or xs i d)
map_at f [] i d e h = absurd (omega arith)
map_at f (x ∷ xs) zero d e h = refl
map_at f (x ∷ xs) (suc i) d e h = map_at f xs i d e (omega arith)

-- g undoes f on what passes ok
pub map_undone : {A B : Type 0} (f : A → B) (g : B → A) (ok : A → Bool) → ((a : A) → ok a ≡ true → g (f a) ≡ a)
    → (xs : List A) → every ok xs ≡ true → map g (map f xs) ≡ xs
map_undone f g ok undone [] e = refl
map_undone f g ok undone (x ∷ xs) e =
    let told = both (ok x) (every ok xs) e in
    rw (undone x told.0, map_undone f g ok undone xs told.1)

-- every x that passes ok is written w long
module _ {A B : Type 0} (f : A → List B) (ok : A → Bool) (w : ℕ) (wide : (a : A) → ok a ≡ true → length (f a) ≡ w) where
  pub length_joined_if : (xs : List A) → every ok xs ≡ true → length (joined f xs) ≡ length xs * w
  length_joined_if [] e = sym (zero-mul w)
  length_joined_if (x ∷ xs) e =
      let told = both (ok x) (every ok xs) e in
      simp length-append (rw (wide x told.0, length_joined_if xs told.1, suc-mul) (omega arith))

  pub parts_joined_if : (xs : List A) (rest : List B) → every ok xs ≡ true
      → parts (length xs) w (joined f xs ++ rest) ≡ map f xs
  parts_joined_if [] rest e = refl
  parts_joined_if (x ∷ xs) rest e =
      let told = both (ok x) (every ok xs) e in
      let whole : (f x ++ joined f xs) ++ rest ≡ f x ++ (joined f xs ++ rest) = append_assoc (f x) (joined f xs) rest in
      rw (
        whole,
        take_at (f x) (joined f xs ++ rest) w (wide x told.0),
        drop_at (f x) (joined f xs ++ rest) w (wide x told.0),
        parts_joined_if xs rest told.1,
      )

  pub drop_joined_if : (xs : List A) (i : ℕ) → every ok xs ≡ true → i ≤ length xs
      → drop (i * w) (joined f xs) ≡ joined f (drop i xs)
  drop_joined_if xs zero e h = rw zero-mul
  drop_joined_if [] (suc i) e h = absurd (omega arith)
  drop_joined_if (x ∷ xs) (suc i) e h =
      let told = both (ok x) (every ok xs) e in
      let on : suc i * w ≡ length (f x) + i * w = rw (suc-mul, wide x told.0) (omega arith) in
      rw (on, drop-append-add (f x) (joined f xs) (i * w)) (drop_joined_if xs i told.1 (omega arith))

  pub take_joined_if : (xs : List A) (i : ℕ) → every ok xs ≡ true → i ≤ length xs
      → take (i * w) (joined f xs) ≡ joined f (take i xs)
  take_joined_if xs zero e h = rw zero-mul
  take_joined_if [] (suc i) e h = absurd (omega arith)
  take_joined_if (x ∷ xs) (suc i) e h =
      let told = both (ok x) (every ok xs) e in
      let on : suc i * w ≡ length (f x) + i * w = rw (suc-mul, wide x told.0) (omega arith) in
      rw (on, take-append-add (f x) (joined f xs) (i * w)) (ap (λ (s : List B). f x ++ s) (take_joined_if xs i told.1 (omega arith)))

  pub joined_at_if : (d : A) (xs : List A) (rest : List B) (i : ℕ) → every ok xs ≡ true → i < length xs
      → take w (drop (i * w) (joined f xs ++ rest)) ≡ f (get_or xs i d)
  joined_at_if d [] rest i e h = absurd (omega arith)
  joined_at_if d (x ∷ xs) rest zero e h =
      let told = both (ok x) (every ok xs) e in
      rw (zero-mul, append_assoc (f x) (joined f xs) rest) (take_at (f x) (joined f xs ++ rest) w (wide x told.0))
  joined_at_if d (x ∷ xs) rest (suc i) e h =
      let told = both (ok x) (every ok xs) e in
      let on : suc i * w ≡ length (f x) + i * w = rw (suc-mul, wide x told.0) (omega arith) in
      rw (append_assoc (f x) (joined f xs) rest, on, drop-append-add (f x) (joined f xs ++ rest) (i * w))
      (joined_at_if d xs rest i told.1 (omega arith))

-- the same where every x is written w long
module _ {A B : Type 0} (f : A → List B) (w : ℕ) (wide : (a : A) → length (f a) ≡ w) where
  pub length_joined : (xs : List A) → length (joined f xs) ≡ length xs * w
  length_joined xs = length_joined_if f (λ a. true) w (λ a e. wide a) xs (every_always (λ a. true) (λ a. refl) xs)

  pub parts_joined : (xs : List A) (rest : List B) → parts (length xs) w (joined f xs ++ rest) ≡ map f xs
  parts_joined xs rest = parts_joined_if f (λ a. true) w (λ a e. wide a) xs rest (every_always (λ a. true) (λ a. refl) xs)

  pub drop_joined : (xs : List A) (i : ℕ) → i ≤ length xs → drop (i * w) (joined f xs) ≡ joined f (drop i xs)
  drop_joined xs i h = drop_joined_if f (λ a. true) w (λ a e. wide a) xs i (every_always (λ a. true) (λ a. refl) xs) h

  pub take_joined : (xs : List A) (i : ℕ) → i ≤ length xs → take (i * w) (joined f xs) ≡ joined f (take i xs)
  take_joined xs i h = take_joined_if f (λ a. true) w (λ a e. wide a) xs i (every_always (λ a. true) (λ a. refl) xs) h

  pub joined_at : (d : A) (xs : List A) (rest : List B) (i : ℕ) → i < length xs
      → take w (drop (i * w) (joined f xs ++ rest)) ≡ f (get_or xs i d)
  joined_at d xs rest i h = joined_at_if f (λ a. true) w (λ a e. wide a) d xs rest i (every_always (λ a. true) (λ a. refl) xs) h

pub length_parts : {B : Type 0} (c w : ℕ) (s : List B) → length (parts c w s) ≡ c
length_parts zero w s = refl
length_parts (suc c) w s = ap suc (length_parts c w (drop w s))

-- part i of s
pub parts_at : {B : Type 0} (c w : ℕ) (s : List B) (d : List B) (i : ℕ) → i < c
    → get_or (parts c w s) i d ≡ take w (drop (i * w) s)
parts_at zero w s d i h = absurd (omega arith)
parts_at (suc c) w s d zero h = rw zero-mul
parts_at (suc c) w s d (suc i) h =
    let on : suc i * w ≡ w + i * w = rw suc-mul (omega arith) in
    rw (on, ← drop-drop (i * w) w s) (parts_at c w (drop w s) d i (omega arith))

-- the parts one behind the other are the front that they were cut from
pub joined_parts : {B : Type 0} (c w : ℕ) (s : List B) → joined (λ p. p) (parts c w s) ≡ take (c * w) s
joined_parts zero w s = rw zero-mul
joined_parts (suc c) w s =
    let on : suc c * w ≡ w + c * w = rw suc-mul (omega arith) in
    rw (on, take-add w (c * w) s) (ap (λ (r : List _). take w s ++ r) (joined_parts c w (drop w s)))
