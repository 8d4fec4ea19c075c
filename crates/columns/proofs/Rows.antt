-- Answers in a row: `f ▹ a` is f at the answer a, and `f ▹₄ a` is f at four answers that are found at once.
-- Assumes nothing.
module _ {R : Type 2} where
  infixl 5 ◌▹◌ ◌▹₂◌ ◌▹₃◌ ◌▹₄◌ ◌▹₅◌ ◌▹₆◌ ◌▹₇◌ ◌▹₈◌ ◌▹₉◌
  pub ◌▹◌ : {A : Type 0} → (A → R) → A → R
  f ▹ a = f a

  pub ◌▹₂◌ : {A B : Type 0} → (A → B → R) → A × B → R
  f ▹₂ (a, b) = f a b

  pub ◌▹₃◌ : {A B C : Type 0} → (A → B → C → R) → A × B × C → R
  f ▹₃ (a, b, c) = f a b c

  pub ◌▹₄◌ : {A B C D : Type 0} → (A → B → C → D → R) → A × B × C × D → R
  f ▹₄ (a, b, c, d) = f a b c d

  pub ◌▹₅◌ : {A B C D E : Type 0} → (A → B → C → D → E → R) → A × B × C × D × E → R
  f ▹₅ (a, b, c, d, e) = f a b c d e

  pub ◌▹₆◌ : {A B C D E F : Type 0} → (A → B → C → D → E → F → R) → A × B × C × D × E × F → R
  f ▹₆ (a, b, c, d, e, x) = f a b c d e x

  pub ◌▹₇◌ : {A B C D E F G : Type 0} → (A → B → C → D → E → F → G → R) → A × B × C × D × E × F × G → R
  f ▹₇ (a, b, c, d, e, x, g) = f a b c d e x g

  pub ◌▹₈◌ : {A B C D E F G H : Type 0} → (A → B → C → D → E → F → G → H → R) → A × B × C × D × E × F × G × H → R
  f ▹₈ (a, b, c, d, e, x, g, h) = f a b c d e x g h

  pub ◌▹₉◌ : {A B C D E F G H I : Type 0} → (A → B → C → D → E → F → G → H → I → R) → A × B × C × D × E × F × G × H × I → R
  f ▹₉ (a, b, c, d, e, x, g, h, i) = f a b c d e x g h i
