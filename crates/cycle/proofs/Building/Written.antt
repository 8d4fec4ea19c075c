-- Writing the cycle part by part: the laws of `written t d x y`, buckets x up to y of the image written over d.
--     written_none, written_on, written_next    nothing; two adjoining parts; one bucket more
--     written_one, written_all                  one bucket as printed; the whole image
--     length_written                            the length stays
-- Assumes nothing.
use mathlib.Core.Path.{◌≡◌, refl, sym, ap, ◌∙◌}
use Prim.Native.Nat.{ℕ, ◌+◌, ◌-◌, ◌*◌, ◌≤◌}
use native.Mathlib.Nat.{zero-add}
use native.Mathlib.Omega.{arith}
use mathlib.Core.List.{List, [], ◌++◌}
use lib.ListN.{length, take, drop}
use lib.Seq.{take-add, drop-drop, take_all}
use Rattle.columns.specs.Lists.{put, onto}
use Rattle.columns.proofs.Put.{length_part, length_put, put_nil, put_part, put_put}
use Rattle.buckets.specs.Lengths.{bucket_length}
use Rattle.cycle.specs.Tree.{Plan}
use Rattle.cycle.specs.Cycle.{image}
use Rattle.cycle.specs.Inner.Held.{image_part, written}

pub part_more : (t : Plan) (x a b : ℕ) → image_part t x (a + b) ≡ image_part t x a ++ image_part t (x + a) b
unfolding image_part
part_more t x a b =
    let wide : bucket_length * (a + b) ≡ bucket_length * a + bucket_length * b = omega arith in
    let far : bucket_length * x + bucket_length * a ≡ bucket_length * (x + a) = omega arith in
    ap (λ (w : ℕ). take w (drop (bucket_length * x) (image t))) wide
    ∙ take-add (bucket_length * a) (bucket_length * b) (drop (bucket_length * x) (image t))
    ∙ ap (λ (s : List ℕ). take (bucket_length * a) (drop (bucket_length * x) (image t)) ++ take (bucket_length * b) s)
    (drop-drop (bucket_length * a) (bucket_length * x) (image t) ∙ ap (λ (k : ℕ). drop k (image t)) far)

pub part_none : (t : Plan) (x : ℕ) → image_part t x 0 ≡ []
unfolding image_part
part_none t x = refl

-- a part lent to a writer, and written
pub lent_written :
    (d : List ℕ) (a w : ℕ) (e b : List ℕ) → a + w ≤ length d → length e ≡ length (take (a + w - a) (drop a d)) → e ≡ b →
    take a d ++ (e ++ drop (a + w - a) (drop a d)) ≡ put d a b
lent_written d a w e b room long is =
    let wide : a + w - a ≡ w = omega arith in
    let size : length (take (a + w - a) (drop a d)) ≡ a + w - a = length_part d a (a + w - a) (omega arith) in
    put_part d a (a + w - a) e (long ∙ size) ∙ ap (put d a) is

module _ (t : Plan) (n : ℕ) (long : length (image t) ≡ bucket_length * n) where
  pub length_image_part : (x c : ℕ) → x + c ≤ n → length (image_part t x c) ≡ bucket_length * c
  unfolding image_part
  length_image_part x c h = length_part (image t) (bucket_length * x) (bucket_length * c) (omega (arith, long))

  pub part_all : image_part t 0 n ≡ image t
  unfolding image_part
  part_all = take_all (bucket_length * n) (image t) (omega (arith, long))

  module _ (d : List ℕ) (room : bucket_length * n ≤ length d) where
    pub written_none : (x : ℕ) → written t d x x ≡ d
    unfolding written
    written_none x =
        let e : x - x ≡ 0 = omega arith in
        ap (λ (c : ℕ). put d (bucket_length * x) (image_part t x c)) e ∙ ap (put d (bucket_length * x)) (part_none t x) ∙ put_nil d (bucket_length * x)

    pub length_written : (x y : ℕ) → x ≤ y → y ≤ n → length (written t d x y) ≡ length d
    unfolding written
    length_written x y h g =
        let l = length_image_part x (y - x) (omega arith) in length_put d (bucket_length * x) (image_part t x (y - x)) (omega (arith, l))

    pub written_on : (x y z : ℕ) → x ≤ y → y ≤ z → z ≤ n → written t (written t d x y) y z ≡ written t d x z
    unfolding written
    written_on x y z h g b =
        let l : length (image_part t x (y - x)) ≡ bucket_length * (y - x) = length_image_part x (y - x) (omega arith) in
        let sum : y - x + (z - y) ≡ z - x = omega arith in
        let at : x + (y - x) ≡ y = omega arith in
        put_put d (bucket_length * x) (image_part t x (y - x)) (bucket_length * y) (image_part t y (z - y)) (omega (arith, l)) (omega (arith, l))
        ∙ ap (put d (bucket_length * x))
        (sym
        (ap (image_part t x) (sym sum)
        ∙ part_more t x (y - x) (z - y)
        ∙ ap (λ (m : ℕ). image_part t x (y - x) ++ image_part t m (z - y)) at))

    pub written_one : (x : ℕ) (b : List ℕ) → image_part t x 1 ≡ b → put d (bucket_length * x) b ≡ written t d x (x + 1)
    unfolding written
    written_one x b e =
        let one : 1 ≡ x + 1 - x = omega arith in
        ap (put d (bucket_length * x)) (sym e ∙ ap (image_part t x) one)

    pub written_all : written t d 0 n ≡ onto (image t) d
    unfolding written put onto
    written_all =
        let none : n - 0 ≡ n = omega arith in
        ap (λ (c : ℕ). put d 0 (image_part t 0 c)) none ∙ ap (put d 0) part_all ∙ ap (λ (k : ℕ). image t ++ drop k d) (zero-add (length (image t)))
