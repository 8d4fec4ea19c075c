-- Writing over a part of a list: the laws of `put d k s`, s written over d from place k on.
--     put_nil, put_all                nothing written; the whole written
--     length_put                      the length stays
--     drop_place, drop_put            what lies from the place written on, and behind what is written
--     part_behind                     a part that the write does not touch
--     put_put                         two adjoining writes are one
--     put_set, set_last               a write of one byte, and of the last
--     put_front, put_behind           a write in the first or the second of two lists
--     put_part, length_part           what a lent part `&mut d[a..b]` comes back as, and how long it is
--     to_the_end                      a part without an end
-- Assumes nothing.
use Rattle.std.proofs.Common.{◌≡◌, ℕ, suc, ◌+◌, ◌-◌, ◌<◌, ◌≤◌, List, [], ◌∷◌, ◌++◌, length, take, drop, set, sym, ap, ◌∙◌, subst, append_assoc, append-nil, add-zero, zero-add, arith, length-append, length-drop, take-append-drop, length-take-le, take_all, drop-drop, take_at, drop_at}
use lib.Seq.{drop-append-add, take-append-add, take-append-le, drop-append-le, drop-length, set_at, set_split}
use Rattle.columns.specs.Lists.{put}

pub put_nil : (d : List ℕ) (k : ℕ) → put d k [] ≡ d
unfolding put
put_nil d k = rw (add-zero k) (take-append-drop k d)

pub put_all : (d s : List ℕ) → length s ≡ length d → put d 0 s ≡ s
unfolding put
put_all d s e = rw (zero-add, e, drop-length, append-nil)

pub length_put : (d : List ℕ) (k : ℕ) (s : List ℕ) → k + length s ≤ length d → length (put d k s) ≡ length d
unfolding put
length_put d k s h =
    let front : length (take k d) ≡ k = length-take-le k d (omega arith) in
    simp (length-append, length-drop) (omega arith)

-- all that is from the place on
pub drop_place : (d : List ℕ) (k : ℕ) (s : List ℕ) → k ≤ length d → drop k (put d k s) ≡ s ++ drop (k + length s) d
unfolding put
drop_place d k s h = drop_at (take k d) (s ++ drop (k + length s) d) k (length-take-le k d h)

pub drop_put : (d : List ℕ) (k : ℕ) (s : List ℕ) (j : ℕ) → k ≤ length d → k + length s ≤ j → drop j (put d k s) ≡ drop j d
drop_put d k s j h b =
    let m = j - (k + length s) in
    let far : j ≡ k + (length s + m) = omega arith in
    let near : k + length s + m ≡ k + (length s + m) = omega arith in
    subst (λ (i : ℕ). drop i (put d k s) ≡ drop i d) (sym far)
    (sym (drop-drop (length s + m) k (put d k s))
    ∙ ap (drop (length s + m)) (drop_place d k s h)
    ∙ drop-append-add s (drop (k + length s) d) m
    ∙ drop-drop m (k + length s) d
    ∙ ap (λ (i : ℕ). drop i d) near)

pub part_behind : (d : List ℕ) (k : ℕ) (s : List ℕ) (j w : ℕ) → k ≤ length d → k + length s ≤ j → take w (drop j (put d k s)) ≡ take w (drop j d)
part_behind d k s j w h b = ap (take w) (drop_put d k s j h b)

-- two adjoining writes are one
pub put_put : (d : List ℕ) (k : ℕ) (s : List ℕ) (j : ℕ) (t : List ℕ) → k + length s ≤ length d → j ≡ k + length s → put (put d k s) j t ≡ put d k (s ++ t)
unfolding put
put_put d k s j t h e =
    let front : length (take k d ++ s) ≡ k + length s = simp length-append (omega (arith, length-take-le k d (omega arith))) in
    let whole : put d k s ≡ (take k d ++ s) ++ drop (k + length s) d = sym (append_assoc (take k d) s (drop (k + length s) d)) in
    let far : j + length t ≡ k + length (s ++ t) = simp length-append (omega arith) in
    let before : take j (put d k s) ≡ take k d ++ s = rw (whole, e) (take_at (take k d ++ s) (drop (k + length s) d) (k + length s) front) in
    let behind : drop (j + length t) (put d k s) ≡ drop (k + length (s ++ t)) d =
    drop_put d k s (j + length t) (omega arith) (omega arith) ∙ ap (λ (i : ℕ). drop i d) far in
    rw (before, behind) (simp append_assoc)

-- a write of one byte
pub put_set : (d : List ℕ) (k v : ℕ) → k < length d → set d k v ≡ put d k (v ∷ [])
unfolding put
put_set d k v h = set_split d k v h ∙ (let e : k + 1 ≡ suc k = omega arith in rw e)

-- the last byte
pub set_last : (p r : List ℕ) (n v : ℕ) → length p ≡ n → length r ≡ 1 → set (p ++ r) n v ≡ p ++ v ∷ []
set_last p [] n v h e = absurd (omega arith)
set_last p (y ∷ []) n v h e = set_at p y [] v n h
set_last p (y ∷ z ∷ r) n v h e = absurd (omega arith)

-- a write in the first of two lists, and in the second
pub put_front : (a b : List ℕ) (k : ℕ) (s : List ℕ) → k + length s ≤ length a → put (a ++ b) k s ≡ put a k s ++ b
unfolding put
put_front a b k s h =
    let before : k ≤ length a = omega arith in
    rw (take-append-le k a b before, drop-append-le (k + length s) a b h) (simp append_assoc)

pub put_behind : (a b : List ℕ) (j k : ℕ) (s : List ℕ) → j ≡ length a + k → put (a ++ b) j s ≡ a ++ put b k s
unfolding put
put_behind a b j k s e =
    let far : length a + k + length s ≡ length a + (k + length s) = omega arith in
    rw (e, far, take-append-add a b k, drop-append-add a b (k + length s)) (simp append_assoc)

-- what a lent part `&mut d[a..b]` comes back as
pub put_part : (d : List ℕ) (a w : ℕ) (e : List ℕ) → length e ≡ w → take a d ++ (e ++ drop w (drop a d)) ≡ put d a e
unfolding put
put_part d a w e h = rw (h, drop-drop w a d)

-- a lent part is as long as its range says
pub length_part : (d : List ℕ) (a w : ℕ) → a + w ≤ length d → length (take w (drop a d)) ≡ w
length_part d a w h = length-take-le w (drop a d) (simp length-drop (omega arith))

-- a part to the end, `&d[a..]`, is all that is left
pub to_the_end : (d : List ℕ) (a : ℕ) → a ≤ length d → take (length d - a) (drop a d) ≡ drop a d
to_the_end d a h = take_all (length d - a) (drop a d) (simp length-drop (omega arith))
