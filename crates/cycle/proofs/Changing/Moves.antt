-- Bytes that move in a list's buffer when a line is put in or taken out, and what the buffer holds then.
--     take_place, at_before                   what a write does not touch
--     put_before, put_onto                    a write that ends where another begins; a write by the buffer's front
--     opened_none, opened_more, opened_all    bytes moved on: none yet, one more, all
--     pasted                                  a part moved within a list
--     line_in, line_out                       a place opened and filled, a place closed and blanked
--     line_put, line_removed                  the same by the list that the buffer holds
--     onto_..                                 a buffer with bytes written at its front
-- Assumes nothing.
use Prim.Native.Nat.{ℕ, suc, ◌+◌, ◌-◌, ◌≤◌, ◌<◌}
use mathlib.Core.Path.{◌≡◌, refl, sym, ap, ap₂, ◌∙◌}
use mathlib.Core.List.{List, [], ◌∷◌, ◌++◌, append_assoc}
use native.Mathlib.Omega.{arith}
use lib.ListN.{length, take, drop, get_or, set, length-append, length-drop, length-set}
use lib.Seq.{length-take-le, take-take, take_at, drop_at, drop-drop, drop-append-add, take-append_seam, take-add, paste, drop-cons, get_or-take}
use Rattle.columns.specs.Lists.{put, onto}
use Rattle.columns.specs.PrintedNumbers.{blanks}
use Rattle.columns.proofs.Put.{put_nil, put_put, put_part, put_set, drop_place, length_part}
use Rattle.columns.proofs.FromTheRight.{length_blanks}
use Rattle.buckets.specs.Lengths.{line_length}
use Rattle.cycle.specs.Inner.Changing.{with_line, without_line}

-- ---- writes

take_place : (d : List ℕ) (k : ℕ) (s : List ℕ) → k ≤ length d → take k (put d k s) ≡ take k d
unfolding put
take_place d k s h = take_at (take k d) (s ++ drop (k + length s) d) k (length-take-le k d h)

-- a byte in front of what is written
at_before : (d : List ℕ) (k : ℕ) (s : List ℕ) (j : ℕ) → k ≤ length d → j < k → get_or (put d k s) j 0 ≡ get_or d j 0
at_before d k s j h b =
    sym (get_or-take k (put d k s) j 0 b) ∙ ap (λ (x : List ℕ). get_or x j 0) (take_place d k s h) ∙ get_or-take k d j 0 b

-- a write that ends where the one before it begins
put_before : (d : List ℕ) (k : ℕ) (s : List ℕ) (j : ℕ) (t : List ℕ) → k ≤ length d → j + length t ≡ k →
    put (put d k s) j t ≡ put d j (t ++ s)
unfolding put
put_before d k s j t h e =
    let front : take j (put d k s) ≡ take j d =
    sym (take-take j k (put d k s) (omega arith)) ∙ ap (take j) (take_place d k s h) ∙ take-take j k d (omega arith) in
    let back : drop (j + length t) (put d k s) ≡ s ++ drop (k + length s) d =
    ap (λ (i : ℕ). drop i (put d k s)) e ∙ drop_place d k s h in
    let end : k + length s ≡ j + length (t ++ s) = simp length-append (omega arith) in
    ap₂ (λ (x y : List ℕ). x ++ (t ++ y)) front (back ∙ ap (λ (i : ℕ). s ++ drop i d) end)
    ∙ ap (λ (x : List ℕ). take j d ++ x) (sym (append_assoc t s (drop (j + length (t ++ s)) d)))

-- ---- a place opens: the bytes from `at` up to `end` move on by w, the last first, and those from i on have

pub record Opened (b : List ℕ) (w at end : ℕ) (list : List ℕ) (i : ℕ) : Type 0 where
  pub from : at ≤ i
  pub to : i ≤ end
  pub long : length list ≡ length b
  pub is : list ≡ put b (i + w) (take (end - i) (drop i b))

pub opened_none : (b : List ℕ) (w at end : ℕ) → at ≤ end → Opened b w at end b end
opened_none b w at end h =
    let none : 0 ≡ end - end = omega arith in
    record {
      from = h;
      to = omega arith;
      long = refl;
      is = sym (put_nil b (end + w)) ∙ ap (λ (c : ℕ). put b (end + w) (take c (drop end b))) none;
    }

-- the byte in front of them moves too
pub opened_more :
    (b : List ℕ) (w at end : ℕ) (list : List ℕ) (i j : ℕ) → end + w ≤ length b → Opened b w at end list i → at < i → i ≡ suc j →
    Opened b w at end (set list (j + w) (get_or list j 0)) j
opened_more b w at end list i j room o h e =
    let rest : List ℕ = take (end - i) (drop i b) in
    let there : j + w < length list = omega arith in
    let near : j + w + 1 ≡ i + w = omega arith in
    let byte : get_or list j 0 ≡ get_or b j 0 =
    ap (λ (x : List ℕ). get_or x j 0) o.is ∙ at_before b (i + w) rest j (omega arith) (omega arith) in
    let one : end - j ≡ suc (end - i) = omega arith in
    let part : get_or b j 0 ∷ rest ≡ take (end - j) (drop j b) =
    ap (λ (k : ℕ). get_or b j 0 ∷ take (end - i) (drop k b)) e
    ∙ ap (take (suc (end - i))) (sym (drop-cons b j 0 (omega arith)))
    ∙ ap (λ (c : ℕ). take c (drop j b)) (sym one) in
    record {
      from = omega arith;
      to = omega arith;
      long = simp length-set o.long;
      is =
          put_set list (j + w) (get_or list j 0) there
          ∙ ap₂ (λ (x : List ℕ) (v : ℕ). put x (j + w) (v ∷ [])) o.is byte
          ∙ put_before b (i + w) rest (j + w) (get_or b j 0 ∷ []) (omega arith) near
          ∙ ap (put b (j + w)) part;
    }

pub opened_all :
    (b : List ℕ) (w at end : ℕ) (list : List ℕ) (i : ℕ) → Opened b w at end list i → i ≤ at →
    list ≡ put b (at + w) (take (end - at) (drop at b))
opened_all b w at end list i o h =
    let e : i ≡ at = omega arith in
    o.is ∙ ap (λ (k : ℕ). put b (k + w) (take (end - k) (drop k b))) e

-- ---- a part moved within a list

pub pasted : (d : List ℕ) (k at c : ℕ) → at + c ≤ length d → paste d k (drop at d) c ≡ put d k (take c (drop at d))
unfolding put
pasted d k at c h =
    let long : length (take c (drop at d)) ≡ c = length_part d at c h in
    append_assoc (take k d) (take c (drop at d)) (drop (k + c) d)
    ∙ ap (λ (i : ℕ). take k d ++ (take c (drop at d) ++ drop (k + i) d)) (sym long)

-- ---- the place filled, the last place blanked

-- a write is the front up to it and what is written, at the buffer's front
put_onto : (d : List ℕ) (k : ℕ) (s : List ℕ) → k ≤ length d → put d k s ≡ onto (take k d ++ s) d
unfolding put onto
put_onto d k s h =
    let front : length (take k d) ≡ k = length-take-le k d h in
    let count : k + length s ≡ length (take k d ++ s) = simp length-append (omega arith) in
    ap (λ (c : ℕ). take k d ++ (s ++ drop c d)) count ∙ sym (append_assoc (take k d) s (drop (length (take k d ++ s)) d))

-- a line copied into the opened place
pub line_in :
    (b : List ℕ) (at end : ℕ) (line list part : List ℕ) → at ≤ end → end + line_length ≤ length b → length line ≡ line_length →
    list ≡ put b (at + line_length) (take (end - at) (drop at b)) → part ≡ line →
    take at list ++ (part ++ drop (at + line_length - at) (drop at list)) ≡ with_line b at end line
unfolding with_line
line_in b at end line list part h room wide e p =
    let rest : List ℕ = take (end - at) (drop at b) in
    let gap : length line ≡ at + line_length - at = omega arith in
    ap (λ (x : List ℕ). take at list ++ (x ++ drop (at + line_length - at) (drop at list))) p
    ∙ put_part list at (at + line_length - at) line gap
    ∙ ap (λ (x : List ℕ). put x at line) e
    ∙ put_before b (at + line_length) rest at line (omega arith) (omega arith)
    ∙ put_onto b at (line ++ rest) (omega arith)

-- blanks in the last place, behind what was moved back
pub line_out :
    (b : List ℕ) (at end : ℕ) (list part : List ℕ) → at + line_length ≤ end → end ≤ length b → length list ≡ length b →
    list ≡ put b at (take (end - (at + line_length)) (drop (at + line_length) b)) →
    part ≡ blanks (length (take (end - (end - line_length)) (drop (end - line_length) list))) →
    take (end - line_length) list ++ (part ++ drop (end - (end - line_length)) (drop (end - line_length) list))
    ≡ without_line b at end
unfolding without_line
line_out b at end list part h room long e p =
    let rest : List ℕ = take (end - (at + line_length)) (drop (at + line_length) b) in
    let count : length rest ≡ end - (at + line_length) = length_part b (at + line_length) (end - (at + line_length)) (omega arith) in
    let last : ℕ = end - line_length in
    let gap : length (take (end - last) (drop last list)) ≡ line_length = length_part list last (end - last) (omega arith) ∙ omega arith in
    let wide : length (blanks line_length) ≡ line_length = length_blanks line_length in
    ap (λ (x : List ℕ). take last list ++ (x ++ drop (end - last) (drop last list))) (p ∙ ap blanks gap)
    ∙ put_part list last (end - last) (blanks line_length) (omega arith)
    ∙ ap (λ (x : List ℕ). put x last (blanks line_length)) e
    ∙ put_put b at rest last (blanks line_length) (omega arith) (omega arith)
    ∙ put_onto b at (rest ++ blanks line_length) (omega arith)

-- ---- the same, by the list that ends at `end`

-- a part up to `end`, cut there first
part_cut : (b : List ℕ) (k end : ℕ) → k ≤ end → end ≤ length b → take (end - k) (drop k b) ≡ drop k (take end b)
part_cut b k end h room =
    let whole : k + (end - k) ≡ end = omega arith in
    sym (drop_at (take k b) (take (end - k) (drop k b)) k (length-take-le k b (omega arith)))
    ∙ ap (drop k) (sym (take-add k (end - k) b) ∙ ap (λ (c : ℕ). take c b) whole)

pub line_put :
    (buffer : List ℕ) (at end : ℕ) (line : List ℕ) → at ≤ end → end ≤ length buffer →
    with_line buffer at end line ≡ onto (take at (take end buffer) ++ (line ++ drop at (take end buffer))) buffer
unfolding with_line
line_put buffer at end line h room =
    ap₂ (λ (x y : List ℕ). onto (x ++ (line ++ y)) buffer) (sym (take-take at end buffer h)) (part_cut buffer at end h room)

pub line_removed :
    (buffer : List ℕ) (at end : ℕ) → at + line_length ≤ end → end ≤ length buffer →
    without_line buffer at end
    ≡ onto ((take at (take end buffer) ++ drop (at + line_length) (take end buffer)) ++ blanks line_length) buffer
unfolding without_line
line_removed buffer at end h room =
    ap₂ (λ (x y : List ℕ). onto (x ++ (y ++ blanks line_length)) buffer) (sym (take-take at end buffer (omega arith)))
    (part_cut buffer (at + line_length) end h room)
    ∙ ap (λ (x : List ℕ). onto x buffer)
    (sym (append_assoc (take at (take end buffer)) (drop (at + line_length) (take end buffer)) (blanks line_length)))

-- ---- a buffer with bytes at its front

pub onto_front : (s d : List ℕ) → take (length s) (onto s d) ≡ s
unfolding onto
onto_front s d = take-append_seam s (drop (length s) d)

-- the front of them
pub onto_front_of : (s t d : List ℕ) (c : ℕ) → c ≡ length s → take c (onto (s ++ t) d) ≡ s
unfolding onto
onto_front_of s t d c e =
    ap (take c) (append_assoc s t (drop (length (s ++ t)) d)) ∙ take_at s (t ++ drop (length (s ++ t)) d) c (sym e)

pub onto_behind : (s d : List ℕ) (c : ℕ) → length s ≤ c → drop c (onto s d) ≡ drop c d
unfolding onto
onto_behind s d c h =
    let far : c ≡ length s + (c - length s) = omega arith in
    ap (λ (k : ℕ). drop k (s ++ drop (length s) d)) far
    ∙ drop-append-add s (drop (length s) d) (c - length s)
    ∙ drop-drop (c - length s) (length s) d
    ∙ ap (λ (k : ℕ). drop k d) (sym far)

pub length_onto : (s d : List ℕ) → length s ≤ length d → length (onto s d) ≡ length d
unfolding onto
length_onto s d h = simp (length-append, length-drop) (omega arith)

pub onto_nothing : (d : List ℕ) → onto [] d ≡ d
unfolding onto
onto_nothing d = refl
