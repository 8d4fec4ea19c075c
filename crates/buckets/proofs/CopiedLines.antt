-- Lines copied as they stand side by side in a text, each with a newline behind it.
-- Assumes nothing.
use mathlib.Core.Path.{◌≡◌, refl, sym, ◌∙◌, ap}
use mathlib.Core.List.{List, [], ◌∷◌, ◌++◌, map, append_assoc, append-nil}
use Prim.Native.Nat.{ℕ, zero, suc, ◌+◌, ◌-◌, ◌*◌, ◌≤◌}
use native.Mathlib.Omega.{arith}
use native.Mathlib.Numerals.{add-one}
use lib.ListN.{length, take, drop, set, length-append, length-drop, take-append-drop}
use lib.Seq.{drop-drop, drop-append-le, drop_at, length-take-le}
use Rattle.columns.specs.Lists.{joined, span, parts, put}
use Rattle.columns.proofs.Joined.{joined_append, length_joined, drop_joined, parts_joined}
use Rattle.columns.proofs.Put.{put_nil, put_part, put_set, put_put, length_part, length_put}
use Rattle.buckets.specs.declared.Line.{Line}
use Rattle.buckets.specs.Lengths.{newline, line_columns_width, line_length}
use Rattle.buckets.specs.ListLine.{line_columns, print_line, ended_line, ended_lines}
use Rattle.buckets.proofs.ListLines.{length_line_columns}

-- ---- one line

pub copied_line :
    (d p : List ℕ) (from to : ℕ) (e : List ℕ) → from + line_columns_width ≤ length p → to + line_length ≤ length d →
    e ≡ take (from + line_columns_width - from) (drop from p) →
    set (take to d ++ (e ++ drop (to + line_columns_width - to) (drop to d))) (to + line_columns_width) newline ≡
    put d to (ended_line (drop from p))
copied_line d p from to e h g k =
    let w : to + line_columns_width - to ≡ line_columns_width = omega arith in
    let v : from + line_columns_width - from ≡ line_columns_width = omega arith in
    let s = take line_columns_width (drop from p) in
    let is : e ≡ s = rw v at k in
    let l : length s ≡ line_columns_width = length_part p from line_columns_width h in
    let m : length (put d to s) ≡ length d = length_put d to s (omega arith) in
    rw (w, is, put_part d to line_columns_width s l, put_set (put d to s) (to + line_columns_width) newline (omega arith))
    (put_put d to s (to + line_columns_width) (newline ∷ []) (omega arith) (omega arith))

-- ---- several lines

pub ended_more : (i : ℕ) (s : List ℕ) → ended_lines (suc i) s ≡ ended_lines i s ++ ended_line (drop (line_columns_width * i) s)
unfolding ended_lines
ended_more zero s = append-nil (ended_line s)
ended_more (suc i) s =
    let e : line_columns_width * suc i ≡ line_columns_width + line_columns_width * i = omega arith in
    rw (e, ← drop-drop (line_columns_width * i) line_columns_width s)
    (ap (λ r. ended_line s ++ r) (ended_more i (drop line_columns_width s))
    ∙ sym
    (append_assoc (ended_line s) (joined (λ p. p ++ newline ∷ []) (parts i line_columns_width (drop line_columns_width s)))
    (ended_line (drop (line_columns_width * i) (drop line_columns_width s)))))

pub length_ended : (i : ℕ) (s : List ℕ) → line_columns_width * i ≤ length s → length (ended_lines i s) ≡ line_length * i
unfolding ended_lines
length_ended zero s h = refl
length_ended (suc i) s h =
    let r : length (ended_lines i (drop line_columns_width s)) ≡ line_length * i =
    length_ended i (drop line_columns_width s) (simp length-drop (omega arith)) in
    let l : length (take line_columns_width s) ≡ line_columns_width = length-take-le line_columns_width s (omega arith) in
    simp length-append (omega arith)

pub none_copied : (d p : List ℕ) (from to : ℕ) → put d to (ended_lines 0 (drop from p)) ≡ d
unfolding ended_lines
none_copied d p from to = put_nil d to

-- one more line behind those copied
pub copied_more :
    (d p : List ℕ) (from to i : ℕ) → from + line_columns_width * (i + 1) ≤ length p → to + line_length * (i + 1) ≤ length d →
    put (put d to (ended_lines i (drop from p))) (to + line_length * i) (ended_line (drop (from + line_columns_width * i) p)) ≡
    put d to (ended_lines (i + 1) (drop from p))
copied_more d p from to i h g =
    let l : length (ended_lines i (drop from p)) ≡ line_length * i =
    length_ended i (drop from p) (simp length-drop (omega arith)) in
    put_put d to (ended_lines i (drop from p)) (to + line_length * i) (ended_line (drop (from + line_columns_width * i) p))
    (omega arith) (omega arith)
    ∙ rw (add-one, ended_more i (drop from p), drop-drop (line_columns_width * i) from p)

-- the same lines, each told by its place
pub ended_places :
    (s : List ℕ) (from a c : ℕ) →
    joined (λ i. ended_line (drop (from + line_columns_width * i) s)) (span a c) ≡ ended_lines c (drop (from + line_columns_width * a) s)
unfolding ended_lines
ended_places s from a zero = refl
ended_places s from a (suc c) =
    let next : from + line_columns_width * suc a ≡ from + line_columns_width * a + line_columns_width = omega arith in
    ap (λ r. ended_line (drop (from + line_columns_width * a) s) ++ r)
    (ended_places s from (suc a) c
    ∙ rw (next, ← drop-drop line_columns_width (from + line_columns_width * a) s))

-- ---- the lines of a bucket

line_columns_ended : (ls : List Line) → joined (λ p. p ++ newline ∷ []) (map line_columns ls) ≡ joined print_line ls
unfolding print_line
line_columns_ended [] = refl
line_columns_ended (l ∷ ls) = ap (λ r. (line_columns l ++ newline ∷ []) ++ r) (line_columns_ended ls)

ended_front :
    (ls : List Line) (k : ℕ) (rest : List ℕ) → k ≤ length ls →
    ended_lines k (joined line_columns ls ++ rest) ≡ joined print_line (take k ls)
unfolding ended_lines
ended_front ls k rest h =
    let l : length (take k ls) ≡ k = length-take-le k ls h in
    let e :
    joined line_columns ls ++ rest ≡
    joined line_columns (take k ls) ++ (joined line_columns (drop k ls) ++ rest) =
    ap (λ z. joined line_columns z ++ rest) (sym (take-append-drop k ls))
    ∙ (ap (λ z. z ++ rest) (joined_append line_columns (take k ls) (drop k ls))
    ∙ append_assoc (joined line_columns (take k ls)) (joined line_columns (drop k ls)) rest) in
    let q :
    parts k line_columns_width (joined line_columns (take k ls) ++ (joined line_columns (drop k ls) ++ rest)) ≡
    map line_columns (take k ls) =
    ap (λ n. parts n line_columns_width (joined line_columns (take k ls) ++ (joined line_columns (drop k ls) ++ rest))) (sym l)
    ∙ parts_joined line_columns line_columns_width length_line_columns (take k ls) (joined line_columns (drop k ls) ++ rest) in
    rw (e, q) (line_columns_ended (take k ls))

-- lines that stand behind the w columns of h, from the f-th on
pub ended_columns :
    (w : ℕ) (h : List ℕ) (ls : List Line) (rest : List ℕ) (f k : ℕ) → length h ≡ w → f + k ≤ length ls →
    ended_lines k (drop (w + line_columns_width * f) (h ++ (joined line_columns ls ++ rest))) ≡ joined print_line (take k (drop f ls))
ended_columns w h ls rest f k e g =
    let l : length (joined line_columns ls) ≡ length ls * line_columns_width = length_joined line_columns line_columns_width length_line_columns ls in
    let m : line_columns_width * f ≡ f * line_columns_width = omega arith in
    let n : k ≤ length (drop f ls) = simp length-drop (omega arith) in
    rw (
      ← drop-drop (line_columns_width * f) w (h ++ (joined line_columns ls ++ rest)),
      drop_at h (joined line_columns ls ++ rest) w e,
      m,
      drop-append-le (f * line_columns_width) (joined line_columns ls) rest (omega arith),
      drop_joined line_columns line_columns_width length_line_columns ls f (omega arith),
    )
    (ended_front (drop f ls) k rest n)
