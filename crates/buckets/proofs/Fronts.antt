-- What the writer's loops have written after i turns: the front of what they are to write, and one item more.
--     joined_next                      one more item behind those that stand
--     item_written                     the same, the items being the first of some
--     later_printed_lem                pairs with printed tags, printed
--     line_written, line_columns_at    one more line, and where its columns stand in a list
-- Assumes nothing.
use Prim.Native.Nat.{ℕ, ◌+◌, ◌*◌, ◌≤◌, ◌<◌}
use mathlib.Core.Path.{◌≡◌, refl, sym, ap, ◌∙◌}
use mathlib.Core.List.{List, [], ◌∷◌, ◌++◌, map, append-nil}
use native.Mathlib.Numerals.{add-one}
use lib.Dec.{lit≤}
use lib.ListN.{length, take, drop, get_or}
use lib.Seq.{length-take-le, take-suc, take-take, take_at}
use Rattle.columns.specs.Lists.{joined}
use Rattle.columns.proofs.Joined.{joined_append, length_joined, joined_at}
use Rattle.buckets.specs.declared.Line.{Line}
use Rattle.buckets.specs.declared.Entry.{Entry}
use Rattle.buckets.specs.ListLine.{line_columns, print_line}
use Rattle.buckets.specs.Bucket.{print_pair, print_entry}
use Rattle.buckets.specs.Inner.Held.{printed_pair}
use Rattle.buckets.specs.Lengths.{newline, line_columns_width, line_length}
use Rattle.buckets.proofs.ListLines.{length_line_columns, length_print_line}

pub joined_next : {A : Type 0} (f : A → List ℕ) (xs : List A) (x : A) → joined f (xs ++ x ∷ []) ≡ joined f xs ++ f x
joined_next f xs x = joined_append f xs (x ∷ []) ∙ ap (λ (s : List ℕ). joined f xs ++ s) (append-nil (f x))

-- the first i items, printed, and the next one
pub item_written : {A : Type 0} (f : A → List ℕ) (xs : List A) (d : A) (i : ℕ) → i < length xs →
    joined f (take i xs) ++ f (get_or xs i d) ≡ joined f (take (i + 1) xs)
item_written f xs d i h =
    sym (joined_next f (take i xs) (get_or xs i d))
    ∙ ap (joined f) (sym (take-suc xs i d h))
    ∙ ap (λ k. joined f (take k xs)) (sym (add-one i))

-- pairs with printed tags are printed as entries are
pub later_printed_lem : (es : List Entry) → joined print_pair (map printed_pair es) ≡ joined print_entry es
unfolding print_pair print_entry
later_printed_lem [] = refl
later_printed_lem (e ∷ es) = ap (λ (s : List ℕ). print_entry e ++ s) (later_printed_lem es)

-- the first i lines, without their newlines
abbrev pub lines_to : List Line → ℕ → List ℕ
lines_to ls i = joined line_columns (take i ls)

pub length_lines_to : (ls : List Line) (i : ℕ) → i ≤ length ls → length (lines_to ls i) ≡ i * line_columns_width
length_lines_to ls i h = length_joined line_columns line_columns_width length_line_columns (take i ls) ∙ ap (λ (k : ℕ). k * line_columns_width) (length-take-le i ls h)

pub line_written : (ls : List Line) (d : Line) (i : ℕ) → i < length ls → lines_to ls i ++ line_columns (get_or ls i d) ≡ lines_to ls (i + 1)
line_written ls d i h = item_written line_columns ls d i h

-- the columns of line i in a printed list
pub line_columns_at : (s : List ℕ) (ls : List Line) (d : Line) (i : ℕ) → s ≡ joined print_line ls → i < length ls →
    take line_columns_width (drop (i * line_length) s) ≡ line_columns (get_or ls i d)
unfolding print_line
line_columns_at s ls d i e h =
    let line : take line_length (drop (i * line_length) s) ≡ print_line (get_or ls i d) =
    rw (e, ← append-nil (joined print_line ls)) (joined_at print_line line_length length_print_line d ls [] i h) in
    sym (take-take line_columns_width line_length (drop (i * line_length) s) (lit≤ tt))
    ∙ ap (take line_columns_width) line
    ∙ take_at (line_columns (get_or ls i d)) (newline ∷ []) line_columns_width (length_line_columns (get_or ls i d))
