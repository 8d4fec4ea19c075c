-- The lines of a bucket stand in their columns, one behind the other.
-- Assumes nothing.
use mathlib.Core.Path.{◌≡◌, refl, sym, ap, ◌∙◌}
use Prim.Native.Nat.{ℕ, zero, suc, ◌+◌, ◌-◌, ◌*◌, ◌≤◌, ◌<◌}
use native.Mathlib.Omega.{arith}
use mathlib.Core.Bool.{true}
use Rattle.std.specs.Prelude.{None, Some, Result, Option, Ok, Err}
use mathlib.Core.List.{List, [], ◌∷◌, ◌++◌, map, append_assoc}
use lib.ListN
use lib.ListN.{length, get_or, length-map}
use lib.Seq.{drop-append-add}
use Rattle.columns.specs.Lists.{joined, padded}
use Rattle.columns.proofs.Joined.{joined_at, every_at}
use Rattle.buckets.specs.Lengths.{bucket_length, bucket_lines_most, line_columns_width, lines_start, lines_width, newline}
use Rattle.buckets.specs.declared.Line.{Line}
use Rattle.buckets.specs.ListLine.{fits, line_columns, spelled}
use Rattle.buckets.specs.declared.Pair.{Pair}
use Rattle.buckets.specs.declared.Entry.{Entry}
use Rattle.buckets.specs.Bucket.{Body, index_body, data_body, Bucket, print_head, print_body, print_bucket, spelled_line, read_bucket}
use Rattle.buckets.specs.BucketLines.{body_lines, nth, bucket_line, numbers, line_bytes}
use Rattle.buckets.specs.declared.Misprinted.{Misprinted}
use Rattle.arrayvec.specs.ArrayVec.{ArrayVec}
use Rattle.buckets.specs.Inner.Held.{Index, Data, contents_of}
use Rattle.buckets.proofs.ListLines.{length_line_columns, spelled_alone}
use Rattle.buckets.proofs.Good.{GoodData, bucket_good}
use Rattle.buckets.proofs.Buckets.{length_print_head, print_of_read_bucket}

-- a printed data bucket has its lines there
pub printed_line :
    (b : Bucket) (f : ℕ) (ls : List Line) (z : Line) (m : ℕ) → b.body ≡ data_body f ls → m < length ls →
    line_bytes (print_bucket b) m ≡ line_columns (get_or ls m z)
unfolding line_bytes print_bucket padded
printed_line b f ls z m e h =
    let blank : List ℕ = ListN.replicate (lines_width - length (joined line_columns ls)) 32 in
    let at : lines_start + line_columns_width * m ≡ length (print_head b) + m * line_columns_width = omega (arith, length_print_head b) in
    let whole :
    print_head b ++ (print_body b.body ++ newline ∷ []) ≡ print_head b ++ (joined line_columns ls ++ (blank ++ newline ∷ [])) =
    ap (λ x. print_head b ++ (print_body x ++ newline ∷ [])) e
    ∙ ap (λ s. print_head b ++ s) (append_assoc (joined line_columns ls) blank (newline ∷ [])) in
    rw (whole, at, drop-append-add (print_head b) (joined line_columns ls ++ (blank ++ newline ∷ [])) (m * line_columns_width))
    (joined_at line_columns line_columns_width length_line_columns z ls (blank ++ newline ∷ []) m h)

-- line i of a list
pub nth_at : (z : Line) (i : ℕ) (ls : List Line) → i < length ls → nth i ls ≡ Some (get_or ls i z)
nth_at z i [] h = absurd (omega arith)
nth_at z zero (l ∷ ls) h = refl
nth_at z (suc i) (l ∷ ls) h = nth_at z i ls (omega arith)

pub nth_past : (i : ℕ) (ls : List Line) → length ls ≤ i → nth i ls ≡ None
nth_past i [] h = refl
nth_past zero (l ∷ ls) h = absurd (omega arith)
nth_past (suc i) (l ∷ ls) h = nth_past i ls (omega arith)

-- ---- what a reading tells of the lines

-- line i is what its columns spell
pub record LineStands (bytes : List ℕ) (i : ℕ) : Type 0 where
  pub line : Line
  pub spells : spelled_line (line_bytes bytes i) ≡ line
  pub is : bucket_line i (read_bucket bytes) ≡ Ok (Some line)

-- bytes that were read as a data bucket of so many lines
pub record DataRead (bytes : List ℕ) (lines : ℕ) : Type 0 where
  pub long : length bytes ≡ bucket_length
  pub few : lines ≤ bucket_lines_most
  pub past : (i : ℕ) → lines ≤ i → bucket_line i (read_bucket bytes) ≡ Ok None
  pub there : (i : ℕ) → i < lines → LineStands bytes i

line_alone : (l : Line) → fits l ≡ true → spelled_line (line_columns l) ≡ l
unfolding spelled
line_alone l h = spelled_alone l h

data_told : (bytes : List ℕ) (b : Bucket) (f : ℕ) (ls : List Line) → read_bucket bytes ≡ Some b → b.body ≡ data_body f ls → DataRead bytes (length ls)
data_told bytes b f ls e body =
    let told = print_of_read_bucket bytes e in
    let rules : GoodData b.to_cycle f ls = rw body at (bucket_good b told.1).good_rest in
    let zeros : Line = record { tag = 0; tare = 0; code = 0; weighing = 0 } in
    let lines : (i : ℕ) → bucket_line i (read_bucket bytes) ≡ bucket_line i (Some (record { position = b.position; to_cycle = b.to_cycle; to_segment = b.to_segment; body = data_body f ls })) =
    λ i. ap (bucket_line i) e ∙ ap (λ x. bucket_line i (Some (record { position = b.position; to_cycle = b.to_cycle; to_segment = b.to_segment; body = x }))) body in
    record {
      long = told.2;
      few = rules.few_lines_lem;
      past = λ i h. lines i ∙ ap Ok (nth_past i ls h);
      there = λ i h. record {
        line = get_or ls i zeros;
        spells =
            ap (λ s. spelled_line (line_bytes s i)) told.0
            ∙ ap spelled_line (printed_line b f ls zeros i body h)
            ∙ line_alone (get_or ls i zeros) (every_at fits zeros ls i rules.lines_fit h);
        is = lines i ∙ ap Ok (nth_at zeros i ls h);
      };
    }

-- ---- what a reading of each kind tells

pub of_index : (i : ℕ) (b : Bucket) (ps : ArrayVec Pair) (es : ArrayVec Entry) → contents_of b.body ≡ Index ps es → bucket_line i (Some b) ≡ Ok None
of_index i b ps es e = ap Ok (by_body b.body e)
  where
    by_body : (x : Body) → contents_of x ≡ Index ps es → nth i (body_lines x) ≡ None
    by_body (index_body qs fs) e = refl
    by_body (data_body f ls) e = cc

pub of_data :
    (bytes : List ℕ) (b : Bucket) (f : ℕ) (tags : ArrayVec ℕ) → read_bucket bytes ≡ Some b → contents_of b.body ≡ Data f tags
    → DataRead bytes (length tags.items)
of_data bytes b f tags is e = by_body b.body refl e
  where
    by_body : (x : Body) → b.body ≡ x → contents_of x ≡ Data f tags → DataRead bytes (length tags.items)
    by_body (index_body ps es) body e = absurd (let z : ◌≡◌ {A = ℕ} 0 1 = cc in omega arith)
    by_body (data_body g ls) body e =
        let held : map (λ (l : Line). l.tag) ls ≡ tags.items = cc in
        let count : length ls ≡ length tags.items = sym (length-map ls (λ (l : Line). l.tag)) ∙ ap length held in
        rw count at (data_told bytes b g ls is body)

-- different answers have different numbers
pub numbers_apart : (a b : Result (Option Line) Misprinted) → numbers a ≡ numbers b → a ≡ b
numbers_apart (Ok (Some l)) (Ok (Some m)) e =
    λ i. Ok (Some (record { tag = at 3 i; tare = at 4 i; code = at 5 i; weighing = at 6 i }))
  where
    at : (k : ℕ) → get_or (numbers (Ok (Some l))) k 0 ≡ get_or (numbers (Ok (Some m))) k 0
    at k = ap (λ s. get_or s k 0) e
numbers_apart (Ok (Some l)) (Ok None) e = cc
numbers_apart (Ok (Some l)) (Err x) e = cc
numbers_apart (Ok None) (Ok (Some m)) e = cc
numbers_apart (Ok None) (Ok None) e = refl
numbers_apart (Ok None) (Err x) e = cc
numbers_apart (Err x) (Ok (Some m)) e = cc
numbers_apart (Err x) (Ok None) e = cc
numbers_apart (Err x) (Err y) e = refl
