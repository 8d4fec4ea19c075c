-- A line read field by field is the line read strictly.
-- Assumes nothing.
use Prim.Native.Nat.{ℕ, ◌≤◌, ◌+◌}
use mathlib.Core.Path.{◌≡◌, sym, ap, ap₂, ◌∙◌}
use mathlib.Core.Bool.{Bool, true, ◌&&◌}
use Rattle.std.specs.Prelude.{Option, None, Some}
use mathlib.Core.List.{List, [], ◌∷◌, ◌++◌, append-nil}
use native.Mathlib.Omega.{arith}
use lib.Dec.{leb, eqb}
use lib.ListN.{length, get_or}
use lib.Seq.{get_or_at}
use borrow.Author.Tests.{leb-true, le-leb, eqb-true}
use Rattle.columns.specs.Lists.{pick}
use Rattle.columns.specs.PrintedNumbers.{print}
use Rattle.columns.proofs.Strict.{both}
use Rattle.buckets.specs.declared.Line.{Line}
use Rattle.buckets.specs.ListLine.{fits, line_columns, print_line}
use Rattle.buckets.specs.Bucket.{columns}
use Rattle.buckets.specs.Inner.Columns.{number_within, read_line_columns, read_plain}
use Rattle.buckets.specs.Lengths.{newline, tag_width, tare_width, code_width, weighing_width, tag_start, tare_start, code_start}
use Rattle.buckets.specs.Lengths.{weighing_start, line_columns_width, rest_width, line_length, tag_most, tare_most, code_most}
use Rattle.buckets.specs.Lengths.{weighing_most}
use Rattle.buckets.proofs.ListLines.{Fits, line_fits, small_tag, length_line_columns, length_print_line, read_of_print_plain, print_of_read_plain}
use Rattle.buckets.proofs.Chained.{then_found, pick_found, same_reading}
use Rattle.buckets.proofs.Bounds.{number_most}
use Rattle.buckets.proofs.Within.{within_back, columns_split, columns_all, columns_one, field_only}

-- a line that keeps its rules, its tag at least m
abbrev pub fits_from : ℕ → Line → Bool
fits_from m l = fits l && leb m l.tag

pub line_columns_back : (m : ℕ) (l : Line) (rest : List ℕ) → fits_from m l ≡ true → read_line_columns m (line_columns l ++ rest) ≡ Some l
unfolding read_line_columns line_columns columns
line_columns_back m l rest h =
    let told = both (fits l) (leb m l.tag) h in
    let f = line_fits l told.0 in
    let low : m ≤ l.tag = leb-true m l.tag told.1 in
    rw (
      within_back m tag_most tag_width l.tag low f.small_tag (omega arith),
      within_back 0 tare_most tare_width l.tare (omega arith) f.small_tare (omega arith),
      within_back 0 code_most code_width l.code (omega arith) f.small_code (omega arith),
      within_back 0 weighing_most weighing_width l.weighing (omega arith) f.small_weighing (omega arith),
    )

fits_line : (l : Line) → Fits l → fits l ≡ true
unfolding fits
fits_line l f =
    rw (
      small_tag l.tag f.small_tag,
      le-leb l.tare tare_most f.small_tare,
      le-leb l.code code_most f.small_code,
      le-leb l.weighing weighing_most f.small_weighing,
    )

fits_from_lem : (m : ℕ) (l : Line) → Fits l → m ≤ l.tag → fits_from m l ≡ true
fits_from_lem m l f h = rw (fits_line l f, le-leb m l.tag h)

-- the four fields one behind the other
fields_shown : (s : List ℕ) (l : Line) → columns tag_start tag_width s ≡ print tag_width l.tag → columns tare_start tare_width s ≡ print tare_width l.tare
    → columns code_start code_width s ≡ print code_width l.code → columns weighing_start weighing_width s ≡ print weighing_width l.weighing → columns tag_start line_columns_width s ≡ line_columns l
unfolding line_columns
fields_shown s l tag tare code weighing =
    columns_split tag_start tag_width rest_width s
    ∙ ap₂ {C = List ℕ} ◌++◌ tag
    (columns_split tare_start tare_width (code_width + weighing_width) s
    ∙ ap₂ {C = List ℕ} ◌++◌ tare (columns_split code_start code_width weighing_width s ∙ ap₂ {C = List ℕ} ◌++◌ code weighing))

pub line_columns_only : (m : ℕ) (s : List ℕ) {l : Line} → line_columns_width ≤ length s → read_line_columns m s ≡ Some l
    → (columns tag_start line_columns_width s ≡ line_columns l) × (fits_from m l ≡ true)
unfolding read_line_columns
line_columns_only m s {l} long h =
    let first = then_found (number_within m tag_most (columns tag_start tag_width s)) _ h in
    let second = then_found (number_within 0 tare_most (columns tare_start tare_width s)) _ first.2 in
    let third = then_found (number_within 0 code_most (columns code_start code_width s)) _ second.2 in
    let fourth = then_found (number_within 0 weighing_most (columns weighing_start weighing_width s)) _ third.2 in
    let found : Line = record { tag = first.0; tare = second.0; code = third.0; weighing = fourth.0 } in
    let is : found ≡ l = cc in
    let tag = field_only m tag_most tag_start tag_width s (omega arith) first.1 in
    let tare = field_only 0 tare_most tare_start tare_width s (omega arith) second.1 in
    let code = field_only 0 code_most code_start code_width s (omega arith) third.1 in
    let weighing = field_only 0 weighing_most weighing_start weighing_width s (omega arith) fourth.1 in
    rw (← is) (
      fields_shown s found tag.printed tare.printed code.printed weighing.printed,
      fits_from_lem m found
          (record { small_tag = tag.most; small_tare = tare.most; small_code = code.most; small_weighing = weighing.most })
          tag.least,
    )

-- the same of a line's columns alone
pub line_columns_alone_back : (m : ℕ) (l : Line) → fits_from m l ≡ true → read_line_columns m (line_columns l) ≡ Some l
line_columns_alone_back m l h = rw append-nil at (line_columns_back m l [] h)

pub line_columns_alone_only : (m : ℕ) (s : List ℕ) {l : Line} → length s ≡ line_columns_width → read_line_columns m s ≡ Some l
    → (s ≡ line_columns l) × (fits_from m l ≡ true)
line_columns_alone_only m s long h =
    let told = line_columns_only m s (omega arith) h in
    (columns_all line_columns_width s long ∙ told.0, told.1)

-- a line with its newline, read field by field
unfoldable pub read_line_fields : List ℕ → Option Line
read_line_fields s = pick (eqb (length s) line_length && eqb (get_or s line_columns_width 0) newline) (read_line_columns 0 s) None

line_back : (l : Line) → fits l ≡ true → read_line_fields (print_line l) ≡ Some l
unfolding read_line_fields print_line
line_back l h =
    let any : fits_from 0 l ≡ true = rw (h, le-leb 0 l.tag (omega arith)) in
    let long : length (print_line l) ≡ line_length = length_print_line l in
    let last : get_or (line_columns l ++ newline ∷ []) line_columns_width 0 ≡ newline = get_or_at (line_columns l) newline [] 0 line_columns_width (length_line_columns l) in
    rw (long, last) (line_columns_back 0 l (newline ∷ []) any)

line_only : (s : List ℕ) {l : Line} → read_line_fields s ≡ Some l → (s ≡ print_line l) × (fits l ≡ true)
unfolding read_line_fields print_line
line_only s {l} h =
    let test = pick_found (eqb (length s) line_length && eqb (get_or s line_columns_width 0) newline) (read_line_columns 0 s) h in
    let two = both (eqb (length s) line_length) (eqb (get_or s line_columns_width 0) newline) test.0 in
    let long : length s ≡ line_length = eqb-true (length s) line_length two.0 in
    let last : get_or s line_columns_width 0 ≡ newline = eqb-true (get_or s line_columns_width 0) newline two.1 in
    let found = line_columns_only 0 s (omega arith) test.1 in (
      columns_all line_length s long
          ∙ columns_split tag_start line_columns_width 1 s
          ∙ ap₂ {C = List ℕ} ◌++◌ found.0 (columns_one line_columns_width s (omega arith) ∙ ap (λ (c : ℕ). c ∷ []) last),
      (both (fits l) (leb 0 l.tag) found.1).0,
    )

-- a line read field by field is the line read strictly
pub read_line_fields_lem : (s : List ℕ) → read_plain s ≡ read_line_fields s
read_line_fields_lem =
    same_reading print_line fits read_plain read_line_fields read_of_print_plain
    (λ s l e. let told = print_of_read_plain s e in (told.0, told.1)) line_back (λ s l e. line_only s e)

pub by_fields : {R : Type 0} (answer : Option Line → R) (s : List ℕ) {z : R} → z ≡ answer (read_line_fields s) → z ≡ answer (read_plain s)
by_fields answer s is = is ∙ ap answer (sym (read_line_fields_lem s))

-- ---- the tag of a line that was read

pub line_columns_tag_small : (m : ℕ) (s : List ℕ) (l : Line) → read_line_columns m s ≡ Some l → l.tag ≤ tag_most
unfolding read_line_columns
line_columns_tag_small m s l h =
    let first = then_found (number_within m tag_most (columns tag_start tag_width s)) _ h in
    let second = then_found (number_within 0 tare_most (columns tare_start tare_width s)) _ first.2 in
    let third = then_found (number_within 0 code_most (columns code_start code_width s)) _ second.2 in
    let fourth = then_found (number_within 0 weighing_most (columns weighing_start weighing_width s)) _ third.2 in
    let is : l.tag ≡ first.0 = cc in
    rw is (number_most m tag_most (columns tag_start tag_width s) first.0 first.1)
