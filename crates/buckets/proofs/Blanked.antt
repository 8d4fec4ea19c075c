-- List lines with their leading zeros made blank.
--     blanked_columns_of            the columns of a line that reads, so, are the print of its numbers
--     blanked_line_of               and the line is its print
--     plain_reads, plain_columns    a line without leading zeros reads, and its columns stay
--     spelled_blanked, read_blanked, blanked_twice    any line so spells and reads the same, and stays so
-- Assumes nothing.
use Prim.Native.Nat.{ℕ, ◌+◌, ◌-◌, ◌≤◌}
use mathlib.Core.Path.{◌≡◌, refl, sym, ap, ◌∙◌}
use mathlib.Core.Bool.{Bool, true, false}
use mathlib.Core.List.{List, [], ◌∷◌, ◌++◌, append-nil, append_assoc}
use native.Mathlib.Omega.{arith}
use lib.ListN.{length, take, drop, length-drop}
use lib.Seq.{take_at, drop_at, drop-drop}
use Rattle.columns.specs.Lists.{pick, joined}
use Rattle.columns.specs.PrintedNumbers.{print, value, blanks_digits, blank_zeros}
use Rattle.columns.proofs.Put.{length_part}
use Rattle.columns.proofs.Lenient.{length_blanked, blanked_print, blanked_value, print_lenient, lenient_small, blank_print}
use Rattle.buckets.specs.declared.Line.{Line}
use Rattle.buckets.specs.Lengths.{tag_width, tare_width, code_width, weighing_width, tare_start, code_start, weighing_start}
use Rattle.buckets.specs.Lengths.{line_columns_width, rest_width, line_length}
use Rattle.buckets.specs.ListLine.{fits, line_columns, print_line, spelled_columns, spelled, taken, has_numbers, read_line, blanked_field, blanked_line}
use Rattle.buckets.specs.Bucket.{columns}
use Rattle.buckets.specs.Inner.Columns.{read_plain, blanked_columns}
use Rattle.buckets.proofs.ListLines.{line_fits, plain_spelled}
use Rattle.buckets.proofs.LenientLines.{LineReads, reads_length, taken_lenient, has_four, read_of_print_line}
use Rattle.buckets.proofs.Within.{columns_split}

-- ---- a field

some_column : (t : List ℕ) → blanks_digits t ≡ true → 1 ≤ length t
some_column [] k = absurd (let z : ◌≡◌ {A = ℕ} 0 1 = cc in omega arith)
some_column (c ∷ t) k = omega arith

module _ (s : List ℕ) where
  -- one that holds a number is the number's print, any other stays
  field_cases : (P : List ℕ → Type 0) → (blanks_digits s ≡ true → P (blank_zeros s)) → (blanks_digits s ≡ false → P s) → P (blanked_field s)
  unfolding blanked_field
  field_cases P number other = rw (taken_lenient s) (go (blanks_digits s) refl)
    where
      go : (t : Bool) → blanks_digits s ≡ t → P (pick t (blank_zeros s) s)
      go true e = number e
      go false e = other e

  pub length_field : length (blanked_field s) ≡ length s
  length_field = field_cases (λ t. length t ≡ length s) (λ e. length_blanked s) (λ e. refl)

  value_field : value 0 (blanked_field s) ≡ value 0 s
  value_field = field_cases (λ t. value 0 t ≡ value 0 s) (λ e. blanked_value s) (λ e. refl)

  pub number_field : blanks_digits s ≡ true → blanked_field s ≡ print (length s) (value 0 s)
  unfolding blanked_field
  number_field h = rw (taken_lenient s, h) (blanked_print s h)

  -- a number with its leading zeros made blank is a number
  still_number : blanks_digits s ≡ true → blanks_digits (blank_zeros s) ≡ true
  still_number h = rw (blanked_print s h) (print_lenient (length s) (value 0 s) (some_column s h) (lenient_small s h))

  reads_field : blanks_digits (blanked_field s) ≡ blanks_digits s
  reads_field = field_cases (λ t. blanks_digits t ≡ blanks_digits s) (λ e. still_number e ∙ sym e) (λ e. refl)

  number_stays : blanks_digits s ≡ true → blanked_field (blank_zeros s) ≡ blank_zeros s
  unfolding blanked_field
  number_stays e =
      rw (taken_lenient (blank_zeros s), still_number e)
      (ap blank_zeros (blanked_print s e)
      ∙ blank_print (length s) (value 0 s) (some_column s e) (lenient_small s e)
      ∙ sym (blanked_print s e))

  other_stays : blanks_digits s ≡ false → blanked_field s ≡ s
  unfolding blanked_field
  other_stays e = rw (taken_lenient s, e)

  twice_field : blanked_field (blanked_field s) ≡ blanked_field s
  twice_field = field_cases (λ t. blanked_field t ≡ t) number_stays other_stays

-- ---- fields one behind the other

-- the fields of s, and what stands behind them
pub record Cut (s a b c d e : List ℕ) : Type 0 where
  pub tag_is : take tag_width s ≡ a
  pub tare_is : take tare_width (drop tare_start s) ≡ b
  pub code_is : take code_width (drop code_start s) ≡ c
  pub weighing_is : take weighing_width (drop weighing_start s) ≡ d
  pub behind_is : drop line_columns_width s ≡ e

module _ (a b c d e : List ℕ) (wide_tag : length a ≡ tag_width) (wide_tare : length b ≡ tare_width) (wide_code : length c ≡ code_width)
    (wide_weighing : length d ≡ weighing_width) where
  pub cut_of : Cut (a ++ (b ++ (c ++ (d ++ e)))) a b c d e
  cut_of =
      let s : List ℕ = a ++ (b ++ (c ++ (d ++ e))) in
      let one : drop tare_start s ≡ b ++ (c ++ (d ++ e)) = drop_at a (b ++ (c ++ (d ++ e))) tare_start wide_tag in
      let two : drop code_start s ≡ c ++ (d ++ e) =
      sym (drop-drop tare_width tare_start s) ∙ ap (drop tare_width) one ∙ drop_at b (c ++ (d ++ e)) tare_width wide_tare in
      let three : drop weighing_start s ≡ d ++ e =
      sym (drop-drop code_width code_start s) ∙ ap (drop code_width) two ∙ drop_at c (d ++ e) code_width wide_code in
      record {
        tag_is = take_at a (b ++ (c ++ (d ++ e))) tag_width wide_tag;
        tare_is = ap (take tare_width) one ∙ take_at b (c ++ (d ++ e)) tare_width wide_tare;
        code_is = ap (take code_width) two ∙ take_at c (d ++ e) code_width wide_code;
        weighing_is = ap (take weighing_width) three ∙ take_at d e weighing_width wide_weighing;
        behind_is = sym (drop-drop weighing_width weighing_start s) ∙ ap (drop weighing_width) three ∙ drop_at d e weighing_width wide_weighing;
      }

-- four texts joined, and one behind them
four_joined : (f : List ℕ → List ℕ) (a b c d e : List ℕ) → joined f (a ∷ b ∷ c ∷ d ∷ []) ++ e ≡ f a ++ (f b ++ (f c ++ (f d ++ e)))
four_joined f a b c d e =
    append_assoc (f a) (f b ++ (f c ++ (f d ++ []))) e
    ∙ ap (λ (r : List ℕ). f a ++ r)
    (append_assoc (f b) (f c ++ (f d ++ [])) e
    ∙ ap (λ (r : List ℕ). f b ++ r)
    (append_assoc (f c) (f d ++ []) e ∙ ap (λ (r : List ℕ). f c ++ (r ++ e)) (append-nil (f d))))

-- ---- any line of 27 bytes

module _ (s : List ℕ) (long : length s ≡ line_length) where
  -- its columns alone
  pub cut_columns :
      Cut (take line_columns_width s) (take tag_width s) (take tare_width (drop tare_start s)) (take code_width (drop code_start s))
      (take weighing_width (drop weighing_start s)) []
  unfolding columns
  cut_columns =
      let a : List ℕ = take tag_width s in
      let b : List ℕ = take tare_width (drop tare_start s) in
      let c : List ℕ = take code_width (drop code_start s) in
      let d : List ℕ = take weighing_width (drop weighing_start s) in
      let cut : take line_columns_width s ≡ a ++ (b ++ (c ++ (d ++ []))) =
      columns_split 0 tag_width rest_width s
      ∙ ap (λ (t : List ℕ). a ++ t)
      (columns_split tare_start tare_width (code_width + weighing_width) s
      ∙ ap (λ (t : List ℕ). b ++ t) (columns_split code_start code_width weighing_width s ∙ ap (λ (t : List ℕ). c ++ t) (sym (append-nil d)))) in
      rw cut
      (cut_of a b c d [] (length_part s 0 tag_width (omega arith)) (length_part s tare_start tare_width (omega arith))
      (length_part s code_start code_width (omega arith)) (length_part s weighing_start weighing_width (omega arith)))

  pub columns_spelled : spelled_columns (take line_columns_width s) ≡ spelled s
  unfolding spelled
  columns_spelled =
      let cut = cut_columns in
      λ i.
      record {
        tag = value 0 (cut.tag_is i);
        tare = value 0 (cut.tare_is i);
        code = value 0 (cut.code_is i);
        weighing = value 0 (cut.weighing_is i);
      }

  cut_blanked :
      Cut (blanked_line s) (blanked_field (take tag_width s)) (blanked_field (take tare_width (drop tare_start s)))
      (blanked_field (take code_width (drop code_start s))) (blanked_field (take weighing_width (drop weighing_start s))) (drop line_columns_width s)
  unfolding blanked_line
  cut_blanked =
      let a : List ℕ = take tag_width s in
      let b : List ℕ = take tare_width (drop tare_start s) in
      let c : List ℕ = take code_width (drop code_start s) in
      let d : List ℕ = take weighing_width (drop weighing_start s) in
      rw (four_joined blanked_field a b c d (drop line_columns_width s))
      (cut_of (blanked_field a) (blanked_field b) (blanked_field c) (blanked_field d) (drop line_columns_width s)
      (length_field a ∙ length_part s 0 tag_width (omega arith)) (length_field b ∙ length_part s tare_start tare_width (omega arith))
      (length_field c ∙ length_part s code_start code_width (omega arith)) (length_field d ∙ length_part s weighing_start weighing_width (omega arith)))

  pub spelled_blanked : spelled (blanked_line s) ≡ spelled s
  unfolding spelled
  spelled_blanked =
      let cut = cut_blanked in
      λ i.
      record {
        tag = (ap (value 0) cut.tag_is ∙ value_field (take tag_width s)) i;
        tare = (ap (value 0) cut.tare_is ∙ value_field (take tare_width (drop tare_start s))) i;
        code = (ap (value 0) cut.code_is ∙ value_field (take code_width (drop code_start s))) i;
        weighing = (ap (value 0) cut.weighing_is ∙ value_field (take weighing_width (drop weighing_start s))) i;
      }

  numbers_blanked : has_numbers (blanked_line s) ≡ has_numbers s
  numbers_blanked =
      let cut = cut_blanked in
      has_four (blanked_line s)
      ∙ rw (
        cut.tag_is,
        cut.tare_is,
        cut.code_is,
        cut.weighing_is,
        cut.behind_is,
        reads_field (take tag_width s),
        reads_field (take tare_width (drop tare_start s)),
        reads_field (take code_width (drop code_start s)),
        reads_field (take weighing_width (drop weighing_start s)),
      )
      (sym (has_four s))

  pub read_blanked : read_line (blanked_line s) ≡ read_line s
  unfolding read_line
  read_blanked = rw (numbers_blanked, spelled_blanked)

  pub blanked_twice : blanked_line (blanked_line s) ≡ blanked_line s
  unfolding blanked_line
  blanked_twice =
      let cut = cut_blanked in
      again
      (ap blanked_field cut.tag_is ∙ twice_field (take tag_width s))
      (ap blanked_field cut.tare_is ∙ twice_field (take tare_width (drop tare_start s)))
      (ap blanked_field cut.code_is ∙ twice_field (take code_width (drop code_start s)))
      (ap blanked_field cut.weighing_is ∙ twice_field (take weighing_width (drop weighing_start s)))
      cut.behind_is
    where
      again : {a b c d e : List ℕ} →
          blanked_field (take tag_width (blanked_line s)) ≡ a → blanked_field (take tare_width (drop tare_start (blanked_line s))) ≡ b →
          blanked_field (take code_width (drop code_start (blanked_line s))) ≡ c → blanked_field (take weighing_width (drop weighing_start (blanked_line s))) ≡ d →
          drop line_columns_width (blanked_line s) ≡ e →
          blanked_line (blanked_line s) ≡ (a ++ (b ++ (c ++ (d ++ [])))) ++ e
      again p q r t u = λ i. (p i ++ (q i ++ (r i ++ (t i ++ [])))) ++ u i

  pub length_blanked_line : length (blanked_line s) ≡ line_length
  length_blanked_line =
      let e : length (blanked_line s) - line_columns_width ≡ length s - line_columns_width =
      sym (length-drop line_columns_width (blanked_line s)) ∙ ap length cut_blanked.behind_is ∙ length-drop line_columns_width s in
      omega (arith, e, long)

-- ---- a line that reads

module _ (s : List ℕ) (r : LineReads s) where
  long_line : length s ≡ line_length
  long_line = reads_length s r

  -- its columns, field by field
  pub blanked_line_of : blanked_line s ≡ print_line (spelled s)
  unfolding blanked_line print_line line_columns spelled
  blanked_line_of =
      let a : List ℕ = take tag_width s in
      let b : List ℕ = take tare_width (drop tare_start s) in
      let c : List ℕ = take code_width (drop code_start s) in
      let d : List ℕ = take weighing_width (drop weighing_start s) in
      four_joined blanked_field a b c d (drop line_columns_width s)
      ∙ rw (
        number_field a r.tag_number,
        number_field b r.tare_number,
        number_field c r.code_number,
        number_field d r.weighing_number,
        length_part s 0 tag_width (omega (arith, long_line)),
        length_part s tare_start tare_width (omega (arith, long_line)),
        length_part s code_start code_width (omega (arith, long_line)),
        length_part s weighing_start weighing_width (omega (arith, long_line)),
        r.ends,
      )

  pub blanked_columns_of : blanked_columns (take line_columns_width s) ≡ line_columns (spelled s)
  unfolding line_columns spelled
  blanked_columns_of =
      let a : List ℕ = take tag_width s in
      let b : List ℕ = take tare_width (drop tare_start s) in
      let c : List ℕ = take code_width (drop code_start s) in
      let d : List ℕ = take weighing_width (drop weighing_start s) in
      let fields = cut_columns s long_line in
      rw (
        fields.tag_is,
        fields.tare_is,
        fields.code_is,
        fields.weighing_is,
        blanked_print a r.tag_number,
        blanked_print b r.tare_number,
        blanked_print c r.code_number,
        blanked_print d r.weighing_number,
        length_part s 0 tag_width (omega (arith, long_line)),
        length_part s tare_start tare_width (omega (arith, long_line)),
        length_part s code_start code_width (omega (arith, long_line)),
        length_part s weighing_start weighing_width (omega (arith, long_line)),
        append-nil (print weighing_width (value 0 d)),
      )

-- ---- a line without leading zeros

pub plain_reads : (s : List ℕ) → taken (read_plain s) ≡ true → taken (read_line s) ≡ true
plain_reads s h =
    let told = plain_spelled s h in
    ap taken (ap read_line told.0 ∙ read_of_print_line (spelled s) told.1)

-- its columns stay
pub plain_columns : (l : Line) → fits l ≡ true → blanked_columns (line_columns l) ≡ line_columns l
unfolding line_columns
plain_columns l h =
    let f = line_fits l h in
    rw (
      blank_print tag_width l.tag (omega arith) (omega (arith, f.small_tag)),
      blank_print tare_width l.tare (omega arith) (omega (arith, f.small_tare)),
      blank_print code_width l.code (omega arith) (omega (arith, f.small_code)),
      blank_print weighing_width l.weighing (omega arith) (omega (arith, f.small_weighing)),
    )
