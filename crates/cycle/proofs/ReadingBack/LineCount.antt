-- The data buckets of an image tell how many lines it has.
-- Assumes nothing.
use mathlib.Core.Path.{◌≡◌, refl, sym, ap, ◌∙◌}
use Prim.Native.Nat.{ℕ, zero, suc, ◌+◌, ◌-◌, ◌*◌, ◌/◌, ◌%◌, ◌≤◌, ◌<◌, min}
use native.Mathlib.Nat.{mod-eq_of_lt, suc-mul, mul-div_cancel}
use native.Mathlib.Omega.{arith}
use mathlib.Core.Bool.{Bool, true, false}
use Rattle.std.specs.Prelude.{Option, None}
use mathlib.Core.List.{List, [], ◌∷◌, ◌++◌, map, append_assoc, append-nil}
use lib.Dec.{eqb, lit<}
use lib.ListN
use lib.ListN.{length, drop, get_or, length-append, length-take, length-drop}
use lib.Seq.{take_at, drop_at}
use borrow.Author.Tests.{eq-eqb, ne_eqb, lt-ltb, le-ltb}
use Rattle.columns.specs.Lists.{pick, joined, parts, up}
use Rattle.columns.proofs.Joined.{length_joined_if, parts_joined_if}
use Rattle.buckets.specs.Bucket.{Bucket, print_head, print_bucket, good, letter, item_count}
use Rattle.buckets.specs.Lengths.{letter_data, letter_column, item_digit_column, bucket_length, buckets_most}
use Rattle.buckets.proofs.Buckets.{length_print_bucket}
use Rattle.cycle.specs.Tree.{Plan, lines_of}
use Rattle.cycle.specs.Layouts.{Slot, slots}
use Rattle.cycle.specs.Cycle.{is_data, body_of, bucket_of, last_sent, buckets_from, buckets, cycle_size, image}
use Rattle.cycle.specs.Inner.Comparing.{lines_by, counted_from, counted}
use Rattle.cycle.proofs.Sequences.Sequence.{data_count, Keeps}
use Rattle.cycle.proofs.Sequences.Pieces.{count_append}
use Rattle.cycle.proofs.Trees.TreeLaws.{up_covers, up_lt}
use Rattle.cycle.proofs.Building.Accepted.{Accepted, laid}
use Rattle.cycle.proofs.Building.BuiltImage.{all_good}

-- ---- the columns of a printed bucket that are looked at

pub letter_printed : (b : Bucket) → get_or (print_bucket b) letter_column 0 ≡ letter b.body
unfolding print_bucket print_head
letter_printed b = refl

pub digit_printed : (b : Bucket) → get_or (print_bucket b) item_digit_column 0 ≡ 48 + item_count b.body % 10
unfolding print_bucket print_head
digit_printed b = refl

-- the last digit of the count of the last of q data buckets
abbrev pub digit_behind : Plan → ℕ → ℕ
digit_behind t zero = 48
digit_behind t (suc q) = 48 + length (lines_of t q) % 10

told_kind :
    (t : Plan) (p d last size position : ℕ) (sent : Option ℕ) (x : Slot) (rest : List Slot) (ss : List (List ℕ)) →
    (c : Bool) → is_data t x ≡ c →
    pick (eqb (letter (bucket_of t size position sent x rest).body) letter_data)
    (counted_from p (d + 1) (48 + item_count (bucket_of t size position sent x rest).body % 10) ss) (counted_from p d last ss) ≡
    pick (is_data t x) (counted_from p (d + 1) (48 + length (lines_of t x.place) % 10) ss) (counted_from p d last ss)
unfolding bucket_of body_of
told_kind t p d last size position sent x rest ss true e = rw e
told_kind t p d last size position sent x rest ss false e = rw e

-- one bucket more
pub counted_next :
    (t : Plan) (p d last size position : ℕ) (sent : Option ℕ) (x : Slot) (rest : List Slot) (ss : List (List ℕ)) →
    counted_from p d last (print_bucket (bucket_of t size position sent x rest) ∷ ss) ≡
    pick (is_data t x) (counted_from p (d + 1) (48 + length (lines_of t x.place) % 10) ss) (counted_from p d last ss)
counted_next t p d last size position sent x rest ss =
    let b : Bucket = bucket_of t size position sent x rest in
    rw (letter_printed b, digit_printed b) (told_kind t p d last size position sent x rest ss (is_data t x) refl)

pub counted_all :
    (t : Plan) → Keeps t → (p size position : ℕ) (sent : Option ℕ) (done xs : List Slot) → slots t ≡ done ++ xs →
    counted_from p (data_count t done) (digit_behind t (data_count t done)) (map print_bucket (buckets_from t size position sent xs)) ≡
    lines_by p t.d (digit_behind t t.d)
counted_all t keeps p size position sent done [] e =
    let all : data_count t done ≡ t.d = ap (data_count t) (sym (append-nil done) ∙ sym e) ∙ keeps.all_sent in
    rw all
counted_all t keeps p size position sent done (x ∷ xs) e =
    let c : ℕ = data_count t done in
    counted_next t p c (digit_behind t c) size position sent x xs (map print_bucket (buckets_from t size (suc position) (last_sent t x sent) xs))
    ∙ by (map print_bucket (buckets_from t size (suc position) (last_sent t x sent) xs)) (is_data t x) refl
    (counted_all t keeps p size (suc position) (last_sent t x sent) (done ++ (x ∷ [])) xs (e ∙ sym (append_assoc done (x ∷ []) xs)))
  where
    by :
        (ss : List (List ℕ)) (b : Bool) → is_data t x ≡ b →
        counted_from p (data_count t (done ++ (x ∷ []))) (digit_behind t (data_count t (done ++ (x ∷ []))))
        ss ≡
        lines_by p t.d (digit_behind t t.d) →
        pick (is_data t x)
        (counted_from p (data_count t done + 1) (48 + length (lines_of t x.place) % 10) ss)
        (counted_from p (data_count t done) (digit_behind t (data_count t done)) ss) ≡
        lines_by p t.d (digit_behind t t.d)
    by ss true d rest =
        let c : data_count t (done ++ (x ∷ [])) ≡ suc (data_count t done) = count_append t done (x ∷ []) ∙ rw d (omega arith) in
        let n : data_count t done + 1 ≡ suc (data_count t done) = omega arith in
        rw (d, n, keeps.in_order done x xs e d) (rw c at rest)
    by ss false d rest =
        let c : data_count t (done ++ (x ∷ [])) ≡ data_count t done = count_append t done (x ∷ []) ∙ rw d (omega arith) in
        rw d (rw c at rest)

-- ---- what that number is

length_lines_of : (t : Plan) (q : ℕ) → length (lines_of t q) ≡ min t.p (length t.lines - q * t.p)
unfolding lines_of
length_lines_of t q = length-take t.p (drop (q * t.p) t.lines) ∙ ap (min t.p) (length-drop (q * t.p) t.lines)

pub lines_by_lem : (t : Plan) → Accepted t → (d : ℕ) → t.d ≡ d → lines_by t.p d (digit_behind t d) ≡ length t.lines
unfolding lines_by
lines_by_lem t a zero e =
    let covers : length t.lines ≤ up (length t.lines) t.p * t.p = up_covers (length t.lines) t.p a.sound.full in
    let none_there : length t.lines ≤ 0 * t.p = rw (← e, a.d_is) covers in
    omega arith
lines_by_lem t a (suc q) e =
    let covers : length t.lines ≤ up (length t.lines) t.p * t.p = up_covers (length t.lines) t.p a.sound.full in
    let high : length t.lines ≤ suc q * t.p = rw (← e, a.d_is) covers in
    let in_d : q < up (length t.lines) t.p = omega (arith, e, a.d_is) in
    let low : q * t.p < length t.lines = up_lt (length t.lines) t.p q a.sound.full in_d in
    let next : suc q * t.p ≡ q * t.p + t.p = suc-mul q t.p in
    let c : ℕ = length (lines_of t q) in
    let count : c ≡ length t.lines - q * t.p = (let l = length_lines_of t q in omega (arith, l)) in
    let digit : c % 10 ≡ c = mod-eq_of_lt (omega (arith, a.p_high)) in
    let back : suc q - 1 ≡ q = omega arith in
    let tens : 48 + c - 48 ≡ c = omega arith in
    rw (ne_eqb (suc q) 0 (λ z. omega arith), digit, le-ltb (48 + c) 48 (omega arith), back, tens) (omega arith)

counted_buckets : (t : Plan) → Accepted t → counted_from t.p 0 48 (map print_bucket (buckets t)) ≡ lines_by t.p t.d (digit_behind t t.d)
unfolding buckets
counted_buckets t a = counted_all t (laid t a).keeps t.p (length (slots t)) 0 None [] (slots t) refl

pub counted_lines : (t : Plan) → Accepted t → cycle_size t ≤ buckets_most → counted t.p (image t) ≡ length t.lines
unfolding counted image
counted_lines t a short =
    let size : length (joined print_bucket (buckets t)) / bucket_length ≡ length (buckets t) =
    rw (length_joined_if print_bucket good bucket_length length_print_bucket (buckets t) (all_good t a short)) (mul-div_cancel (length (buckets t)) {n = bucket_length} (lit< tt)) in
    let cut : parts (length (buckets t)) bucket_length (joined print_bucket (buckets t)) ≡ map print_bucket (buckets t) =
    ap (parts (length (buckets t)) bucket_length) (sym (append-nil (joined print_bucket (buckets t))))
    ∙ parts_joined_if print_bucket good bucket_length length_print_bucket (buckets t) [] (all_good t a short) in
    rw (size, cut) (counted_buckets t a ∙ lines_by_lem t a t.d refl)

-- ---- the same, bucket by bucket

-- one bucket more of an image
pub counted_bucket :
    (p d last : ℕ) (bucket rest : List ℕ) → length bucket ≡ bucket_length →
    counted_from p d last (parts (length (bucket ++ rest) / bucket_length) bucket_length (bucket ++ rest)) ≡
    pick (eqb (get_or bucket letter_column 0) letter_data)
    (counted_from p (d + 1) (get_or bucket item_digit_column 0) (parts (length rest / bucket_length) bucket_length rest))
    (counted_from p d last (parts (length rest / bucket_length) bucket_length rest))
counted_bucket p d last bucket rest wide =
    let both : length (bucket ++ rest) ≡ bucket_length + length rest = simp length-append (omega arith) in
    let more : length (bucket ++ rest) / bucket_length ≡ suc (length rest / bucket_length) = omega arith in
    let first : ListN.take bucket_length (bucket ++ rest) ≡ bucket = take_at bucket rest bucket_length wide in
    let behind : drop bucket_length (bucket ++ rest) ≡ rest = drop_at bucket rest bucket_length wide in
    rw (more, first, behind)

-- what the data buckets tell
pub by_none : (p d last : ℕ) → d ≡ 0 → lines_by p d last ≡ 0
unfolding lines_by
by_none p d last e = rw (eq-eqb d 0 e)

pub by_low : (p d last : ℕ) → (d ≡ 0 → ⊥) → last < 48 → lines_by p d last ≡ 0
unfolding lines_by
by_low p d last f h = rw (ne_eqb d 0 f, lt-ltb last 48 h)

pub by_digit : (p d last : ℕ) → (d ≡ 0 → ⊥) → 48 ≤ last → lines_by p d last ≡ (d - 1) * p + (last - 48)
unfolding lines_by
by_digit p d last f h = rw (ne_eqb d 0 f, le-ltb last 48 h)
