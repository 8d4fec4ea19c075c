-- The laws of a bucket: its width, and that reading undoes printing and printing undoes reading.
-- Assumes nothing.
use Prim.Native.Nat.{ℕ, ◌<◌, ◌≤◌, ◌-◌, ◌^◌}
use mathlib.Core.Path.{◌≡◌, refl, sym, ap, ap₂, ◌∙◌}
use mathlib.Core.Bool.{Bool, true}
use Rattle.std.specs.Prelude.{Option, None, Some}
use mathlib.Core.List.{List, [], ◌∷◌, ◌++◌, map, append_assoc, append-nil}
use native.Mathlib.Omega.{arith}
use lib.ListN.{length, take, drop, replicate, length-append}
use lib.Seq.{take_at, drop_at}
use Rattle.columns.specs.Lists.{pick, joined, every, parts, same, padded}
use Rattle.columns.specs.PrintedNumbers.{print, blanks, value}
use Rattle.columns.proofs.Strict.{strict_back, strict_only}
use Rattle.columns.proofs.Printed.{value_print, print_not_blank, length_padded}
use Rattle.columns.proofs.Joined.{length_joined, parts_joined, map_undone}
use Rattle.buckets.specs.declared.Line.{Line}
use Rattle.buckets.specs.ListLine.{fits, line_columns}
use Rattle.buckets.specs.declared.Pair.{Pair}
use Rattle.buckets.specs.declared.Entry.{Entry}
use Rattle.buckets.specs.Bucket.{Body, index_body, data_body, Bucket, print_head, print_tag, print_pair, print_entry, print_body, print_bucket, pair_tag_fits, pair_fits, entry_fits, good, columns, field, spelled_pair, spelled_entry, spelled_line, spelled_body, spelled_bucket, read_bucket}
use Rattle.buckets.specs.Lengths.{newline, tag_width, line_columns_width, tag_most, place_width, count_width, head_width, pairs_most}
use Rattle.buckets.specs.Lengths.{entries_most, bucket_lines_most, distance_start, entry_width, bucket_length, pairs_width}
use Rattle.buckets.specs.Lengths.{entries_width, lines_width, body_width, buckets_most}
use Rattle.buckets.proofs.ListLines.{tag_small, length_line_columns, line_columns_spelled}
use Rattle.buckets.proofs.Good.{GoodIndex, GoodData, GoodBody, entry_fits_lem, pair_fits_lem, bucket_good}

-- ---- width

pub length_print_tag : (t : Option ℕ) → length (print_tag t) ≡ tag_width
unfolding blanks
length_print_tag None = refl
length_print_tag (Some t) = refl

pub length_print_pair : (p : Pair) → length (print_pair p) ≡ entry_width
unfolding print_pair
length_print_pair p = simp length-append (rw (length_print_tag p.tag))

pub length_print_entry : (e : Entry) → length (print_entry e) ≡ entry_width
unfolding print_entry
length_print_entry e = refl

pub length_print_head : (b : Bucket) → length (print_head b) ≡ head_width
unfolding print_head
length_print_head b = refl

-- what a bucket has room for
abbrev pub Room : Body → Type 0
Room (index_body ps es) = (length ps ≤ pairs_most) × (length es ≤ entries_most)
Room (data_body f ls) = length ls ≤ bucket_lines_most

pub length_pairs : (ps : List Pair) → length ps ≤ pairs_most → length (padded pairs_width (joined print_pair ps)) ≡ pairs_width
length_pairs ps h = length_padded pairs_width (joined print_pair ps) (rw (length_joined print_pair entry_width length_print_pair ps) (omega arith))

pub length_entries : (es : List Entry) → length es ≤ entries_most → length (padded entries_width (joined print_entry es)) ≡ entries_width
length_entries es h = length_padded entries_width (joined print_entry es) (rw (length_joined print_entry entry_width length_print_entry es) (omega arith))

pub length_lines : (ls : List Line) → length ls ≤ bucket_lines_most → length (padded lines_width (joined line_columns ls)) ≡ lines_width
length_lines ls h = length_padded lines_width (joined line_columns ls) (rw (length_joined line_columns line_columns_width length_line_columns ls) (omega arith))

pub length_print_body : (x : Body) → Room x → length (print_body x) ≡ body_width
length_print_body (index_body ps es) h = simp length-append (rw (length_pairs ps h.0, length_entries es h.1))
length_print_body (data_body f ls) h = length_lines ls h

pub length_bucket : (b : Bucket) → Room b.body → length (print_bucket b) ≡ bucket_length
unfolding print_bucket
length_bucket b h = simp length-append (rw (length_print_head b, length_print_body b.body h))

pub room : (c : ℕ) (x : Body) → GoodBody c x → Room x
room c (index_body ps es) h = (h.few_pairs_lem, h.few_entries_lem)
room c (data_body f ls) h = h.few_lines_lem

pub length_print_bucket : (b : Bucket) → good b ≡ true → length (print_bucket b) ≡ bucket_length
length_print_bucket b h = length_bucket b (room _ b.body (bucket_good b h).good_rest)

-- ---- reading undoes printing

pub spelled_print_entry : (n : ℕ) → n ≤ buckets_most → (e : Entry) → entry_fits n e ≡ true → spelled_entry (print_entry e) ≡ e
unfolding print_entry spelled_entry field columns
spelled_print_entry n small e h =
    let told = entry_fits_lem n e h in
    let tag : e.tag ≤ tag_most = tag_small e.tag told.0 in
    λ i.
    record {
      tag = value_print tag_width e.tag (omega arith) i;
      distance = value_print place_width e.distance (omega arith) i;
    }

spelled_tag : (t : Option ℕ) → pair_tag_fits t ≡ true → (rest : List ℕ)
    → pick (same (take tag_width (print_tag t ++ rest)) (blanks tag_width)) None (Some (value 0 (take tag_width (print_tag t ++ rest)))) ≡ t
unfolding blanks
spelled_tag None h rest = refl
spelled_tag (Some t) h rest =
    let small : t ≤ tag_most = tag_small t h in
    ap (λ (x : Bool). pick x None (Some (value 0 (print tag_width t)))) (print_not_blank (tag_width - 1) t)
    ∙ ap {B = Option ℕ} Some (value_print tag_width t (omega arith))

spelled_distance : (t : Option ℕ) (d : ℕ) → d < 10 ^ place_width → value 0 (take place_width (drop distance_start (print_tag t ++ print place_width d))) ≡ d
spelled_distance t d h =
    ap (λ (s : List ℕ). value 0 (take place_width s)) (drop_at (print_tag t) (print place_width d) distance_start (length_print_tag t)) ∙ value_print place_width d h

pub spelled_print_pair : (n : ℕ) → n ≤ buckets_most → (p : Pair) → pair_fits n p ≡ true → spelled_pair (print_pair p) ≡ p
unfolding print_pair spelled_pair field columns
spelled_print_pair n small p h =
    let told = pair_fits_lem n p h in
    λ i.
    record {
      tag = spelled_tag p.tag told.0 (print place_width p.distance) i;
      distance = spelled_distance p.tag p.distance (omega arith) i;
    }

-- what is cut of items printed at the front and padded
cut : {A : Type 0} (show : A → List ℕ) (spell : List ℕ → A) (ok : A → Bool) (w k : ℕ)
    → ((a : A) → length (show a) ≡ w) → ((a : A) → ok a ≡ true → spell (show a) ≡ a)
    → (xs : List A) → every ok xs ≡ true → map spell (parts (length xs) w (padded k (joined show xs))) ≡ xs
unfolding padded
cut show spell ok w k wide undone xs h =
    ap (map spell) (parts_joined show w wide xs (replicate (k - length (joined show xs)) 32))
    ∙ map_undone show spell ok undone xs h

-- the first and the second of two parts of known width, whatever stands behind them
pub first_part : (a b r : List ℕ) (w : ℕ) → length a ≡ w → take w ((a ++ b) ++ r) ≡ a
first_part a b r w h = rw append_assoc (take_at a (b ++ r) w h)

pub second_part : (a b r : List ℕ) (v w : ℕ) → length a ≡ v → length b ≡ w → take w (drop v ((a ++ b) ++ r)) ≡ b
second_part a b r v w h k = rw (append_assoc a b r, drop_at a (b ++ r) v h) (take_at b r w k)

spelled_index : (p c g : ℕ) (ps : List Pair) (es : List Entry) → c ≤ buckets_most → GoodIndex c ps es
    → spelled_body (print_bucket (record { position = p; to_cycle = c; to_segment = g; body = index_body ps es })) ≡ index_body ps es
unfolding spelled_body print_bucket print_head field columns
spelled_index p c g ps es small h =
    let front = padded pairs_width (joined print_pair ps) in
    let back = padded entries_width (joined print_entry es) in
    let nl : List ℕ = newline ∷ [] in
    ap₂ {C = Body} index_body
    (ap₂ (λ (k : ℕ) (s : List ℕ). map spelled_pair (parts k entry_width s))
    (value_print count_width (length ps) (omega arith))
    (first_part front back nl pairs_width (length_pairs ps h.few_pairs_lem))
    ∙ cut print_pair spelled_pair (pair_fits c) entry_width pairs_width length_print_pair (spelled_print_pair c small) ps h.pairs_fit)
    (ap₂ (λ (k : ℕ) (s : List ℕ). map spelled_entry (parts k entry_width s))
    (value_print count_width (length es) (omega arith))
    (second_part front back nl pairs_width entries_width (length_pairs ps h.few_pairs_lem) (length_entries es h.few_entries_lem))
    ∙ cut print_entry spelled_entry (entry_fits c) entry_width entries_width length_print_entry (spelled_print_entry c small) es h.entries_fit)

-- a line in its bucket
spelled_line_lem : (l : Line) → fits l ≡ true → spelled_line (line_columns l) ≡ l
spelled_line_lem l h = ap spelled_line (sym (append-nil (line_columns l))) ∙ line_columns_spelled l [] h

spelled_data : (p c g f : ℕ) (ls : List Line) → c ≤ buckets_most → GoodData c f ls
    → spelled_body (print_bucket (record { position = p; to_cycle = c; to_segment = g; body = data_body f ls })) ≡ data_body f ls
unfolding spelled_body print_bucket print_head field columns
spelled_data p c g f ls small h =
    ap₂ {C = Body} data_body
    (value_print place_width f (omega arith))
    (ap₂ (λ (k : ℕ) (s : List ℕ). map spelled_line (parts k line_columns_width s))
    (value_print count_width (length ls) (omega arith))
    (take_at (padded lines_width (joined line_columns ls)) (newline ∷ []) lines_width (length_lines ls h.few_lines_lem))
    ∙ cut line_columns spelled_line fits line_columns_width lines_width length_line_columns spelled_line_lem ls h.lines_fit)

-- what stands behind the head of a printed bucket
spelled_print_body : (p c g : ℕ) (x : Body) → c ≤ buckets_most → GoodBody c x
    → spelled_body (print_bucket (record { position = p; to_cycle = c; to_segment = g; body = x })) ≡ x
spelled_print_body p c g (index_body ps es) small h = spelled_index p c g ps es small h
spelled_print_body p c g (data_body f ls) small h = spelled_data p c g f ls small h

pub spelled_print_bucket : (b : Bucket) → good b ≡ true → spelled_bucket (print_bucket b) ≡ b
unfolding spelled_bucket print_bucket print_head field columns
spelled_print_bucket b h =
    let g = bucket_good b h in
    λ i.
    record {
      position = value_print place_width b.position (omega arith) i;
      to_cycle = value_print place_width b.to_cycle (omega arith) i;
      to_segment = value_print place_width b.to_segment (omega arith) i;
      body =
          spelled_print_body b.position b.to_cycle b.to_segment b.body (omega arith) g.good_rest i;
    }

pub read_of_print_bucket : (b : Bucket) → good b ≡ true → read_bucket (print_bucket b) ≡ Some b
unfolding read_bucket
read_of_print_bucket b h = strict_back spelled_bucket good print_bucket b h (spelled_print_bucket b h)

pub print_of_read_bucket : (s : List ℕ) {b : Bucket} → read_bucket s ≡ Some b
    → (s ≡ print_bucket b) × (good b ≡ true) × (length s ≡ bucket_length)
unfolding read_bucket
print_of_read_bucket s {b} h =
    let told = strict_only spelled_bucket good print_bucket s h in
    (told.0, told.1, ap length told.0 ∙ length_print_bucket b told.1)
