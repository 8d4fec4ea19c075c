-- Entries and control pairs read field by field: reading undoes printing and printing undoes reading.
-- Assumes nothing.
use Prim.Native.Nat.{ℕ, suc, ◌≤◌, ◌-◌}
use mathlib.Core.Path.{◌≡◌, refl, ap, ap₂, ◌∙◌}
use mathlib.Core.Bool.{Bool, true, false, ◌&&◌, ◌||◌}
use Rattle.std.specs.Prelude.{Option, None, Some}
use mathlib.Core.List.{List, [], ◌∷◌, ◌++◌}
use native.Mathlib.Omega.{arith}
use lib.Dec.{leb, eqb}
use lib.ListN.{length, replicate}
use borrow.Author.Tests.{leb-true, le-leb, ne_eqb}
use Rattle.columns.specs.Lists.{pick, every}
use Rattle.columns.specs.PrintedNumbers.{print, blanks, all_blank}
use Rattle.columns.proofs.Strict.{both, and_false}
use Rattle.buckets.specs.ListLine.{tag_fits}
use Rattle.buckets.specs.declared.Pair.{Pair}
use Rattle.buckets.specs.declared.Entry.{Entry}
use Rattle.buckets.specs.Bucket.{print_tag, print_pair, print_entry, pair_tag_fits, pair_fits, entry_fits, printed_tag, later_printed, columns}
use Rattle.buckets.specs.Inner.Held.{printed_pair}
use Rattle.buckets.specs.Inner.Columns.{number_within, read_entry, read_blank_pair, read_printed_pair, read_pair}
use Rattle.buckets.specs.Lengths.{tag_width, tag_start, tag_most, place_width, distance_start, entry_width, buckets_most}
use Rattle.buckets.proofs.ListLines.{tag_small, small_tag}
use Rattle.buckets.proofs.Good.{Reaches, entry_fits_lem, fits_entry, pair_fits_lem, fits_pair}
use Rattle.buckets.proofs.Chained.{then_found}
use Rattle.buckets.proofs.Within.{within_back, columns_split, columns_all, length_columns, field_only, blanks_of_blank, print_not_all_blank}
use Rattle.buckets.proofs.ItemRuns.{keeps, and_regroup}

-- an entry that keeps its rules in a cycle of n, its tag at least m
abbrev pub entry_from : ℕ → ℕ → Entry → Bool
entry_from n m e = entry_fits n e && leb m e.tag

pub entry_back : (n m : ℕ) (e : Entry) → n ≤ buckets_most → entry_from n m e ≡ true → read_entry n m (print_entry e) ≡ Some e
unfolding read_entry print_entry columns
entry_back n m e small h =
    let told = both (entry_fits n e) (leb m e.tag) h in
    let facts = entry_fits_lem n e told.0 in
    let low : m ≤ e.tag = leb-true m e.tag told.1 in
    let high : e.tag ≤ tag_most = tag_small e.tag facts.0 in
    rw (
      within_back m tag_most tag_width e.tag low high (omega arith),
      within_back 1 n place_width e.distance (omega arith) (omega arith) (omega arith),
    )

entry_shown : (s : List ℕ) (e : Entry) → length s ≡ entry_width → columns tag_start tag_width s ≡ print tag_width e.tag
    → columns distance_start place_width s ≡ print place_width e.distance → s ≡ print_entry e
unfolding print_entry
entry_shown s e long tag far = columns_all entry_width s long ∙ columns_split tag_start tag_width place_width s ∙ ap₂ {C = List ℕ} ◌++◌ tag far

pub entry_only : (n m : ℕ) (s : List ℕ) {e : Entry} → length s ≡ entry_width → read_entry n m s ≡ Some e
    → (s ≡ print_entry e) × (entry_from n m e ≡ true)
unfolding read_entry
entry_only n m s {e} long h =
    let first = then_found (number_within m tag_most (columns tag_start tag_width s)) _ h in
    let second = then_found (number_within 1 n (columns distance_start place_width s)) _ first.2 in
    let found : Entry = record { tag = first.0; distance = second.0 } in
    let is : found ≡ e = cc in
    let tag = field_only m tag_most tag_start tag_width s (omega arith) first.1 in
    let far = field_only 1 n distance_start place_width s (omega arith) second.1 in
    rw (← is) (
      entry_shown s found long tag.printed far.printed,
      rw (
        fits_entry n found (small_tag found.tag tag.most) (record { onward = far.least; near = far.most }),
        le-leb m found.tag tag.least,
      ),
    )

-- ---- control pairs

-- pair i keeps its rules in a cycle of n
abbrev pub pair_at : ℕ → ℕ → Pair → Bool
pair_at n i p = pair_fits n p && (eqb i 0 || printed_tag p.tag)

blank_pair_back : (n i d : ℕ) → n ≤ buckets_most → eqb i 0 ≡ true → Reaches n d
    → read_pair n i (print_tag None ++ print place_width d) ≡ Some (record { tag = None; distance = d })
unfolding read_pair read_blank_pair blanks columns all_blank
blank_pair_back n i d small h r = rw (h, within_back 1 n place_width d (omega arith) (omega arith) (omega arith))

printed_pair_back : (n i t d : ℕ) → n ≤ buckets_most → tag_fits t ≡ true → Reaches n d
    → read_pair n i (print tag_width t ++ print place_width d) ≡ Some (record { tag = Some t; distance = d })
unfolding read_pair read_printed_pair print_entry columns
printed_pair_back n i t d small h r =
    let e : Entry = record { tag = t; distance = d } in
    let kept : entry_from n 0 e ≡ true = rw (fits_entry n e h r, le-leb 0 t (omega arith)) in
    let front : columns tag_start tag_width (print tag_width t ++ print place_width d) ≡ print tag_width t = refl in
    rw (front, print_not_all_blank (tag_width - 1) t, and_false (eqb i 0), entry_back n 0 e small kept)

or_false : (t : Bool) → t || false ≡ true → t ≡ true
or_false true h = refl
or_false false h = h

or_true : (t : Bool) → t || true ≡ true
or_true true = refl
or_true false = refl

pub pair_back : (n i : ℕ) (p : Pair) → n ≤ buckets_most → pair_at n i p ≡ true → read_pair n i (print_pair p) ≡ Some p
unfolding print_pair
pair_back n i p small h =
    let told = both (pair_fits n p) (eqb i 0 || printed_tag p.tag) h in
    let facts = pair_fits_lem n p told.0 in
    by_tag p.tag p.distance facts.0 facts.1 told.1
  where
    by_tag : (t : Option ℕ) (d : ℕ) → pair_tag_fits t ≡ true → Reaches n d → eqb i 0 || printed_tag t ≡ true
        → read_pair n i (print_tag t ++ print place_width d) ≡ Some (record { tag = t; distance = d })
    by_tag None d f r first = blank_pair_back n i d small (or_false (eqb i 0) first) r
    by_tag (Some t) d f r first = printed_pair_back n i t d small f r

blank_shown : (s : List ℕ) (d : ℕ) → length s ≡ entry_width → columns tag_start tag_width s ≡ replicate tag_width 32 → columns distance_start place_width s ≡ print place_width d
    → s ≡ print_pair (record { tag = None; distance = d })
unfolding print_pair blanks
blank_shown s d long tag far = columns_all entry_width s long ∙ columns_split tag_start tag_width place_width s ∙ ap₂ {C = List ℕ} ◌++◌ tag far

blank_pair_only : (n i : ℕ) (s : List ℕ) {p : Pair} → length s ≡ entry_width → eqb i 0 ≡ true → all_blank (columns tag_start tag_width s) ≡ true
    → read_blank_pair n s ≡ Some p → (s ≡ print_pair p) × (pair_at n i p ≡ true)
unfolding read_blank_pair
blank_pair_only n i s {p} long first blank h =
    let found = then_found (number_within 1 n (columns distance_start place_width s)) _ h in
    let pair : Pair = record { tag = None; distance = found.0 } in
    let is : pair ≡ p = cc in
    let far = field_only 1 n distance_start place_width s (omega arith) found.1 in
    let tag : columns tag_start tag_width s ≡ replicate tag_width 32 =
    blanks_of_blank (columns tag_start tag_width s) blank
    ∙ ap (λ (k : ℕ). replicate k 32) (length_columns tag_start tag_width s (omega arith)) in
    rw (← is) (
      blank_shown s found.0 long tag far.printed,
      rw (fits_pair n pair refl (record { onward = far.least; near = far.most }), first),
    )

printed_shown : (e : Entry) → print_entry e ≡ print_pair (printed_pair e)
unfolding print_entry print_pair
printed_shown e = refl

printed_pair_only : (n i : ℕ) (s : List ℕ) {p : Pair} → length s ≡ entry_width
    → read_printed_pair n s ≡ Some p → (s ≡ print_pair p) × (pair_at n i p ≡ true)
unfolding read_printed_pair
printed_pair_only n i s {p} long h =
    let found = then_found (read_entry n 0 s) _ h in
    let e = found.0 in
    let is : printed_pair e ≡ p = cc in
    let told = entry_only n 0 s long found.1 in
    let facts = entry_fits_lem n e (both (entry_fits n e) (leb 0 e.tag) told.1).0 in
    rw (← is)
    (told.0 ∙ printed_shown e, rw (fits_pair n (printed_pair e) facts.0 facts.1) (or_true (eqb i 0)))

pub pair_only : (n i : ℕ) (s : List ℕ) {p : Pair} → length s ≡ entry_width → read_pair n i s ≡ Some p
    → (s ≡ print_pair p) × (pair_at n i p ≡ true)
unfolding read_pair
pair_only n i s {p} long h = by_test (eqb i 0 && all_blank (columns tag_start tag_width s)) refl h
  where
    by_test : (t : Bool) → eqb i 0 && all_blank (columns tag_start tag_width s) ≡ t
        → pick t (read_blank_pair n s) (read_printed_pair n s) ≡ Some p
        → (s ≡ print_pair p) × (pair_at n i p ≡ true)
    by_test true e k =
        let two = both (eqb i 0) (all_blank (columns tag_start tag_width s)) e in
        blank_pair_only n i s long two.0 two.1 k
    by_test false e k = printed_pair_only n i s long k

-- ---- which pairs may be blank

keeps_later : (n i : ℕ) (ps : List Pair)
    → keeps (pair_at n) (λ k p. suc k) (suc i) ps ≡ every (pair_fits n) ps && every (λ q. printed_tag q.tag) ps
keeps_later n i [] = refl
keeps_later n i (p ∷ ps) =
    rw (ne_eqb (suc i) 0 (λ e. omega arith), keeps_later n (suc i) ps)
    (and_regroup (pair_fits n p) (printed_tag p.tag) (every (pair_fits n) ps) (every (λ q. printed_tag q.tag) ps))

pub keeps_pairs : (n : ℕ) (ps : List Pair) → keeps (pair_at n) (λ k p. suc k) 0 ps ≡ every (pair_fits n) ps && later_printed ps
keeps_pairs n [] = refl
keeps_pairs n (p ∷ ps) =
    rw (keeps_later n 0 ps) (and_regroup (pair_fits n p) true (every (pair_fits n) ps) (every (λ q. printed_tag q.tag) ps))
