-- A bucket's pairs, entries and lines read field by field: reading undoes printing and printing undoes reading.
-- Assumes nothing.
use Prim.Native.Nat.{ℕ, suc, ◌≤◌}
use mathlib.Core.Path.{◌≡◌, sym, ◌∙◌}
use mathlib.Core.Bool.{true, ◌&&◌}
use Rattle.std.specs.Prelude.{Some}
use mathlib.Core.List.{List, map}
use native.Mathlib.Omega.{arith}
use lib.ListN.{length}
use Rattle.columns.specs.Lists.{every, joined, padded}
use Rattle.buckets.specs.declared.Line.{Line}
use Rattle.buckets.specs.ListLine.{fits, line_columns}
use Rattle.buckets.specs.declared.Pair.{Pair}
use Rattle.buckets.specs.declared.Entry.{Entry}
use Rattle.buckets.specs.Bucket.{print_pair, print_entry, pair_fits, entry_fits, later_printed, rising}
use Rattle.buckets.specs.Inner.Columns.{read_line_columns, read_entry, read_pair, read_pairs, read_entries, read_lines}
use Rattle.buckets.specs.Lengths.{line_columns_width, pairs_most, entries_most, bucket_lines_most, entry_width, pairs_width}
use Rattle.buckets.specs.Lengths.{entries_width, lines_width, buckets_most}
use Rattle.buckets.proofs.ListLines.{length_line_columns}
use Rattle.buckets.proofs.Buckets.{length_print_pair, length_print_entry}
use Rattle.buckets.proofs.ItemRuns.{keeps_rising, items_back, items_only}
use Rattle.buckets.proofs.LineColumns.{fits_from, line_columns_alone_back, line_columns_alone_only}
use Rattle.buckets.proofs.Entries.{entry_from, entry_back, entry_only, pair_at, pair_back, pair_only, keeps_pairs}

pub pairs_back : (n : ℕ) (ps : List Pair) → n ≤ buckets_most → every (pair_fits n) ps ≡ true → later_printed ps ≡ true
    → read_pairs n (length ps) (padded pairs_width (joined print_pair ps)) ≡ Some ps
unfolding read_pairs
pairs_back n ps small fit later =
    items_back (read_pair n) (λ i p. suc i) (pair_at n) print_pair entry_width length_print_pair
    (λ i p h. pair_back n i p small h) pairs_width ps (keeps_pairs n ps ∙ rw (fit, later))

pub entries_back : (n : ℕ) (es : List Entry) → n ≤ buckets_most → every (entry_fits n) es ≡ true
    → rising 0 (map (λ e. e.tag) es) ≡ true → read_entries n (length es) (padded entries_width (joined print_entry es)) ≡ Some es
unfolding read_entries
entries_back n es small fit order =
    items_back (read_entry n) (λ m e. e.tag) (entry_from n) print_entry entry_width length_print_entry
    (λ m e h. entry_back n m e small h) entries_width es (keeps_rising (entry_fits n) (λ e. e.tag) 0 es ∙ rw (fit, order))

pub lines_back : (ls : List Line) → every fits ls ≡ true → rising 0 (map (λ l. l.tag) ls) ≡ true
    → read_lines (length ls) (padded lines_width (joined line_columns ls)) ≡ Some ls
unfolding read_lines
lines_back ls fit order =
    items_back read_line_columns (λ m l. l.tag) fits_from line_columns line_columns_width length_line_columns
    line_columns_alone_back lines_width ls (keeps_rising fits (λ l. l.tag) 0 ls ∙ rw (fit, order))

-- what was read of a run of items, with the rules that it keeps
pub pairs_only : (n c : ℕ) (s : List ℕ) {ps : List Pair} → length s ≡ pairs_width → c ≤ pairs_most → read_pairs n c s ≡ Some ps
    → (length ps ≡ c) × (every (pair_fits n) ps && later_printed ps ≡ true) × (s ≡ padded pairs_width (joined print_pair ps))
unfolding read_pairs
pairs_only n c s {ps} long few h =
    let told = items_only (read_pair n) (λ i p. suc i) (pair_at n) print_pair entry_width length_print_pair
    (λ i r p. pair_only n i r) pairs_width c s ps long (omega arith) h in
    (told.0, sym (keeps_pairs n ps) ∙ told.1, told.2)

pub entries_only : (n c : ℕ) (s : List ℕ) {es : List Entry} → length s ≡ entries_width → c ≤ entries_most → read_entries n c s ≡ Some es
    → (length es ≡ c) × (every (entry_fits n) es && rising 0 (map (λ e. e.tag) es) ≡ true)
    × (s ≡ padded entries_width (joined print_entry es))
unfolding read_entries
entries_only n c s {es} long few h =
    let told = items_only (read_entry n) (λ m e. e.tag) (entry_from n) print_entry entry_width length_print_entry
    (λ m r e. entry_only n m r) entries_width c s es long (omega arith) h in
    (told.0, sym (keeps_rising (entry_fits n) (λ e. e.tag) 0 es) ∙ told.1, told.2)

pub lines_only : (c : ℕ) (s : List ℕ) {ls : List Line} → length s ≡ lines_width → c ≤ bucket_lines_most → read_lines c s ≡ Some ls
    → (length ls ≡ c) × (every fits ls && rising 0 (map (λ l. l.tag) ls) ≡ true) × (s ≡ padded lines_width (joined line_columns ls))
unfolding read_lines
lines_only c s {ls} long few h =
    let told = items_only read_line_columns (λ m l. l.tag) fits_from line_columns line_columns_width length_line_columns
    (λ m r l. line_columns_alone_only m r) lines_width c s ls long (omega arith) h in
    (told.0, sym (keeps_rising fits (λ l. l.tag) 0 ls) ∙ told.1, told.2)
