-- Head and pairs fill the columns one behind the other, and the newline stands last.
use Rattle.std.proofs.Common.{◌≡◌, ℕ, List, [], ◌∷◌, ◌++◌, ◌+◌, length, take, drop, refl, sym, ap, ◌∙◌, arith}
use lib.Dec.{lit≤}
use lib.ListN.{length-append}
use lib.Seq.{drop-length}
use mathlib.Core.List.{append-nil}
use Rattle.columns.proofs.Put.{length_part}
use Rattle.columns.specs.Lists.{padded}
use Rattle.columns.specs.PrintedNumbers.{blanks}
use Rattle.columns.proofs.Padded.{padded_nil, lent_blank, back_padded}
use Rattle.buckets.specs.declared.Head.{Head}
use Rattle.buckets.specs.Lengths.{newline, letter_index, position_start, head_width, bucket_end, bucket_length}
use Rattle.buckets.specs.Lengths.{pairs_start, pairs_width, entries_start}
use Rattle.buckets.proofs.Buckets.{length_pairs}
use Rattle.buckets.proofs.Pages.{front_of, pair_columns, index_front_lem, front_started}
use Rattle.buckets.proofs.writer.start_index.Goals as goal

all_blank_lem : (d last : List ℕ) → length d ≡ bucket_length → last ≡ blanks (length (take bucket_length d)) → last ++ drop bucket_length d ≡ padded bucket_length []
all_blank_lem d last h e =
    let none : drop bucket_length d ≡ [] = ap (λ (k : ℕ). drop k d) (sym h) ∙ drop-length d in
    let all : length (take bucket_length d) ≡ bucket_length = length_part d 0 bucket_length (omega arith) in
    rw (none, e, all) (append-nil (blanks bucket_length) ∙ sym (padded_nil bucket_length))

-- d with its head written
headed : {d head : List ℕ} (h : Head) (n count : ℕ) → d ≡ padded bucket_length [] → head ≡ front_of h 0 letter_index n count
    → head ++ drop pairs_start d ≡ padded bucket_length (front_of h 0 letter_index n count)
headed h n count e is =
    back_padded bucket_length position_start head_width [] e refl (lit≤ tt) (front_of h 0 letter_index n count) is refl

pub write_head-requires : goal.write_head-requires
write_head-requires c =
    lent_blank bucket_length position_start head_width []
    (all_blank_lem c.args.part.now c.print_blanks.new.part c.requires.0 c.print_blanks.ensures) refl (lit≤ tt)

pub write_pairs-requires : goal.write_pairs-requires
write_pairs-requires c =
    let blank = all_blank_lem c.args.part.now c.print_blanks.new.part c.requires.0 c.print_blanks.ensures in
    let front = front_of c.args.head 0 letter_index (length c.args.pairs.now) c.args.count in (
      lent_blank bucket_length pairs_start pairs_width front
          (headed c.args.head (length c.args.pairs.now) c.args.count blank c.write_head.ensures) refl (lit≤ tt),
      c.requires.1,
    )

pub returns : goal.returns
returns c =
    let blank = all_blank_lem c.args.part.now c.print_blanks.new.part c.requires.0 c.print_blanks.ensures in
    let n = length c.args.pairs.now in
    let front = front_of c.args.head 0 letter_index n c.args.count in
    let wide = length_pairs c.args.pairs.now c.requires.1 in
    let filled =
    back_padded bucket_length pairs_start pairs_width front (headed c.args.head n c.args.count blank c.write_head.ensures) refl (lit≤ tt)
    (pair_columns c.args.pairs.now) c.write_pairs.ensures wide in
    let long : length (front ++ pair_columns c.args.pairs.now) ≡ entries_start =
    length-append front (pair_columns c.args.pairs.now) ∙ ap (λ (k : ℕ). head_width + k) wide in
    front_started (front ++ pair_columns c.args.pairs.now) long filled
    ∙ ap (λ (t : List ℕ). padded bucket_end t ++ newline ∷ []) (index_front_lem c.args.head c.args.pairs.now c.args.count)
