-- The tag, if there is one, and the distance behind its columns.
use Rattle.std.proofs.Common.{◌≡◌, ℕ, List, [], ◌++◌, Option, None, Some, refl, sym, ◌∙◌}
use lib.Dec.{lit≤}
use Rattle.columns.specs.Lists.{padded, put}
use Rattle.columns.specs.PrintedNumbers.{print, blanks}
use Rattle.columns.proofs.Padded.{padded_nil, padded_on, padded_full, ready, printed}
use Rattle.buckets.specs.Bucket.{print_tag, print_pair}
use Rattle.buckets.specs.Lengths.{tag_width, distance_start, place_width, entry_width}
use Rattle.buckets.proofs.Buckets.{length_print_tag, length_print_pair}
use Rattle.buckets.proofs.writer.write_pair.Goals as goal
use Rattle.buckets.proofs.writer.write_pair.Goals.{in-Some, in_default}

still : {d : List ℕ} → d ≡ blanks entry_width → d ≡ padded entry_width []
still e = e ∙ sym (padded_nil entry_width)

with_tag : {d last : List ℕ} (t : Option ℕ) (x : ℕ) → d ≡ blanks entry_width → t ≡ Some x → last ≡ put d 0 (print distance_start x)
    → last ≡ padded entry_width (print_tag t)
with_tag t x e is p = rw is (printed entry_width 0 tag_width distance_start [] (still e) refl refl (lit≤ tt) x p)

with_none : {d last : List ℕ} (t : Option ℕ) → d ≡ blanks entry_width → t ≡ None → last ≡ d → last ≡ padded entry_width (print_tag t)
with_none t e is p = rw is (p ∙ still e ∙ padded_on entry_width 0 [] refl tag_width (lit≤ tt))

pub print_at-requires : goal.print_at-requires
print_at-requires c = ready entry_width 0 tag_width distance_start [] (still c.requires) refl refl (lit≤ tt)

pub print_at-requires-2 : goal.print_at-requires-2
print_at-requires-2 c =
    let tagged : c.match-pair.part ≡ padded entry_width (print_tag c.args.pair.tag) =
    elim c.match-pair.branch [
      | in-Some w ↦ with_tag c.args.pair.tag w.in-Some.tag c.requires w.in-Some.is (w.part-is ∙ w.print_at.ensures)
      | in_default w ↦ with_none c.args.pair.tag c.requires w.in_default.is w.part-is
    ] in
    ready entry_width distance_start place_width entry_width (print_tag c.args.pair.tag) tagged (length_print_tag c.args.pair.tag) refl (lit≤ tt)

pub returns : goal.returns
unfolding print_pair
returns c =
    let tagged : c.match-pair.part ≡ padded entry_width (print_tag c.args.pair.tag) =
    elim c.match-pair.branch [
      | in-Some w ↦ with_tag c.args.pair.tag w.in-Some.tag c.requires w.in-Some.is (w.part-is ∙ w.print_at.ensures)
      | in_default w ↦ with_none c.args.pair.tag c.requires w.in_default.is w.part-is
    ] in
    printed entry_width distance_start place_width entry_width (print_tag c.args.pair.tag) tagged (length_print_tag c.args.pair.tag) refl (lit≤ tt)
    c.args.pair.distance c.print_at-2.ensures
    ∙ padded_full entry_width (print_tag c.args.pair.tag ++ print place_width c.args.pair.distance) (length_print_pair c.args.pair)
