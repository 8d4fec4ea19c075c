-- One more column.
use Rattle.std.proofs.Common.{ℕ, Bor, length}
use Rattle.columns.specs.declared.Place.{Place}
use Rattle.std.proofs.lemmas.List.{length_push}
use Rattle.std.proofs.lemmas.Slice.Zip.{zip_turn}
use Rattle.columns.specs.Inner.Places.{column_digits}
use Rattle.buckets.specs.Inner.Columns.{line_places}
use Rattle.buckets.proofs.ColumnByColumn.{one_more}
use Rattle.buckets.proofs.lines.has_numbers.Goals as goal

pub loop-c-preserved : goal.loop-c-preserved
loop-c-preserved c =
    let pair : Bor ℕ × Bor Place = (c.in-Some.c, c.in-Some.place) in
    let turn = zip_turn c.args.part.now line_places c.loop-c.yielded c.into_iter-c-iterator.result c.loop-c.c-iterator c.next.new.self c.next.result (cc) (cc)
    c.loop-c.yielded_by pair c.in-Some.is c.next.ensures.steps in
    one_more column_digits line_places c.args.part.now (length c.loop-c.yielded) c.loop-c.before c.loop-c.still c.loop-c.invariant turn.1 turn.0
    c.in-Some.place.now c.in-Some.place.now c.in-Some.c.now _ _ (turn.3 c.in-Some.place.now) (turn.2 0) (length_push c.loop-c.yielded pair) c.still_digits-still.ensures
