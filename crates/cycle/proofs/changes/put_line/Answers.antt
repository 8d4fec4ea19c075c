-- A place is opened, and the line copied into it.
use Rattle.std.proofs.Common.{◌+◌, ◌-◌, ◌≤◌, ◌≡◌, ◌∙◌, length, sym, arith}
use Rattle.std.proofs.lemmas.List.{length-take-le, take_all}
use Rattle.columns.proofs.Put.{length_part}
use Rattle.buckets.specs.Lengths.{line_length}
use Rattle.cycle.proofs.Changing.Moves.{line_in}
use Rattle.cycle.proofs.changes.put_line.Goals as goal

pub slice_bounds-copy_columns-end-2 : goal.slice_bounds-copy_columns-end-2
slice_bounds-copy_columns-end-2 c = omega (arith, c.requires.2, length-take-le line_length c.args.line.now (omega (arith, c.requires.2)))

pub copy_columns-requires : goal.copy_columns-requires
copy_columns-requires c =
    let room : c.args.at + (c.args.at + line_length - c.args.at) ≤ length c.open_place.new.list = omega (arith, c.requires.1, c.requires.0, c.open_place.auto.list) in
    let wide : line_length ≡ c.args.at + line_length - c.args.at = omega arith in
    length-take-le line_length c.args.line.now (omega (arith, c.requires.2)) ∙ wide
    ∙ sym (length_part c.open_place.new.list c.args.at (c.args.at + line_length - c.args.at) room)

pub returns : goal.returns
returns c =
    line_in c.args.list.now c.args.at c.args.end c.args.line.now c.open_place.new.list c.copy_columns.new.part
    c.requires.0 c.requires.1 c.requires.2 c.open_place.ensures
    (c.copy_columns.ensures ∙ take_all line_length c.args.line.now (omega (arith, c.requires.2)))
