-- The first line that does not read is the first misprint.
use Rattle.std.proofs.Common.{rules, ◌∙◌, not}
use borrow.Author.Tests.{tests}
use Rattle.std.proofs.lemmas.Iterator.Search.{position_from_yields_List}
use Rattle.buckets.specs.ListLine.{read_line, taken, cut_lines}
use Rattle.cycle.proofs.Lines.LineByLine.{yields_lines, first_line, misprints}
use Rattle.cycle.proofs.conditions.first_misprint.Goals as goal

pub returns : goal.returns
returns c =
    first_line (λ s. not (taken (read_line s))) c.args.list.now c.position.result c.map.result
    (position_from_yields_List (λ s. not (taken (read_line s))) _ _ _ c.position.ensures.ran
    (yields_lines c.chunks_exact.result c.args.list.now c.chunks_exact.ensures.rest c.chunks_exact.ensures.size)
    (λ line b q k. search (rules, tests)))
    (search rules)
    ∙ misprints 0 (cut_lines c.args.list.now)
