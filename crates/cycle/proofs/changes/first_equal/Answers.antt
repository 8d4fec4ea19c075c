-- The first line with these numbers.
use Rattle.std.proofs.Common.{rules, ◌∙◌}
use borrow.Author.Tests.{tests}
use Rattle.std.proofs.lemmas.Iterator.Search.{position_from_yields_List}
use Rattle.buckets.specs.ListLine.{spelled, cut_lines, list_lines}
use Rattle.cycle.specs.Changes.{same_numbers}
use Rattle.cycle.proofs.Lines.LineByLine.{yields_lines, first_line, first_spelled}
use Rattle.cycle.proofs.changes.first_equal.Goals as goal

pub returns : goal.returns
unfolding list_lines
returns c =
    first_line (λ s. same_numbers c.args.line (spelled s)) c.args.list.now c.position.result c.map.result
    (position_from_yields_List (λ s. same_numbers c.args.line (spelled s)) _ _ _ c.position.ensures.ran
    (yields_lines c.chunks_exact.result c.args.list.now c.chunks_exact.ensures.rest c.chunks_exact.ensures.size)
    (λ part b q k. search (rules, tests)))
    (search rules)
    ∙ first_spelled (same_numbers c.args.line) 0 (cut_lines c.args.list.now)
