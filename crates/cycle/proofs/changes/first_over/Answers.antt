-- The first line whose columns spell a greater tag.
use Rattle.std.proofs.Common.{rules, ◌∙◌}
use borrow.Author.Tests.{tests}
use Rattle.std.proofs.lemmas.Iterator.Search.{position_from_yields_List}
use Rattle.buckets.specs.ListLine.{spelled, cut_lines, list_lines}
use Rattle.cycle.specs.Inner.Changing.{tag_over}
use Rattle.cycle.proofs.Lines.LineByLine.{yields_lines, first_line, first_spelled}
use Rattle.cycle.proofs.changes.first_over.Goals as goal

pub returns : goal.returns
unfolding spelled list_lines
returns c =
    first_line (λ s. tag_over c.args.tag (spelled s)) c.args.list.now c.position.result c.map.result
    (position_from_yields_List (λ s. tag_over c.args.tag (spelled s)) _ _ _ c.position.ensures.ran
    (yields_lines c.chunks_exact.result c.args.list.now c.chunks_exact.ensures.rest c.chunks_exact.ensures.size)
    (λ line b q k. search (rules, tests)))
    (search rules)
    ∙ first_spelled (tag_over c.args.tag) 0 (cut_lines c.args.list.now)
