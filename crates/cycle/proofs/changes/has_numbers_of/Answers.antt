-- The tag tells where it is another's; else the four numbers do.
use Rattle.std.proofs.Common.{sym, ap, ◌∙◌}
use borrow.Author.Tests.{ne_eqb}
use Rattle.cycle.specs.Changes.{same_numbers}
use Rattle.cycle.proofs.Changing.Searches.{other_tag, spelled_part}
use Rattle.cycle.proofs.changes.has_numbers_of.Goals as goal

pub returns-then-spelled_tag-line : goal.returns-then-spelled_tag-line
unfolding same_numbers
returns-then-spelled_tag-line c =
    c.eq.ensures ∙ ap (same_numbers c.args.line) (c.spelled_line.ensures ∙ spelled_part c.args.part.now)

pub returns-else-spelled_tag-line : goal.returns-else-spelled_tag-line
returns-else-spelled_tag-line c =
    ne_eqb c.spelled_tag.result c.args.line.tag c.if-spelled_tag-line.false
    ∙ sym (other_tag c.args.line c.args.part.now c.spelled_tag.result c.spelled_tag.ensures c.if-spelled_tag-line.false)
