-- Document 02, C-14, by example: the table of `Skips` is as wanted.
-- Assumes nothing.
use mathlib.Core.Path.{◌≡◌, refl}
use Rattle.columns.specs.PrintedNumbers.{blanks}
use Rattle.cycle.specs.Judging.{plan_conditions}
use Rattle.cycle.specs.Changes as changes
use Rattle.cycle.specs.Skips as skips
use Rattle.cycle.proofs.ReadingBack.TwoSizes.{opened}

pub skips_come_and_go : skips.table ≡ skips.wanted
unfolding skips.table skips.wanted skips.line skips.five skips.zero_five skips.copied skips.told skips.comes skips.goes skips.first_goes skips.one_fewer changes.same_numbers changes.equals changes.list_in changes.places_for changes.not_in_list changes.no_place changes.line_conditions changes.given_conditions changes.arrival changes.departure changes.conditions changes.counts changes.change plan_conditions blanks opened
skips_come_and_go = refl
