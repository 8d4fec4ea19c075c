-- "Working D out from N: two list sizes can share one N.": with n 8, p 1 and r 2 a list of 472 lines and one of 513 have the
-- same N, so reading back cannot take a list's size from it. It counts the list's own lines: two lines in a cycle of three
-- buckets, and three lines in one of six.
-- Assumes nothing.
use mathlib.Core.Path.{◌≡◌, refl}
use Prim.Native.Nat.{ℕ}
use mathlib.Core.List.{List, [], ◌∷◌}
use Rattle.columns.specs.Lists
use Rattle.columns.specs.PrintedNumbers
use Rattle.buckets.specs.ListLine
use Rattle.buckets.specs.Bucket
use Rattle.cycle.specs.Tree
use Rattle.cycle.specs.Layouts
use Rattle.cycle.specs.Cycle
use Rattle.cycle.specs.Building
use Rattle.cycle.specs.ReadingBack
use Rattle.columns.specs.Lists.{joined}
use Rattle.buckets.specs.ListLine.{print_line}
use Rattle.cycle.specs.Tree.{Plan, levels}
use Rattle.cycle.specs.declared.Settings.{Settings}
use Rattle.cycle.specs.Cycle.{cycle_size}
use Rattle.cycle.specs.Building.{build}
use Rattle.cycle.specs.ReadingBack.{read_back}
use Rattle.std.specs.Prelude.{Ok}

-- every definition that these computations open
unfoldable pub opened : Unit {0}
unfolding Lists.up Lists.strict Lists.padded Lists.put PrintedNumbers.blanks PrintedNumbers.read_number PrintedNumbers.read_lenient ListLine.tag_fits ListLine.fits ListLine.line_columns ListLine.print_line ListLine.spelled ListLine.has_numbers ListLine.read_line ListLine.cut_lines ListLine.list_lines ListLine.whole_lines Bucket.cycle_length Bucket.print_head Bucket.print_pair Bucket.print_entry Bucket.print_bucket Bucket.reaches Bucket.pair_fits Bucket.entry_fits Bucket.good Bucket.columns Bucket.field Bucket.spelled_pair Bucket.spelled_entry Bucket.spelled_body Bucket.spelled_bucket Bucket.read_bucket Tree.data_buckets Tree.levels Tree.plan Tree.width Tree.children Tree.data_under Tree.lines_of Tree.tags_of Tree.first_tag Tree.last_tag Tree.largest_tag Layouts.slot Layouts.tree_below Layouts.sent Layouts.path Layouts.distributed_segment Layouts.distributed Layouts.whole_segment Layouts.one_m Layouts.slots Cycle.occurs Cycle.to_next Cycle.to_next_segment Cycle.is_data Cycle.has_pairs Cycle.first_pair Cycle.later_pair Cycle.pairs Cycle.entry Cycle.entries Cycle.body_of Cycle.bucket_of Cycle.last_sent Cycle.buckets Cycle.cycle_size Cycle.image Building.settings_fit Building.copies_fit Building.conditions Building.build ReadingBack.sent_lines ReadingBack.sent_list ReadingBack.builds ReadingBack.whole_buckets ReadingBack.conditions ReadingBack.read_back
opened = tt

-- a plan of d data buckets; N does not look at their lines
unfoldable pub eight_of : ℕ → Plan
eight_of d = record { n = 8; p = 1; layout = 1; copies = 2; lines = []; d = d; k = levels 8 d }

pub one_n_two_sizes : (cycle_size (eight_of 472) ≡ 598) × (cycle_size (eight_of 513) ≡ 598)
unfolding eight_of opened
one_n_two_sizes = (refl, refl)

-- a list of these tags, other figures 0
unfoldable pub list_of : List ℕ → List ℕ
list_of tags = joined (λ t. print_line (record { tag = t; tare = 0; code = 0; weighing = 0 })) tags

-- one line a bucket, layout 1, no copies
unfoldable pub plain : Settings
plain = record { n = 2; p = 1; layout = 1; copies = 0 }

-- the number of lines is the list's own, whatever N
pub two_lines_read_back :
    (read_back plain (build plain (list_of (3 ∷ 5 ∷ [])) 720).output 54).answer ≡ Ok 2
unfolding plain list_of opened
two_lines_read_back = refl

pub three_lines_read_back :
    (read_back plain (build plain (list_of (3 ∷ 5 ∷ 5 ∷ [])) 1440).output 81).answer ≡ Ok 3
unfolding plain list_of opened
three_lines_read_back = refl
