-- Document 02, C-13: what holds of a list and of the list with its leading zeros made blank.
-- Assumes nothing.
use Rattle.buckets.proofs.BlankedLists.{lines_blanked, blanked_list_twice}
use Rattle.buckets.proofs.Lists.{print_of_list}
use Rattle.cycle.specs.LeadingZeros.{LeadingZeros}
use Rattle.cycle.proofs.Building.BlankedBuilt.{builds_same}
use Rattle.cycle.proofs.ReadingBack.BuildsUnique.{builds_unique}
use Rattle.cycle.proofs.ReadingBack.Demand2.{every_read_back}

pub leading_zeros : LeadingZeros
leading_zeros =
    record {
      builds_same = builds_same;
      read_back_blanked = λ s list image room. (every_read_back s image room).accepts list;
      one_image = builds_unique;
      blanked_stays = blanked_list_twice;
      same_numbers_lem = lines_blanked;
      printed_plain = λ list whole read. (print_of_list list whole read).0;
    }
