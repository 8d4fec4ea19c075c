-- A list and the list with its leading zeros made blank are built alike: by the same conditions, to the same answer and bytes.
-- Assumes nothing.
use mathlib.Core.Path.{◌≡◌, ap, ◌∙◌}
use Prim.Native.Nat.{ℕ}
use mathlib.Core.List.{List}
use lib.ListN.{length}
use Rattle.buckets.specs.ListLine.{blanked_list}
use Rattle.buckets.proofs.BlankedLists.{length_blanked_list, misprints_blanked, lines_blanked}
use Rattle.cycle.specs.declared.Settings.{Settings}
use Rattle.cycle.specs.Building.{conditions, build}
use Rattle.cycle.specs.ReadingBack.{Builds}

pub builds_same : (s : Settings) (list : List ℕ) (room : ℕ) → build s (blanked_list list) room ≡ build s list room
unfolding build conditions
builds_same s list room = rw (length_blanked_list list, misprints_blanked list, lines_blanked list)

pub blanked_builds : (s : Settings) (list bytes : List ℕ) → Builds s list bytes → Builds s (blanked_list list) bytes
blanked_builds s list bytes g =
    let same = builds_same s list (length bytes) in
    record { answers = ap (λ o. o.answer) same ∙ g.answers; writes = ap (λ o. o.output) same ∙ g.writes }
