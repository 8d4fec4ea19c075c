-- A listener's state as eight numbers, for callers that cannot hold the state itself.
-- Assumes nothing.
use Rattle.std.specs.Prelude.{ℕ, List, [], ◌∷◌, eqb, get_or}
use Rattle.columns.specs.Lists.{pick}
use Rattle.listener.specs.declared.Phase.{Phase}
use Rattle.listener.specs.declared.Phase.TheVariants.{TuneIn, Index, Either, Data, Ended}
use Rattle.listener.specs.declared.Listener.{Listener}

-- the number of what is awaited
abbrev pub phase_number : Phase → ℕ
phase_number TuneIn = 0
phase_number Index = 1
phase_number Either = 2
phase_number Data = 3
phase_number Ended = 4

-- what is awaited by its number; any other number is that of an ended listener
unfoldable pub phase_of : ℕ → Phase
phase_of x = pick (eqb x 0) TuneIn (pick (eqb x 1) Index (pick (eqb x 2) Either (pick (eqb x 3) Data Ended)))

unfoldable pub saved : Listener → List ℕ
saved s =
    s.tag ∷ phase_number s.phase ∷ s.due ∷ s.cycle ∷ s.passed ∷ s.doze ∷ s.heard ∷ s.elapsed ∷ []

unfoldable pub restored : List ℕ → Listener
restored a =
    record {
      tag = get_or a 0 0;
      phase = phase_of (get_or a 1 0);
      due = get_or a 2 0;
      cycle = get_or a 3 0;
      passed = get_or a 4 0;
      doze = get_or a 5 0;
      heard = get_or a 6 0;
      elapsed = get_or a 7 0;
    }
