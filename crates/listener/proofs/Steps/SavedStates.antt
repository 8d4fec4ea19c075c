-- A listener restored from its saved state is the listener saved. Assumes nothing.
use mathlib.Core.Path.{◌≡◌, refl}
use Rattle.listener.specs.declared.Phase.{Phase}
use Rattle.listener.specs.declared.Phase.TheVariants.{TuneIn, Index, Either, Data, Ended}
use Rattle.listener.specs.declared.Listener.{Listener}
use Rattle.listener.specs.State.{phase_number, phase_of, saved, restored}

phase_back : (a : Phase) → phase_of (phase_number a) ≡ a
unfolding phase_of
phase_back TuneIn = refl
phase_back Index = refl
phase_back Either = refl
phase_back Data = refl
phase_back Ended = refl

pub restored_saved : (s : Listener) → restored (saved s) ≡ s
unfolding restored saved
restored_saved s =
    λ i. record {
      tag = s.tag;
      phase = phase_back s.phase i;
      due = s.due;
      cycle = s.cycle;
      passed = s.passed;
      doze = s.doze;
      heard = s.heard;
      elapsed = s.elapsed;
    }
