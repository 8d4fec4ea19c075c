-- Document 02, C-11: the limit on heard buckets that sizing gives is demand 3's.
-- Assumes nothing.
use Rattle.std.specs.Prelude.{◌≡◌, ℕ, List}
use Rattle.buckets.specs.ListLine.{list_lines}
use Rattle.cycle.specs.declared.Settings.{Settings}
use Rattle.cycle.specs.Size.{size, Listed}
use Rattle.cycle.specs.declared.Dimensions.{Dimensions}
use Rattle.std.specs.Prelude.{Ok}
use Rattle.listener.specs.Hearing.{runs_with}
use Rattle.listener.specs.Demand3.{heard_limit}

-- "the limit on heard buckets for a tag lying in C data buckets": for every list of so many lines and every tag of it that lies
-- in c of its data buckets, it is the limit that demand 3 holds a display to
abbrev pub EveryLimit : Type 0
EveryLimit =
    (s : Settings) (lines c : ℕ) (f : Dimensions) → size s lines c ≡ Ok f →
    (list : List ℕ) → Listed lines list → (tag : ℕ) → runs_with s.p tag (list_lines list) ≡ c →
    heard_limit s list tag ≡ f.heard
