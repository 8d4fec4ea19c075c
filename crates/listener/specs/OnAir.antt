-- Document 02, C-12: demand 3 on what is on air, one statement on the whole hearing. Each cycle is built from a list and settings
-- of its own.
-- Assumes nothing.
use Rattle.std.specs.Prelude.{◌≡◌, ℕ, zero, suc, ◌+◌, ◌-◌, ◌≤◌, ◌<◌, true, false, List, [], ◌∷◌, ltb, drop}
use Rattle.std.specs.Prelude.{Some}
use Rattle.columns.specs.Lists.{pick, every}
use Rattle.cycle.specs.declared.Settings.{Settings}
use Rattle.cycle.specs.Cycle.{bucket_at}
use Rattle.cycle.specs.Building
use Rattle.cycle.specs.Building.{build}
use Rattle.listener.specs.Listener.{start}
use Rattle.listener.specs.Hearing.{Taken, hearing, End, end_of, until_end, heard_in, elapsed_in, refused_before_end, lines_got, listener_after}
use Rattle.listener.specs.Demand3.{heard_limit, lines_wanted, end_wanted, refused_by14}

-- ---- what is on air

-- one cycle on air: the list and the settings that it is built from, the room of the buffer lent to the builder, and its N
pub record Sending : Type 0 where
  pub settings : Settings
  pub list : List ℕ
  pub room : ℕ
  pub n : ℕ

-- "any list and settings the builder accepts": it answers N
abbrev pub Accepted : Sending → Type 0
Accepted c = Building.numbers (build c.settings c.list c.room).answer ≡ 0 ∷ 0 ∷ c.n ∷ []

-- the cycle as bytes
unfoldable pub image_of : Sending → List ℕ
image_of c = (build c.settings c.list c.room).output

-- "Yards change lists several times a day": cycles 0, 1, 2 and so on are of any lists and settings whatever
abbrev pub Air : Type 0
Air = ℕ → Sending

-- a bucket on air: the number of its cycle, and its position there
pub record AirPlace : Type 0 where
  pub cycle : ℕ
  pub position : ℕ

-- the bucket behind one: behind a cycle's last comes the first of the next
unfoldable pub behind : Air → AirPlace → AirPlace
behind air p =
    pick (ltb (suc p.position) (air p.cycle).n)
    (record { cycle = p.cycle; position = suc p.position })
    (record { cycle = suc p.cycle; position = 0 })

-- the bucket at a place, counted from the start of cycle 0
abbrev pub place_at : Air → ℕ → AirPlace
place_at air zero = record { cycle = 0; position = 0 }
place_at air (suc x) = behind air (place_at air x)

-- its bytes
unfoldable pub on_air : Air → ℕ → List ℕ
on_air air x = bucket_at (image_of (air (place_at air x).cycle)) (place_at air x).position

-- ---- demand 3

-- What demand 3 says of the hearing of m steps, log, that ends in cycle e.
pub record Demand3OnAir (air : Air) (tag tune e m : ℕ) (log : List Taken) : Type 0 where
  -- "k and C in the heard limit are those of the cycle it ends in", "The time limit becomes N - t buckets of the old cycle and all
  -- of the new one", "and no step was refused before its end"
  pub heard_limit_lem : heard_in log ≤ heard_limit (air e).settings (air e).list tag
  pub elapsed_limit : tune + elapsed_in log ≤ (air 0).n + (air 1).n
  pub unrefused : refused_before_end log ≡ false
  -- "By step 2 + k + max(1, C) the end has come"
  pub end_come : heard_limit (air e).settings (air e).list tag ≤ m → end_of log ≡ Some (end_wanted (lines_wanted (air e).list tag))
  -- whenever it has come, "A display's lines, or its absence, are those of the list in whose cycle it ends."
  pub end_right : (x : End) → end_of log ≡ Some x → x ≡ end_wanted (lines_wanted (air e).list tag)
  pub lines_right : (x : End) → end_of log ≡ Some x → lines_got log ≡ lines_wanted (air e).list tag
  -- it ends in cycle e: there lies the bucket taken last, elapsed counting tune-in and that one, "both in"
  pub ends_in : (x : End) → end_of log ≡ Some x → (place_at air (tune + elapsed_in log - 1)).cycle ≡ e
  -- "Both counts are the listener's own and equal those of the steps."
  pub heard_own : (listener_after (start tag) log).heard ≡ heard_in log
  pub elapsed_own : (listener_after (start tag) log).elapsed ≡ elapsed_in log
  -- after the end "each such step is refused by 14 and changes nothing in the listener"
  pub after_end : every (λ x. refused_by14 x.outcome.answer) (drop (heard_in log) log) ≡ true
  pub unchanged : listener_after (start tag) log ≡ listener_after (start tag) (until_end log)

-- The cycle in which a hearing ends is tune-in's or the next. It is fixed before the number of steps is given, and before the
-- bytes after the end, strays, of which nothing is known.
pub record Hears (air : Air) (tag tune : ℕ) : Type 0 where
  pub cycle : ℕ
  pub old_or_new : cycle ≤ 1
  pub demand_3 :
      (m : ℕ) (strays : ℕ → List ℕ) → Demand3OnAir air tag tune cycle m (hearing (on_air air) strays tag tune m)

-- For whatever is on air, any tag and any tune-in t of cycle 0, each bucket the display wakes for arriving intact.
abbrev pub EveryAir : Type 0
EveryAir =
    (air : Air) → ((c : ℕ) → Accepted (air c)) → (tag tune : ℕ) → tune < (air 0).n → Hears air tag tune
