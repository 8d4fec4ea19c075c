-- Where a hearing ends: "with a the first segment start behind the tune-in, q the first data bucket whose last tag is at least
-- ours and P the position of the last data bucket heard, it ends at P if q is not sent before a, else at N + P; for a tag above
-- the whole list, at the first root from a on". No hearing is run to tell it. Places count from the start of tune-in's cycle: N
-- is the start of the coming one, and place x of that is N + x.
-- Assumes nothing.
use Rattle.std.specs.Prelude.{◌≡◌, ℕ, suc, ◌+◌, ◌-◌, ◌<◌, max, Bool, List, [], ◌∷◌, leb, ltb, drop}
use Rattle.std.specs.Prelude.{Some}
use Rattle.columns.specs.Lists.{pick, least}
use Rattle.buckets.specs.ListLine.{list_lines}
use Rattle.cycle.specs.Tree.{Plan, plan, last_tag}
use Rattle.cycle.specs.declared.Settings.{Settings}
use Rattle.cycle.specs.Layouts.{slots}
use Rattle.cycle.specs.Cycle.{to_next, to_next_segment, cycle_size}
use Rattle.cycle.specs.Cycle.{first_place}
use Rattle.cycle.specs.Building
use Rattle.cycle.specs.Building.{build}
use Rattle.listener.specs.Hearing.{hearing, repeated, End, end_of, elapsed_in, runs_with}

-- q: "the first data bucket whose last tag is at least ours"; D if there is none, which is "a tag above the whole list"
unfoldable pub target : Plan → ℕ → ℕ
target t tag = least t.d 0 (λ q. leb tag (last_tag t q))

-- "the last data bucket heard": max(1, C) are heard, from q on
unfoldable pub last_heard : Plan → ℕ → ℕ
last_heard t tag = target t tag + max 1 (runs_with t.p tag t.lines) - 1

-- "the position of" data bucket q, which is sent once in a cycle
unfoldable pub position : Plan → ℕ → ℕ
position t q = first_place t (t.k + 1) q

-- a: "the first segment start behind the tune-in", N where it is the coming cycle's
unfoldable pub segment_behind : Plan → ℕ → ℕ
segment_behind t tune = tune + to_next_segment (drop (suc tune) (slots t))

-- "q is .. sent before a"
unfoldable pub sent_before : Plan → ℕ → ℕ → Bool
sent_before t q a = ltb (position t q) a

-- "the first root from a on", a itself counted: the next cycle's start is one
unfoldable pub root_from : Plan → ℕ → ℕ
root_from t a = a + to_next (drop a (slots t)) 1 0 - 1

-- "it ends at P if q is not sent before a, else at N + P; for a tag above the whole list, at the first root from a on"
unfoldable pub end_from : Plan → ℕ → ℕ → ℕ
end_from t tag a =
    pick (ltb (target t tag) t.d)
    (pick (sent_before t (target t tag) a) (cycle_size t + position t (last_heard t tag)) (position t (last_heard t tag)))
    (root_from t a)

unfoldable pub end_place : Plan → ℕ → ℕ → ℕ
end_place t tag tune = end_from t tag (segment_behind t tune)

-- For any list, settings, tag, tune-in and list of steps, as in demand 3: once the end has come, it came at that place.
-- Elapsed counts tune-in and the last one, "both in".
abbrev pub EveryEnd : Type 0
EveryEnd =
    (s : Settings) (list : List ℕ) (room n : ℕ) → Building.numbers (build s list room).answer ≡ 0 ∷ 0 ∷ n ∷ [] →
    (tag tune : ℕ) → tune < n →
    (m : ℕ) (strays : ℕ → List ℕ) (e : End) → end_of (hearing (repeated (build s list room).output n) strays tag tune m) ≡ Some e →
    tune + elapsed_in (hearing (repeated (build s list room).output n) strays tag tune m) ≡
    end_place (plan s (list_lines list)) tag tune + 1
