-- Document 02, C-17, "Mean wait with its remainder": the different tags of a list, and what each of them adds to the sum, by the
-- places of its buckets. No hearing is run to tell it; that hearings take as long is stated in `Mean` of `listener`.
-- Assumes nothing.
use Rattle.std.specs.Prelude.{ℕ, ◌+◌, ◌-◌, ◌*◌, ◌/◌, Bool, List, [], ◌∷◌, eqb, length, get_or}
use Rattle.std.specs.Prelude.{Result}
use Rattle.columns.specs.Lists.{pick, any, only, last_or, range, least}
use Rattle.buckets.specs.declared.Line.{Line}
use Rattle.buckets.specs.ListLine.{list_lines}
use Rattle.cycle.specs.Refusals.{Condition, row, first_refusal, outcome, numbers_of}
use Rattle.cycle.specs.Tree.{Plan, plan, lines_of}
use Rattle.cycle.specs.Layouts.{slot, slots}
use Rattle.cycle.specs.Cycle.{first_place, cycle_size}
use Rattle.cycle.specs.Building.{settings_out, list_length_out, line_misprinted, tag_falls, copies_out, cycle_too_long}
use Rattle.cycle.specs.declared.WaitSum.{WaitSum}
use Rattle.cycle.specs.declared.Settings.{Settings}
use Rattle.cycle.specs.declared.Reason.TheVariants.{NoLine}
use Rattle.cycle.specs.declared.Refusal.{Refusal}

-- ---- the tags

-- a line of these has the tag
unfoldable pub tag_among : ℕ → List Line → Bool
tag_among tag ls = any (λ l. eqb l.tag tag) ls

-- "all different tags of the list": each once, where its last line stands
abbrev pub different_tags : List Line → List ℕ
different_tags [] = []
different_tags (l ∷ ls) = pick (tag_among l.tag ls) (different_tags ls) (l.tag ∷ different_tags ls)

-- f of each of them, added
abbrev pub total : (ℕ → ℕ) → List ℕ → ℕ
total f [] = 0
total f (x ∷ xs) = f x + total f xs

-- ---- the conditions

-- 17: "the list has no line"
abbrev pub no_line : List ℕ → Condition
no_line list = row NoLine (eqb (length (list_lines list)) 0)

-- as in building, without a buffer; 17 "comes after 6"
unfoldable pub conditions : Settings → List ℕ → List Condition
conditions s list =
    let t : Plan = plan s (list_lines list) in
    settings_out s ∷
    list_length_out list ∷
    line_misprinted list ∷
    tag_falls list ∷
    copies_out t ∷
    cycle_too_long t ∷
    no_line list ∷ []

-- ---- the places

-- a segment starts at position x
unfoldable pub starts_at : Plan → ℕ → Bool
starts_at t x = (get_or (slots t) x (slot 0 0)).starts

-- the start of data bucket q's segment: the last one before it
unfoldable pub segment_start : Plan → ℕ → ℕ
segment_start t q = last_or 0 (only (starts_at t) (range 0 (first_place t (t.k + 1) q)))

-- the first and the last data bucket with a line of the tag
unfoldable pub first_with : Plan → ℕ → ℕ
first_with t tag = least t.d 0 (λ q. tag_among tag (lines_of t q))

unfoldable pub last_with : Plan → ℕ → ℕ
last_with t tag = last_or 0 (only (λ q. tag_among tag (lines_of t q)) (range 0 t.d))

-- ---- the waits

-- Elapsed over all tune-ins, added, for a tag in data buckets first to last: with s the start of the first one's segment and P
-- the position of the last one, a tune-in before s ends at P of its cycle, one from s on at P of the next. Tune-in u of the N
-- counts P + 1 - u, and N more from s on.
unfoldable pub waits_between : Plan → ℕ → ℕ → ℕ
waits_between t first last =
    cycle_size t * (first_place t (t.k + 1) last + 1) + cycle_size t * (cycle_size t - segment_start t first) -
    cycle_size t * (cycle_size t - 1) / 2

unfoldable pub tag_waits : Plan → ℕ → ℕ
tag_waits t tag = waits_between t (first_with t tag) (last_with t tag)

-- N, T and the sum
unfoldable pub wait_sum : Plan → WaitSum
wait_sum t =
    record {
      n = cycle_size t;
      tags = length (different_tags t.lines);
      sum = total (tag_waits t) (different_tags t.lines);
    }

-- the numbers that an answer stands for: refusal number (0: none) and place, and the three; a refusal has none
abbrev pub numbers : Result WaitSum Refusal → List ℕ
numbers = numbers_of (λ w. w.n ∷ w.tags ∷ w.sum ∷ [])

unfoldable pub waits : Settings → List ℕ → Result WaitSum Refusal
waits s list = outcome (first_refusal (conditions s list)) (wait_sum (plan s (list_lines list)))
