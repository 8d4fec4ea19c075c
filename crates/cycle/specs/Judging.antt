-- Document 01, "Refused inputs": a list and settings judged by the conditions of building, and the figures of their cycle.
-- Nothing is written.
-- Assumes nothing.
use Rattle.std.specs.Prelude.{ℕ, zero, suc, ◌+◌, ◌-◌, ◌*◌, ◌^◌, max, List, [], ◌∷◌, eqb, length}
use Rattle.std.specs.Prelude.{Result}
use Rattle.columns.specs.Lists.{pick, up}
use Rattle.buckets.specs.ListLine.{list_lines}
use Rattle.cycle.specs.Refusals.{Condition, first_refusal, outcome, numbers_of}
use Rattle.cycle.specs.Tree.{Plan, layout_number, layout_of, plan}
use Rattle.cycle.specs.Layouts.{Slot, subtree}
use Rattle.cycle.specs.Cycle.{cycle_size, image_length}
use Rattle.cycle.specs.Building.{copies_out, cycle_too_long, buffer_too_short, conditions}
use Rattle.cycle.specs.declared.Figures.{Figures}
use Rattle.cycle.specs.declared.Settings.{Settings}
use Rattle.cycle.specs.declared.Refusal.{Refusal}

-- ---- the sizes of a segment's tree

-- the index buckets of a full subtree of height h
abbrev pub full_size : ℕ → ℕ → ℕ
full_size n zero = 0
full_size n (suc h) = full_size n h * n + 1

-- the subtree of bucket j of height e
unfoldable pub tree_at : Plan → ℕ → ℕ → List Slot
tree_at t e j = subtree t e (t.k + 1 - e) j

-- the height of a segment's tree
abbrev pub tree_height : Plan → ℕ
tree_height t = pick (eqb t.layout 1) (t.k - t.copies) t.k

-- the place of the last tree, `span` data buckets under each full one
unfoldable pub last_place : ℕ → ℕ → ℕ
last_place d span = max 1 (up d span) - 1

-- the index buckets of the last segment's tree
unfoldable pub last_tree : Plan → ℕ
last_tree t = length (tree_at t (tree_height t) (last_place t.d (t.n ^ tree_height t)))

-- ---- the figures

-- the figures of a plan's cycle
unfoldable pub figures_of : Plan → Figures
figures_of t =
    record {
      n = t.n;
      p = t.p;
      layout = layout_of t.layout;
      copies = t.copies;
      lines = length t.lines;
      d = t.d;
      k = t.k;
      size = cycle_size t;
      span = t.n ^ tree_height t;
      full = full_size t.n (tree_height t);
      last = last_tree t;
    }

-- the numbers that an answer stands for: refusal number (0: none) and place, and the figures; a refusal has none
abbrev pub numbers : Result Figures Refusal → List ℕ
numbers =
    numbers_of
    (λ f. f.n ∷ f.p ∷ layout_number f.layout ∷ f.copies ∷ f.lines ∷ f.d ∷ f.k ∷ f.size ∷ f.span ∷ f.full ∷ f.last ∷ [])

-- a list and settings judged, for a buffer with room for `room` bytes
unfoldable pub judge : Settings → List ℕ → ℕ → Result Figures Refusal
judge s list room = outcome (first_refusal (conditions s list room)) (figures_of (plan s (list_lines list)))

-- ---- those of the conditions that look at no line

-- 5 and 6
unfoldable pub size_conditions : Plan → List Condition
size_conditions t = copies_out t ∷ cycle_too_long t ∷ []

-- 5, 6 and 7
unfoldable pub plan_conditions : Plan → ℕ → List Condition
plan_conditions t room = copies_out t ∷ cycle_too_long t ∷ buffer_too_short room (image_length t) ∷ []
