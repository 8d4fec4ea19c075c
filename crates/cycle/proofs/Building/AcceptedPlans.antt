-- A list that can be sent, under figures of its length, has an accepted plan: each bucket of its cycle keeps the rules.
-- Assumes nothing.
use mathlib.Core.Path.{◌≡◌, refl, sym, ◌∙◌, subst}
use Prim.Native.Nat.{ℕ, ◌%◌}
use mathlib.Core.List.{List, []}
use native.Mathlib.Nat.{mul_comm, mul-mod_left, mul-div_cancel}
use lib.Dec.{lit<}
use lib.ListN.{length}
use Rattle.buckets.specs.declared.Line.{Line}
use Rattle.buckets.specs.ListLine.{list_lines}
use Rattle.buckets.specs.Lengths.{line_length}
use Rattle.buckets.proofs.Lists.{length_list_lines, print_of_list, none_falls}
use Rattle.cycle.specs.Building.{copies_fit}
use Rattle.cycle.specs.declared.Figures.{Figures}
use Rattle.cycle.specs.Inner.Held.{plan_of, InRange, Shaped, AcceptedList}
use Rattle.cycle.proofs.Building.Accepted.{Ranged, Accepted, ranged_accepted}
use Rattle.cycle.specs.Tree.{layout_number}

-- copies are held against D and k, whatever the lines
pub copies_shape : (f : Figures) (ls ms : List Line) → copies_fit (plan_of f ls) ≡ copies_fit (plan_of f ms)
unfolding copies_fit plan_of
copies_shape f ls ms = refl

pub shaped_ranged : (f : Figures) (ls : List Line) → Shaped f → length ls ≡ f.lines → Ranged (plan_of f ls)
unfolding plan_of
shaped_ranged f ls h e = subst (λ c. InRange f.n f.p (layout_number f.layout) c f.d f.k) (sym e) h

module _ (f : Figures) (list : List ℕ) (s : AcceptedList f list) where
  pub sending_lines : length (list_lines list) ≡ f.lines
  sending_lines =
      length_list_lines list ∙ rw (s.whole, mul_comm line_length f.lines) (mul-div_cancel f.lines (lit< tt))

  pub sending_accepted : Accepted (plan_of f (list_lines list))
  unfolding plan_of
  sending_accepted =
      let whole : length list % line_length ≡ 0 = rw (s.whole, mul_comm line_length f.lines) (mul-mod_left f.lines line_length) in
      ranged_accepted (plan_of f (list_lines list)) (shaped_ranged f (list_lines list) s.ready.shaped sending_lines)
      (copies_shape f (list_lines list) [] ∙ s.ready.copies_fit_lem)
      (print_of_list list whole s.printed).1
      (none_falls 0 0 (list_lines list) s.rising)
