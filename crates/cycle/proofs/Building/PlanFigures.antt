-- Figures and plans: the plan of settings and lines is that of their figures, and figures with their size are those of the plan.
-- Assumes nothing.
use mathlib.Core.Path.{◌≡◌, refl, sym, ap, ap₂, subst, ◌∙◌}
use mathlib.Core.Bool.{true}
use Prim.Native.Nat.{ℕ, ◌^◌}
use mathlib.Core.List.{List, []}
use lib.ListN.{length}
use Rattle.columns.specs.Lists.{up}
use Rattle.buckets.specs.declared.Line.{Line}
use Rattle.cycle.specs.Tree.{data_buckets, levels, plan_for, plan}
use Rattle.cycle.specs.declared.Settings.{Settings}
use Rattle.cycle.specs.Cycle.{cycle_size}
use Rattle.cycle.specs.Judging.{figures_of}
use Rattle.cycle.specs.declared.Figures.{Figures}
use Rattle.cycle.specs.declared.measures.Fitted.{Fitted}
use Rattle.cycle.specs.Building.{copies_fit}
use Rattle.cycle.specs.Judging.{full_size, tree_height, last_place, last_tree}
use Rattle.cycle.specs.Inner.Held.{plan_of, sized}
use Rattle.cycle.specs.Inner.Settings.{Figured}
use Rattle.cycle.proofs.Basics.LayoutKinds.{kind_named}
use Rattle.cycle.proofs.Trees.Shapes.{tree_at_shape}
use Rattle.cycle.proofs.Building.AcceptedLists.{size_shape}

-- figures of settings and of a number of lines are its plan's
pub plan_for_lem : (s : Settings) (f : Figures) (c : ℕ) (ls : List Line) → Figured s f → c ≡ f.lines → plan_of f ls ≡ plan_for s c ls
unfolding plan_of data_buckets
plan_for_lem s f c ls g e =
    let count : f.d ≡ up c s.p = g.shaped.d_is ∙ ap₂ up (sym e) g.p_is in
    let deep : f.k ≡ levels s.n (up c s.p) = g.shaped.k_is ∙ ap₂ levels g.n_is count in
    λ i. record { n = g.n_is i; p = g.p_is i; layout = g.layout_is i; copies = g.copies_is i; lines = ls; d = count i; k = deep i }

-- those of a list's length are its plan's
pub plan_same : (s : Settings) (f : Figures) (ls : List Line) → Figured s f → length ls ≡ f.lines → plan_of f ls ≡ plan s ls
unfolding plan
plan_same s f ls = plan_for_lem s f (length ls) ls

-- N of figures with their size
pub size_held : (f : Figures) (m : ℕ) → (sized f m).size ≡ m
unfolding sized
size_held f m = refl

-- figures that were held against condition 5, and passed
module _ (fitted : Fitted) {f : Figures} (same : fitted.f.now ≡ f) where
  pub copies_passed : copies_fit (plan_of f []) ≡ true
  copies_passed = subst (λ g. copies_fit (plan_of g []) ≡ true) same fitted.copies_in

  -- and those with their size
  pub sized_of : {g : Figures} → g ≡ sized fitted.f.now (cycle_size (plan_of fitted.f.now [])) → g ≡ sized f (cycle_size (plan_of f []))
  sized_of e = e ∙ ap (λ h. sized h (cycle_size (plan_of h []))) same

-- the last segment's tree does not look at the lines
pub last_shape : (f : Figures) (ls ms : List Line) → last_tree (plan_of f ls) ≡ last_tree (plan_of f ms)
unfolding last_tree plan_of
last_shape f ls ms =
    let e : ℕ = tree_height (plan_of f ls) in
    ap length (tree_at_shape f ls ms e (last_place f.d (f.n ^ e)))

-- figures with their size are those of the plan over any lines of that number
pub sized_figures :
    (f : Figures) (ls : List Line) → f.lines ≡ length ls → sized f (cycle_size (plan_of f [])) ≡ figures_of (plan_of f ls)
unfolding sized figures_of plan_of
sized_figures f ls e =
    λ i.
    record {
      n = f.n;
      p = f.p;
      layout = sym (kind_named f.layout) i;
      copies = f.copies;
      lines = e i;
      d = f.d;
      k = f.k;
      size = size_shape f [] ls i;
      span = f.n ^ tree_height (plan_of f []);
      full = full_size f.n (tree_height (plan_of f []));
      last = last_shape f [] ls i;
    }
