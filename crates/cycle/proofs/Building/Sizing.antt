-- Sizing: what it answers under each condition, and the dimensions that judged figures have.
-- Assumes nothing.
use mathlib.Core.Path.{◌≡◌, refl, sym, ap, subst, ◌∙◌}
use Prim.Native.Nat.{ℕ, ◌≤◌, ◌<◌}
use mathlib.Core.Bool.{true, false}
use Rattle.std.specs.Prelude.{None, Some, Ok, Err}
use mathlib.Core.List.{[]}
use borrow.Author.Tests.{le-leb, lt-leb}
use Rattle.buckets.specs.Lengths.{lines_most, buckets_most}
use Rattle.cycle.specs.Tree.{plan_for, levels_most}
use Rattle.cycle.specs.declared.Settings.{Settings}
use Rattle.cycle.specs.Cycle.{cycle_size}
use Rattle.cycle.specs.Refusals.{refusal, first_refusal, outcome}
use Rattle.cycle.specs.Building.{settings_fit}
use Rattle.cycle.specs.Judging.{size_conditions}
use Rattle.cycle.specs.Size.{conditions, dimensions, size}
use Rattle.cycle.specs.declared.Figures.{Figures}
use Rattle.cycle.specs.declared.Refusal.{Refusal}
use Rattle.cycle.specs.Inner.Held.{plan_of, Shaped, sized}
use Rattle.cycle.specs.declared.Reason.TheVariants.{SettingsOut, LengthOut}
use Rattle.cycle.proofs.Trees.Readiness.{data_high, levels_are}
use Rattle.cycle.proofs.Basics.Conditions.{refused_by, passed_by, refuses_by, passes_by}
use Rattle.cycle.proofs.Building.Answering.{size_short}

-- ---- the conditions

module _ (s : Settings) (lines : ℕ) where
  pub refused_1 : settings_fit s ≡ false → first_refusal (conditions s lines) ≡ Some (refusal SettingsOut 0)
  unfolding conditions
  refused_1 e = rw e

  pub refused_2 : settings_fit s ≡ true → lines_most < lines → first_refusal (conditions s lines) ≡ Some (refusal LengthOut 0)
  unfolding conditions
  refused_2 e l = rw (e, lt-leb lines lines_most l)

  pub passed :
      settings_fit s ≡ true → lines ≤ lines_most →
      first_refusal (conditions s lines) ≡ first_refusal (size_conditions (plan_for s lines []))
  unfolding conditions size_conditions
  passed e l = rw (e, le-leb lines lines_most l)

  module _ (c : ℕ) where
    pub sizes_refusal : (r : Refusal) → first_refusal (conditions s lines) ≡ Some r → Err r ≡ size s lines c
    unfolding size
    sizes_refusal r e = refuses_by _ (dimensions (plan_for s lines []) c) r e

    pub sizes_cycle : first_refusal (conditions s lines) ≡ None → Ok (dimensions (plan_for s lines []) c) ≡ size s lines c
    unfolding size
    sizes_cycle e = passes_by _ (dimensions (plan_for s lines []) c) _ e refl

-- ---- judged figures

-- figures that can be measured
pub record Measured (f : Figures) : Type 0 where
  pub k_high : f.k ≤ levels_most
  pub d_high : f.d ≤ lines_most
  pub size_high : f.size ≤ buckets_most
  pub size_is : f.size ≡ cycle_size (plan_of f [])

-- those of a number of lines, within the ranges of 1 and 2
module _ (f : Figures) (shaped : Shaped f) (s : Settings) (lines : ℕ) (same : plan_of f [] ≡ plan_for s lines []) (one : settings_fit s ≡ true) (two : lines ≤ lines_most) where
  found : first_refusal (conditions s lines) ≡ first_refusal (size_conditions (plan_of f []))
  found = passed s lines one two ∙ sym (ap (λ t. first_refusal (size_conditions t)) same)

  module _ (c : ℕ) where
    pub judged_refused :
        (r : Refusal) → outcome (first_refusal (size_conditions (plan_of f []))) (sized f (cycle_size (plan_of f []))) ≡ Err r →
        Err r ≡ size s lines c
    judged_refused r h = sizes_refusal s lines c r (found ∙ refused_by _ (sized f (cycle_size (plan_of f []))) r h)

    pub judged_size :
        (g : Figures) → outcome (first_refusal (size_conditions (plan_of f []))) (sized f (cycle_size (plan_of f []))) ≡ Ok g →
        Measured g × (Ok (dimensions (plan_of g []) c) ≡ size s lines c)
    unfolding sized plan_of
    judged_size g h =
        let told = passed_by (first_refusal (size_conditions (plan_of f []))) (sized f (cycle_size (plan_of f []))) g h in
        subst
        (λ z. Measured z × (Ok (dimensions (plan_of z []) c) ≡ size s lines c))
        told.1 (
          record {
            k_high = (levels_are f shaped).high;
            d_high = data_high f shaped;
            size_high = size_short (plan_of f []) told.0;
            size_is = refl;
          },
          ap (λ t. Ok (dimensions t c)) same ∙ sizes_cycle s lines c (found ∙ told.0),
        )
