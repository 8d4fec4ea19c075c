-- Settings within their ranges, and the figures that they give.
-- Assumes nothing.
use Rattle.std.specs.Prelude.{◌≡◌, ◌≤◌}
use Rattle.cycle.specs.declared.Settings.{Settings}
use Rattle.cycle.specs.declared.Figures.{Figures}
use Rattle.cycle.specs.Tree.{layout_number}
use Rattle.cycle.specs.Inner.Held.{Shaped}

-- 1 does not hold
pub record SettingsFit (s : Settings) : Type 0 where
  pub n_low : 2 ≤ s.n
  pub n_high : s.n ≤ 8
  pub p_low : 1 ≤ s.p
  pub p_high : s.p ≤ 8
  pub layout_low : 1 ≤ s.layout
  pub layout_high : s.layout ≤ 2

-- figures that settings and a number of lines give
pub record Figured (s : Settings) (f : Figures) : Type 0 where
  pub shaped : Shaped f
  pub n_is : f.n ≡ s.n
  pub p_is : f.p ≡ s.p
  pub layout_is : layout_number f.layout ≡ s.layout
  pub copies_is : f.copies ≡ s.copies
