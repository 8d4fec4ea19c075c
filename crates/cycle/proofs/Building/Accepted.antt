-- What building accepts: the conditions 1 to 7 that do not hold, as facts of the plan, and what building then writes.
-- Assumes nothing.
use mathlib.Core.Path.{◌≡◌, refl, ◌∙◌}
use Prim.Native.Nat.{ℕ, ◌-◌, ◌/◌, ◌%◌, ◌≤◌, max}
use mathlib.Core.Bool.{true, ◌&&◌}
use Rattle.std.specs.Prelude.{None}
use mathlib.Core.List.{List, map}
use native.Mathlib.Omega.{arith}
use lib.Dec.{leb, eqb}
use lib.ListN.{length}
use borrow.Author.Tests.{leb-true, eqb-true}
use Rattle.columns.specs.Lists.{every, up}
use Rattle.columns.proofs.Strict.{both}
use Rattle.buckets.specs.ListLine.{fits, cut_lines, list_lines, whole_lines, misprint_from, fall_from}
use Rattle.buckets.specs.Bucket.{rising}
use Rattle.buckets.proofs.Lists.{length_list_lines, print_of_list, none_falls}
use Rattle.cycle.specs.Tree.{Plan, data_buckets, levels, plan}
use Rattle.cycle.specs.declared.Settings.{Settings}
use Rattle.cycle.specs.Building.{settings_fit, copies_fit}
use Rattle.cycle.specs.Inner.Held.{InRange}
use Rattle.cycle.specs.Inner.Settings.{SettingsFit}
use Rattle.cycle.proofs.Sequences.Sequence.{Sound}
use Rattle.cycle.proofs.Sequences.Keeping.{keeps}
use Rattle.cycle.proofs.Trees.TreeLaws.{up_at_most}
use Rattle.cycle.proofs.Trees.Levels.{levels_low, levels_hold, levels_lone}
use Rattle.cycle.proofs.Trees.Readiness.{path_facts, parts_facts}
use Rattle.cycle.proofs.Lines.Rising.{rising_tags}
use Rattle.cycle.proofs.Lines.DataTags.{AcceptedPlan}

-- ---- the conditions, as facts

pub settings_fit_lem : (s : Settings) → settings_fit s ≡ true → SettingsFit s
unfolding settings_fit
settings_fit_lem s h =
    let layouts = leb 1 s.layout && leb s.layout 2 in
    let p_most = leb s.p 8 && layouts in
    let ps = leb 1 s.p && p_most in
    let first = both (leb 2 s.n) (leb s.n 8 && ps) h in
    let second = both (leb s.n 8) ps first.1 in
    let third = both (leb 1 s.p) p_most second.1 in
    let fourth = both (leb s.p 8) layouts third.1 in
    let fifth = both (leb 1 s.layout) (leb s.layout 2) fourth.1 in
    record {
      n_low = leb-true 2 s.n first.0;
      n_high = leb-true s.n 8 second.0;
      p_low = leb-true 1 s.p third.0;
      p_high = leb-true s.p 8 fourth.0;
      layout_low = leb-true 1 s.layout fifth.0;
      layout_high = leb-true s.layout 2 fifth.1;
    }

-- 5 does not hold
pub record CopiesFit (t : Plan) : Type 0 where
  pub few_paths : t.layout ≡ 1 → t.copies ≤ 4
  pub paths_fit : t.layout ≡ 1 → t.copies ≤ t.k - 1
  pub parts_some : (t.layout ≡ 1 → ⊥) → 1 ≤ t.copies
  pub parts_fit : (t.layout ≡ 1 → ⊥) → t.copies ≤ max 1 t.d

pub copies_fit_lem : (t : Plan) → copies_fit t ≡ true → CopiesFit t
copies_fit_lem t h =
    record {
      few_paths = λ one. (path_facts t h one).0;
      paths_fit = λ one. (path_facts t h one).1;
      parts_some = λ other. (parts_facts t h other).0;
      parts_fit = λ other. (parts_facts t h other).1;
    }

-- 2 does not hold
pub whole_lines_lem : (c : ℕ) → whole_lines c ≡ true → (c % 27 ≡ 0) × (c / 27 ≤ 40000)
unfolding whole_lines
whole_lines_lem c h =
    let told = both (eqb (c % 27) 0) (leb (c / 27) 40000) h in
    (eqb-true (c % 27) 0 told.0, leb-true (c / 27) 40000 told.1)

-- ---- a plan that building can send

pub record Accepted (t : Plan) : Type 0 where
  pub sound : Sound t
  pub n_high : t.n ≤ 8
  pub p_high : t.p ≤ 8
  pub layout_low : 1 ≤ t.layout
  pub layout_high : t.layout ≤ 2
  pub few_paths : t.layout ≡ 1 → t.copies ≤ 4
  pub lines_fit : every fits t.lines ≡ true
  pub tags_rise : rising 0 (map (λ l. l.tag) t.lines) ≡ true
  pub few_lines_lem : length t.lines ≤ 40000
  pub d_is : t.d ≡ up (length t.lines) t.p
  pub k_is : t.k ≡ levels t.n t.d

-- a plan of settings and lines within their ranges
abbrev pub Ranged : Plan → Type 0
Ranged t = InRange t.n t.p t.layout (length t.lines) t.d t.k

module _ (t : Plan) (r : Ranged t) (fit : copies_fit t ≡ true) where
  pub few_data : t.d ≤ 40000
  few_data = omega (arith, r.lines_high, r.d_is, up_at_most (length t.lines) t.p r.p_low)

  pub ranged_sound : Sound t
  ranged_sound =
      let c = copies_fit_lem t fit in
      let low : 1 ≤ t.k = rw r.k_is (levels_low t.n t.d) in
      record {
        grows = r.n_low;
        full = r.p_low;
        levelled = low;
        holds = rw r.k_is (levels_hold t.n t.d r.n_low few_data);
        path_fits = λ e. omega (arith, c.paths_fit e);
        parts_some = c.parts_some;
        parts_fit = c.parts_fit;
      }

  pub ranged_accepted :
      every fits t.lines ≡ true → rising 0 (map (λ l. l.tag) t.lines) ≡ true → Accepted t
  ranged_accepted fine order =
      record {
        sound = ranged_sound;
        n_high = r.n_high;
        p_high = r.p_high;
        layout_low = r.layout_low;
        layout_high = r.layout_high;
        few_paths = (copies_fit_lem t fit).few_paths;
        lines_fit = fine;
        tags_rise = order;
        few_lines_lem = r.lines_high;
        d_is = r.d_is;
        k_is = r.k_is;
      }

-- ---- the plan of a list and settings

module _ (s : Settings) (list : List ℕ) (fit : settings_fit s ≡ true) (whole : whole_lines (length list) ≡ true) where
  pub plan_ranged : Ranged (plan s (list_lines list))
  unfolding plan data_buckets
  plan_ranged =
      let f = settings_fit_lem s fit in
      record {
        n_low = f.n_low;
        n_high = f.n_high;
        p_low = f.p_low;
        p_high = f.p_high;
        layout_low = f.layout_low;
        layout_high = f.layout_high;
        lines_high = rw length_list_lines (whole_lines_lem (length list) whole).1;
        d_is = refl;
        k_is = refl;
      }

  pub accepted_plan :
      misprint_from 0 (cut_lines list) ≡ None → fall_from 0 0 (list_lines list) ≡ None →
      copies_fit (plan s (list_lines list)) ≡ true → Accepted (plan s (list_lines list))
  unfolding plan
  accepted_plan read order h =
      ranged_accepted (plan s (list_lines list)) plan_ranged h
      (print_of_list list (whole_lines_lem (length list) whole).0 read).1
      (none_falls 0 0 (list_lines list) order)

-- ---- from it

module _ (t : Plan) (a : Accepted t) where
  pub lone_level : t.d ≡ 0 → t.k ≡ 1
  lone_level e = a.k_is ∙ levels_lone t.n t.d e

  pub laid : AcceptedPlan t
  laid =
      record {
        sound = a.sound;
        keeps = keeps t a.sound;
        rises = rising_tags 0 t.lines a.tags_rise;
        d_is = a.d_is;
        lone = lone_level;
      }
