-- `all` over a range, and what its closure decides of each number there.
-- Assumes nothing.
use mathlib.Core.Path.{◌≡◌, refl, subst}
use mathlib.Core.Bool.{Bool, true, false}
use mathlib.Core.List.{List}
use Prim.Native.Nat.{ℕ, ◌+◌, ◌-◌, ◌≤◌, ◌<◌}
use native.Mathlib.Omega.{arith}
use lib.ListN.{length, get_or}
use denote.Param.Members.{Mut}
use Rattle.std.proofs.iter.Yields.{nat_range_steps}
use Rattle.std.proofs.lemmas.Iterator.{YieldsList-from_range, cases_from_all}
use Rattle.std.proofs.lemmas.List.FromFn.{length-range_with_len, get_or-range_with_len}
use Rattle.std.specs.Bool.{MatchBool}
use Rattle.std.specs.Fn.{Called}
use Rattle.std.specs.Iterator.{YieldsThen}
use Rattle.std.specs.List.{FoldsTo, range_with_len, AllWithin, HoldsAt}
use Rattle.std.specs.Option.{MatchOption}
use Rattle.std.specs.declared.option.Option.{Option}
use Rattle.std.specs.declared.ops.Range.{Range}
use Rattle.cycle.specs.Inner.Comparing.{Decides}
use Rattle.cycle.proofs.Basics.Deciding.{decides_yes, decides_no}

-- the statement of each number of a range
pub record Each (P : ℕ → Type 0) (a b : ℕ) : Type 0 where
  pub at : (k : ℕ) → a ≤ k → k < b → P k

-- what the closure's answer tells of one number
pub record Tells (Yes No : Type 0) (b : Bool) : Type 0 where
  pub yes : b ≡ true → Yes
  pub no : b ≡ false → No

pub tells : {P : Type 0} {b : Bool} → Decides P b → Tells P (P → ⊥) b
tells d = record { yes = d.yes; no = d.no }

module _ (Yes No : ℕ → Type 0) (Q : Type 0) (a b : ℕ) (all : Each Yes a b → Q) (none : (k : ℕ) → a ≤ k → k < b → No k → Q → ⊥) where
  abbrev numbers : List ℕ
  numbers = range_with_len a (b - a)

  listed :
      (r : Bool) → MatchBool r (AllWithin Yes numbers 0 (length numbers)) ((k : ℕ) × (k < length numbers) × HoldsAt No numbers k) → Decides Q r
  listed true h =
      decides_yes
      (all
      record {
        at = λ k low high.
            let i : k - a < b - a = omega arith in
            let here : get_or numbers (k - a) 0 ≡ k = omega (arith, get_or-range_with_len a (b - a) (k - a) 0 i) in
            subst Yes here (h (k - a) 0 (omega arith) (omega (arith, length-range_with_len a (b - a))));
      })
  listed false h =
      decides_no
      (let i : h.0 < b - a = omega (arith, length-range_with_len a (b - a), h.1) in
      none (a + h.0) (omega arith) (omega arith) (subst No (get_or-range_with_len a (b - a) h.0 0 i) (h.2 0)))

pub decides_by_all :
    {F : Type 0} {g : Mut F (ℕ × Unit {0}) Bool} {s u : Range ℕ} {f : F} {r : Bool} (Yes No : ℕ → Type 0) (Q : Type 0) →
    (xs : List ℕ) × (o : Option ℕ) × (j : F) × YieldsThen nat_range_steps s xs o u × FoldsTo (λ p x q. Called g p (x, tt) true q) f xs j ×
    MatchOption o (r ≡ true) (λ x. (r ≡ false) × ((h : F) × Called g j (x, tt) false h)) →
    ((x : ℕ) (b : Bool) (q : F) → Called g f (x, tt) b q → (q ≡ f) × Tells (Yes x) (No x) b) → (Each Yes s.start s.end → Q) →
    ((k : ℕ) → s.start ≤ k → k < s.end → No k → Q → ⊥) → Decides Q r
decides_by_all {s} {u} {f} {r} Yes No Q ran each all none =
    listed Yes No Q s.start s.end all none r
    (cases_from_all u f r Yes No ran (YieldsList-from_range s.start s.end (s.end - s.start) refl refl)
    (λ x q k. let e = each x true q k in (e.0, e.1.yes refl))
    (λ x q k. (each x false q k).1.no refl))
