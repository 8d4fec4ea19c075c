-- Conditions in their order: what is known where none of them holds, how a second list of them follows a first, and what an answer
-- by them tells.
-- Assumes nothing.
use mathlib.Core.Path.{◌≡◌, refl, sym, ap, ◌∙◌}
use Prim.Native.Nat.{ℕ}
use native.Mathlib.Omega.{arith}
use mathlib.Core.Bool.{Bool, true, false, ◌||◌, not, true≢false}
use Rattle.std.specs.Prelude.{Option, None, Some, Ok, Err}
use mathlib.Core.List.{List, [], ◌∷◌, ◌++◌}
use lib.Dec.{eqb}
use borrow.Author.Tests.{eq-eqb}
use Rattle.columns.specs.Lists.{pick, every}
use Rattle.columns.proofs.Strict.{both}
use Rattle.buckets.specs.ListLine.{taken}
use Rattle.cycle.specs.Refusals.{number, Condition, refusal, refusal_from, first_refusal, outcome}
use Rattle.cycle.specs.declared.Reason.{Reason}
use Rattle.cycle.specs.declared.Refusal.{Refusal}

pub some_not_none : {r : Refusal} {A : Type 0} → Some r ≡ None → A
some_not_none h = let z : ◌≡◌ {A = ℕ} 0 1 = cc in absurd (omega arith)

pub none_not_some : {r : Refusal} {A : Type 0} → None ≡ Some r → A
none_not_some h = let z : ◌≡◌ {A = ℕ} 0 1 = cc in absurd (omega arith)

-- where none holds, the first does not, and none of the later ones
pub record NoneHolds (c : Condition) (later : List Condition) : Type 0 where
  pub first : c.holds ≡ None
  pub others : first_refusal later ≡ None

pub none_holds : (c : Condition) (later : List Condition) → first_refusal (c ∷ later) ≡ None → NoneHolds c later
none_holds c later h = let told = from later c.reason c.holds h in record { first = told.0; others = told.1 }
  where
    from : (later : List Condition) (reason : Reason) (o : Option ℕ) → refusal_from later reason o ≡ None →
        (o ≡ None) × (first_refusal later ≡ None)
    from [] reason None h = (refl, refl)
    from [] reason (Some place) h = some_not_none h
    from (c ∷ later) reason None h = (refl, h)
    from (c ∷ later) reason (Some place) h = some_not_none h

-- a test that names no place
pub test_fails : (test : Bool) → pick {A = Option ℕ} test (Some 0) None ≡ None → test ≡ false
test_fails true h = let z : ◌≡◌ {A = ℕ} 0 1 = cc in absurd (omega arith)
test_fails false h = refl

-- ---- two lists of conditions

-- where none of the first list holds, the second decides
pub none_before : (cs ds : List Condition) → first_refusal cs ≡ None → first_refusal (cs ++ ds) ≡ first_refusal ds
none_before [] ds h = refl
none_before (c ∷ cs) ds h = from cs ds c.reason c.holds h
  where
    from : (cs ds : List Condition) (reason : Reason) (o : Option ℕ) → refusal_from cs reason o ≡ None →
        refusal_from (cs ++ ds) reason o ≡ first_refusal ds
    from [] [] reason None h = refl
    from [] (d ∷ ds) reason None h = refl
    from [] ds reason (Some place) h = some_not_none h
    from (c ∷ cs) ds reason None h = from cs ds c.reason c.holds h
    from (c ∷ cs) ds reason (Some place) h = some_not_none h

-- a refusal by the first list stands
pub first_stands : (cs ds : List Condition) (r : Refusal) → first_refusal cs ≡ Some r → first_refusal (cs ++ ds) ≡ Some r
first_stands [] ds r h = none_not_some h
first_stands (c ∷ cs) ds r h = from cs ds c.reason c.holds h
  where
    from : (cs ds : List Condition) (reason : Reason) (o : Option ℕ) → refusal_from cs reason o ≡ Some r →
        refusal_from (cs ++ ds) reason o ≡ Some r
    from [] [] reason o h = h
    from [] (d ∷ ds) reason None h = none_not_some h
    from [] (d ∷ ds) reason (Some place) h = h
    from (c ∷ cs) ds reason None h = from cs ds c.reason c.holds h
    from (c ∷ cs) ds reason (Some place) h = h

-- where none of two lists holds, none of either does
pub none_both : (cs ds : List Condition) → first_refusal (cs ++ ds) ≡ None → (first_refusal cs ≡ None) × (first_refusal ds ≡ None)
none_both [] ds h = (refl, h)
none_both (c ∷ cs) ds h =
    let told = none_holds c (cs ++ ds) h in
    let rest = none_both cs ds told.others in
    (none_after cs c.reason c.holds told.first rest.0, rest.1)
  where
    none_after : (cs : List Condition) (reason : Reason) (o : Option ℕ) → o ≡ None → first_refusal cs ≡ None → refusal_from cs reason o ≡ None
    none_after [] reason o e h = rw e
    none_after (c ∷ cs) reason o e h = rw e h

-- ---- the reason of a refusal

-- a condition has another reason, or does not hold
abbrev pub spares : Reason → Condition → Bool
spares reason c = not (eqb (number c.reason) (number reason)) || not (taken c.holds)

abbrev number_of : Option Refusal → ℕ
number_of None = 0
number_of (Some r) = number r.reason

-- no refusal has a reason that all conditions spare
pub never_by : (reason : Reason) (cs : List Condition) (place : ℕ) → every (spares reason) cs ≡ true → first_refusal cs ≡ Some (refusal reason place) → ⊥
never_by reason [] place e h = none_not_some h
never_by reason (c ∷ cs) place e h =
    let told = both (spares reason c) (every (spares reason) cs) e in
    from cs c.reason c.holds told.0 (never_by reason cs place told.1) h
  where
    from : (cs : List Condition) (x : Reason) (o : Option ℕ) → spares reason (record { reason = x; holds = o }) ≡ true →
        (first_refusal cs ≡ Some (refusal reason place) → ⊥) → refusal_from cs x o ≡ Some (refusal reason place) → ⊥
    from [] x None e rest h = rest h
    from (c ∷ cs) x None e rest h = rest h
    from [] x (Some y) e rest h = true≢false (sym (rw (eq-eqb (number x) (number reason) (ap number_of h)) at e))
    from (c ∷ cs) x (Some y) e rest h = true≢false (sym (rw (eq-eqb (number x) (number reason) (ap number_of h)) at e))

-- ---- an answer

-- what an answer tells of the refusal by its conditions
module _ {A : Type 0} where
  pub refused_by : (o : Option Refusal) (a : A) (r : Refusal) → outcome o a ≡ Err r → o ≡ Some r
  refused_by None a r h = let z : ◌≡◌ {A = ℕ} 0 1 = cc in absurd (omega arith)
  refused_by (Some q) a r h = let same : q ≡ r = cc in ap Some same

  pub passed_by : (o : Option Refusal) (a b : A) → outcome o a ≡ Ok b → (o ≡ None) × (a ≡ b)
  passed_by None a b h = (refl, cc)
  passed_by (Some q) a b h = let z : ◌≡◌ {A = ℕ} 0 1 = cc in absurd (omega arith)

  -- and back
  pub refuses_by : (o : Option Refusal) (a : A) (r : Refusal) → o ≡ Some r → Err r ≡ outcome o a
  refuses_by o a r e = sym (ap (λ q. outcome q a) e)

  pub passes_by : (o : Option Refusal) (a b : A) → o ≡ None → b ≡ a → Ok b ≡ outcome o a
  passes_by o a b e same = ap Ok same ∙ sym (ap (λ q. outcome q a) e)
