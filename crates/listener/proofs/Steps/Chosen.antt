-- The choice from an index bucket by distances: that of the first item that passes.
-- Assumes nothing.
use mathlib.Core.Path.{◌≡◌, refl, ◌∙◌, ap}
use mathlib.Core.Bool.{Bool, true, false}
use Rattle.std.specs.Prelude.{Option, None, Some}
use mathlib.Core.List.{List, [], ◌∷◌}
use Prim.Native.Nat.{ℕ, ◌≤◌}
use native.Mathlib.Omega.{arith}
use lib.Dec.{leb}
use lib.ListN.{drop}
use borrow.Author.Tests.{leb-true}
use Rattle.columns.specs.Lists.{pick, every}
use Rattle.columns.proofs.Strict.{both}
use Rattle.buckets.specs.Lengths.{buckets_most}
use Rattle.buckets.specs.declared.Pair.{Pair}
use Rattle.buckets.specs.declared.Entry.{Entry}
use Rattle.listener.specs.Listener.{Choice, dozes, misses, tag_below, at_most, entry_choice, later_choice, index_choice}
use Rattle.listener.specs.Inner.OnReading.{chosen, first_chosen}
use Rattle.listener.specs.declared.Phase.{Phase}
use Rattle.listener.specs.declared.Phase.TheVariants.{Index, Either}

-- ---- what is chosen is near

pub chosen_near :
    {A : Type 0} (f : A → Bool) (distance : A → ℕ) (xs : List A) → every (λ x. leb (distance x) buckets_most) xs ≡ true →
    {d : ℕ} → Some d ≡ chosen f distance xs → d ≤ buckets_most
chosen_near f distance [] h e = absurd (let z : ◌≡◌ {A = ℕ} 0 1 = cc in omega arith)
chosen_near f distance (x ∷ xs) h {d} e =
    let told = both (leb (distance x) buckets_most) (every (λ y. leb (distance y) buckets_most) xs) h in
    passed (f x) (leb-true (distance x) buckets_most told.0) (λ k. chosen_near f distance xs told.1 k) e
  where
    passed :
        (t : Bool) → distance x ≤ buckets_most → (Some d ≡ chosen f distance xs → d ≤ buckets_most) →
        Some d ≡ pick t (Some (distance x)) (chosen f distance xs) → d ≤ buckets_most
    passed true near rest k = let is : d ≡ distance x = cc in omega arith
    passed false near rest k = rest k

pub first_near : (tag : ℕ) (ps : List Pair) → every (λ p. leb p.distance buckets_most) ps ≡ true → {d : ℕ} → Some d ≡ first_chosen tag ps → d ≤ buckets_most
first_near tag [] h e = absurd (let z : ◌≡◌ {A = ℕ} 0 1 = cc in omega arith)
first_near tag (p ∷ ps) h {d} e = passed (at_most tag p.tag) e
  where
    passed : (t : Bool) → Some d ≡ pick t (Some p.distance) None → d ≤ buckets_most
    passed true k = let is : d ≡ p.distance = cc in omega (arith, leb-true p.distance buckets_most (both (leb p.distance buckets_most) (every (λ q. leb q.distance buckets_most) ps) h).0)
    passed false k = absurd (let z : ◌≡◌ {A = ℕ} 0 1 = cc in omega arith)

-- ---- the choice

-- doze by a distance, or the other choice where there is none
abbrev pub dozes_or : Option ℕ → Phase → Choice → Choice
dozes_or None p rest = rest
dozes_or (Some d) p rest = dozes d p 0 0

turn : (t : Bool) (d : ℕ) (o : Option ℕ) (p : Phase) (rest : Choice) → pick t (dozes d p 0 0) (dozes_or o p rest) ≡ dozes_or (pick t (Some d) o) p rest
turn true d o p rest = refl
turn false d o p rest = refl

module _ (tag : ℕ) where
  pub entry_chosen : (es : List Entry) → entry_choice tag es ≡ dozes_or (chosen (λ e. leb tag e.tag) (λ e. e.distance) es) Either misses
  entry_chosen [] = refl
  entry_chosen (e ∷ es) =
      ap (pick (leb tag e.tag) (dozes e.distance Either 0 0)) (entry_chosen es)
      ∙ turn (leb tag e.tag) e.distance (chosen (λ x. leb tag x.tag) (λ x. x.distance) es) Either misses

  module _ (es : List Entry) where
    pub later_chosen :
        (ps : List Pair) →
        later_choice tag ps es ≡ dozes_or (chosen (λ p. tag_below p.tag tag) (λ p. p.distance) ps) Index (entry_choice tag es)
    later_chosen [] = refl
    later_chosen (p ∷ ps) =
        ap (pick (tag_below p.tag tag) (dozes p.distance Index 0 0)) (later_chosen ps)
        ∙ turn (tag_below p.tag tag) p.distance (chosen (λ q. tag_below q.tag tag) (λ q. q.distance) ps) Index (entry_choice tag es)

    -- an index bucket's choice: the first pair, a later one, an entry
    pub index_chosen :
        (ps : List Pair) →
        index_choice tag ps es ≡
        dozes_or (first_chosen tag ps) Index
        (dozes_or (chosen (λ p. tag_below p.tag tag) (λ p. p.distance) (drop 1 ps)) Index
        (dozes_or (chosen (λ e. leb tag e.tag) (λ e. e.distance) es) Either misses))
    index_chosen [] = entry_chosen es
    index_chosen (p ∷ ps) =
        let later = later_chosen ps ∙ ap (dozes_or (chosen (λ q. tag_below q.tag tag) (λ q. q.distance) ps) Index) (entry_chosen es) in
        ap (pick (at_most tag p.tag) (dozes p.distance Index 0 0)) later
        ∙ turn (at_most tag p.tag) p.distance None Index
        (dozes_or (chosen (λ q. tag_below q.tag tag) (λ q. q.distance) ps) Index
        (dozes_or (chosen (λ e. leb tag e.tag) (λ e. e.distance) es) Either misses))
