-- Lines with one arrived or one taken out: where it stands, and which it was. Then both, one after the other.
-- Assumes nothing.
use mathlib.Core.Path.{◌≡◌, refl, sym, ap, ap₂, ◌∙◌, subst}
use Prim.Native.Nat.{ℕ, ◌≤◌, ◌<◌}
use native.Mathlib.Omega.{arith}
use mathlib.Core.Bool.{Bool, true, false, ◌&&◌, ◌||◌, true≢false}
use mathlib.Core.List.{List, [], ◌∷◌, ◌++◌, map, map-append}
use lib.Dec.{leb, ltb, eqb}
use borrow.Author.Tests.{ltb-true, ltb-false, leb-true, lt-ltb, le-ltb, le-leb, eqb-true, eq-eqb}
use Rattle.columns.specs.Lists.{pick, every, any}
use Rattle.columns.proofs.Strict.{both}
use Rattle.buckets.specs.declared.Line.{Line}
use Rattle.buckets.specs.ListLine.{spelled}
use Rattle.cycle.specs.Changes.{arrived, same_numbers, equals, taken_out}
use Rattle.cycle.specs.ComingAndGoing.{PutBehind, FirstGone, MovedBehind}
use Rattle.cycle.proofs.Lines.Rising.{Rising, rising_front}

-- ---- equal lines

pub same_line : (a b : Line) → same_numbers a b ≡ true → a ≡ b
unfolding same_numbers
same_line a b h =
    let last : Bool = eqb a.weighing b.weighing in
    let behind : Bool = eqb a.code b.code && last in
    let tags = both (eqb a.tag b.tag) (eqb a.tare b.tare && behind) h in
    let tares = both (eqb a.tare b.tare) behind tags.1 in
    let codes = both (eqb a.code b.code) last tares.1 in
    let tag = eqb-true a.tag b.tag tags.0 in
    let tare = eqb-true a.tare b.tare tares.0 in
    let code = eqb-true a.code b.code codes.0 in
    let weighing = eqb-true a.weighing b.weighing codes.1 in
    λ i. record { tag = tag i; tare = tare i; code = code i; weighing = weighing i }

pub same_self : (a : Line) → same_numbers a a ≡ true
unfolding same_numbers
same_self a = rw (eq-eqb a.tag a.tag refl, eq-eqb a.tare a.tare refl, eq-eqb a.code a.code refl, eq-eqb a.weighing a.weighing refl)

-- a test of each outcome of g
every_mapped : {A B : Type 0} (f : B → Bool) (g : A → B) (xs : List A) → every f (map g xs) ≡ every (λ x. f (g x)) xs
every_mapped f g [] = refl
every_mapped f g (x ∷ xs) = ap (λ b. f (g x) && b) (every_mapped f g xs)

module _ (given : List ℕ) where
  abbrev tag : ℕ
  tag = (spelled given).tag

  -- ---- arrived, or taken out

  over_all : (m : ℕ) (ss : List (List ℕ)) → tag < m → Rising m (map spelled ss) → every (λ s. ltb tag (spelled s).tag) ss ≡ true
  over_all m [] h r = refl
  over_all m (s ∷ ss) h r =
      rw (lt-ltb tag (spelled s).tag (omega (arith, r.0))) (over_all (spelled s).tag ss (omega (arith, r.0)) r.1)

  pub put_behind : (m : ℕ) (ss : List (List ℕ)) → Rising m (map spelled ss) → PutBehind given ss (arrived given ss)
  put_behind m [] r = record { front = []; rest = []; was = refl; is = refl; tag_at_most = refl; tag_greater = refl }
  put_behind m (s ∷ ss) r = go (ltb tag (spelled s).tag) refl (put_behind (spelled s).tag ss r.1)
    where
      go : (b : Bool) → ltb tag (spelled s).tag ≡ b → PutBehind given ss (arrived given ss) →
          PutBehind given (s ∷ ss) (pick b (given ∷ (s ∷ ss)) (s ∷ arrived given ss))
      go true k put =
          record {
            front = [];
            rest = s ∷ ss;
            was = refl;
            is = refl;
            tag_at_most = refl;
            tag_greater = rw k (over_all (spelled s).tag ss (ltb-true tag (spelled s).tag k) r.1);
          }
      go false k put =
          record {
            front = s ∷ put.front;
            rest = put.rest;
            was = ap (λ (ls : List (List ℕ)). s ∷ ls) put.was;
            is = ap (λ (ls : List (List ℕ)). s ∷ ls) put.is;
            tag_at_most = rw (le-leb (spelled s).tag tag (ltb-false tag (spelled s).tag k)) put.tag_at_most;
            tag_greater = put.tag_greater;
          }

  pub first_gone : (ss : List (List ℕ)) → any (equals given) ss ≡ true → FirstGone given ss (taken_out given ss)
  unfolding equals
  first_gone [] h = absurd (true≢false (sym h))
  first_gone (s ∷ ss) h = go (equals given s) refl (first_gone ss) h
    where
      go : (b : Bool) → equals given s ≡ b → (any (equals given) ss ≡ true → FirstGone given ss (taken_out given ss)) →
          b || any (equals given) ss ≡ true → FirstGone given (s ∷ ss) (pick b ss (s ∷ taken_out given ss))
      go true e rec k =
          record {
            front = [];
            line = s;
            rest = ss;
            was = refl;
            is = refl;
            numbers_equal = sym (same_line (spelled given) (spelled s) e);
            first = refl;
          }
      go false e rec k =
          let gone = rec k in
          record {
            front = s ∷ gone.front;
            line = gone.line;
            rest = gone.rest;
            was = ap (λ (ls : List (List ℕ)). s ∷ ls) gone.was;
            is = ap (λ (ls : List (List ℕ)). s ∷ ls) gone.is;
            numbers_equal = gone.numbers_equal;
            first = rw e gone.first;
          }

  -- ---- arrived, then taken out

  pub taken_arrived : (ss : List (List ℕ)) → any (equals given) ss ≡ false → taken_out given (arrived given ss) ≡ ss
  unfolding equals
  taken_arrived [] h = rw (same_self (spelled given))
  taken_arrived (s ∷ ss) h = go (ltb tag (spelled s).tag) (equals given s) refl (taken_arrived ss) h
    where
      go : (over same : Bool) → equals given s ≡ same → (any (equals given) ss ≡ false → taken_out given (arrived given ss) ≡ ss) →
          same || any (equals given) ss ≡ false → taken_out given (pick over (given ∷ (s ∷ ss)) (s ∷ arrived given ss)) ≡ s ∷ ss
      go true same e rest k = rw (same_self (spelled given))
      go false true e rest k = absurd (true≢false k)
      go false false e rest k = rw e (ap (λ (r : List (List ℕ)). s ∷ r) (rest k))

  -- ---- taken out, then arrived

  -- lines of no smaller tag that are of no greater one have this very tag
  same_tags_lem :
      (m : ℕ) (ss : List (List ℕ)) → tag ≤ m → Rising m (map spelled ss) → every (λ s. leb (spelled s).tag tag) ss ≡ true →
      every (λ l. eqb l.tag tag) (map spelled ss) ≡ true
  same_tags_lem m [] h r low = refl
  same_tags_lem m (s ∷ ss) h r low =
      let told = both (leb (spelled s).tag tag) (every (λ x. leb (spelled x).tag tag) ss) low in
      let here : (spelled s).tag ≡ tag = omega (arith, r.0, leb-true (spelled s).tag tag told.0) in
      rw (eq-eqb (spelled s).tag tag here) (same_tags_lem (spelled s).tag ss (omega (arith, here)) r.1 told.1)

  -- an equal line further on has no smaller tag
  reaches : (m : ℕ) (ss : List (List ℕ)) → Rising m (map spelled ss) → any (equals given) ss ≡ true → m ≤ tag
  unfolding equals
  reaches m [] r h = absurd (true≢false (sym h))
  reaches m (s ∷ ss) r h = go (equals given s) refl (reaches (spelled s).tag ss r.1) h
    where
      go : (b : Bool) → equals given s ≡ b → (any (equals given) ss ≡ true → (spelled s).tag ≤ tag) → b || any (equals given) ss ≡ true → m ≤ tag
      go true e rest k = omega (arith, r.0, ap (λ (l : Line). l.tag) (same_line (spelled given) (spelled s) e))
      go false e rest k = omega (arith, r.0, rest k)

  pub moved_behind :
      (m : ℕ) (ss : List (List ℕ)) → Rising m (map spelled ss) → any (equals given) ss ≡ true →
      MovedBehind (spelled given) (map spelled ss) (map spelled (arrived given (taken_out given ss)))
  unfolding equals
  moved_behind m [] r h = absurd (true≢false (sym h))
  moved_behind m (s ∷ ss) r h = go (equals given s) refl (moved_behind (spelled s).tag ss r.1) h
    where
      go : (b : Bool) → equals given s ≡ b →
          (any (equals given) ss ≡ true → MovedBehind (spelled given) (map spelled ss) (map spelled (arrived given (taken_out given ss)))) →
          b || any (equals given) ss ≡ true →
          MovedBehind (spelled given) (map spelled (s ∷ ss)) (map spelled (arrived given (pick b ss (s ∷ taken_out given ss))))
      go true e rest k =
          let same : spelled given ≡ spelled s = same_line (spelled given) (spelled s) e in
          let put = put_behind (spelled s).tag ss r.1 in
          let parted : map spelled ss ≡ map spelled put.front ++ map spelled put.rest =
          ap (map spelled) put.was ∙ map-append spelled put.front put.rest in
          let rises : Rising (spelled s).tag (map spelled put.front) =
          rising_front (spelled s).tag (map spelled put.front) (map spelled put.rest) (subst (Rising (spelled s).tag) parted r.1) in
          record {
            front = [];
            same_tag = map spelled put.front;
            greater = map spelled put.rest;
            was = ap₂ {C = List Line} ◌∷◌ (sym same) parted;
            is = ap (map spelled) put.is ∙ map-append spelled put.front (given ∷ put.rest);
            first = refl;
            tag_same = same_tags_lem (spelled s).tag put.front (omega (arith, ap (λ (l : Line). l.tag) same)) rises put.tag_at_most;
            tag_greater = every_mapped (λ l. ltb tag l.tag) spelled put.rest ∙ put.tag_greater;
          }
      go false e rest k =
          let moved = rest k in
          let up : (spelled s).tag ≤ tag = reaches (spelled s).tag ss r.1 k in
          record {
            front = spelled s ∷ moved.front;
            same_tag = moved.same_tag;
            greater = moved.greater;
            was = ap (λ (ls : List Line). spelled s ∷ ls) moved.was;
            is = rw (le-ltb tag (spelled s).tag up) (ap (λ (ls : List Line). spelled s ∷ ls) moved.is);
            first = rw e moved.first;
            tag_same = moved.tag_same;
            tag_greater = moved.tag_greater;
          }
