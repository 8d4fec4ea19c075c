-- A path begins on the level where the bucket has a sibling before it, or on the root's.
use Rattle.std.proofs.Common.{◌≡◌, [], ℕ, suc, Bool, true, false, refl, sym, ap, ◌∙◌, ◌+◌, ◌-◌, ◌/◌, ◌%◌, ◌≤◌, ◌<◌, eqb, arith, eq-eqb, ne_eqb, ⊎_elim}
use Rattle.std.proofs.Math.Nat.{eq-zero-or-pos}
use Rattle.columns.specs.Lists.{pick}
use Rattle.cycle.specs.Inner.Held.{plan_of}
use Rattle.cycle.proofs.Trees.Readiness.{path_facts}
use Rattle.cycle.proofs.Sequences.PathSizes.{top_of, path_top_divides}
use Rattle.cycle.proofs.Cycle.path_top.Goals as goal

top_here : (n level place : ℕ) → 1 < level → (place % n ≡ 0 → ⊥) → top_of n level place ≡ level
top_here n level place l f = let e : level ≡ suc (level - 1) = omega arith in ap (λ x. top_of n x place) e ∙ rw (ne_eqb (place % n) 0 f) (sym e)

top_above : (n level place : ℕ) → 1 < level → place % n ≡ 0 → top_of n level place ≡ top_of n (level - 1) (place / n)
top_above n level place l z = let e : level ≡ suc (level - 1) = omega arith in ap (λ x. top_of n x place) e ∙ rw (eq-eqb (place % n) 0 z)

top_root : (n level place : ℕ) → level ≤ 1 → top_of n level place ≡ 1
top_root n level place l =
    ⊎_elim
    (λ (z : level ≡ 0). rw z)
    (λ (u : 0 < level).
    let e : level ≡ 1 = omega arith in
    ap (λ x. top_of n x place) e ∙ pick_one (eqb (place % n) 0))
    (eq-zero-or-pos level)
  where
    pick_one : (b : Bool) → ◌≡◌ {A = ℕ} (pick b 1 1) 1
    pick_one true = refl
    pick_one false = refl

pub overflow_step-level : goal.overflow_step-level
unfolding plan_of
overflow_step-level c = omega (arith, (path_facts (plan_of c.args.self.now.f []) c.args.self.now.ready.copies_fit_lem c.requires).0)

pub loop-level-init : goal.loop-level-init
loop-level-init c =
    let f = c.args.self.now.f in
    let same : f.copies + 1 - 1 ≡ f.copies = omega arith in
    rw same (path_top_divides f.n (omega (arith, c.args.self.now.ready.shaped.n_low)) f.copies c.args.b (omega arith))

pub returns-then-place-self-ne0 : goal.returns-then-place-self-ne0
returns-then-place-self-ne0 c =
    let l = c.loop-level in
    sym (l.invariant ∙ top_here c.args.self.now.f.n (l.level - 1) l.place (omega arith) c.if-place-self-ne0.true)

pub loop-level-preserved : goal.loop-level-preserved
loop-level-preserved c =
    let l = c.loop-level in
    l.invariant ∙ top_above c.args.self.now.f.n (l.level - 1) l.place (omega arith) c.if-place-self-ne0.false

pub returns : goal.returns
returns c =
    let l = c.loop-level in
    sym (l.invariant ∙ top_root c.args.self.now.f.n (l.level - 1) l.place (omega arith))
