-- The items read so far, and what the reading of all of them is.
use Rattle.std.proofs.Common.{◌≡◌, ℕ, ◌+◌, ◌*◌, ◌<◌, ◌≤◌, [], ◌∷◌, ◌++◌, length, refl, subst, sym, ap, ◌∙◌, arith, add-one, suc-mul}
use Rattle.std.proofs.Math.Nat.{mul-le-mul_right}
use Rattle.columns.proofs.Put.{length_part}
use Rattle.buckets.proofs.Chained.{map_found, map_none}
use Rattle.buckets.proofs.Progress.{ReadSoFar, part_at, nothing_yet, one_more, not_blank_behind, item_misprinted, all_read}
use Rattle.buckets.proofs.reader.read_items.Goals as goal

-- item i of c
fits_at : (i c w : ℕ) → i < c → i * w + w ≤ c * w
fits_at i c w h =
    let most : (i + 1) * w ≤ c * w = mul-le-mul_right w (omega arith) in
    let on : i * w + w ≡ (i + 1) * w = sym (rw add-one (suc-mul i w)) in omega (arith, most, on)

pub returns-then-not-all_blank : goal.returns-then-not-all_blank
returns-then-not-all_blank g c =
    let test = rw c.WIDTH.ensures at c.if-not-all_blank.ensures in
    sym (not_blank_behind (g.V.ItemVec.reads c.args.n) (λ m x. g.V.ItemVec.leaves x) g.V.ItemVec.WIDTH c.args.count c.args.part.now test refl)

pub loop-i-init : goal.loop-i-init
loop-i-init g c =
    rw c.requires.empty (nothing_yet (g.V.ItemVec.reads c.args.n) (λ m x. g.V.ItemVec.leaves x) g.V.ItemVec.WIDTH c.args.count c.args.part.now)

pub take-requires : goal.take-requires
take-requires g c =
    let w = g.V.ItemVec.WIDTH in
    let i = c.loop-i.i in
    rw (c.WIDTH-in-loop-i.ensures, c.WIDTH-in-loop-i-2.ensures) (
      ap length (part_at (i * w) w c.args.part.now)
          ∙ length_part c.args.part.now (i * w) w (omega (arith, fits_at i c.args.count w c.loop-i-test.true, c.requires.fits)),
      omega (arith, c.loop-i.invariant.count, c.loop-i-test.true, c.requires.fits),
    )

pub returns-in_err-before : goal.returns-in_err-before
returns-in_err-before g c =
    let test = rw c.WIDTH.ensures at c.if-not-all_blank.ensures in
    let misprinted = rw (c.WIDTH-in-loop-i.ensures, c.WIDTH-in-loop-i-2.ensures) at (map_none g.V.ItemVec.leaves _ c.in_err-before.ensures.left) in
    rw c.from_residual.ensures
    (sym
    (item_misprinted (g.V.ItemVec.reads c.args.n) (λ m x. g.V.ItemVec.leaves x) g.V.ItemVec.WIDTH c.args.count c.args.part.now test refl
    c.loop-i.invariant c.loop-i-test.true misprinted))

pub loop-i-preserved : goal.loop-i-preserved
loop-i-preserved g c =
    let left = rw (c.WIDTH-in-loop-i.ensures, c.WIDTH-in-loop-i-2.ensures) at c.in_ok-before.ensures.left in
    let held = rw (c.WIDTH-in-loop-i.ensures, c.WIDTH-in-loop-i-2.ensures) at c.take.ensures.held in
    let found = map_found g.V.ItemVec.leaves _ c.in_ok-before.before left in
    let sofar = ReadSoFar (g.V.ItemVec.reads c.args.n) (λ m y. g.V.ItemVec.leaves y) g.V.ItemVec.WIDTH c.args.count c.args.part.now in
    subst (λ xs. sofar xs c.in_ok-before.before (c.loop-i.i + 1)) (sym (held found.0 found.1))
    (subst (λ (m : ℕ). sofar (g.V.ItemVec.items c.loop-i.items ++ found.0 ∷ []) m (c.loop-i.i + 1)) (sym found.2)
    (one_more (g.V.ItemVec.reads c.args.n) (λ m y. g.V.ItemVec.leaves y) g.V.ItemVec.WIDTH c.args.count c.args.part.now c.loop-i.invariant
    c.loop-i-test.true found.0 found.1))

pub returns : goal.returns
returns g c =
    let test = rw c.WIDTH.ensures at c.if-not-all_blank.ensures in
    sym (all_read (g.V.ItemVec.reads c.args.n) (λ m x. g.V.ItemVec.leaves x) g.V.ItemVec.WIDTH c.args.count c.args.part.now test refl
    c.loop-i.invariant c.loop-i-test.false)
