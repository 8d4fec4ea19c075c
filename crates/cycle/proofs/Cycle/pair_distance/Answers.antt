-- A pair reaches to before the next bucket of its level, and the last one of a row, or of the level, to the cycle's end.
use Rattle.std.proofs.Common.{◌≡◌, ℕ, ◌+◌, ◌-◌, ◌^◌, ◌≤◌, [], sym, ap, ◌∙◌, arith}
use Rattle.columns.specs.Lists.{up}
use Rattle.cycle.specs.Tree.{layout_number, width}
use Rattle.cycle.specs.declared.Cycle.{Cycle}
use Rattle.cycle.specs.Inner.Held.{plan_of}
use Rattle.cycle.proofs.Trees.Readiness.{reached}
use Rattle.cycle.proofs.Reach.PathFigures.{few_copies, level_width, width_inside}
use Rattle.cycle.proofs.Reach.PairReach.{reach_last, reach_end, reach_turn}
use Rattle.cycle.proofs.Cycle.pair_distance.Goals as goal

-- how many buckets the level has, as the code tells
wide :
    (cycle : Cycle) {level span count : ℕ} → layout_number cycle.f.layout ≡ 1 → 2 ≤ level → level ≤ cycle.f.copies →
    span ≡ cycle.f.n ^ (cycle.f.k + 1 - level) → count ≡ up cycle.f.d span → count ≡ width (plan_of cycle.f []) level
wide cycle {level} {span} {count} layout low high span_is count_is =
    count_is ∙ ap (up cycle.f.d) span_is ∙ sym (level_width cycle.f cycle.ready layout level (omega (arith, low)) (omega (arith, high)))

pub overflow_add-e : goal.overflow_add-e
overflow_add-e c = omega (arith, (few_copies c.args.self.now.f c.args.self.now.ready c.requires.1).2)

pub overflow_sub-e : goal.overflow_sub-e
overflow_sub-e c = omega (arith, few_copies c.args.self.now.f c.args.self.now.ready c.requires.1, c.requires.3)

pub overflow_add-sibling : goal.overflow_add-sibling
overflow_add-sibling c =
    let f = c.args.self.now.f in
    omega (arith, (reached f (f.k + 1 - c.args.level) c.args.place c.args.self.now.ready.shaped c.requires.4).place)

pub returns-then-sibling-self-eq0 : goal.returns-then-sibling-self-eq0
unfolding plan_of
returns-then-sibling-self-eq0 c =
    sym (reach_last (plan_of c.args.self.now.f []) c.args.self.now.f.size c.args.x c.args.level c.args.place c.if-sibling-self-eq0.true)

pub power-requires : goal.power-requires
power-requires c =
    let f = c.args.self.now.f in
    let s = c.args.self.now.ready.shaped in
    (s.n_low, s.n_high, (reached f (f.k + 1 - c.args.level) c.args.place s c.requires.4).height)

pub up-requires : goal.up-requires
up-requires c =
    let h : ℕ = c.args.self.now.f.k + 1 - c.args.level in
    let r = reached c.args.self.now.f h c.args.place c.args.self.now.ready.shaped c.requires.4 in
    rw c.power.ensures (omega (arith, r.some h (omega arith)), omega (arith, r.small h (omega arith), r.few))

pub first_place-requires : goal.first_place-requires
first_place-requires c =
    let f = c.args.self.now.f in
    let w = wide c.args.self.now c.requires.1 c.requires.2 c.requires.3 c.power.ensures c.up.ensures in (
      c.requires.1,
      omega (arith, c.requires.2),
      omega (arith, c.requires.3),
      width_inside f c.args.self.now.ready c.requires.1 c.args.level (omega (arith, c.requires.2)) (omega (arith, c.requires.3))
          (c.args.place + 1) (omega (arith, w, c.if-sibling-up.true)),
    )

pub overflow_sub-result-then-sibling-up : goal.overflow_sub-result-then-sibling-up
overflow_sub-result-then-sibling-up c =
    let w = wide c.args.self.now c.requires.1 c.requires.2 c.requires.3 c.power.ensures c.up.ensures in
    omega (arith, c.first_place.ensures, c.requires.6 (omega (arith, w, c.if-sibling-up.true)) c.if-sibling-self-eq0.false)

pub overflow_sub-result-then-sibling-up-2 : goal.overflow_sub-result-then-sibling-up-2
overflow_sub-result-then-sibling-up-2 c =
    let w = wide c.args.self.now c.requires.1 c.requires.2 c.requires.3 c.power.ensures c.up.ensures in
    omega (arith, c.first_place.ensures, c.requires.6 (omega (arith, w, c.if-sibling-up.true)) c.if-sibling-self-eq0.false)

pub returns-then-sibling-up : goal.returns-then-sibling-up
unfolding plan_of
returns-then-sibling-up c =
    let w = wide c.args.self.now c.requires.1 c.requires.2 c.requires.3 c.power.ensures c.up.ensures in
    ap (λ z. z - 1 - c.args.x) c.first_place.ensures
    ∙ sym
    (reach_turn (plan_of c.args.self.now.f []) c.args.self.now.f.size c.args.x c.args.level c.args.place c.if-sibling-self-eq0.false
    (omega (arith, w, c.if-sibling-up.true)))

pub returns : goal.returns
unfolding plan_of
returns c =
    let w = wide c.args.self.now c.requires.1 c.requires.2 c.requires.3 c.power.ensures c.up.ensures in
    sym
    (reach_end (plan_of c.args.self.now.f []) c.args.self.now.f.size c.args.x c.args.level c.args.place c.if-sibling-self-eq0.false
    (omega (arith, w, c.if-sibling-up.false)))
