-- Data bucket q is written over those before it.
use Rattle.std.proofs.Common.{◌≡◌, [], ◌+◌, ◌-◌, arith}
use Rattle.cycle.proofs.Building.Writings.{seats, begun, grown}
use Rattle.cycle.proofs.build.Sender.write_datas.Goals as goal

pub loop-q-init : goal.loop-q-init
loop-q-init c =
    let w = c.args.self.now in
    let s = w.part.s in
    let none : s.data_at + (s.first - s.first) ≡ s.data_at = omega arith in
    rw none (begun w.part.cycle.now.f w.list.now w.sending c.args.image.now c.requires s.data_at)

pub loop-q-preserved : goal.loop-q-preserved
loop-q-preserved c =
    let w = c.args.self.now in
    let s = w.part.s in
    let sits = seats w in
    let ends = (w.part.placed []).ends in
    let x = c.place_of.result in
    let here : s.data_at + (c.loop-q.q - s.first) ≡ x = omega arith in
    let next : s.data_at + (c.loop-q.q + 1 - s.first) ≡ x + 1 = omega arith in
    let before = rw here at c.loop-q.invariant in
    rw next
    (grown w.part.cycle.now.f w.list.now w.sending c.args.image.now c.requires s.data_at c.loop-q.image _ x (x + 1)
    (omega arith) (omega arith) (omega (arith, sits, ends)) before c.write_data_at.ensures)
