-- The data buckets before q are written.
use Rattle.std.proofs.Common.{◌≡◌, ◌+◌, ◌-◌}
use Rattle.cycle.specs.Inner.Held.{plan_in, written}
use Rattle.cycle.specs.declared.Source.TheVariants.{List as InList}
use Rattle.cycle.proofs.build.Sender.write_datas.Given as goal

abbrev pub invariant-loop-q : goal.invariant-loop-q
invariant-loop-q l =
    let w = l.self in
    let s = w.part.s in
    l.image ≡ written (plan_in w.part.cycle.now.f InList w.list.now) l.fn.image s.data_at (s.data_at + (l.q - s.first))
