-- One more pair behind those that stand.
use Rattle.std.proofs.Common.{◌≡◌, ℕ, List, ◌+◌, ◌-◌, ◌*◌, ◌≤◌, None, length, take, sym, ap, ◌∙◌, arith}
use lib.Seq.{length-take-le}
use Rattle.columns.specs.Lists.{joined, padded}
use Rattle.columns.proofs.FromTheRight.{length_blanks}
use Rattle.columns.proofs.Joined.{length_joined}
use Rattle.columns.proofs.Padded.{padded_nil, lent_blank, back_padded}
use Rattle.buckets.specs.declared.Pair.{Pair}
use Rattle.buckets.specs.Bucket.{print_pair}
use Rattle.buckets.specs.Lengths.{pairs_width, entry_width}
use Rattle.buckets.proofs.Buckets.{length_print_pair}
use Rattle.buckets.proofs.Fronts.{item_written}
use Rattle.buckets.proofs.Progress.{part_at}
use Rattle.buckets.proofs.writer.write_pairs.Goals as goal

wide : (ps : List Pair) (i : ℕ) → i ≤ length ps → length (joined print_pair (take i ps)) ≡ i * entry_width
wide ps i h =
    length_joined print_pair entry_width length_print_pair (take i ps) ∙ ap (λ (k : ℕ). k * entry_width) (length-take-le i ps h)

pub loop-i-init : goal.loop-i-init
loop-i-init c = c.requires.0 ∙ sym (padded_nil pairs_width)

pub slice_bounds-write_pair-end : goal.slice_bounds-write_pair-end
slice_bounds-write_pair-end c = omega (arith, ap length c.requires.0 ∙ length_blanks pairs_width)

pub write_pair-requires : goal.write_pair-requires
write_pair-requires c =
    let i = c.loop-i.i in
    part_at (i * entry_width) entry_width c.loop-i.part
    ∙ lent_blank pairs_width (i * entry_width) entry_width (joined print_pair (take i c.args.pairs.now)) c.loop-i.invariant
    (wide c.args.pairs.now i (omega arith)) (omega arith)

pub loop-i-preserved : goal.loop-i-preserved
loop-i-preserved c =
    let i = c.loop-i.i in
    let one : i * entry_width + entry_width - i * entry_width ≡ entry_width = omega arith in
    rw one
    (back_padded pairs_width (i * entry_width) entry_width (joined print_pair (take i c.args.pairs.now)) c.loop-i.invariant
    (wide c.args.pairs.now i (omega arith)) (omega arith) (print_pair _) c.write_pair.ensures (length_print_pair _)
    ∙ ap (padded pairs_width) (item_written print_pair c.args.pairs.now (record { tag = None; distance = 0 }) i (omega arith)))
