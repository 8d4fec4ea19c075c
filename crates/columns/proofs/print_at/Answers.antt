-- Assumes nothing.
use Rattle.std.proofs.Common.{◌≡◌, ◌-◌, length, take, drop, ap, ◌∙◌, arith}
use Rattle.columns.specs.Lists.{put}
use Rattle.columns.specs.PrintedNumbers.{print}
use Rattle.columns.proofs.Printed.{length_print}
use Rattle.columns.proofs.Put.{put_part, length_part}
use Rattle.columns.proofs.print_at.Goals as goal

pub returns : goal.returns
returns c =
    let s = c.args.part.now in
    let w = c.args.end - c.args.at in
    let wide : length (take w (drop c.args.at s)) ≡ w = length_part s c.args.at w (omega (arith, c.requires.0, c.requires.1.0)) in
    let is : c.print_digits.new.part ≡ print w c.args.x = c.print_digits.ensures ∙ rw wide in
    put_part s c.args.at w c.print_digits.new.part (ap length is ∙ length_print w c.args.x) ∙ ap (put s c.args.at) is
