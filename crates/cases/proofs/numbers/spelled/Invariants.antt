-- What the columns so far spell has no more digits than they are, and with those behind them it is the number of all.
use Rattle.std.proofs.Common.{◌≡◌, ◌^◌, ◌<◌, drop}
use Rattle.cases.proofs.Reading.{reading}
use Rattle.cases.proofs.numbers.spelled.Given as goal

abbrev pub invariant-loop-c : goal.invariant-loop-c
invariant-loop-c l = (l.x < 10 ^ l.c-index) × (reading l.x (drop l.c-index l.part) ≡ reading 0 l.part)
