-- The columns before the first one that is no blank are passed over, and the others are read.
use Rattle.std.proofs.Common.{◌≡◌, ◌-◌, ◌∙◌, sym, ap, arith, rules, tests, nat_eq, false, take, drop, length, take_all, length-drop}
use Rattle.std.proofs.lemmas.Iterator.{YieldsList-from_slice, IsFirst-from_position}
use Rattle.cases.proofs.Reading.{reading, past_blanks, all_blanks}
use Rattle.cases.proofs.numbers.number.Goals as goal

pub returns-in_err-first : goal.returns-in_err-first
returns-in_err-first c =
    let found = IsFirst-from_position _ _ c.position.result (λ x. nat_eq x 32 ≡ false) (λ x. x ≡ 32) c.position.ensures.ran
    (YieldsList-from_slice _ c.iter.ensures.rest) (λ x q k. search (rules, tests)) (λ x q k. search (rules, tests)) in
    let blank = rw c.in_err-first.was at found in
    c.from_residual.ensures ∙ sym (all_blanks c.args.part.now (λ k e. blank k 0 (omega arith) e))

pub returns : goal.returns
returns c =
    let found = IsFirst-from_position _ _ c.position.result (λ x. nat_eq x 32 ≡ false) (λ x. x ≡ 32) c.position.ensures.ran
    (YieldsList-from_slice _ c.iter.ensures.rest) (λ x q k. search (rules, tests)) (λ x q k. search (rules, tests)) in
    let first = rw c.in_ok-first.was at found in
    let part = c.args.part.now in
    let n = c.in_ok-first.first in
    let behind : take (length part - n) (drop n part) ≡ drop n part = take_all (length part - n) (drop n part) (simp length-drop (omega arith)) in
    c.spelled.ensures ∙ ap (reading 0) behind ∙ sym (past_blanks n part first.0 (λ k e. first.2 k 0 (omega arith) e) (first.1 0))
