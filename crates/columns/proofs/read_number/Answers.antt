-- Assumes nothing.
use Rattle.std.proofs.Common.{◌≡◌, ◌<◌, length, sym, ◌∙◌, rules}
use Rattle.std.specs.Prelude.{None, Some}
use Rattle.std.specs.List.{AllWithin, HoldsAt}
use Rattle.std.proofs.lemmas.Iterator.{YieldsList-from_slice, IsFirst-from_position}
use borrow.Author.Tests.{tests}
use Rattle.columns.proofs.LeadingBlanks.{none_used, read_behind}
use Rattle.columns.proofs.read_number.Goals as goal

pub returns-in_err-first : goal.returns-in_err-first
returns-in_err-first c =
    let blank : AllWithin (λ b. b ≡ 32) c.args.part.now 0 (length c.args.part.now) =
    IsFirst-from_position _ _ None (λ b. b ≡ 32 → ⊥) (λ b. b ≡ 32) c.in_err-first.ensures.ran (YieldsList-from_slice c.args.part.now cc) (λ x q k. search (rules, tests)) (λ x q k. search (rules, tests)) in
    c.from_residual.ensures ∙ sym (none_used c.args.part.now c.requires.0 blank)

pub returns : goal.returns
returns c =
    let i = c.in_ok-first.first in
    let s = c.args.part.now in
    let first : (i < length s) × HoldsAt (λ b. b ≡ 32 → ⊥) s i × AllWithin (λ b. b ≡ 32) s 0 i =
    IsFirst-from_position _ _ (Some i) (λ b. b ≡ 32 → ⊥) (λ b. b ≡ 32) c.in_ok-first.ensures.ran (YieldsList-from_slice s cc) (λ x q k. search (rules, tests)) (λ x q k. search (rules, tests)) in
    c.read_used.ensures ∙ read_behind s first.0 first.2
