-- No line of the tag, no follow-on, the last line another's, or a doze.
use Rattle.std.proofs.Common.{◌≡◌, ℕ, ◌-◌, ◌≤◌, eqb, get_or, List, length, sym, ap, ◌∙◌, arith}
use mathlib.Core.Bool.{◌&&◌, not}
use borrow.Author.Tests.{eq-eqb, ne_eqb}
use Rattle.columns.specs.Lists.{pick}
use Rattle.columns.proofs.Strict.{and_false}
use Rattle.buckets.specs.Bucket.{data_body}
use Rattle.buckets.specs.Inner.Held.{bucket_with}
use Rattle.listener.specs.Listener.{dozes, finds, before, matching, data_choice, decided}
use Rattle.listener.specs.declared.Phase.TheVariants.{Data}
use Rattle.listener.specs.Inner.OnReading.{tagged_lines}
use Rattle.listener.proofs.Steps.HeldLists.{length_tagged}
use Rattle.listener.proofs.Steps.TagsAlone.{matching_few, last_tagged}
use Rattle.listener.proofs.step.At.data_step.Goals as goal
use Rattle.listener.proofs.step.At.data_step.Goals.{then-follow_on-eq0-via-then-follow_on-eq0, then-follow_on-eq0-via-else-follow_on-eq0+then-tags-self}

-- where a line matches there is one, and so a last one
module _ (tag f : ℕ) (ts : List ℕ) (m b : ℕ) (count : m ≡ length (matching tag (tagged_lines ts))) (some : m ≡ 0 → ⊥)
    (first : b ≡ before tag (tagged_lines ts)) where
  some_line : 1 ≤ length ts
  some_line = omega (arith, some, count, matching_few tag (tagged_lines ts), length_tagged ts)

  -- the choice by the last line and the follow-on
  by_last :
      data_choice tag f (tagged_lines ts) ≡
      pick (eqb (get_or ts (length ts - 1) 0) tag && not (eqb f 0)) (dozes f Data b m) (finds b m)
  unfolding data_choice
  by_last = rw (← count, ne_eqb m 0 some, last_tagged tag ts some_line, ← first)

  no_follow : f ≡ 0 → data_choice tag f (tagged_lines ts) ≡ finds b m
  no_follow e = by_last ∙ rw (eq-eqb f 0 e, and_false (eqb (get_or ts (length ts - 1) 0) tag))

  other_last : (get_or ts (length ts - 1) 0 ≡ tag → ⊥) → data_choice tag f (tagged_lines ts) ≡ finds b m
  other_last e = by_last ∙ rw (ne_eqb (get_or ts (length ts - 1) 0) tag e)

  follows : (f ≡ 0 → ⊥) → get_or ts (length ts - 1) 0 ≡ tag → data_choice tag f (tagged_lines ts) ≡ dozes f Data b m
  follows n e = by_last ∙ rw (eq-eqb (get_or ts (length ts - 1) 0) tag e, ne_eqb f 0 n)

pub returns-then-matching-eq0 : goal.returns-then-matching-eq0
unfolding data_choice
returns-then-matching-eq0 c = rw (← c.lines_matching-matching.ensures, eq-eqb _ 0 c.if-matching-eq0.true) c.end_by.ensures

pub overflow_sub-tags : goal.overflow_sub-tags
overflow_sub-tags c =
    some_line c.args.self.listener.tag c.args.follow_on c.args.tags.now _ _ c.lines_matching-matching.ensures c.if-matching-eq0.false
    c.lines_before-first.ensures

pub bounds-tags-tags : goal.bounds-tags-tags
bounds-tags-tags c =
    omega (
      arith,
      some_line c.args.self.listener.tag c.args.follow_on c.args.tags.now _ _ c.lines_matching-matching.ensures c.if-matching-eq0.false
          c.lines_before-first.ensures,
    )

pub returns-then-follow_on-eq0 : goal.returns-then-follow_on-eq0
returns-then-follow_on-eq0 c =
    let a = c.args in
    let found :
    data_choice a.self.listener.tag a.follow_on (tagged_lines a.tags.now) ≡
    finds c.lines_before-first.result c.lines_matching-matching.result =
    elim c.then-follow_on-eq0.branch [
      | then-follow_on-eq0-via-then-follow_on-eq0 w ↦
          no_follow a.self.listener.tag a.follow_on a.tags.now _ _ c.lines_matching-matching.ensures c.if-matching-eq0.false
          c.lines_before-first.ensures w.if-follow_on-eq0.true
      | then-follow_on-eq0-via-else-follow_on-eq0+then-tags-self w ↦
          other_last a.self.listener.tag a.follow_on a.tags.now _ _ c.lines_matching-matching.ensures c.if-matching-eq0.false
          c.lines_before-first.ensures w.if-tags-self.true
    ] in
    rw found c.end_by-then-follow_on-eq0.ensures

pub returns : goal.returns
returns c =
    let a = c.args in
    let b = bucket_with a.self.head (data_body a.follow_on (tagged_lines a.tags.now)) in
    c.doze_by.ensures (data_body a.follow_on (tagged_lines a.tags.now))
    ∙ ap (decided a.self.listener b)
    (sym
    (follows a.self.listener.tag a.follow_on a.tags.now _ _ c.lines_matching-matching.ensures c.if-matching-eq0.false
    c.lines_before-first.ensures c.if-follow_on-eq0.false c.if-tags-self.false))
