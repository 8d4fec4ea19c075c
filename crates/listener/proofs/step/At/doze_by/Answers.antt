-- `listener::step::At::doze_by` meets its contract: a doze within the cycle, 10, or a doze to the next cycle's start.
-- Assumes nothing.
use Rattle.std.proofs.lemmas.Bool.{le-leb, lt-leb}
use Rattle.buckets.specs.Inner.Held.{bucket_with}
use Rattle.listener.proofs.Steps.Dozes.{due_within, passed_within, past_within, due_start, passed_start, past_start}
use Rattle.listener.proofs.step.At.doze_by.Goals as goal

pub returns-then-d-self : goal.returns-then-d-self
unfolding bucket_with
returns-then-d-self c body =
    let b = bucket_with c.args.self.head body in
    let d = c.args.d in
    let h = c.if-d-self.true in
    rw (past_within b d h c.args.self.listener) (c.dozing.ensures body (due_within b d h) (passed_within b d h c.args.self.listener))

pub returns-then-self-ge1 : goal.returns-then-self-ge1
unfolding bucket_with
returns-then-self-ge1 c body =
    let b = bucket_with c.args.self.head body in
    rw (past_start b c.args.d c.if-d-self.false c.args.self.listener, le-leb 1 c.args.self.listener.passed c.if-self-ge1.true)
    c.refused.ensures

pub returns : goal.returns
unfolding bucket_with
returns c body =
    let b = bucket_with c.args.self.head body in
    let d = c.args.d in
    let h = c.if-d-self.false in
    rw (past_start b d h c.args.self.listener, lt-leb 1 c.args.self.listener.passed c.if-self-ge1.false)
    (c.dozing-2.ensures body (due_start b d h) (passed_start b d h c.args.self.listener))
