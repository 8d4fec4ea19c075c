-- `listener::lookup::lookup` meets its contract: 11, 12, the run's own, 7, and the lines written once both are known.
-- Assumes nothing.
use Rattle.std.proofs.Common.{Ok, Err, length, sym, ap, ◌∙◌, arith}
use Rattle.std.proofs.lemmas.Result.{err_from_is_err_and}
use Rattle.columns.specs.Lists.{put, joined}
use Rattle.columns.proofs.Put.{put_nil}
use Rattle.buckets.specs.ListLine.{print_line}
use Rattle.listener.specs.Lookup.{Outcome, refuse, got_by}
use Rattle.listener.specs.Inner.OnRun.{concluded}
use Rattle.listener.proofs.Lookups.LookupOutcomes.{found_alike, absent_alike, looks_in, looks_not, as_found, as_absent, as_refused, refused_7, has_room, finds}
use Rattle.listener.proofs.lookup.lookup.Goals as goal

pub returns-in_err-image : goal.returns-in_err-image
unfolding refuse
returns-in_err-image c =
    let told = err_from_is_err_and c.from_residual.result c.from_residual.ensures.1 in
    let out = c.args.out.now in
    let k = looks_not c.args.image.now c.args.tag c.args.t (length out) _ c.in_err-image.ensures in
    record {
      answer = told.1 ∙ ap Err told.2 ∙ ap (λ (o : Outcome). o.answer) (sym k);
      output = sym (put_nil out 0) ∙ ap (λ (o : Outcome). put out 0 o.output) (sym k);
    }

pub returns-in_err-ran : goal.returns-in_err-ran
unfolding refuse
returns-in_err-ran c =
    let told = err_from_is_err_and c.from_residual-in_err-ran.result c.from_residual-in_err-ran.ensures.1 in
    let out = c.args.out.now in
    let image = c.in_ok-image.ensures in
    let k = looks_in c.args.image.now c.args.tag c.args.t (length out) image.0 image.1 image.2 ∙
    ap (concluded (length out)) (as_refused _ c.in_err-ran.ensures) in
    record {
      answer = told.1 ∙ ap Err told.2 ∙ ap (λ (o : Outcome). o.answer) (sym k);
      output = sym (put_nil out 0) ∙ ap (λ (o : Outcome). put out 0 o.output) (sym k);
    }

pub returns-then-out-lines : goal.returns-then-out-lines
unfolding refuse
returns-then-out-lines c =
    let out = c.args.out.now in
    let image = c.in_ok-image.ensures in
    let f = as_found _ (c.in_ok-ran.ensures.1 ∙ ap Ok c.in-Found.is) in
    let k = looks_in c.args.image.now c.args.tag c.args.t (length out) image.0 image.1 image.2 ∙
    (ap (concluded (length out)) f.is ∙ refused_7 (length out) c.in-Found.l f.got (omega (arith, f.counted, c.if-out-lines.true))) in
    record {
      answer = ap Err c.into.ensures ∙ ap (λ (o : Outcome). o.answer) (sym k);
      output = sym (put_nil out 0) ∙ ap (λ (o : Outcome). put out 0 o.output) (sym k);
    }

pub write_found-requires : goal.write_found-requires
write_found-requires c =
    let out = c.args.out.now in
    let begins = c.in_ok-ran.ensures.0 in
    let f = as_found _ (c.in_ok-ran.ensures.1 ∙ ap Ok c.in-Found.is) in
    record {
      was_heard = begins.heard;
      found_within =
          record {
            listener = c.in-Found.l;
            got = f.got;
            is = sym begins.all ∙ f.is;
            fits = has_room (length out) c.in-Found.l f.got (omega (arith, f.counted, c.if-out-lines.false));
          };
    }

pub returns-else-out-lines : goal.returns-else-out-lines
returns-else-out-lines c =
    let out = c.args.out.now in
    let image = c.in_ok-image.ensures in
    let begins = c.in_ok-ran.ensures.0 in
    let f = as_found _ (c.in_ok-ran.ensures.1 ∙ ap Ok c.in-Found.is) in
    let k = looks_in c.args.image.now c.args.tag c.args.t (length out) image.0 image.1 image.2 ∙
    (ap (concluded (length out)) f.is ∙ finds (length out) c.in-Found.l f.got (omega (arith, f.counted, c.if-out-lines.false))) in
    record {
      answer = found_alike c.heard.ensures c.elapsed.ensures (sym f.counted) ∙ ap (λ (o : Outcome). o.answer) (sym k);
      output =
          c.write_found.ensures ∙ ap (λ z. put out 0 (joined print_line (got_by z))) (sym begins.all ∙ f.is) ∙
          ap (λ (o : Outcome). put out 0 o.output) (sym k);
    }

pub returns-in-Absent : goal.returns-in-Absent
returns-in-Absent c =
    let out = c.args.out.now in
    let image = c.in_ok-image.ensures in
    let k = looks_in c.args.image.now c.args.tag c.args.t (length out) image.0 image.1 image.2 ∙
    ap (concluded (length out)) (as_absent _ (c.in_ok-ran.ensures.1 ∙ ap Ok c.in-Absent.is)) in
    record {
      answer = absent_alike c.heard-in-Absent.ensures c.elapsed-in-Absent.ensures ∙ ap (λ (o : Outcome). o.answer) (sym k);
      output = sym (put_nil out 0) ∙ ap (λ (o : Outcome). put out 0 o.output) (sym k);
    }
