-- What the tag of a line tells of the line, and what all lines tell.
use Rattle.std.proofs.Common.{◌≡◌, ℕ, Bool, true, false, Some, List, length, take, sym, ap, ◌∙◌, arith}
use mathlib.Core.Bool.{true≢false}
use Rattle.std.specs.Option.{option_map}
use Rattle.std.proofs.lemmas.List.{length-append}
use Rattle.columns.specs.Lists.{pick}
use Rattle.columns.specs.PrintedNumbers.{value}
use Rattle.buckets.specs.declared.Line.{Line}
use Rattle.buckets.specs.ListLine.{spelled, read_line, taken, cut_lines, list_lines, misprint_from, fall_from}
use Rattle.buckets.specs.Inner.Columns.{read_plain}
use Rattle.buckets.specs.Lengths.{tag_width}
use Rattle.buckets.proofs.Blanked.{plain_reads}
use Rattle.buckets.proofs.Chained.{map_found}
use Rattle.buckets.proofs.LenientLines.{line_reads, reads_line}
use Rattle.buckets.proofs.ListLines.{print_of_read_plain}
use Rattle.buckets.proofs.Lists.{plain_list}
use Rattle.cycle.proofs.Lines.LineByLine.{cut_none, lines_none}
use Rattle.cycle.proofs.Building.Refusals.{all_plain, plain_read, line_read, tag_rises}
use Rattle.cycle.proofs.conditions.all_rise.Goals as goal

-- what the tag of a line tells of the line
record Told (plain : Bool) (s : List ℕ) (x : ℕ) : Type 0 where
  tag_is : x ≡ value 0 (take tag_width s)
  reads : taken (read_line s) ≡ true
  reads_plain : plain ≡ true → taken (read_plain s) ≡ true

tag_told : (plain : Bool) (s : List ℕ) (x : ℕ) → Some x ≡ option_map (λ (l : Line). l.tag) (pick plain (read_plain s) (read_line s)) → Told plain s x
unfolding spelled
tag_told true s x e =
    let found = map_found (λ (l : Line). l.tag) (read_plain s) x e in
    let plain = ap taken (sym found.1) in
    record {
      tag_is = found.2 ∙ ap (λ (k : Line). k.tag) (print_of_read_plain s (sym found.1)).2;
      reads = plain_reads s plain;
      reads_plain = λ t. plain;
    }
tag_told false s x e =
    let found = map_found (λ (l : Line). l.tag) (read_line s) x e in
    let read = ap taken (sym found.1) in
    let is : Some (spelled s) ≡ Some found.0 = sym (reads_line s (line_reads s read)) ∙ sym found.1 in
    record {
      tag_is = let spelt : found.0 ≡ spelled s = cc in found.2 ∙ ap (λ (k : Line). k.tag) spelt;
      reads = read;
      reads_plain = λ t. absurd (true≢false (sym t));
    }

pub loop-line-init : goal.loop-line-init
loop-line-init c =
    let it = c.into_iter-line-iterator.ensures.into_iter_gives in
    let rest = sym (ap (λ (k : _). k.rest.now) it ∙ c.chunks_exact-line-items.ensures.rest) in
    record {
      size = ap (λ (k : _). k.size) it ∙ c.chunks_exact-line-items.ensures.size;
      read = ap (λ t. misprint_from 0 (cut_lines t)) rest;
      rise = ap (λ t. fall_from 0 0 (list_lines t)) rest;
      no_zeros = λ e. ap (λ t. all_plain (cut_lines t)) rest;
    }

pub loop-line-preserved : goal.loop-line-preserved
loop-line-preserved c =
    let l = c.loop-line in
    let steps = c.in-Some.ensures.steps in
    let line = c.in-Some.line.now in
    let rest = c.next.new.self.rest.now in
    let wide = steps.1.1 ∙ l.invariant.size in
    let i = length l.yielded in
    let more = sym (length-append l.yielded _) in
    let told = tag_told c.args.plain line c.in-Some-tag_read.tag c.in-Some-tag_read.ensures in
    record {
      size = steps.0 ∙ l.invariant.size;
      read =
          l.invariant.read ∙ ap (λ t. misprint_from i (cut_lines t)) steps.1.0 ∙ line_read line rest wide i told.reads
          ∙ ap (λ k. misprint_from k (cut_lines rest)) more;
      rise =
          l.invariant.rise ∙ ap (λ t. fall_from i l.last (list_lines t)) steps.1.0
          ∙ tag_rises line rest wide i l.last c.in-Some-tag_read.tag told.tag_is c.if-tag-last.false
          ∙ ap (λ k. fall_from k c.in-Some-tag_read.tag (list_lines rest)) more;
      no_zeros =
          λ e. l.invariant.no_zeros e ∙ ap (λ t. all_plain (cut_lines t)) steps.1.0 ∙ plain_read line rest wide (told.reads_plain e);
    }

pub returns : goal.returns
returns c so =
    let l = c.loop-line in
    let rest = l.line-iterator.rest.now in
    let short = c.in-None.ensures.steps.1.0 in
    let none = cut_none rest (omega (arith, short, l.invariant.size)) in (
      l.invariant.read ∙ ap (misprint_from (length l.yielded)) none,
      l.invariant.rise ∙ ap (fall_from (length l.yielded) l.last) (lines_none rest (omega (arith, short, l.invariant.size))),
      λ e whole. plain_list c.args.list.now whole (l.invariant.no_zeros e ∙ ap all_plain none),
    )
