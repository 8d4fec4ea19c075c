-- A line whose tag reads is what its columns spell.
use Rattle.std.proofs.Common.{◌≡◌, ℕ, List, Some, sym, ap, ◌∙◌, arith}
use Rattle.std.specs.Option.{option_map}
use Rattle.buckets.specs.declared.Line.{Line}
use Rattle.buckets.specs.ListLine.{taken, read_line}
use Rattle.buckets.proofs.Blanked.{columns_spelled}
use Rattle.buckets.proofs.Chained.{map_found}
use Rattle.buckets.proofs.LenientLines.{LineReads, line_reads, reads_line, reads_length}
use Rattle.buckets.proofs.lines.read_line.Goals as goal

reads : (s : List ℕ) (t : ℕ) → Some t ≡ option_map (λ (l : Line). l.tag) (read_line s) → LineReads s
reads s t e = line_reads s (ap taken (sym (map_found (λ (l : Line). l.tag) (read_line s) t e).1))

pub slice_bounds-spelled_line-end : goal.slice_bounds-spelled_line-end
slice_bounds-spelled_line-end c =
    omega (arith, reads_length c.args.part.now (reads c.args.part.now _ c.in_ok-line_tag.ensures))

pub returns : goal.returns
returns c =
    let s = c.args.part.now in
    let r = reads s _ c.in_ok-line_tag.ensures in
    ap Some (c.spelled_line.ensures ∙ columns_spelled s (reads_length s r)) ∙ sym (reads_line s r)
