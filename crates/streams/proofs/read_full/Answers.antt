-- What a turn reads goes behind what was read before it.
use Rattle.std.proofs.Common.{◌≡◌, ℕ, List, ◌++◌, ◌+◌, ◌≤◌, length, take, rules, sym, ap, ◌∙◌, subst}
use Rattle.std.proofs.KnownBytes.{Consumes-trans}
use Rattle.std.proofs.lemmas.List.{take-append-le, length-take-le}
use Rattle.std.proofs.Math.Seq.{take-append-add}
use Rattle.std.specs.Io.KnownBytes.{Consumes}
use Rattle.streams.proofs.read_full.Goals as goal

-- old up to place d, then new and what lies behind it: n bytes more are the first n of new
read_more : (d n : ℕ) (old new behind : List ℕ) → d ≤ length old → n ≤ length new
    → take d old ++ take n new ≡ take (d + n) (take d old ++ (new ++ behind))
read_more d n old new behind within fits =
    ap (λ l. take d old ++ l) (sym (take-append-le n new behind fits))
    ∙ sym (take-append-add (take d old) (new ++ behind) n)
    ∙ ap (λ m. take (m + n) (take d old ++ (new ++ behind))) (length-take-le d old within)

pub loop-done-preserved : goal.loop-done-preserved
loop-done-preserved g c =
    let got = c.in_ok-got.ensures in
    let more = read_more _ _ c.loop-done.buf c.read.new.buf _ c.loop-done.invariant.0 got.bound.0 in
    (search rules, subst (Consumes _ _) more (Consumes-trans _ _ _ _ _ c.loop-done.invariant.1 got.bytes.0))
