-- Each field with its leading zeros made blank, one behind the other.
use Rattle.std.proofs.Common.{arith, ℕ, ◌+◌, ◌≤◌, ◌≡◌, refl, sym, ap, ◌∙◌, List, [], ◌++◌, length, take, drop}
use mathlib.Core.List.{append_assoc}
use lib.ListN.{length-append}
use lib.Seq.{take_at, drop_at, drop-drop, drop-length}
use Rattle.columns.specs.PrintedNumbers.{blank_zeros}
use Rattle.columns.proofs.Lenient.{length_blanked}
use Rattle.columns.proofs.Put.{length_part}
use Rattle.buckets.specs.Lengths.{tag_start, tag_width, tare_start, tare_width, code_start, code_width, weighing_start, weighing_width, line_columns_width}
use Rattle.buckets.specs.Inner.Columns.{blanked_columns}
use Rattle.buckets.proofs.lines.put_columns.Goals as goal

-- d with e in the place of the w columns from k on
abbrev field : ℕ → ℕ → List ℕ → List ℕ → List ℕ
field k w d e = take k d ++ (e ++ drop w (drop k d))

-- line s with its first k columns made f
record Blanked (s : List ℕ) (k : ℕ) (f d : List ℕ) : Type 0 where
  is : d ≡ f ++ drop k s
  wide : length f ≡ k

-- one more field
next_field : (s : List ℕ) (k w : ℕ) {f d e : List ℕ} → k + w ≤ length s → Blanked s k f d → e ≡ blank_zeros (take w (drop k d)) →
    Blanked s (k + w) (f ++ blank_zeros (take w (drop k s))) (field k w d e)
next_field s k w {f} fit b e =
    record {
      is = rw (e, b.is, take_at f (drop k s) k b.wide, drop_at f (drop k s) k b.wide, drop-drop w k s)
          (sym (append_assoc f (blank_zeros (take w (drop k s))) (drop (k + w) s)));
      wide = simp length-append (omega (arith, b.wide, length_blanked (take w (drop k s)), length_part s k w fit));
    }

-- four lists, one behind the other
four_joined : (a b c d : List ℕ) → (((a ++ b) ++ c) ++ d) ++ [] ≡ a ++ (b ++ (c ++ (d ++ [])))
four_joined a b c d = simp append_assoc

-- all four fields
four_fields : (s : List ℕ) {d e₁ e₂ e₃ e₄ : List ℕ} → length s ≡ line_columns_width → d ≡ s →
    let d₁ = field tag_start tag_width d e₁ in
    let d₂ = field tare_start tare_width d₁ e₂ in
    let d₃ = field code_start code_width d₂ e₃ in
    e₁ ≡ blank_zeros (take tag_width d) →
    e₂ ≡ blank_zeros (take tare_width (drop tare_start d₁)) →
    e₃ ≡ blank_zeros (take code_width (drop code_start d₂)) →
    e₄ ≡ blank_zeros (take weighing_width (drop weighing_start d₃)) →
    field weighing_start weighing_width d₃ e₄ ≡ blanked_columns s
four_fields s long is tag tare code weighing =
    let to_tare = next_field s tag_start tag_width {f = []} (omega arith) (record { is = is; wide = refl }) tag in
    let to_code = next_field s tare_start tare_width (omega arith) to_tare tare in
    let to_weighing = next_field s code_start code_width (omega arith) to_code code in
    let whole = next_field s weighing_start weighing_width (omega arith) to_weighing weighing in
    let none_behind : drop line_columns_width s ≡ [] = ap (λ (n : ℕ). drop n s) (sym long) ∙ drop-length s in
    whole.is
    ∙ rw none_behind
    (four_joined (blank_zeros (take tag_width s)) (blank_zeros (take tare_width (drop tare_start s))) (blank_zeros (take code_width (drop code_start s))) (blank_zeros (take weighing_width (drop weighing_start s))))

-- a line without leading zeros is copied
pub returns-then-plain : goal.returns-then-plain
returns-then-plain c = c.copy_columns.ensures ∙ sym (c.requires.1.1 c.if-plain.true)

pub returns : goal.returns
returns c =
    four_fields c.args.line.now c.requires.1.0
    c.copy_columns.ensures
    c.blank_zeros.ensures
    c.blank_zeros-2.ensures
    c.blank_zeros-3.ensures
    c.blank_zeros-4.ensures
