-- Two tags are the same exactly if their columns add the same digits.
use Rattle.std.proofs.Common.{◌≡◌, ℕ, ◌+◌, ◌-◌, ◌*◌, ◌≤◌, ◌<◌, List, [], map, length, take, drop, sym, ap, ◌∙◌, arith}
use native.Mathlib.Nat.{mul-le-mul}
use borrow.Author.Tests.{ne_eqb, eq-eqb}
use Rattle.columns.specs.Lists.{pick}
use Rattle.buckets.specs.Lengths.{tag_width, line_length, lines_most}
use Rattle.cycle.specs.Cycle.{first_place}
use Rattle.cycle.specs.Inner.Held.{plan_of, tag_at, AcceptedList}
use Rattle.cycle.specs.Inner.Comparing.{SameDigits}
use Rattle.cycle.specs.declared.Figures.{Figures}
use Rattle.cycle.specs.declared.Source.TheVariants.{List as InList}
use Rattle.cycle.proofs.Trees.Readiness.{data_high}
use Rattle.cycle.proofs.Lines.PrintedTags.{same_columns, other_columns}
use Rattle.cycle.proofs.Lines.FollowOns.{full_lines, follow_last, follow_next, follow_far}
use Rattle.cycle.proofs.build.Sender.list_follow_on.Goals as goal

pub overflow_add-next : goal.overflow_add-next
overflow_add-next c = let w = c.args.self.now in omega (arith, c.requires.0, data_high w.part.cycle.now.f w.sending.ready.shaped)

pub returns-then-next-cycle : goal.returns-then-next-cycle
returns-then-next-cycle c =
    let w = c.args.self.now in
    sym (follow_last w.part.cycle.now.f w.sending.ready InList w.list.now c.args.q c.args.x c.requires.1 c.if-next-cycle.true)

-- the line behind data bucket q, and the one before it
record Lines (f : Figures) (list : List ℕ) (line : ℕ) : Type 0 where
  some : 1 ≤ line
  within : line < f.lines
  few : f.lines ≤ lines_most
  whole : length list ≡ line_length * f.lines
  before : line_length * line - line_length ≡ line_length * (line - 1)

lines : {f : Figures} {list : List ℕ} (q : ℕ) → AcceptedList f list → q + 1 < f.d → Lines f list ((q + 1) * f.p)
lines {f} {list} q w more =
    let h : 1 * 1 ≤ (q + 1) * f.p = mul-le-mul {n₁ = 1} {m₁ = 1} {n₂ = q + 1} {m₂ = f.p} (omega arith) w.ready.shaped.p_low in
    record {
      some = h;
      within = full_lines f w.ready.shaped (q + 1) more;
      few = w.ready.shaped.lines_high;
      whole = w.whole;
      before = omega arith;
    }

pub overflow_mul-at : goal.overflow_mul-at
overflow_mul-at c = omega (arith, lines c.args.q c.args.self.now.sending (omega (arith, c.requires.0, c.if-next-cycle.false)))

pub overflow_mul-at-2 : goal.overflow_mul-at-2
overflow_mul-at-2 c = omega (arith, lines c.args.q c.args.self.now.sending (omega (arith, c.requires.0, c.if-next-cycle.false)))

pub same_tags-requires : goal.same_tags-requires
same_tags-requires c =
    let l = lines c.args.q c.args.self.now.sending (omega (arith, c.requires.0, c.if-next-cycle.false)) in
    (omega (arith, l), omega (arith, l))

pub overflow_sub-result : goal.overflow_sub-result
overflow_sub-result c =
    let w = c.args.self.now in
    omega (
      arith,
      c.data_place.ensures,
      follow_far w.part.cycle.now.f w.sending.ready InList w.list.now c.args.q c.args.x c.requires.1
          (omega (arith, c.requires.0, c.if-next-cycle.false)),
    )

-- the columns of the tag that stands at a place
abbrev columns : List ℕ → ℕ → List ℕ
columns list at = take tag_width (drop at list)

-- the same tag, told from another place
digits_there :
    (list other : List ℕ) {k m : ℕ} → k ≡ m → SameDigits (columns list m) other → SameDigits (columns list k) other
digits_there list other e same = ap (λ z. map (λ c. c - 48) (columns list z)) e ∙ same

pub returns-then-same_tags : goal.returns-then-same_tags
returns-then-same_tags c =
    let w = c.args.self.now in
    let f = w.part.cycle.now.f in
    let list : List ℕ = w.list.now in
    let more : c.args.q + 1 < f.d = omega (arith, c.requires.0, c.if-next-cycle.false) in
    let l = lines c.args.q w.sending more in
    let line : ℕ = (c.args.q + 1) * f.p in
    let tag : ℕ → ℕ = tag_at f InList list in
    let there : List ℕ = columns list (line_length * line) in
    let told : SameDigits (columns list (line_length * line - line_length)) there = c.same_tags.ensures.yes c.if-same_tags.true in
    let same : tag line ≡ tag (line - 1) =
    sym
    (same_columns f list w.sending (line - 1) line (omega (arith, l)) l.within (digits_there list there (sym l.before) told)) in
    ap (λ z. z - c.args.x) c.data_place.ensures
    ∙ sym
    (follow_next f w.sending.ready InList list c.args.q c.args.x c.requires.1 more
    ∙ ap (λ b. pick b (first_place (plan_of f []) (f.k + 1) (c.args.q + 1) - c.args.x) 0) (eq-eqb (tag line) (tag (line - 1)) same))

pub returns : goal.returns
returns c =
    let w = c.args.self.now in
    let f = w.part.cycle.now.f in
    let list : List ℕ = w.list.now in
    let more : c.args.q + 1 < f.d = omega (arith, c.requires.0, c.if-next-cycle.false) in
    let l = lines c.args.q w.sending more in
    let line : ℕ = (c.args.q + 1) * f.p in
    let tag : ℕ → ℕ = tag_at f InList list in
    let there : List ℕ = columns list (line_length * line) in
    let differ : SameDigits (columns list (line_length * (line - 1))) there → ⊥ =
    λ e. c.same_tags.ensures.no c.if-same_tags.false (digits_there list there l.before e) in
    sym
    (follow_next f w.sending.ready InList list c.args.q c.args.x c.requires.1 more
    ∙ ap (λ b. pick b (first_place (plan_of f []) (f.k + 1) (c.args.q + 1) - c.args.x) 0)
    (ne_eqb (tag line) (tag (line - 1))
    (λ same. other_columns f list w.sending (line - 1) line (omega (arith, l)) l.within differ (sym same))))
