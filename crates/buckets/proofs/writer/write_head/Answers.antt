-- The fields over blank columns: where these begin, as the fields are written.
use Rattle.std.proofs.Common.{arith, ℕ, ◌-◌, ◌≡◌, refl, List, set}
use Rattle.columns.specs.Lists.{put}
use Rattle.columns.specs.PrintedNumbers.{print, blanks}
use Rattle.columns.proofs.Blank.{BlankFrom, all_blank_lem, blank_behind, set_behind, ready}
use Rattle.buckets.specs.declared.Head.{Head}
use Rattle.buckets.specs.Lengths.{position_start, to_cycle_start, to_segment_start, follow_on_start, letter_column}
use Rattle.buckets.specs.Lengths.{pair_count_start, item_count_start, head_width}
use Rattle.buckets.proofs.writer.write_head.Goals as goal

abbrev Blank : ℕ → List ℕ → Type 0
Blank a d = BlankFrom head_width a d

abbrev over : List ℕ → ℕ → ℕ → ℕ → List ℕ
over d a b x = put d a (print (b - a) x)

module _ (h : Head) (follow_on letter pairs : ℕ) {d d₁ : List ℕ} (blank : d ≡ blanks head_width) (one : d₁ ≡ over d position_start to_cycle_start h.position) where
  from_cycle : Blank to_cycle_start d₁
  from_cycle = blank_behind _ _ _ _ _ one (all_blank_lem _ _ _ blank refl) refl refl

  module _ {d₂ : List ℕ} (two : d₂ ≡ over d₁ to_cycle_start to_segment_start h.to_cycle) where
    from_segment : Blank to_segment_start d₂
    from_segment = blank_behind _ _ _ _ _ two from_cycle refl refl

    module _ {d₃ : List ℕ} (three : d₃ ≡ over d₂ to_segment_start follow_on_start h.to_segment) where
      from_follow_on : Blank follow_on_start d₃
      from_follow_on = blank_behind _ _ _ _ _ three from_segment refl refl

      module _ {d₄ : List ℕ} (four : d₄ ≡ over d₃ follow_on_start letter_column follow_on) where
        from_letter : Blank letter_column d₄
        from_letter = blank_behind _ _ _ _ _ four from_follow_on refl refl

        from_pairs : Blank pair_count_start (set d₄ letter_column letter)
        from_pairs = set_behind _ _ _ _ _ from_letter refl refl

        from_items : {d₅ : List ℕ} → d₅ ≡ over (set d₄ letter_column letter) pair_count_start item_count_start pairs → Blank item_count_start d₅
        from_items five = blank_behind _ _ _ _ _ five from_pairs refl refl

pub print_at-requires : goal.print_at-requires
print_at-requires c = ready _ _ _ _ (all_blank_lem _ _ _ c.requires refl) refl

pub print_at-requires-2 : goal.print_at-requires-2
print_at-requires-2 c = ready _ _ _ _ (from_cycle c.args.head c.args.follow_on c.args.letter c.args.pairs c.requires c.print_at.ensures) refl

pub print_at-requires-3 : goal.print_at-requires-3
print_at-requires-3 c = ready _ _ _ _ (from_segment c.args.head c.args.follow_on c.args.letter c.args.pairs c.requires c.print_at.ensures c.print_at-2.ensures) refl

pub print_at-requires-4 : goal.print_at-requires-4
print_at-requires-4 c =
    ready _ _ _ _ (from_follow_on c.args.head c.args.follow_on c.args.letter c.args.pairs c.requires c.print_at.ensures c.print_at-2.ensures c.print_at-3.ensures) refl

pub bounds-part-24 : goal.bounds-part-24
bounds-part-24 c =
    omega (arith, (from_letter c.args.head c.args.follow_on c.args.letter c.args.pairs c.requires c.print_at.ensures c.print_at-2.ensures c.print_at-3.ensures c.print_at-4.ensures).wide)

pub print_at-requires-5 : goal.print_at-requires-5
print_at-requires-5 c =
    ready _ _ _ _ (from_pairs c.args.head c.args.follow_on c.args.letter c.args.pairs c.requires c.print_at.ensures c.print_at-2.ensures c.print_at-3.ensures c.print_at-4.ensures) refl

pub print_at-requires-6 : goal.print_at-requires-6
print_at-requires-6 c =
    ready _ _ _ _ (from_items c.args.head c.args.follow_on c.args.letter c.args.pairs c.requires c.print_at.ensures c.print_at-2.ensures c.print_at-3.ensures c.print_at-4.ensures c.print_at-5.ensures) refl

pub returns : goal.returns
unfolding put blanks
returns c =
    rw (
      c.print_at-6.ensures,
      c.print_at-5.ensures,
      c.print_at-4.ensures,
      c.print_at-3.ensures,
      c.print_at-2.ensures,
      c.print_at.ensures,
      c.requires,
    )
