-- The entries of an index bucket of a segment, put one after the other.
--     columns_to                   a bucket's columns, the entries of its first children put
--     place_asked, tag_within     what the place of a child's tag is asked for with, and that the text reaches so far
--     columns_wide, blank_there, one_entry    the columns behind the entries put, and one more entry
-- Assumes nothing.
use mathlib.Core.Path.{◌≡◌, sym, ap, ap₂, ◌∙◌}
use mathlib.Core.Logic.{⊎_elim}
use Prim.Native.Nat.{ℕ, ◌+◌, ◌-◌, ◌*◌, ◌^◌, ◌≤◌, ◌<◌}
use native.Mathlib.Nat.{pow-le-pow_right}
use native.Mathlib.Omega.{arith}
use mathlib.Core.Bool.{Bool, true}
use mathlib.Core.List.{List, [], ◌++◌, map, map-append}
use lib.ListN.{length, take, drop, length-map}
use Rattle.columns.specs.Lists.{joined, span, put}
use Rattle.columns.specs.PrintedNumbers.{print, blank_zeros}
use Rattle.buckets.specs.Lengths.{tag_width, place_width, entries_start, entries_most, bucket_length}
use Rattle.buckets.specs.Bucket.{print_entry}
use Rattle.buckets.specs.Inner.Held.{entry_start, EntryBlank, EntriesBlank}
use Rattle.buckets.proofs.EntriesPut.{put_wide, next_blank, one_more}
use Rattle.cycle.specs.Tree.{children}
use Rattle.cycle.specs.declared.Figures.{Figures}
use Rattle.cycle.specs.declared.Segment.{Segment}
use Rattle.cycle.specs.declared.Source.{Source}
use Rattle.cycle.specs.Inner.Held.{plan_of, InTree, tag_place, child_distance, child_entry, child_entries, IndexPlace, Spans, SpansIn, Printing}
use Rattle.cycle.proofs.Basics.Ranges.{le_or_lt, length_span, span_append}
use Rattle.cycle.proofs.Segmenting.TreePlaces.{child_under}
use Rattle.cycle.proofs.Trees.Children.{children_count, few, under_data, child_inside}

-- bucket d, the entries of the first c children of bucket j of height e put
abbrev pub columns_to : Figures → Source → List ℕ → ℕ → ℕ → ℕ → List ℕ → ℕ → List ℕ
columns_to f source text e j x d c = put d entries_start (joined print_entry (child_entries f source text e j x c))

pub entries_count : (f : Figures) (source : Source) (text : List ℕ) (e j x c : ℕ) → length (child_entries f source text e j x c) ≡ c
entries_count f source text e j x c = length-map (span (j * f.n) c) (child_entry f source text e j x) ∙ length_span (j * f.n) c

module _ {f : Figures} {source : Source} {text : List ℕ} {plain : Bool} {s : Segment} (w : Printing f source text plain s) {e j x : ℕ} (p : IndexPlace f s e j x) where
  abbrev child_count : ℕ
  child_count = length (children (plan_of f []) (f.k + 1 - e) j)

  -- a level below the roots of the segments' trees
  lower : f.n ^ (e - 1) < f.span → e ≤ s.height
  lower h =
      ⊎_elim
      (λ (l : e ≤ s.height). l)
      (λ (l : s.height < e).
      let root : f.span ≡ f.n ^ s.height = w.ready.trees.span_is ∙ ap (λ z. f.n ^ z) (sym (w.placed []).height_is) in
      let up : f.n ^ s.height ≤ f.n ^ (e - 1) = pow-le-pow_right {n = f.n} (omega (arith, w.ready.shaped.n_low)) {i = s.height} {j = e - 1} (omega arith) in
      absurd (omega arith))
      (le_or_lt e s.height)

  -- child m
  module _ {m : ℕ} (h : m < child_count) where
    abbrev c : ℕ
    c = j * f.n + m

    any_data : 1 ≤ f.d
    any_data = omega (arith, under_data f w.ready e j p.low p.inside m h)

    inside : InTree f (e - 1) c
    inside = child_inside f w.ready e j p.low p.inside m h

    pub few_left : m < entries_most
    few_left = few f w.ready e j p.low p.inside m h

    module _ {wide : ℕ} (wide_is : wide ≡ f.n ^ (e - 1)) where
      pub place_asked : (1 ≤ f.d) × (Spans f wide c × (wide < f.span → SpansIn f s wide c))
      place_asked =
          let there : Spans f wide c = record { height = e - 1; power = wide_is; inside = inside } in
          let among : m < f.n = omega (arith, children_count f w.ready e j p.low p.inside) in (
            any_data,
            (there, λ l. record { spans = there; under = child_under f s e j m p.low among (p.in_tree (lower (omega (arith, wide_is)))).under }),
          )

      module _ {from : ℕ} (from_is : from ≡ tag_place f source wide c) where
        there : from ≡ tag_place f source (f.n ^ (e - 1)) c
        there = from_is ∙ ap (λ z. tag_place f source z c) wide_is

        pub tag_within : from + tag_width ≤ length text
        tag_within = omega (arith, there, w.tags.within (e - 1) c any_data inside)

        pub tag_stays : plain ≡ true → blank_zeros (take tag_width (drop from text)) ≡ take tag_width (drop from text)
        tag_stays no_zero = rw there (w.tags.no_zeros no_zero (e - 1) c any_data inside)

        entry_printed : {d : ℕ} → d ≡ child_distance (plan_of f []) f.size x e j c →
            blank_zeros (take tag_width (drop from text)) ++ print place_width d ≡ print_entry (child_entry f source text e j x c)
        unfolding print_entry child_entry
        entry_printed d_is =
            ap₂ (λ a b. blank_zeros (take tag_width (drop a text)) ++ print place_width b) there d_is
            ∙ ap (λ a. a ++ print place_width (child_distance (plan_of f []) f.size x e j c)) (w.tags.printed (e - 1) c any_data inside)

  -- ---- its entries, one after the other

  pub few_children : child_count ≤ entries_most
  few_children = omega (arith, children_count f w.ready e j p.low p.inside, w.ready.shaped.n_high)

  module _ (start : List ℕ) (long : length start ≡ bucket_length) (c : ℕ) {part : List ℕ} (part_is : part ≡ columns_to f source text e j x start c) where
    count_is : length (child_entries f source text e j x c) ≡ c
    count_is = entries_count f source text e j x c

    pub columns_wide : c ≤ child_count → length part ≡ bucket_length
    columns_wide h = ap length part_is ∙ put_wide start long (child_entries f source text e j x c) (omega (arith, few_children, count_is))

    module _ (h : c < child_count) where
      pub blank_there : EntriesBlank start → EntryBlank part c
      blank_there blank = rw part_is (next_blank start long (child_entries f source text e j x c) c count_is (few_left h) blank)

      pub one_entry :
          {wide from d : ℕ} {last : List ℕ} → wide ≡ f.n ^ (e - 1) → from ≡ tag_place f source wide (j * f.n + c) →
          d ≡ child_distance (plan_of f []) f.size x e j (j * f.n + c) →
          last ≡ put part (entry_start c) (blank_zeros (take tag_width (drop from text)) ++ print place_width d) → last ≡ columns_to f source text e j x start (c + 1)
      one_entry wide_is from_is d_is last_is_lem =
          last_is_lem
          ∙ ap₂ (λ a b. put a (entry_start c) b) part_is (entry_printed h wide_is from_is d_is)
          ∙ one_more start long (child_entries f source text e j x c) c count_is (few_left h) (child_entry f source text e j x (j * f.n + c))
          ∙ ap (λ es. put start entries_start (joined print_entry es))
          (sym (map-append (child_entry f source text e j x) (span (j * f.n) c) (span (j * f.n + c) 1))
          ∙ ap (map (child_entry f source text e j x)) (sym (span_append (j * f.n) c 1)))
