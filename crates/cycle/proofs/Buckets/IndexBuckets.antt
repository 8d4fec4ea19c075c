-- An index bucket of the cycle, from its control pairs and its entries as the code has them.
--     Prints, index_printed       entries put behind these pairs make the bucket, where pairs and distances are the bucket's
-- Assumes nothing.
use mathlib.Core.Path.{◌≡◌, refl, sym, ap, ap₂, subst, ◌∙◌}
use Prim.Native.Nat.{ℕ, zero, suc, ◌+◌, ◌-◌, ◌*◌, ◌≤◌, ◌<◌}
use native.Mathlib.Omega.{arith}
use mathlib.Core.List.{List, [], ◌∷◌, ◌++◌, map}
use lib.ListN.{length}
use Rattle.columns.specs.Lists.{joined, span, padded, put}
use Rattle.buckets.specs.declared.Head.{Head}
use Rattle.buckets.specs.declared.Line.{Line}
use Rattle.buckets.specs.Lengths.{newline, entries_start, pairs_most, entries_most, bucket_end}
use Rattle.buckets.specs.declared.Pair.{Pair}
use Rattle.buckets.specs.declared.Entry.{Entry}
use Rattle.buckets.specs.Bucket.{index_body, print_entry, print_bucket}
use Rattle.buckets.specs.Inner.Held.{index_front, head_of, bucket_with}
use Rattle.buckets.proofs.Holding.{bucket_whole}
use Rattle.buckets.proofs.EntriesPut.{all_put}
use Rattle.cycle.specs.Tree.{Plan, children, largest_tag}
use Rattle.cycle.specs.Layouts.{Slot, slot, slots}
use Rattle.cycle.specs.Cycle.{to_next, pairs, entry, entries, cycle_size}
use Rattle.cycle.specs.declared.Figures.{Figures}
use Rattle.cycle.specs.declared.Source.{Source}
use Rattle.cycle.specs.Inner.Held.{plan_of, InTree, Ready, lines_held, plan_in, last_sent_before, cycle_bucket, child_distance, child_entry, child_entries}
use Rattle.cycle.proofs.Trees.Shapes.{children_shape, slots_shape}
use Rattle.cycle.proofs.Trees.Children.{children_count, children_row, high}
use Rattle.cycle.proofs.Building.AcceptedLists.{head_shape}
use Rattle.cycle.proofs.Segmenting.Positions.{At, at_length, index_at}
use Rattle.cycle.proofs.Reach.NextOccurrence.{to_send}
use Rattle.cycle.proofs.Buckets.ChildEntries.{entries_count}

pub map_same :
    {B : Type 0} (f g : ℕ → B) (a c : ℕ) → ((x : ℕ) → a ≤ x → x < a + c → f x ≡ g x) → map f (span a c) ≡ map g (span a c)
map_same f g a zero h = refl
map_same f g a (suc c) h =
    ap₂ (λ y ys. y ∷ ys) (h a (omega arith) (omega arith)) (map_same f g (suc a) c (λ x u v. h x (omega arith) (omega arith)))

-- the entries of bucket j of height e put behind these pairs make the bucket at x
abbrev pub Prints : Figures → Source → List ℕ → ℕ → ℕ → ℕ → List Pair → Type 0
Prints f source text e j x ps =
    (head : Head) (count : ℕ) (part last : List ℕ) → head ≡ head_of (cycle_bucket (plan_of f []) x) →
    count ≡ length (children (plan_of f []) (f.k + 1 - e) j) → part ≡ padded bucket_end (index_front head ps count) ++ newline ∷ [] →
    last ≡ put part entries_start (joined print_entry (child_entries f source text e j x count)) →
    last ≡ print_bucket (cycle_bucket (plan_in f source text) x)

module _ (f : Figures) (source : Source) (text : List ℕ) (ready : Ready f) (e j x : ℕ) (low : 1 ≤ e) (inside : InTree f e j) where
  abbrev ls : List Line
  ls = lines_held f source text

  abbrev t : Plan
  t = plan_of f ls

  abbrev child_count : ℕ
  child_count = length (children (plan_of f []) (f.k + 1 - e) j)

  -- it is the one of level i that stands there
  module _ {i : ℕ} {xs : List Slot} (level : i ≡ f.k + 1 - e) (a : At t x i j xs) where
    abbrev ahead : List Slot
    ahead = to_send a

    entries_are :
        ((m : ℕ) → m < child_count → to_next ahead (i + 1) (j * f.n + m) ≡ child_distance (plan_of f []) f.size x e j (j * f.n + m)) →
        entries t ahead (slot i j) ≡ child_entries f source text e j x child_count
    unfolding entries slot entry child_entry plan_in plan_of
    entries_are reach =
        let below : i + 1 ≡ f.k + 1 - (e - 1) = omega (arith, high f ready e j low inside) in
        ap (map (entry t ahead (i + 1)))
        (children_shape f ls [] i j ∙ ap (λ l. children (plan_of f []) l j) level ∙ children_row f ready e j low inside)
        ∙ map_same (entry t ahead (i + 1)) (child_entry f source text e j x) (j * f.n) child_count
        (λ y u v. entry_is y (y - j * f.n) (omega arith) (omega arith) below)
      where
        entry_is : (y m : ℕ) → y ≡ j * f.n + m → m < child_count → i + 1 ≡ f.k + 1 - (e - 1) → entry t ahead (i + 1) y ≡ child_entry f source text e j x y
        entry_is y m is h below =
            subst (λ z. entry t ahead (i + 1) z ≡ child_entry f source text e j x z) (sym is)
            (λ k. record { tag = largest_tag t (below k) (j * f.n + m); distance = reach m h k })

    pub index_printed :
        (ps : List Pair) → length ps ≤ pairs_most → pairs t ahead (last_sent_before t x) (length (slots t) - x) (slot i j) ≡ ps →
        ((m : ℕ) → m < child_count → to_next ahead (i + 1) (j * f.n + m) ≡ child_distance (plan_of f []) f.size x e j (j * f.n + m)) →
        Prints f source text e j x ps
    unfolding plan_in plan_of cycle_size
    index_printed ps few pairs_are reach head count part last head_is count_is part_is last_is_lem =
        let es : List Entry = child_entries f source text e j x child_count in
        let long : length es ≡ child_count = entries_count f source text e j x child_count in
        let room : length es ≤ entries_most = omega (arith, children_count f ready e j low inside, ready.shaped.n_high) in
        let body : index_body ps es ≡ (cycle_bucket t x).body = sym (index_at a (omega arith) ∙ ap₂ index_body pairs_are (entries_are reach)) in
        let size : cycle_size (plan_of f []) ≡ length (slots t) = ap length (slots_shape f [] ls) in
        last_is_lem
        ∙ ap₂ (λ y n. put y entries_start (joined print_entry (child_entries f source text e j x n))) part_is count_is
        ∙ ap₂ (λ (h : Head) n. put (padded bucket_end (index_front h ps n) ++ newline ∷ []) entries_start (joined print_entry es)) head_is (count_is ∙ sym long)
        ∙ all_put (head_of (cycle_bucket (plan_of f []) x)) ps es few room
        ∙ ap print_bucket (ap₂ bucket_with (head_shape f [] ls x (omega (arith, size, at_length a))) body ∙ bucket_whole (cycle_bucket t x))
