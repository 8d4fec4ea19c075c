-- What the functions that write a segment have at hand: bounds, what they ask of their callees, and the turns of their loops.
-- Assumes nothing.
use mathlib.Core.Path.{◌≡◌, refl, sym, ap, ◌∙◌}
use Prim.Native.Nat.{ℕ, ◌+◌, ◌-◌, ◌*◌, ◌≤◌, ◌<◌}
use native.Mathlib.Omega.{arith}
use mathlib.Core.List.{List, [], ◌++◌}
use lib.ListN.{length, take, drop}
use Rattle.cycle.specs.Tree.{children}
use Rattle.cycle.specs.declared.Figures.{Figures}
use Rattle.cycle.specs.declared.Segment.{Segment}
use Rattle.cycle.specs.declared.Source.TheVariants.{List as InList}
use Rattle.cycle.specs.declared.build.Sender.{Sender}
use Rattle.cycle.specs.declared.index.Printer.{Printer}
use Rattle.cycle.specs.Judging.{tree_at}
use Rattle.cycle.specs.Inner.Held.{plan_of, AcceptedList, plan_in, written, cycle_bucket, TreePlace, DataPlace, PathPlace, Printing}
use Rattle.cycle.proofs.Trees.Readiness.{data_high}
use Rattle.cycle.proofs.Segmenting.TreePlaces
use Rattle.cycle.proofs.Segmenting.SegmentParts.{Seated, seated, path_size, path_layout, path_few}
use Rattle.cycle.proofs.Segmenting.Subtrees.{Behind, child_place, all_behind, behind_within}
use Rattle.cycle.proofs.Building.AcceptedLists.{long_in, bucket_in}
use Rattle.cycle.proofs.Building.BucketsWritten.{data_text}
use Rattle.cycle.proofs.Building.Written.{lent_written, written_none, written_one, written_on}
use Rattle.cycle.proofs.Lines.PrintedTags.{list_tags}
use Rattle.buckets.specs.Lengths.{lines_most, bucket_lines_most, bucket_length, buckets_most, pairs_most}
use Rattle.buckets.specs.Bucket.{print_bucket}

-- ---- a run of buckets, written from a on over d

module _ (f : Figures) (list : List ℕ) (sending : AcceptedList f list) (d : List ℕ) (room : bucket_length * f.size ≤ length d) (a : ℕ) where
  pub begun : d ≡ written (plan_in f InList list) d a a
  begun = sym (written_none (plan_in f InList list) f.size (long_in f list sending) d room a)

  pub grown :
      (image image' : List ℕ) (y z : ℕ) → a ≤ y → y ≤ z → z ≤ f.size → image ≡ written (plan_in f InList list) d a y →
      image' ≡ written (plan_in f InList list) image y z → image' ≡ written (plan_in f InList list) d a z
  grown image image' y z h g b here next =
      next
      ∙ ap (λ m. written (plan_in f InList list) m y z) here
      ∙ written_on (plan_in f InList list) f.size (long_in f list sending) d room a y z h g b

-- ---- a segment that is sent

module _ (w : Sender) where
  abbrev f : Figures
  f = w.part.cycle.now.f

  abbrev list : List ℕ
  list = w.list.now

  abbrev s : Segment
  s = w.part.s

  pub seats : Seated f s
  seats = seated f s w.sending.ready w.part.placed

  pub printing : Printing f InList list w.plain s
  printing =
      record {
        ready = w.sending.ready;
        fits = w.sending.whole;
        placed = w.part.placed;
        tags = list_tags f list w.sending w.plain w.no_zeros;
      }

  -- ---- bucket x, lent to be printed

  module _ (image : List ℕ) (room : bucket_length * f.size ≤ length image) (x : ℕ) (below : x < f.size) where
    abbrev at : ℕ
    at = bucket_length * x

    pub lent_room : at + bucket_length ≤ length image
    lent_room = omega arith

    -- by a printer of the segment
    pub bucket_written :
        (q : Printer) → (q.part.now ≡ w.part) × (q.source ≡ InList) × (q.text.now ≡ list) →
        {last : List ℕ} → length last ≡ length (take (at + bucket_length - at) (drop at image)) →
        last ≡ print_bucket (cycle_bucket (plan_in q.part.now.cycle.now.f q.source q.text.now) x) →
        take at image ++ (last ++ drop (at + bucket_length - at) (drop at image)) ≡ written (plan_in f InList list) image x (x + 1)
    bucket_written q (part, source, text) {last} kept is =
        lent_written image at bucket_length last (print_bucket (cycle_bucket (plan_in f InList list) x)) lent_room kept
        (is ∙ rw (part, source, text))
        ∙ written_one (plan_in f InList list) f.size (long_in f list w.sending) image room x
        (print_bucket (cycle_bucket (plan_in f InList list) x)) (bucket_in f list w.sending x below)

  -- ---- its own tree, and its data

  pub own_tree : TreePlace f s s.height s.root s.tree_at
  own_tree = TreePlaces.own_tree f s w.sending.ready w.part.placed

  pub data_in : (q : ℕ) → q < s.last → q < f.d
  data_in q h = TreePlaces.data_in f s w.sending.ready w.part.placed q h

  -- ---- a bucket of its path

  module _ (x : ℕ) (low : s.start ≤ x) (high : x < s.tree_at) where
    pub on_path : PathPlace f s (s.top + (x - s.start)) x
    on_path =
        let size = path_size f s w.sending.ready w.part.placed in
        record { from_top = omega arith; high = omega (arith, size); here = omega arith }

    pub path_below : (x < f.size) × (x < buckets_most) × (s.top + (x - s.start) ≤ pairs_most)
    path_below =
        let one = path_layout f s w.sending.ready w.part.placed _ on_path.from_top on_path.high in
        (omega (arith, seats), omega (arith, seats), omega (arith, on_path.high, path_few f s w.sending.ready w.part.placed one))

  -- ---- one of its data buckets

  module _ {q x : ℕ} (p : DataPlace s q x) where
    pub data_below : (x < s.end) × (x < f.size) × (x < buckets_most) × (q < lines_most)
    data_below =
        let ends = (w.part.placed []).ends in (
          omega (arith, p),
          omega (arith, p, seats),
          omega (arith, p, seats),
          omega (arith, data_in q p.high, data_high f w.sending.ready.shaped),
        )

    pub data_small : (q < f.d) × (q * f.p ≤ lines_most) × ((q + 1) * f.p ≤ lines_most + bucket_lines_most)
    data_small =
        let inside = data_in q p.high in
        let t = data_text f list w.sending q _ _ inside refl refl in
        (inside, omega (arith, t.low, t.few_all), t.next)

  -- ---- a bucket of the tree, whose children's subtrees are written behind it over d

  module _ {e j x : ℕ} (p : TreePlace f s e j x) where
    pub tree_below : (x < f.size) × (x < buckets_most)
    tree_below =
        let before = TreePlaces.tree_before f s w.sending.ready w.part.placed e j x p in
        (omega (arith, seats), omega (arith, seats))

    module _ (d : List ℕ) (room : bucket_length * f.size ≤ length d) where
      pub begins : d ≡ written (plan_in f InList list) d (x + 1) (x + 1)
      begins = begun f list w.sending d room (x + 1)

      module _ (more : e ≡ 1 → ⊥) {count : ℕ} (counted : count ≡ length (children (plan_of f []) (f.k + 1 - e) j))
          {i next : ℕ} (b : Behind f e j x count i next) {image : List ℕ} (here : image ≡ written (plan_in f InList list) d (x + 1) next) where
        next_within : (x + 1 ≤ next) × (next ≤ f.size)
        next_within =
            let low = b.here in
            let end = behind_within w.sending.ready w.part.placed p counted b more in
            (omega arith, omega (arith, seats, p.before_data))

        pub next_written :
            i < count → (next' : ℕ) {image' : List ℕ} → next' ≡ next + length (tree_at (plan_of f []) (e - 1) (j * f.n + i)) →
            image' ≡ written (plan_in f InList list) image next (next + length (tree_at (plan_of f []) (e - 1) (j * f.n + i))) →
            image' ≡ written (plan_in f InList list) d (x + 1) next'
        next_written h next' {image'} is wrote =
            let place = child_place w.sending.ready w.part.placed p counted b more h in
            grown f list w.sending d room (x + 1) image image' next next' next_within.0 (omega arith)
            (omega (arith, place.before_data, seats)) here (wrote ∙ ap (written (plan_in f InList list) image next) (sym is))

        pub all_written :
            count ≤ i → (entry : List ℕ) → bucket_length * f.size ≤ length entry → d ≡ written (plan_in f InList list) entry x (x + 1) →
            image ≡ written (plan_in f InList list) entry x (x + length (tree_at (plan_of f []) e j))
        all_written h entry long first =
            grown f list w.sending entry long x d image (x + 1) next (omega arith) next_within.0 next_within.1 first here
            ∙ ap (written (plan_in f InList list) entry x) (all_behind w.sending.ready w.part.placed p counted b h)
