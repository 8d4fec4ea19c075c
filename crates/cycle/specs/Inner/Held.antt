-- What the contracts of this crate's inner functions say beyond document 01's own words: how the code holds a plan, where
-- lines stand in the text it reads, and which part of the cycle a function writes. Each is put in terms of `Layouts` and
-- `Cycle`; sums and products that the code computes with are laws in proofs/.
-- Assumes nothing.
use Rattle.std.specs.Prelude.{◌≡◌, ℕ, zero, suc, ◌+◌, ◌-◌, ◌*◌, ◌/◌, ◌%◌, ◌^◌, ◌≤◌, ◌<◌, min, max, Bool, true, List, [], ◌∷◌, ◌++◌, map, eqb, ltb, length, take, drop, get_or}
use Rattle.std.specs.Prelude.{Option, None, Some}
use Rattle.columns.specs.Lists.{pick, joined, span, range, up, put}
use Rattle.columns.specs.PrintedNumbers.{value, print, blank_zeros}
use Rattle.buckets.specs.declared.Line.{Line}
use Rattle.buckets.specs.ListLine.{spelled, cut_lines, list_lines, misprint_from, fall_from}
use Rattle.buckets.specs.declared.Pair.{Pair}
use Rattle.buckets.specs.declared.Entry.{Entry}
use Rattle.buckets.specs.Bucket.{index_body, Bucket}
use Rattle.buckets.specs.Lengths.{tag_width, line_columns_width, line_length, lines_most, entries_most, bucket_lines_most, bucket_length}
use Rattle.buckets.specs.Lengths.{lines_start, buckets_most}
use Rattle.cycle.specs.Tree.{Plan, layout_number, levels, width, above, last_tag, largest_tag}
use Rattle.cycle.specs.Layouts.{Slot, slot, sent, path, path_top, distributed_segment, whole_segment, slots}
use Rattle.cycle.specs.Cycle.{first_place, to_next_segment, last_sent, first_pair, buckets, cycle_size, image}
use Rattle.cycle.specs.Building.{copies_fit}
use Rattle.cycle.specs.Judging.{full_size, tree_at, tree_height, last_tree}
use Rattle.cycle.specs.declared.Figures.{Figures}
use Rattle.cycle.specs.declared.Segment.{Segment}
use Rattle.cycle.specs.declared.Source.{Source}
use Rattle.cycle.specs.declared.Source.TheVariants.{List as InList, Image as InImage}

-- ---- the plan

-- the plan that figures stand for, over some lines
unfoldable pub plan_of : Figures → List Line → Plan
plan_of f ls =
    record
    { n = f.n; p = f.p; layout = layout_number f.layout; copies = f.copies; lines = ls; d = f.d; k = f.k }

-- no full tree has more data buckets under it: a tree with one level less has fewer than the list
abbrev pub span_most : ℕ
span_most = lines_most * entries_most

-- settings and a number of lines within their ranges, with their D and k
pub record InRange (n p layout lines d k : ℕ) : Type 0 where
  pub n_low : 2 ≤ n
  pub n_high : n ≤ entries_most
  pub p_low : 1 ≤ p
  pub p_high : p ≤ bucket_lines_most
  pub layout_low : 1 ≤ layout
  pub layout_high : layout ≤ 2
  pub lines_high : lines ≤ lines_most
  pub d_is : d ≡ up lines p
  pub k_is : k ≡ levels n d

-- figures that settings within their ranges give
abbrev pub Shaped : Figures → Type 0
Shaped f = InRange f.n f.p (layout_number f.layout) f.lines f.d f.k

-- bucket j of height e is one of the tree's
unfoldable pub InTree : Figures → ℕ → ℕ → Type 0
InTree f e j = (e ≤ f.k) × (j * f.n ^ e < max 1 f.d)

-- the number of segments
unfoldable pub segment_count : Plan → ℕ
segment_count t = pick (eqb t.layout 1) (max 1 (width t (t.copies + 1))) t.copies

-- figures with these for a segment's tree and for N
abbrev pub with_trees : Figures → ℕ → ℕ → ℕ → ℕ → Figures
with_trees f size span full last =
    record {
      n = f.n;
      p = f.p;
      layout = f.layout;
      copies = f.copies;
      lines = f.lines;
      d = f.d;
      k = f.k;
      size = size;
      span = span;
      full = full;
      last = last;
    }

-- figures with those of a segment's tree and with their N
unfoldable pub sized : Figures → ℕ → Figures
sized f size =
    with_trees f size (f.n ^ tree_height (plan_of f [])) (full_size f.n (tree_height (plan_of f []))) (last_tree (plan_of f []))

-- the figures of a segment's tree are set
pub record Trees (f : Figures) : Type 0 where
  pub span_is : f.span ≡ f.n ^ tree_height (plan_of f [])
  pub full_is : f.full ≡ full_size f.n (tree_height (plan_of f []))
  pub last_is_lem : f.last ≡ last_tree (plan_of f [])

-- figures of a cycle that can be sent
pub record Ready (f : Figures) : Type 0 where
  pub shaped : Shaped f
  pub trees : Trees f
  pub copies_fit_lem : copies_fit (plan_of f []) ≡ true
  pub size_is : f.size ≡ cycle_size (plan_of f [])
  pub size_high : f.size ≤ buckets_most

-- ---- places

-- the distance from position x of a cycle of this size to a place of it: to that place if it is ahead, else to the next cycle's
-- start
unfoldable pub ahead_of : ℕ → ℕ → ℕ → ℕ
ahead_of size x place = pick (ltb x place) (place - x) (size - x)

-- a bucket as sent, apart from whether a segment starts with it
unfoldable pub bare : Slot → Slot
bare x = slot x.level x.place

-- the buckets xs stand in the cycle from position x on
pub record StandsAt (t : Plan) (x : ℕ) (xs : List Slot) : Type 0 where
  pub before : List Slot
  pub middle : List Slot
  pub behind : List Slot
  pub splits : slots t ≡ before ++ (middle ++ behind)
  pub here : length before ≡ x
  pub alike : map bare middle ≡ xs

-- the path of a segment, none in layout 2
unfoldable pub path_of : Plan → ℕ → List Slot
path_of t b = pick (eqb t.layout 1) (path t b) []

-- the buckets of segment b
unfoldable pub segment_slots : Plan → ℕ → List Slot
segment_slots t b = pick (eqb t.layout 1) (distributed_segment t b) (whole_segment t b)

-- the tag of the last line sent before position x
abbrev pub last_sent_in : Plan → Option ℕ → List Slot → Option ℕ
last_sent_in t last [] = last
last_sent_in t last (x ∷ xs) = last_sent_in t (last_sent t x last) xs

unfoldable pub last_sent_before : Plan → ℕ → Option ℕ
last_sent_before t x = last_sent_in t None (take x (slots t))

-- the last tag of the data buckets up to but without q
abbrev pub last_of : Plan → ℕ → Option ℕ
last_of t zero = None
last_of t (suc q) = Some (last_tag t q)

-- Segment number `number` of the cycle, as the code holds it: its path, from level `top` on; its tree, that of bucket `root`
-- of height `height`; its data buckets, from `first` up to but without `last`; and where these stand.
pub record HoldsSegment (t : Plan) (s : Segment) : Type 0 where
  pub path_stands : StandsAt t s.start (path_of t s.number)
  pub path_length : s.tree_at ≡ s.start + length (path_of t s.number)
  pub top_is : t.layout ≡ 1 → s.top ≡ path_top t.n t.copies s.number
  pub no_path : (t.layout ≡ 1 → ⊥) → s.top ≡ t.copies + 1
  pub root_is : t.layout ≡ 1 → s.root ≡ s.number
  pub low : 1 ≤ s.height
  pub high : s.height ≤ t.k
  pub height_is : s.height ≡ tree_height t
  pub tree_stands : StandsAt t s.tree_at (tree_at t s.height s.root)
  pub tree_length : s.data_at ≡ s.tree_at + length (tree_at t s.height s.root)
  pub first_last : s.first ≤ s.last
  pub data_stands : StandsAt t s.data_at (sent t (range s.first s.last))
  pub ends : s.end ≡ s.data_at + (s.last - s.first)
  pub start_is : s.start ≡ length (joined (segment_slots t) (range 0 s.number))
  pub end_is : s.end ≡ length (joined (segment_slots t) (range 0 (suc s.number)))
  -- the next segment, or the coming cycle, starts at `end`, and none in between
  pub next_starts : (x : ℕ) → s.start ≤ x → x < s.end → to_next_segment (drop (suc x) (slots t)) ≡ s.end - x
  -- the data buckets sent before the segment are those up to `first`
  pub sent_before_lem : (x : ℕ) → s.start ≤ x → x < s.data_at → last_sent_before t x ≡ last_of t s.first
  -- in layout 1 they are those under its tree
  pub data_under_lem : t.layout ≡ 1 → (s.first ≡ s.root * t.n ^ s.height) × (s.last ≡ min t.d ((s.root + 1) * t.n ^ s.height))
  pub number_in : s.number < segment_count t
  pub first_in : s.first < max 1 t.d
  pub last_in : s.last ≤ t.d

-- ---- lines

-- the place of line i's first byte in the text
abbrev pub line_at : Plan → Source → ℕ → ℕ
line_at t InList i = line_length * i
line_at t InImage i = bucket_length * first_place t (t.k + 1) (i / t.p) + (lines_start + line_columns_width * (i % t.p))

-- the lines that stand in a text
unfoldable pub lines_held : Figures → Source → List ℕ → List Line
lines_held f source text = map (λ i. spelled (drop (line_at (plan_of f []) source i) text)) (range 0 f.lines)

-- the tag of line i
unfoldable pub tag_at : Figures → Source → List ℕ → ℕ → ℕ
tag_at f source text i = value 0 (take tag_width (drop (line_at (plan_of f []) source i) text))

-- the plan over those lines
unfoldable pub plan_in : Figures → Source → List ℕ → Plan
plan_in f source text = plan_of f (lines_held f source text)

-- a list that can be sent, under figures of its length
pub record AcceptedList (f : Figures) (list : List ℕ) : Type 0 where
  pub ready : Ready f
  pub whole : length list ≡ line_length * f.lines
  pub printed : misprint_from 0 (cut_lines list) ≡ None
  pub rising : fall_from 0 0 (list_lines list) ≡ None

-- the bytes of a text that holds them
abbrev pub text_length : Figures → Source → ℕ
text_length f InList = line_length * f.lines
text_length f InImage = bucket_length * f.size

-- the text is long enough to hold them
abbrev pub TextFits : Figures → Source → ℕ → Type 0
TextFits f source c = c ≡ text_length f source

-- ---- buckets

unfoldable pub no_bucket : Bucket
no_bucket = record { position = 0; to_cycle = 0; to_segment = 0; body = index_body [] [] }

-- bucket x of the cycle
unfoldable pub cycle_bucket : Plan → ℕ → Bucket
cycle_bucket t x = get_or (buckets t) x no_bucket

-- the image's bytes from bucket x on, c buckets
unfoldable pub image_part : Plan → ℕ → ℕ → List ℕ
image_part t x c = take (bucket_length * c) (drop (bucket_length * x) (image t))

-- ---- what stands in an index bucket, as the code works it out

-- the distance from bucket j of height e in a segment's tree, at x, to its child c: a data bucket may stand anywhere, a subtree
-- follows those of the earlier children
unfoldable pub tree_distance : Plan → ℕ → ℕ → ℕ → ℕ → ℕ → ℕ
tree_distance t size x e j c =
    pick (eqb e 1) (ahead_of size x (first_place t (t.k + 1) c)) (1 + length (joined (tree_at t (e - 1)) (range (j * t.n) c)))

-- the distance from bucket j of height e of a segment, at x, to its child c: above the segment's tree it is a path bucket
unfoldable pub child_distance : Plan → ℕ → ℕ → ℕ → ℕ → ℕ → ℕ
child_distance t size x e j c =
    pick (ltb (tree_height t) e) (ahead_of size x (first_place t (t.k + 2 - e) c)) (tree_distance t size x e j c)

-- its entry for child c
unfoldable pub child_entry : Figures → Source → List ℕ → ℕ → ℕ → ℕ → ℕ → Entry
child_entry f source text e j x c =
    record {
      tag = largest_tag (plan_in f source text) (f.k + 1 - (e - 1)) c;
      distance = child_distance (plan_of f []) f.size x e j c;
    }

-- those of its first c children
abbrev pub child_entries : Figures → Source → List ℕ → ℕ → ℕ → ℕ → ℕ → List Entry
child_entries f source text e j x c = map (child_entry f source text e j x) (span (j * f.n) c)

-- where a text has the last line under bucket j of a level whose full buckets have `span` data buckets under them
unfoldable pub tag_place : Figures → Source → ℕ → ℕ → ℕ
tag_place f source span j = line_at (plan_of f []) source (min f.lines ((j + 1) * span * f.p) - 1)

-- the distance that pair j of a path bucket at x reaches, over bucket `place` of level j: right before the next bucket under
-- the same parent, or the next cycle's start where there is none
unfoldable pub pair_reach : Plan → ℕ → ℕ → ℕ → ℕ → ℕ
pair_reach t size x j place =
    pick (eqb ((place + 1) % t.n) 0) (size - x)
    (pick (ltb (place + 1) (width t j)) (first_place t j (place + 1) - 1 - x) (size - x))

-- the bucket of level i above bucket b of level r + 1
unfoldable pub place_over : Plan → ℕ → ℕ → ℕ
place_over t b i = above t.n (t.copies + 1 - i) b

-- the control pairs of a bucket of height e in a segment's tree, behind `sent` data buckets: the root of layout 2 has one
unfoldable pub tree_pairs : Plan → ℕ → ℕ → ℕ → List Pair
tree_pairs t sent to_cycle e = pick (eqb t.layout 2) (pick (eqb e t.k) (first_pair (last_of t sent) to_cycle ∷ []) []) []

-- pair j, from 2 on, of a path bucket at x before bucket b of level r + 1
unfoldable pub path_pair : Figures → Source → List ℕ → ℕ → ℕ → ℕ → Pair
path_pair f source text b x j =
    record {
      tag = Some (largest_tag (plan_in f source text) j (place_over (plan_in f source text) b j));
      distance = pair_reach (plan_of f []) f.size x j (place_over (plan_of f []) b j);
    }

-- the pairs of the path bucket of level i of a segment, at x
unfoldable pub path_pairs : Figures → Source → List ℕ → Segment → ℕ → ℕ → List Pair
path_pairs f source text s i x =
    first_pair (last_of (plan_in f source text) s.first) (f.size - x) ∷ map (path_pair f source text s.number x) (range 2 (i + 1))

-- the path bucket of level i before bucket b of level r + 1 stands at x
pub record OnPath (t : Plan) (b i x : ℕ) : Type 0 where
  pub distributed : t.layout ≡ 1
  pub top : path_top t.n t.copies b ≤ i
  pub high : i ≤ t.copies
  pub inside : b < segment_count t
  pub here : x ≡ length (joined (distributed_segment t) (range 0 b)) + (i - path_top t.n t.copies b)

-- the bytes d with the cycle's buckets from x up to but without y written over them, each at its place
unfoldable pub written : Plan → List ℕ → ℕ → ℕ → List ℕ
written t d x y = put d (bucket_length * x) (image_part t x (y - x))

-- ---- what the functions that write a segment are given

-- in layout 1, bucket j of height e has no data buckets under it but the segment's
pub record Under (f : Figures) (s : Segment) (e j : ℕ) : Type 0 where
  pub from : layout_number f.layout ≡ 1 → s.root * f.n ^ s.height ≤ j * f.n ^ e
  pub to : layout_number f.layout ≡ 1 → (j + 1) * f.n ^ e ≤ (s.root + 1) * f.n ^ s.height

-- the subtree of bucket j of height e stands at x, in the segment's tree
pub record TreePlace (f : Figures) (s : Segment) (e j x : ℕ) : Type 0 where
  pub low : 1 ≤ e
  pub high : e ≤ s.height
  pub inside : InTree f e j
  pub behind_path_lem : s.tree_at ≤ x
  pub before_data : x + length (tree_at (plan_of f []) e j) ≤ s.data_at
  pub stands : StandsAt (plan_of f []) x (tree_at (plan_of f []) e j)
  pub under : Under f s e j

-- data bucket q of the segment stands at x
pub record DataPlace (s : Segment) (q x : ℕ) : Type 0 where
  pub low : s.first ≤ q
  pub high : q < s.last
  pub here : x ≡ s.data_at + (q - s.first)

-- the path bucket of level i of the segment stands at x
pub record PathPlace (f : Figures) (s : Segment) (i x : ℕ) : Type 0 where
  pub from_top : s.top ≤ i
  pub high : i ≤ f.copies
  pub here : x ≡ s.start + (i - s.top)

-- bucket j of height e stands at x, in the segment's tree or above it, on its path
pub record IndexPlace (f : Figures) (s : Segment) (e j x : ℕ) : Type 0 where
  pub low : 1 ≤ e
  pub inside : InTree f e j
  pub below : x < f.size
  pub in_tree : e ≤ s.height → TreePlace f s e j x
  pub on_path_lem : s.height < e → layout_number f.layout ≡ 1

-- bucket j is one of a level whose full buckets have `span` data buckets under them
pub record Spans (f : Figures) (span j : ℕ) : Type 0 where
  pub height : ℕ
  pub power : span ≡ f.n ^ height
  pub inside : InTree f height j

-- the same, in the tree of a segment
pub record SpansIn (f : Figures) (s : Segment) (span j : ℕ) : Type 0 where
  pub spans : Spans f span j
  pub under : Under f s spans.height j

-- The largest tag under each bucket stands at the place of its line: printed, but for leading zeros, of which there are none
-- where `plain` says so.
pub record TagsStand (f : Figures) (source : Source) (text : List ℕ) (plain : Bool) : Type 0 where
  pub within : (e j : ℕ) → 1 ≤ f.d → InTree f e j → tag_place f source (f.n ^ e) j + tag_width ≤ length text
  pub printed :
      (e j : ℕ) → 1 ≤ f.d → InTree f e j →
      blank_zeros (take tag_width (drop (tag_place f source (f.n ^ e) j) text))
      ≡ print tag_width (largest_tag (plan_in f source text) (f.k + 1 - e) j)
  pub no_zeros :
      plain ≡ true → (e j : ℕ) → 1 ≤ f.d → InTree f e j →
      blank_zeros (take tag_width (drop (tag_place f source (f.n ^ e) j) text))
      ≡ take tag_width (drop (tag_place f source (f.n ^ e) j) text)

-- what the index buckets of a segment are printed from
pub record Printing (f : Figures) (source : Source) (text : List ℕ) (plain : Bool) (s : Segment) : Type 0 where
  pub ready : Ready f
  pub fits : TextFits f source (length text)
  pub placed : (ls : List Line) → HoldsSegment (plan_of f ls) s
  pub tags : TagsStand f source text plain
