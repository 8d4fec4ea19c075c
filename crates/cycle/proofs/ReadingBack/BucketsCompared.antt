-- A bucket of an image against the bucket of the cycle that stands there: index buckets by their columns, data buckets as read.
-- Assumes nothing.
use mathlib.Core.Path.{◌≡◌, refl, sym, ap, ap₂, ◌∙◌, subst}
use Prim.Native.Nat.{ℕ, ◌+◌, ◌-◌, ◌*◌, ◌/◌, ◌%◌, ◌≤◌, ◌<◌, min}
use native.Mathlib.Omega.{arith}
use mathlib.Core.Bool.{Bool, true}
use Rattle.std.specs.Prelude.{Option, None, Some}
use mathlib.Core.List.{List, [], ◌∷◌, ◌++◌, map}
use borrow.Author.Tests.{eq-eqb}
use lib.Arith.{digits_div, digits_mod}
use lib.ListN.{length, drop, get_or, length-drop, length-take, length-map}
use lib.Seq.{ext_get_or, get_or-take, get_or-drop}
use Rattle.columns.specs.Lists.{last_or}
use Rattle.buckets.specs.declared.Line.{Line}
use Rattle.buckets.specs.declared.Head.{Head}
use Rattle.arrayvec.specs.ArrayVec.{ArrayVec}
use Rattle.std.specs.Option.{option_map}
use Rattle.buckets.specs.ListLine.{spelled}
use Rattle.buckets.specs.Bucket.{Body, index_body, data_body, Bucket, print_bucket, read_bucket, good, follow_on}
use Rattle.buckets.specs.Inner.Held.{Reading, Data, head_of, tags_held, contents_of, reading_of, bucket_with}
use Rattle.buckets.proofs.Chained.{none_not_some, map_found}
use Rattle.buckets.proofs.Buckets.{print_of_read_bucket, read_of_print_bucket}
use Rattle.cycle.specs.Tree.{Plan, lines_of, tags_of, last_tag}
use Rattle.cycle.specs.Layouts.{Slot, slot}
use Rattle.cycle.specs.Cycle.{is_data, follow_on_from, bucket_at}
use Rattle.cycle.specs.declared.Figures.{Figures}
use Rattle.cycle.specs.declared.Source.TheVariants.{Image as InImage}
use Rattle.cycle.specs.Cycle.{first_place}
use Rattle.cycle.specs.Inner.Held.{plan_of, Ready, StandsAt, lines_held, plan_in, cycle_bucket}
use Rattle.cycle.specs.Inner.Comparing.{Decides, RisesAt, MatchesAt}
use Rattle.cycle.proofs.Sequences.Sequence.{Keeps, data_count}
use Rattle.cycle.proofs.Sequences.Keeping.{keeps}
use Rattle.cycle.proofs.Trees.Shapes.{stand_shape, first_place_shape}
use Rattle.cycle.proofs.Segmenting.Positions.{At, stand_at, at_same, data_at_lem}
use Rattle.buckets.proofs.Holding.{bucket_whole}
use Rattle.cycle.proofs.Trees.Readiness.{sound}
use Rattle.cycle.proofs.Building.AcceptedLists.{head_shape}
use Rattle.cycle.proofs.Basics.Deciding.{decides_by}
use Rattle.buckets.specs.BucketLines.{line_bytes}
use Rattle.cycle.proofs.ReadingBack.ImageLines.{data_first, data_placed, printed_spells, length_held, held_line}

-- ---- the tags of the data bucket at x against the next one's

module _ (t : Plan) (ks : Keeps t) {x i j : ℕ} {xs : List Slot} (a : At t x i j xs) where
  same_data : (q : ℕ) → first_place t (t.k + 1) q ≡ x → q + 1 < t.d → (i ≡ t.k + 1) × (j ≡ q)
  same_data q e h = at_same a (subst (λ y. At t y (t.k + 1) q []) e (data_placed t ks q (omega arith)))

  -- an index bucket is none
  pub none_falls : i ≤ t.k → (q : ℕ) → first_place t (t.k + 1) q ≡ x → RisesAt t q
  none_falls low q e h = absurd (omega (arith, (same_data q e h).0))

  pub one_rises : RisesAt t j → (q : ℕ) → first_place t (t.k + 1) q ≡ x → RisesAt t q
  one_rises r q e h = subst (RisesAt t) (same_data q e h).1 r h

-- ---- index buckets

module _ (f : Figures) (bytes : List ℕ) (ready : Ready f) where
  pub stand_held : {x : ℕ} {xs : List Slot} → StandsAt (plan_of f []) x xs → StandsAt (plan_in f InImage bytes) x xs
  unfolding plan_in
  stand_held st = stand_shape f [] (lines_held f InImage bytes) st

  pub head_held : (x : ℕ) → x < f.size → head_of (cycle_bucket (plan_of f []) x) ≡ head_of (cycle_bucket (plan_in f InImage bytes) x)
  unfolding plan_in
  head_held x h = head_shape f [] (lines_held f InImage bytes) x (omega (arith, ready.size_is))

  pub held_keeps : Keeps (plan_in f InImage bytes)
  unfolding plan_in
  held_keeps =
      keeps (plan_of f (lines_held f InImage bytes)) (sound f (lines_held f InImage bytes) ready.shaped ready.copies_fit_lem)

  -- a good one of the cycle
  module _ (x i j : ℕ) {xs : List Slot} (st : StandsAt (plan_of f []) x (slot i j ∷ xs)) (low : i ≤ f.k)
      (fine : good (cycle_bucket (plan_in f InImage bytes) x) ≡ true) where
    pub bucket_decided :
        (r : Bool) → Decides (bucket_at bytes x ≡ print_bucket (cycle_bucket (plan_in f InImage bytes) x)) r →
        Decides (MatchesAt (plan_in f InImage bytes) bytes x) r
    unfolding plan_in plan_of
    bucket_decided r =
        decides_by
        (λ e.
        record {
          reads = ap read_bucket e ∙ read_of_print_bucket (cycle_bucket (plan_in f InImage bytes) x) fine;
          rises = none_falls (plan_in f InImage bytes) held_keeps (stand_at {i = i} {j = j} (stand_held st)) low;
        })
        (λ m. (print_of_read_bucket (bucket_at bytes x) m.reads).0)

-- ---- data buckets

-- what is looked at of a data bucket that was read
pub record DataFacts (o : Option Reading) (head : Head) (count follow : ℕ) : Type 0 where
  pub tags : ArrayVec ℕ
  pub is : o ≡ Some (record { head = head; contents = Data follow tags })
  pub count_is : length tags.items ≡ count

-- what the contents of a data bucket tell of its body
contents_told : (x : Body) (f : ℕ) (tags : ArrayVec ℕ) → contents_of x ≡ Data f tags
    → (ls : List Line) × (x ≡ data_body f ls) × (tags.items ≡ map (λ l. l.tag) ls)
contents_told (index_body ps es) f tags e = absurd (let z : ◌≡◌ {A = ℕ} 0 1 = cc in omega arith)
contents_told (data_body h ls) f tags e =
    let follow : h ≡ f = cc in
    let held : tags_held ls ≡ tags = cc in
    (ls, ap (λ k. data_body k ls) follow, sym (ap (λ (t : ArrayVec ℕ). t.items) held))

facts_moved : {o : Option Reading} {head other : Head} {count c follow f : ℕ} → head ≡ other → count ≡ c → follow ≡ f
    → DataFacts o head count follow → DataFacts o other c f
facts_moved h k g d =
    record {
      tags = d.tags;
      is = d.is ∙ ap₂ {C = Option Reading} (λ (x : Head) y. Some (record { head = x; contents = Data y d.tags })) h g;
      count_is = d.count_is ∙ k;
    }

-- that is all there is to it, if its lines are those wanted as soon as there are as many
pub data_told :
    (o : Option Bucket) (b : Bucket) (f : ℕ) (ls : List Line) →
    ((c : Bucket) (h : ℕ) (ms : List Line) → o ≡ Some c → c.body ≡ data_body h ms → length ms ≡ length ls → ms ≡ ls) →
    b.body ≡ data_body f ls → DataFacts (option_map reading_of o) (head_of b) (length ls) f → o ≡ Some b
unfolding reading_of
data_told None b f ls known e d = absurd (none_not_some d.is)
data_told (Some c) b f ls known e d =
    let is : reading_of c ≡ record { head = head_of b; contents = Data f d.tags } = cc in
    let head : head_of c ≡ head_of b = ap (λ (r : Reading). r.head) is in
    let told = contents_told c.body f d.tags (ap (λ (r : Reading). r.contents) is) in
    let ms = told.0 in
    let count : length ms ≡ length ls = sym (length-map ms (λ (l : Line). l.tag)) ∙ ap length (sym told.2) ∙ d.count_is in
    let body : c.body ≡ b.body = told.1 ∙ (ap (data_body f) (known c f ms refl told.1 count) ∙ sym e) in
    ap Some (sym (bucket_whole c) ∙ (ap₂ bucket_with head body ∙ bucket_whole b))

pub data_reads : (b : Bucket) (f : ℕ) (ls : List Line) → b.body ≡ data_body f ls → DataFacts (option_map reading_of (Some b)) (head_of b) (length ls) f
unfolding reading_of
data_reads b f ls e =
    record {
      tags = tags_held ls;
      is = ap {B = Option Reading} (λ x. Some (record { head = head_of b; contents = contents_of x })) e;
      count_is = length-map ls (λ (l : Line). l.tag);
    }

pub last_at : (z d : ℕ) (xs : List ℕ) → 1 ≤ length xs → get_or xs (length xs - 1) d ≡ last_or z xs
last_at z d [] h = absurd (omega arith)
last_at z d (x ∷ xs) h = let e : length (x ∷ xs) - 1 ≡ length xs = omega arith in rw e (go x xs)
  where
    go : (y : ℕ) (ys : List ℕ) → get_or (y ∷ ys) (length ys) d ≡ last_or y ys
    go y [] = refl
    go y (v ∷ ys) = go v ys

-- the last tag that a reading of a data bucket finds
last_of_read :
    (o : Option Bucket) (ls : List Line) →
    ((c : Bucket) (h : ℕ) (ms : List Line) → o ≡ Some c → c.body ≡ data_body h ms → length ms ≡ length ls → ms ≡ ls) →
    (head : Head) (f : ℕ) (tags : ArrayVec ℕ) → Some (record { head = head; contents = Data f tags }) ≡ option_map reading_of o →
    length tags.items ≡ length ls → 1 ≤ length ls → get_or tags.items (length tags.items - 1) 0 ≡ last_or 0 (map (λ l. l.tag) ls)
unfolding reading_of
last_of_read o ls known head f tags is count h =
    let found = map_found reading_of o _ is in
    let told = contents_told found.0.body f tags (ap (λ (r : Reading). r.contents) (sym found.2)) in
    let ms = told.0 in
    let same_count : length ms ≡ length ls = sym (length-map ms (λ (l : Line). l.tag)) ∙ ap length (sym told.2) ∙ count in
    let same : ms ≡ ls = known found.0 f ms (sym found.1) told.1 same_count in
    last_at 0 0 tags.items (omega arith) ∙ ap (last_or 0) (told.2 ∙ ap (map (λ (l : Line). l.tag)) same)

module _ (f : Figures) (bytes : List ℕ) (ready : Ready f) (x q : ℕ) (st : StandsAt (plan_of f []) x (slot (f.k + 1) q ∷ [])) where
  -- data bucket q stands at x and nowhere else
  pub data_here : first_place (plan_of f []) (f.k + 1) q ≡ x
  unfolding plan_of is_data
  data_here =
      let t : Plan = plan_of f [] in
      let a = stand_at {i = f.k + 1} {j = q} st in
      let ks : Keeps t = keeps t (sound f [] ready.shaped ready.copies_fit_lem) in
      let is_data_lem : is_data t a.it ≡ true = eq-eqb a.it.level (f.k + 1) a.level_is in
      let count : data_count t a.before ≡ q = sym (ks.in_order a.before a.it (a.next ++ a.behind) a.splits is_data_lem) ∙ a.place_is in
      data_first t ks a.before a.it (a.next ++ a.behind) q a.splits is_data_lem count ∙ a.here

  pub length_held_of : length (lines_of (plan_in f InImage bytes) q) ≡ min f.p (f.lines - q * f.p)
  unfolding lines_of plan_in plan_of
  length_held_of =
      length-take f.p (drop (q * f.p) (lines_held f InImage bytes))
      ∙ ap (min f.p) (length-drop (q * f.p) (lines_held f InImage bytes) ∙ ap (λ c. c - q * f.p) (length_held f bytes))

  -- its lines are spelled by the bytes there
  pub held_of :
      (z : Line) (m : ℕ) → m < min f.p (f.lines - q * f.p) →
      get_or (lines_of (plan_in f InImage bytes) q) m z ≡ spelled (line_bytes (bucket_at bytes x) m)
  unfolding lines_of plan_in plan_of
  held_of z m h =
      let ls : List Line = lines_held f InImage bytes in
      let i : ℕ = q * f.p + m in
      let bucket : i / f.p ≡ q = digits_div q {m = f.p} {r = m} (omega arith) in
      let line : i % f.p ≡ m = digits_mod q {m = f.p} {r = m} (omega arith) in
      get_or-take f.p (drop (q * f.p) ls) m z (omega arith)
      ∙ get_or-drop (q * f.p) ls m z
      ∙ held_line f bytes z i (omega arith) ready.shaped.p_low ready.shaped.p_high
      ∙ ap₂ (λ u v. spelled (line_bytes (bucket_at bytes (first_place (plan_of f []) (f.k + 1) u)) v)) bucket line
      ∙ ap (λ y. spelled (line_bytes (bucket_at bytes y) m)) data_here

  pub lines_known :
      (c : Bucket) (h : ℕ) (ms : List Line) → read_bucket (bucket_at bytes x) ≡ Some c → c.body ≡ data_body h ms →
      length ms ≡ length (lines_of (plan_in f InImage bytes) q) → ms ≡ lines_of (plan_in f InImage bytes) q
  lines_known c h ms e g l =
      let z : Line = spelled [] in
      let told = print_of_read_bucket (bucket_at bytes x) e in
      ext_get_or z ms (lines_of (plan_in f InImage bytes) q) l
      (λ m b.
      sym (printed_spells c h ms z m told.1 g b)
      ∙ ap (λ s. spelled (line_bytes s m)) (sym told.0)
      ∙ sym (held_of z m (omega (arith, l, length_held_of))))

  pub held_here : first_place (plan_in f InImage bytes) (f.k + 1) q ≡ x
  unfolding plan_in
  held_here = first_place_shape f (lines_held f InImage bytes) [] (f.k + 1) q ∙ data_here

  -- the last of the tags that were read is the bucket's
  pub last_known :
      (head : Head) (follow : ℕ) (tags : ArrayVec ℕ) →
      Some (record { head = head; contents = Data follow tags }) ≡ option_map reading_of (read_bucket (bucket_at bytes x)) →
      length tags.items ≡ min f.p (f.lines - q * f.p) → 1 ≤ length tags.items →
      get_or tags.items (length tags.items - 1) 0 ≡ last_tag (plan_in f InImage bytes) q
  unfolding last_tag tags_of
  last_known head follow tags is count some_lines =
      last_of_read (read_bucket (bucket_at bytes x)) (lines_of (plan_in f InImage bytes) q) lines_known head follow tags is
      (count ∙ sym length_held_of) (omega (arith, some_lines, count, length_held_of))

  pub data_decided :
      x < f.size → (head : Head) (count follow : ℕ) (r : Bool) → head ≡ head_of (cycle_bucket (plan_of f []) x) →
      count ≡ min f.p (f.lines - q * f.p) → follow ≡ follow_on (cycle_bucket (plan_in f InImage bytes) x).body →
      Decides (DataFacts (option_map reading_of (read_bucket (bucket_at bytes x))) head count follow × RisesAt (plan_in f InImage bytes) q) r →
      Decides (MatchesAt (plan_in f InImage bytes) bytes x) r
  unfolding plan_in plan_of
  data_decided below head count follow r head_is count_is follow_is d =
      let t : Plan = plan_in f InImage bytes in
      let a = stand_at {i = f.k + 1} {j = q} (stand_held f bytes ready st) in
      let from : ℕ = follow_on_from t (last_tag t q) 1 (a.next ++ a.behind) in
      let body : (cycle_bucket t x).body ≡ data_body from (lines_of t q) = data_at_lem a refl in
      let same_head : head ≡ head_of (cycle_bucket t x) = head_is ∙ head_held f bytes ready x below in
      let same_count : count ≡ length (lines_of t q) = count_is ∙ sym length_held_of in
      let same_follow : follow ≡ from = follow_is ∙ ap follow_on body in
      let o : Option Bucket = read_bucket (bucket_at bytes x) in
      decides_by
      (λ g.
      let facts : DataFacts (option_map reading_of o) (head_of (cycle_bucket t x)) (length (lines_of t q)) from =
      facts_moved same_head same_count same_follow g.0 in
      record {
        reads = data_told o (cycle_bucket t x) from (lines_of t q) lines_known body facts;
        rises = one_rises t (held_keeps f bytes ready) a g.1;
      })
      (λ e.
      let g = subst (λ w. DataFacts (option_map reading_of w) (head_of (cycle_bucket t x)) (length (lines_of t q)) from) (sym e.reads) (data_reads (cycle_bucket t x) from (lines_of t q) body) in
      (facts_moved (sym same_head) (sym same_count) (sym same_follow) g, e.rises q held_here))
      d
