-- Layout 1: which segments hold a bucket of a level up to B's, and at which place of theirs.
-- Assumes nothing.
use mathlib.Core.Path.{◌≡◌, refl, sym, ap, subst, ◌∙◌}
use mathlib.Core.Logic.{◌⊎◌, inl, inr, ⊎_elim}
use Prim.Native.Nat.{ℕ, zero, suc, ◌+◌, ◌-◌, ◌*◌, ◌≤◌, ◌<◌, min}
use native.Mathlib.Nat.{zero-add, eq-or-lt_of_le}
use native.Mathlib.Decide.{ℕ_discrete}
use native.Mathlib.Omega.{arith}
use mathlib.Core.Bool.{Bool, true, false}
use mathlib.Core.List.{List, [], ◌∷◌, ◌++◌, map, map-append, append_assoc}
use lib.ListN.{length, length-map, length-append}
use Rattle.columns.specs.Lists.{any, joined, span, range}
use Rattle.columns.proofs.Joined.{joined_append}
use Rattle.cycle.specs.Tree.{Plan, width, children, above, data_under}
use Rattle.cycle.specs.Layouts.{Slot, slot, slots, segment, subtree, tree_below, sent, path_top, path, distributed_segment}
use Rattle.cycle.specs.Cycle.{occurs}
use Rattle.cycle.proofs.Sequences.Sequence.{Sound}
use Rattle.cycle.proofs.Basics.Ranges.{length_range, range_cons, range_snoc, range_append, span_append}
use Rattle.cycle.proofs.Sequences.Paths.{path_top_high}
use Rattle.cycle.proofs.Sequences.Blocks.{block_level, block_count, on_path}
use Rattle.cycle.proofs.Sequences.Turns.{segments_from}
use Rattle.cycle.proofs.Sequences.Distributed.{slots_segments}
use Rattle.cycle.proofs.Segmenting.Positions.{At}
use Rattle.cycle.proofs.Reach.Distances.{none_append, none_joined}
use Rattle.cycle.proofs.Buckets.TreeEntries.{other_level, other_place, none_cons, tree_low}

-- ---- what a segment sends, B taken as the last bucket of its path

-- behind B: the trees of its children, its data, and the rest
abbrev pub under_block : Plan → ℕ → List Slot → List Slot
under_block t b rest =
    joined (λ c. subtree t (t.k - block_level t) (suc (block_level t)) c) (children t (block_level t) b)
    ++ (sent t (data_under t (block_level t) b) ++ rest)

-- from level i of the path on
abbrev pub way_from : Plan → ℕ → ℕ → List Slot → List Slot
way_from t b i rest = map (on_path t b) (range i (suc (block_level t))) ++ under_block t b rest

pub way_cons : (t : Plan) (b i : ℕ) (rest : List Slot) → i ≤ block_level t → way_from t b i rest ≡ on_path t b i ∷ way_from t b (suc i) rest
way_cons t b i rest h = ap (λ is. map (on_path t b) is ++ under_block t b rest) (range_cons i (suc (block_level t)) (omega arith))

pub way_split :
    (t : Plan) (b i l : ℕ) (rest : List Slot) → i ≤ l → l ≤ block_level t →
    way_from t b i rest ≡ map (on_path t b) (range i l) ++ way_from t b l rest
way_split t b i l rest h g =
    ap (λ is. map (on_path t b) is ++ under_block t b rest) (range_append i l (suc (block_level t)) h (omega arith))
    ∙ ap (λ xs. xs ++ under_block t b rest) (map-append (on_path t b) (range i l) (range l (suc (block_level t))))
    ∙ append_assoc (map (on_path t b) (range i l)) (map (on_path t b) (range l (suc (block_level t)))) (under_block t b rest)

-- a segment's first bucket
abbrev pub marked : Slot → Slot
marked x = record { level = x.level; place = x.place; starts = true }

-- where the path to b begins
abbrev pub top_of : Plan → ℕ → ℕ
top_of t b = path_top t.n t.copies b

-- the position of the bucket of level l on the path to b
abbrev pub place_on : Plan → ℕ → ℕ → ℕ
place_on t b l = length (segments_from t 0 b) + (l - top_of t b)

pub top_low : (t : Plan) (b : ℕ) → top_of t b ≤ block_level t
top_low t b = let h = path_top_high t.n t.copies b in omega arith

module _ (t : Plan) (sound : Sound t) (one : t.layout ≡ 1) where
  pub segment_way : (b : ℕ) (rest : List Slot) → distributed_segment t b ++ rest ≡ marked (on_path t b (top_of t b)) ∷ way_from t b (suc (top_of t b)) rest
  unfolding distributed_segment path tree_below
  segment_way b rest =
      let i : ℕ = block_level t in
      let top : ℕ = top_of t b in
      let low : top ≤ i = top_low t b in
      let trees : List Slot = joined (λ c. subtree t (t.k - i) (suc i) c) (children t i b) in
      let below : List Slot = trees ++ sent t (data_under t i b) in
      let height : t.k + 1 - i ≡ suc (t.k - i) = omega (arith, sound.path_fits one) in
      let none : i - i ≡ 0 = omega arith in
      let last : slot i b ≡ on_path t b i = rw none in
      let way : List Slot = map (on_path t b) (range top i) in
      let whole : way ++ (subtree t (t.k + 1 - i) i b ++ sent t (data_under t i b)) ≡ map (on_path t b) (range top (suc i)) ++ below =
      ap (λ h. way ++ (subtree t h i b ++ sent t (data_under t i b))) height
      ∙ ap (λ x. way ++ (x ∷ below)) last
      ∙ sym (append_assoc way (on_path t b i ∷ []) below)
      ∙ ap (λ xs. xs ++ below) (sym (ap (map (on_path t b)) (range_snoc top i low) ∙ map-append (on_path t b) (range top i) (i ∷ []))) in
      ap (λ xs. segment xs ++ rest)
      (whole ∙ ap (λ is. map (on_path t b) is ++ below) (range_cons top (suc i) (omega arith)))
      ∙ ap (λ xs. marked (on_path t b top) ∷ xs)
      (append_assoc (map (on_path t b) (range (suc top) (suc i))) below rest
      ∙ ap (λ xs. map (on_path t b) (range (suc top) (suc i)) ++ xs) (append_assoc trees (sent t (data_under t i b)) rest))

-- ---- what is not there

pub none_map : (f : Slot → Bool) (g : ℕ → Slot) (a c : ℕ) → ((y : ℕ) → a ≤ y → y < a + c → f (g y) ≡ false) → any f (map g (span a c)) ≡ false
none_map f g a zero h = refl
none_map f g a (suc c) h =
    none_cons f (g a) (map g (span (suc a) c)) (h a (omega arith) (omega arith))
    (none_map f g (suc a) c (λ y u v. h y (omega arith) (omega arith)))

pub none_sent : (t : Plan) (l c : ℕ) (qs : List ℕ) → l ≤ t.k → any (occurs l c) (sent t qs) ≡ false
unfolding sent
none_sent t l c [] h = refl
none_sent t l c (q ∷ qs) h =
    none_cons (occurs l c) (slot (t.k + 1) q) (sent t qs) (other_level l c (t.k + 1) q (λ e. omega arith)) (none_sent t l c qs h)

-- the path to b holds no other bucket of level l
pub path_other : (t : Plan) (b l c : ℕ) → (above t.n (block_level t - l) b ≡ c → ⊥) → (y : ℕ) → occurs l c (on_path t b y) ≡ false
path_other t b l c f y =
    elim (ℕ_discrete y l) [
      | yes e ↦ other_place l c y (above t.n (block_level t - y) b) (λ p. f (ap (λ z. above t.n (block_level t - z) b) (sym e) ∙ p))
      | no g ↦ other_level l c y (above t.n (block_level t - y) b) g
    ]

-- segment b does not hold bucket c of level l: its path begins below, or leads elsewhere
abbrev pub Silent : Plan → ℕ → ℕ → ℕ → Type 0
Silent t b l c = (l < top_of t b) ⊎ (above t.n (block_level t - l) b ≡ c → ⊥)

pub silent_path : (t : Plan) (b l c : ℕ) → Silent t b l c → (y : ℕ) → top_of t b ≤ y → occurs l c (on_path t b y) ≡ false
silent_path t b l c (inl h) y low = other_level l c y (above t.n (block_level t - y) b) (λ e. omega arith)
silent_path t b l c (inr f) y low = path_other t b l c f y

module _ (t : Plan) (sound : Sound t) (one : t.layout ≡ 1) (l c : ℕ) (high : l ≤ block_level t) where
  pub none_way :
      (b i : ℕ) (rest : List Slot) → ((y : ℕ) → i ≤ y → y ≤ block_level t → occurs l c (on_path t b y) ≡ false) →
      any (occurs l c) rest ≡ false → any (occurs l c) (way_from t b i rest) ≡ false
  unfolding children
  none_way b i rest h r =
      let lvl : ℕ = block_level t in
      let trees : List Slot = joined (λ x. subtree t (t.k - lvl) (suc lvl) x) (children t lvl b) in
      let data_sent : List Slot = sent t (data_under t lvl b) in
      none_append (occurs l c) (map (on_path t b) (range i (suc lvl))) (trees ++ (data_sent ++ rest))
      (none_map (occurs l c) (on_path t b) i (suc lvl - i) (λ y u v. h y u (omega arith)))
      (none_append (occurs l c) trees (data_sent ++ rest)
      (none_joined (occurs l c) (λ x. subtree t (t.k - lvl) (suc lvl) x) (b * t.n) (min (b * t.n + t.n) (width t (suc lvl)) - b * t.n)
      (λ x u v. tree_low t l c (t.k - lvl) (suc lvl) x (omega arith)))
      (none_append (occurs l c) data_sent rest (none_sent t l c (data_under t lvl b) (omega (arith, sound.path_fits one))) r))

  pub none_segments :
      (m a : ℕ) → ((b : ℕ) → a ≤ b → b < a + m → Silent t b l c) → any (occurs l c) (segments_from t a m) ≡ false
  unfolding occurs
  none_segments zero a h = refl
  none_segments (suc m) a h =
      let rest : List Slot = segments_from t (suc a) m in
      let top : ℕ = top_of t a in
      let quiet = silent_path t a l c (h a (omega arith) (omega arith)) in
      ap (any (occurs l c)) (segment_way t sound one a rest)
      ∙ none_cons (occurs l c) (marked (on_path t a top)) (way_from t a (suc top) rest)
      (quiet top (omega arith))
      (none_way a (suc top) rest (λ y u v. quiet y (omega arith))
      (none_segments m (suc a) (λ b u v. h b (omega arith) (omega arith))))

-- ---- what is there

-- segment b holds the bucket of level l on its path
pub record Met (t : Plan) (b l : ℕ) (rest : List Slot) : Type 0 where
  pub front : List Slot
  pub hit : Slot
  pub splits : distributed_segment t b ++ rest ≡ front ++ (hit ∷ way_from t b (suc l) rest)
  pub long : length front ≡ l - top_of t b
  pub level_is : hit.level ≡ l
  pub place_is : hit.place ≡ above t.n (block_level t - l) b
  pub quiet : (m c : ℕ) → ((y : ℕ) → y < l → occurs m c (on_path t b y) ≡ false) → any (occurs m c) front ≡ false

none_front :
    (t : Plan) (b top l m c : ℕ) → top < l → ((y : ℕ) → y < l → occurs m c (on_path t b y) ≡ false) →
    any (occurs m c) (marked (on_path t b top) ∷ map (on_path t b) (range (suc top) l)) ≡ false
unfolding occurs
none_front t b top l m c low h =
    none_cons (occurs m c) (marked (on_path t b top)) (map (on_path t b) (range (suc top) l)) (h top low)
    (none_map (occurs m c) (on_path t b) (suc top) (l - suc top) (λ y u v. h y (omega arith)))

module _ (t : Plan) (sound : Sound t) (one : t.layout ≡ 1) where
  met_first : (b : ℕ) (rest : List Slot) → Met t b (top_of t b) rest
  unfolding slot
  met_first b rest =
      record {
        front = [];
        hit = marked (on_path t b (top_of t b));
        splits = segment_way t sound one b rest;
        long = omega arith;
        level_is = refl;
        place_is = refl;
        quiet = λ m c h. refl;
      }

  met_later : (b l : ℕ) (rest : List Slot) → top_of t b < l → l ≤ block_level t → Met t b l rest
  unfolding slot
  met_later b l rest low high =
      let top : ℕ = top_of t b in
      let way : List Slot = map (on_path t b) (range (suc top) l) in
      record {
        front = marked (on_path t b top) ∷ way;
        hit = on_path t b l;
        splits =
            segment_way t sound one b rest
            ∙ ap (λ xs. marked (on_path t b top) ∷ xs)
            (way_split t b (suc top) l rest low high ∙ ap (λ xs. way ++ xs) (way_cons t b l rest high));
        long =
            (let e : length way ≡ l - suc top = length-map (range (suc top) l) (on_path t b) ∙ length_range (suc top) l in
            omega arith);
        level_is = refl;
        place_is = refl;
        quiet = λ m c h. none_front t b top l m c low h;
      }

  pub met : (b l : ℕ) (rest : List Slot) → top_of t b ≤ l → l ≤ block_level t → Met t b l rest
  met b l rest low high =
      ⊎_elim
      (λ (e : top_of t b ≡ l). subst (λ z. Met t b z rest) e (met_first b rest))
      (λ (g : top_of t b < l). met_later b l rest g high)
      (eq-or-lt_of_le low)

  -- the cycle up to a segment, that segment, and the rest
  pub slots_at :
      (b m : ℕ) → b + suc m ≡ block_count t → slots t ≡ segments_from t 0 b ++ (distributed_segment t b ++ segments_from t (suc b) m)
  slots_at b m e =
      slots_segments t sound one
      ∙ ap (segments_from t 0) (sym e)
      ∙ ap (joined (distributed_segment t)) (span_append 0 b (suc m))
      ∙ joined_append (distributed_segment t) (span 0 b) (span (0 + b) (suc m))
      ∙ ap (λ z. segments_from t 0 b ++ segments_from t z (suc m)) (zero-add b)

  module _ (b l m : ℕ) (low : top_of t b ≤ l) (high : l ≤ block_level t) (count : b + suc m ≡ block_count t) where
    unfoldable pub at_level : At t (place_on t b l) l (above t.n (block_level t - l) b) []
    at_level =
        let g = met b l (segments_from t (suc b) m) low high in
        record {
          before = segments_from t 0 b ++ g.front;
          it = g.hit;
          next = [];
          behind = way_from t b (suc l) (segments_from t (suc b) m);
          splits =
              slots_at b m count
              ∙ ap (λ xs. segments_from t 0 b ++ xs) g.splits
              ∙ sym (append_assoc (segments_from t 0 b) g.front (g.hit ∷ way_from t b (suc l) (segments_from t (suc b) m)));
          here = length-append (segments_from t 0 b) g.front ∙ ap (λ z. length (segments_from t 0 b) + z) g.long;
          level_is = g.level_is;
          place_is = g.place_is;
          alike = refl;
        }

    pub none_before_level :
        (i c : ℕ) → any (occurs i c) (segments_from t 0 b) ≡ false → ((y : ℕ) → y < l → occurs i c (on_path t b y) ≡ false) →
        any (occurs i c) at_level.before ≡ false
    unfolding at_level
    none_before_level i c h f =
        let g = met b l (segments_from t (suc b) m) low high in
        none_append (occurs i c) (segments_from t 0 b) g.front h (g.quiet i c f)
