-- Layout 1: the next occurrences that a path bucket's entries and later control pairs reach.
-- Assumes nothing.
use mathlib.Core.Path.{◌≡◌, refl, sym, ap, ◌∙◌}
use mathlib.Core.Logic.{◌⊎◌, inl, inr, ⊎_elim}
use Prim.Native.Nat.{ℕ, suc, ◌+◌, ◌-◌, ◌*◌, ◌/◌, ◌%◌, ◌^◌, ◌≤◌, ◌<◌, max}
use native.Mathlib.Nat.{mul-le-mul_right, lt_of_mul-lt-mul_right, lt-div-mul-add, div-mul-le_self, div-add-mod', mul_assoc}
use native.Mathlib.Decide.{ℕ_discrete}
use native.Mathlib.Omega.{arith}
use mathlib.Core.Bool.{true, false}
use mathlib.Core.List.{List, [], ◌∷◌, ◌++◌, map, append_assoc}
use lib.Pow.{pow-add}
use lib.ListN.{length, length-append}
use borrow.Author.Tests.{ne_eqb}
use Rattle.columns.specs.Lists.{any, joined, span, range}
use Rattle.columns.proofs.Joined.{joined_append}
use Rattle.cycle.specs.Tree.{Plan, width, children, above, data_under}
use Rattle.cycle.specs.Layouts.{Slot, slots, subtree, sent, distributed_segment}
use Rattle.cycle.specs.Cycle.{occurs, distance_to, to_next}
use Rattle.cycle.specs.Cycle.{first_place}
use Rattle.cycle.specs.Inner.Held.{ahead_of}
use Rattle.cycle.proofs.Sequences.Sequence.{Sound}
use Rattle.cycle.proofs.Basics.Ranges.{le_or_lt, span_append}
use Rattle.cycle.proofs.Trees.TreeLaws.{above_suc, above_le, above_lt, lt_above, above_first, above_mono, lt_width, width_lt}
use Rattle.cycle.proofs.Sequences.Blocks.{block_level, block_count, on_path}
use Rattle.cycle.proofs.Sequences.Turns.{segments_from}
use Rattle.cycle.proofs.Sequences.Pieces.{occurs_slot}
use Rattle.cycle.proofs.Segmenting.Positions.{At, at_length}
use Rattle.cycle.proofs.Reach.Distances.{none_append, distance_hit}
use Rattle.cycle.proofs.Reach.NextOccurrence.{sent_yet, to_send, next_ahead, next_none}
use Rattle.cycle.proofs.Buckets.TreeEntries.{other_level, none_cons}
use Rattle.cycle.proofs.Reach.Occurrences.{way_from, top_of, path_other, Silent, none_way, none_segments, Met, met, slots_at, place_on, at_level, none_before_level}
use Rattle.cycle.proofs.Reach.FirstPlaces.{path_top_stays, path_top_parts, first_under, first_inside, first_turn, first_there, first_place_lem}

pub not_level : (l c : ℕ) (x : Slot) → (x.level ≡ l → ⊥) → occurs l c x ≡ false
unfolding occurs
not_level l c x h = rw (ne_eqb x.level l h)

pub way_append : (t : Plan) (b i : ℕ) (xs ys : List Slot) → way_from t b i (xs ++ ys) ≡ way_from t b i xs ++ ys
way_append t b i xs ys =
    let way : List Slot = map (on_path t b) (range i (suc (block_level t))) in
    let trees : List Slot = joined (λ c. subtree t (t.k - block_level t) (suc (block_level t)) c) (children t (block_level t) b) in
    let data_sent : List Slot = sent t (data_under t (block_level t) b) in
    sym
    (append_assoc way (trees ++ (data_sent ++ xs)) ys
    ∙ ap (λ zs. way ++ zs) (append_assoc trees (data_sent ++ xs) ys ∙ ap (λ zs. trees ++ zs) (append_assoc data_sent xs ys)))

module _ (t : Plan) (sound : Sound t) (one : t.layout ≡ 1) where
  grows : 0 < t.n
  grows = omega (arith, sound.grows)

  -- ---- a path bucket at its place

  module _ (b i m : ℕ) (low : top_of t b ≤ i) (high : i ≤ t.copies) (count : b + suc m ≡ block_count t) where
    pub fits : i ≤ block_level t
    fits = omega arith

    abbrev pub path_at : At t (place_on t b i) i (above t.n (block_level t - i) b) []
    path_at = at_level t sound one b i m low fits count

    -- behind it, no bucket that no later path holds
    none_later :
        (l c : ℕ) → l ≤ block_level t → ((y : ℕ) → suc i ≤ y → y ≤ block_level t → occurs l c (on_path t b y) ≡ false) →
        ((b' : ℕ) → b < b' → b' < block_count t → Silent t b' l c) → any (occurs l c) (to_send path_at) ≡ false
    unfolding at_level
    none_later l c h f g =
        none_way t sound one l c h b (suc i) (segments_from t (suc b) m) f
        (none_segments t sound one l c h m (suc b) (λ b' u v. g b' u (omega arith)))

    -- ---- its children: the current one and those behind it come first ahead, those before it were all sent

    none_yet : (c : ℕ) → above t.n (block_level t - suc i) b ≤ c → any (occurs (suc i) c) (sent_yet path_at) ≡ false
    none_yet c h =
        none_append (occurs (suc i) c) path_at.before (path_at.it ∷ [])
        (none_before_level t sound one b i m low fits count (suc i) c
        (none_segments t sound one (suc i) c (omega arith) b 0
        (λ b' u v.
        inr
        (λ e.
        let up : ℕ = t.copies - i in
        let height : block_level t - suc i ≡ up = omega arith in
        let h' : above t.n up b ≤ c = rw height at h in
        let e' : above t.n up b' ≡ c = rw height at e in
        let parts : above t.n up (b - 1) < above t.n up b =
        path_top_parts t.n t.copies b i grows (omega arith) high low in
        let mono : above t.n up b' ≤ above t.n up (b - 1) = above_mono t.n up grows b' (b - 1) (omega arith) in
        omega arith)))
        (λ y v. other_level (suc i) c y (above t.n (block_level t - y) b) (λ e. omega arith)))
        (none_cons (occurs (suc i) c) path_at.it [] (not_level (suc i) c path_at.it (λ e. omega (arith, path_at.level_is))) refl)

    none_again : (c : ℕ) → c < above t.n (block_level t - suc i) b → any (occurs (suc i) c) (to_send path_at) ≡ false
    none_again c h =
        none_later (suc i) c (omega arith) (λ y u v. path_other t b (suc i) c (λ e. omega arith) y)
        (λ b' u v.
        inr
        (λ e.
        let mono : above t.n (block_level t - suc i) b ≤ above t.n (block_level t - suc i) b' =
        above_mono t.n (block_level t - suc i) grows b b' (omega arith) in
        omega arith))

    pub next_path_child :
        (c : ℕ) → c < max 1 (width t (suc i)) →
        to_next (to_send path_at) (suc i) c
        ≡ ahead_of (length (slots t)) (place_on t b i) (first_place t (suc i) c)
    next_path_child c inside =
        next_ahead path_at (suc i) c (first_there t sound one (suc i) c (omega arith) (omega arith) inside)
        (⊎_elim
        (λ (h : above t.n (block_level t - suc i) b ≤ c). inl (none_yet c h))
        (λ (h : c < above t.n (block_level t - suc i) b). inr (none_again c h))
        (le_or_lt (above t.n (block_level t - suc i) b) c))

  -- ---- later pairs: level j, from 2 on

  -- where b' and its forerunner are both under the level j bucket above b, the path to b' begins there or lower
  stays_under :
      (b b' j : ℕ) → 1 ≤ j → j ≤ t.copies → b < b' → above t.n (block_level t - j) b' ≤ above t.n (block_level t - j) b →
      j - 1 < top_of t b'
  stays_under b b' j low high right h =
      let up : ℕ = block_level t - j in
      let height : t.copies - (j - 1) ≡ up = omega arith in
      let first : above t.n up b ≤ above t.n up (b' - 1) = above_mono t.n up grows b (b' - 1) (omega arith) in
      let last : above t.n up (b' - 1) ≤ above t.n up b' = above_mono t.n up grows (b' - 1) b' (omega arith) in
      let same : above t.n up (b' - 1) ≡ above t.n up b' = omega arith in
      path_top_stays t.n t.copies b' (j - 1) (omega arith) (omega arith) (rw height same)

  -- the bucket above a bucket of level j
  pub parent_above : (b j : ℕ) → 1 ≤ j → j ≤ block_level t → above t.n (block_level t - (j - 1)) b ≡ above t.n (block_level t - j) b / t.n
  parent_above b j low high =
      let height : block_level t - (j - 1) ≡ suc (block_level t - j) = omega arith in
      ap (λ y. above t.n y b) height ∙ above_suc t.n (block_level t - j) b

  -- a level's places, from B's on upwards
  above_inside :
      (b j : ℕ) → j ≤ block_level t → 0 < b → b < block_count t → above t.n (block_level t - j) b < width t j
  above_inside b j high some inside =
      let h : ℕ = block_level t - j in
      let e : ℕ = t.k + 1 - block_level t in
      let q : ℕ = above t.n h b in
      let s : b * t.n ^ e < t.d = width_lt t grows (block_level t) b (omega arith) in
      let l : q * t.n ^ h ≤ b = above_le t.n h grows q b (omega arith) in
      let l' : q * t.n ^ h * t.n ^ e ≤ b * t.n ^ e = mul-le-mul_right (t.n ^ e) l in
      let height : t.k + 1 - j ≡ h + e = omega (arith, sound.path_fits one) in
      let power : q * t.n ^ (t.k + 1 - j) ≡ q * t.n ^ h * t.n ^ e =
      ap (λ y. q * t.n ^ y) height ∙ ap (λ y. q * y) (pow-add t.n h e) ∙ sym (mul_assoc q (t.n ^ h) (t.n ^ e)) in
      lt_width t grows j q (omega arith)

  -- the last bucket of level j under its parent
  abbrev pub LastChild : ℕ → ℕ → Type 0
  LastChild j c = (suc c % t.n ≡ 0) ⊎ (width t j ≤ suc c)

  last_child :
      (j c c' : ℕ) → LastChild j c → c' / t.n ≡ c / t.n → c' < width t j → c' ≤ c
  last_child j c c' (inr h) e l = omega arith
  last_child j c c' (inl h) e l =
      let z : ℕ = suc c / t.n in
      let whole : z * t.n + suc c % t.n ≡ suc c = div-add-mod' (suc c) t.n in
      let less : c / t.n * t.n ≤ c = div-mul-le_self c t.n in
      let next : c / t.n < z = lt_of_mul-lt-mul_right t.n (omega arith) in
      let end : suc (c / t.n) * t.n ≤ z * t.n = mul-le-mul_right t.n next in
      let here : c' < c' / t.n * t.n + t.n = lt-div-mul-add grows in
      let here' : c' < c / t.n * t.n + t.n = rw e at here in
      omega arith

  module _ (b i m : ℕ) (low : top_of t b ≤ i) (high : i ≤ t.copies) (count : b + suc m ≡ block_count t) (j : ℕ) (from : 2 ≤ j) (to : j ≤ i) where
    abbrev pub place : ℕ
    place = above t.n (block_level t - j) b

    abbrev pub parent : ℕ
    parent = above t.n (block_level t - (j - 1)) b

    abbrev at : At t (place_on t b i) i (above t.n (block_level t - i) b) []
    at = path_at b i m low high count

    -- no further child: the level j - 1 bucket does not come again in this cycle
    pub pair_last : LastChild j place → to_next (to_send at) (j - 1) parent ≡ length (slots t) - place_on t b i
    pair_last last =
        next_none at (j - 1) parent
        (none_later b i m low high count (j - 1) parent (omega arith)
        (λ y u v. other_level (j - 1) parent y (above t.n (block_level t - y) b) (λ e. omega arith))
        (λ b' u v.
        elim (ℕ_discrete (above t.n (block_level t - (j - 1)) b') parent) [
          | yes e ↦
              inl
              (stays_under b b' j (omega arith) (omega arith) u
              (last_child j place (above t.n (block_level t - j) b') last
              (sym (parent_above b' j (omega arith) (omega arith)) ∙ e ∙ parent_above b j (omega arith) (omega arith))
              (above_inside b' j (omega arith) (omega arith) v)))
          | no f ↦ inr f
        ]))

    -- a further child: the level j - 1 bucket is sent again right before that one is sent first
    module _ (more : suc place < width t j) (together : suc place / t.n ≡ parent) where
      abbrev turn : ℕ
      turn = first_under t sound one j (suc place)

      inside : suc place < max 1 (width t j)
      inside = omega arith

      right : b < turn
      right = above_lt t.n (block_level t - j) grows (suc place) b (omega arith)

      turn_in : turn < block_count t
      turn_in = first_inside t sound one j (suc place) (omega arith) (omega arith) inside

      turn_top : top_of t turn ≤ j - 1
      turn_top = (first_turn t sound one j (suc place) (omega arith) (omega arith) inside (omega arith)).1

      -- what is sent between, and behind
      abbrev between : ℕ
      between = turn - suc b

      abbrev after : ℕ
      after = block_count t - suc turn

      abbrev last_rest : List Slot
      last_rest = segments_from t (suc turn) after

      split_rest : segments_from t (suc b) m ≡ segments_from t (suc b) between ++ (distributed_segment t turn ++ last_rest)
      split_rest =
          let all : m ≡ between + suc after = omega (arith, right, turn_in) in
          let start : suc b + between ≡ turn = omega (arith, right) in
          ap (segments_from t (suc b)) all
          ∙ ap (joined (distributed_segment t)) (span_append (suc b) between (suc after))
          ∙ joined_append (distributed_segment t) (span (suc b) between) (span (suc b + between) (suc after))
          ∙ ap (λ z. segments_from t (suc b) between ++ segments_from t z (suc after)) start

      silent_between : (b' : ℕ) → b < b' → b' < turn → Silent t b' (j - 1) parent
      silent_between b' u v =
          let l : above t.n (block_level t - j) b' < suc place = lt_above t.n (block_level t - j) grows (suc place) b' v in
          inl (stays_under b b' j (omega arith) (omega arith) u (omega arith))

      module _ (g : Met t turn (j - 1) last_rest) where
        abbrev skipped : List Slot
        skipped = way_from t b (suc i) (segments_from t (suc b) between ++ g.front)

        abbrev behind_hit : List Slot
        behind_hit = way_from t turn (suc (j - 1)) last_rest

        sends_hit : to_send at ≡ skipped ++ (g.hit ∷ behind_hit)
        unfolding at_level
        sends_hit =
            ap (way_from t b (suc i))
            (split_rest
            ∙ ap (λ xs. segments_from t (suc b) between ++ xs) g.splits
            ∙ sym (append_assoc (segments_from t (suc b) between) g.front (g.hit ∷ behind_hit)))
            ∙ way_append t b (suc i) (segments_from t (suc b) between ++ g.front) (g.hit ∷ behind_hit)

        none_skipped : any (occurs (j - 1) parent) skipped ≡ false
        none_skipped =
            none_way t sound one (j - 1) parent (omega arith) b (suc i) (segments_from t (suc b) between ++ g.front)
            (λ y u v. other_level (j - 1) parent y (above t.n (block_level t - y) b) (λ e. omega arith))
            (none_append (occurs (j - 1) parent) (segments_from t (suc b) between) g.front
            (none_segments t sound one (j - 1) parent (omega arith) between (suc b)
            (λ b' u v. silent_between b' u (omega (arith, right))))
            (g.quiet (j - 1) parent
            (λ y v. other_level (j - 1) parent y (above t.n (block_level t - y) turn) (λ e. omega arith))))

        hit_occurs : occurs (j - 1) parent g.hit ≡ true
        hit_occurs =
            occurs_slot (j - 1) parent g.hit g.level_is
            (g.place_is
            ∙ parent_above turn j (omega arith) (omega arith)
            ∙ ap (λ y. y / t.n) (above_first t.n (block_level t - j) grows (suc place))
            ∙ together)

        hit_place : place_on t b i + suc (length skipped) ≡ place_on t turn (j - 1)
        hit_place =
            let all : length (slots t) ≡ length (segments_from t 0 turn) + (length g.front + suc (length behind_hit)) =
            ap length (slots_at t sound one turn after (omega (arith, turn_in)))
            ∙ length-append (segments_from t 0 turn) (distributed_segment t turn ++ last_rest)
            ∙ ap (λ z. length (segments_from t 0 turn) + z)
            (ap length g.splits ∙ length-append g.front (g.hit ∷ behind_hit)) in
            let rest : length (to_send at) ≡ length skipped + suc (length behind_hit) =
            ap length sends_hit ∙ length-append skipped (g.hit ∷ behind_hit) in
            omega (arith, at_length at, g.long)

        next_turn : to_next (to_send at) (j - 1) parent ≡ first_place t j (suc place) - 1 - place_on t b i
        unfolding to_next
        next_turn =
            let first : first_place t j (suc place) ≡ place_on t turn j =
            first_place_lem t sound one j (suc place) (omega arith) (omega arith) inside in
            let far : length skipped + 1 ≡ first_place t j (suc place) - 1 - place_on t b i = omega (arith, hit_place, turn_top) in
            ap (distance_to (occurs (j - 1) parent)) sends_hit
            ∙ distance_hit (occurs (j - 1) parent) skipped g.hit behind_hit none_skipped hit_occurs
            ∙ far

      pub pair_turn : to_next (to_send at) (j - 1) parent ≡ first_place t j (suc place) - 1 - place_on t b i
      pair_turn = next_turn (met t sound one turn (j - 1) last_rest turn_top (omega arith))

      pub turn_ahead : place_on t b i < first_place t j (suc place)
      turn_ahead =
          let g = met t sound one turn (j - 1) last_rest turn_top (omega arith) in
          let first : first_place t j (suc place) ≡ place_on t turn j =
          first_place_lem t sound one j (suc place) (omega arith) (omega arith) inside in
          omega (arith, hit_place g, turn_top)
