-- Layout 1, distributed: the cycle keeps what listeners rest on.
-- Assumes nothing.
use mathlib.Core.Path.{◌≡◌, sym, ap, subst, subst₂, ◌∙◌}
use mathlib.Core.Logic.{⊎_elim}
use Prim.Native.Nat.{ℕ, zero, suc, ◌+◌, ◌-◌, ◌≤◌, ◌<◌}
use native.Mathlib.Nat.{zero-mul, eq-zero-or-pos}
use native.Mathlib.Omega.{arith}
use mathlib.Core.Bool.{true, false}
use mathlib.Core.List.{List, ◌∷◌, ◌++◌, map, append_assoc}
use borrow.Author.Tests.{le-leb, lt-leb, eq-eqb}
use Rattle.columns.specs.Lists.{joined, range}
use Rattle.cycle.specs.Tree.{Plan, width, children, above, data_under}
use Rattle.cycle.specs.Layouts.{Slot, slot, slots, subtree, tree_below, sent, path_top, path, distributed_segment, distributed}
use Rattle.cycle.proofs.Sequences.Sequence.{Sound, Keeps}
use Rattle.cycle.proofs.Basics.Ranges.{range_empty, range_cons}
use Rattle.cycle.proofs.Trees.TreeLaws.{above_zero, width_root}
use Rattle.cycle.proofs.Sequences.Paths.{path_top_low, path_top_high}
use Rattle.cycle.proofs.Sequences.Suffixes.{paired, Stands, Sends, done, sends_at, root, keeps_sent}
use Rattle.cycle.proofs.Sequences.Pieces.{next_index, next_slot, front_slot, sends_data, sends_subtree}
use Rattle.cycle.proofs.Sequences.Blocks.{block_level, block_start, block_count, on_path, behind_path, block_rooted, blocks_end, block_data, block_grows}
use Rattle.cycle.proofs.Sequences.Turns.{segments_from, below_path, pos, path_stands}

module _ (t : Plan) (sound : Sound t) (one : t.layout ≡ 1) where
  -- ---- a segment

  pub lower_unpaired : (a : ℕ) → block_level t ≤ a → paired t a ≡ false
  lower_unpaired a h = rw (eq-eqb t.layout 1 one) (lt-leb a t.copies (omega arith))

  pub path_paired : (a : ℕ) → a ≤ t.copies → paired t a ≡ true
  path_paired a h = rw (eq-eqb t.layout 1 one) (le-leb a t.copies h)

  pub sends_block_data :
      (b : ℕ) (rest : List Slot) → b < block_count t → Sends t (block_start t (suc b)) rest →
      Sends t (block_start t b) (sent t (data_under t (block_level t) b) ++ rest)
  sends_block_data b rest h r =
      let g = block_grows t sound one b in
      let all : block_start t b + (block_start t (suc b) - block_start t b) ≡ block_start t (suc b) = omega arith in
      rw (block_data t sound one b h) (sends_data (block_start t b) (block_start t (suc b) - block_start t b) (sends_at all r))

  pub sends_behind_path :
      (b : ℕ) (rest : List Slot) → b < block_count t → Sends t (block_start t (suc b)) rest → Sends t (block_start t b) (behind_path t b rest)
  unfolding tree_below
  sends_behind_path b rest h r =
      let top : block_level t - 1 ≡ t.copies = omega arith in
      sends_subtree t (pos t sound one) (t.k + 1 - block_level t) (block_level t) b (block_start t b) (sent t (data_under t (block_level t) b) ++ rest)
      (omega arith) (rw top (block_rooted t sound one b h)) (omega (arith, sound.path_fits one)) lower_unpaired (sends_block_data b rest h r)

  pub sends_below :
      (b x m i : ℕ) → suc b + x ≡ block_count t → i + m ≡ t.copies →
      Sends t (block_start t (suc b)) (segments_from t (suc b) x) →
      Sends t (block_start t b) (below_path t b i (segments_from t (suc b) x))
  sends_below b x zero i all e r =
      rw (range_empty (suc i) (block_level t) (omega arith)) (sends_behind_path b (segments_from t (suc b) x) (omega arith) r)
  sends_below b x (suc m) i all e r =
      rw (range_cons (suc i) (block_level t) (omega arith))
      (next_slot (suc i) (above t.n (block_level t - suc i) b)
      (path_stands t sound one b x (suc i) all (omega arith) (omega arith))
      (sends_below b x m (suc i) all (omega arith) r))

  -- a segment's first bucket, where it has a path
  abbrev pub first_of : ℕ → Slot
  first_of b =
      record {
        level = path_top t.n t.copies b;
        place = above t.n (block_level t - path_top t.n t.copies b) b;
        starts = true;
      }

  pub segment_opens :
      (b : ℕ) (rest : List Slot) → 1 ≤ t.copies →
      distributed_segment t b ++ rest ≡ first_of b ∷ below_path t b (path_top t.n t.copies b) rest
  unfolding distributed_segment path slot
  segment_opens b rest h =
      let top : ℕ = path_top t.n t.copies b in
      let l = path_top_high t.n t.copies b in
      let way : List Slot = map (on_path t b) (range (suc top) (block_level t)) in
      let tree : List Slot = tree_below t (block_level t) b in
      let data_sent : List Slot = sent t (data_under t (block_level t) b) in
      rw (range_cons top (block_level t) (omega arith))
      (ap (λ xs. first_of b ∷ xs)
      (append_assoc way (tree ++ data_sent) rest ∙ ap (λ xs. way ++ xs) (append_assoc tree data_sent rest)))

  pub sends_segments : (m b : ℕ) → 1 ≤ t.copies → b + m ≡ block_count t → Sends t (block_start t b) (segments_from t b m)
  sends_segments zero b some e =
      let all : b ≡ block_count t = omega arith in
      done (ap (block_start t) all ∙ blocks_end t sound one)
  sends_segments (suc m) b some e =
      let later = sends_segments m (suc b) some (omega arith) in
      let top : ℕ = path_top t.n t.copies b in
      let l = path_top_high t.n t.copies b in
      rw (segment_opens b (segments_from t (suc b) m) some)
      (next_index (first_of b) (λ u. path_paired top (omega arith))
      (path_stands t sound one b m top (omega arith) (path_top_low t.n t.copies b) (omega arith))
      (sends_below b m (t.copies - top) top (omega arith) (omega arith) later))

  -- ---- the cycle

  pub slots_segments : slots t ≡ segments_from t 0 (block_count t)
  unfolding slots distributed
  slots_segments =
      let e : block_count t - 0 ≡ block_count t = omega arith in
      rw (eq-eqb t.layout 1 one, e)

  pub first_segment : segments_from t 0 (block_count t) ≡ distributed_segment t 0 ++ segments_from t 1 (block_count t - 1)
  first_segment = let e : block_count t ≡ suc (block_count t - 1) = omega arith in ap (segments_from t 0) e

  pub none_sent : block_start t 0 ≡ 0
  none_sent = rw zero-mul (omega arith)

  first_root : 1 ≤ t.copies → first_of 0 ≡ root
  first_root h = let e : above t.n (block_level t - 1) 0 ≡ 0 = above_zero t.n (block_level t - 1) in rw e

  keeps_with_path : 1 ≤ t.copies → Keeps t
  keeps_with_path some =
      let rest : List Slot = segments_from t 1 (block_count t - 1) in
      let all : suc 0 + (block_count t - 1) ≡ block_count t = omega arith in
      let later : Sends t (block_start t 1) rest = sends_segments (block_count t - 1) 1 some (omega arith) in
      keeps_sent t (below_path t 0 1 rest)
      (slots_segments ∙ first_segment ∙ segment_opens 0 rest some ∙ ap (λ y. y ∷ below_path t 0 1 rest) (first_root some))
      (subst₂ (λ s j. Stands t s 1 j (below_path t 0 1 rest)) none_sent (above_zero t.n (block_level t - 1))
      (path_stands t sound one 0 (block_count t - 1) 1 all (omega arith) some))
      (subst (λ s. Sends t s (below_path t 0 1 rest)) none_sent (sends_below 0 (block_count t - 1) (t.copies - 1) 1 all (omega arith) later))

  -- what follows B in its tree
  abbrev pub below_block : ℕ → List Slot → List Slot
  below_block b rest =
      joined (λ c. subtree t (t.k - block_level t) (suc (block_level t)) c) (children t (block_level t) b)
      ++ (sent t (data_under t (block_level t) b) ++ rest)

  pub block_opens : (b : ℕ) (rest : List Slot) → behind_path t b rest ≡ slot (block_level t) b ∷ below_block b rest
  unfolding tree_below
  block_opens b rest =
      let height : t.k + 1 - block_level t ≡ suc (t.k - block_level t) = omega (arith, sound.path_fits one) in rw height

  bare_opens :
      (rest : List Slot) → t.copies ≡ 0 →
      distributed_segment t 0 ++ rest ≡ record { level = block_level t; place = 0; starts = true } ∷ below_block 0 rest
  unfolding distributed_segment path tree_below slot
  bare_opens rest z =
      let height : t.k + 1 - block_level t ≡ suc (t.k - block_level t) = omega (arith, sound.path_fits one) in
      let first : Slot = record { level = block_level t; place = 0; starts = true } in
      let trees : List Slot = joined (λ c. subtree t (t.k - block_level t) (suc (block_level t)) c) (children t (block_level t) 0) in
      rw (range_empty 1 (block_level t) (omega arith), height)
      (ap (λ xs. first ∷ xs) (append_assoc trees (sent t (data_under t (block_level t) 0)) rest))

  keeps_without_path : t.copies ≡ 0 → Keeps t
  keeps_without_path z =
      let top : block_level t ≡ 1 = omega arith in
      let narrow : width t 1 ≤ 1 = width_root t (pos t sound one) sound.holds in
      let narrow' : width t (block_level t) ≤ 1 = rw top narrow in
      let single : block_count t ≡ 1 = omega arith in
      let rest : List Slot = segments_from t 1 (block_count t - 1) in
      let last : Sends t (block_start t 1) rest = rw single (done (ap (block_start t) (sym single) ∙ blocks_end t sound one)) in
      let block : Sends t 0 (behind_path t 0 rest) =
      subst (λ s. Sends t s (behind_path t 0 rest)) none_sent (sends_behind_path 0 rest (omega arith) last) in
      let front = front_slot (block_level t) 0 (sound.path_fits one) (subst (Sends t 0) (block_opens 0 rest) block) in
      keeps_sent t (below_block 0 rest)
      (slots_segments
      ∙ first_segment
      ∙ bare_opens rest z
      ∙ ap (λ i. record { level = i; place = 0; starts = true } ∷ below_block 0 rest) top)
      (subst (λ i. Stands t 0 i 0 (below_block 0 rest)) top front.0)
      front.1

  pub keeps_distributed : Keeps t
  keeps_distributed = ⊎_elim keeps_without_path keeps_with_path (eq-zero-or-pos t.copies)
