-- The pair of one more level: the levels are few, each bucket over the path is one of the tree's, and the next one of its level is
-- ahead.
use Rattle.std.proofs.Common.{◌≡◌, ℕ, ◌+◌, ◌-◌, ◌/◌, ◌%◌, ◌^◌, ◌≤◌, ◌<◌, suc, Some, List, [], ◌∷◌, ◌++◌, map, length, sym, ap, ap₂, ◌∙◌, arith}
use mathlib.Core.List.{map-append}
use lib.ListN.{length-map}
use Rattle.columns.specs.Lists.{range}
use Rattle.buckets.specs.declared.Line.{Line}
use Rattle.buckets.specs.declared.Pair.{Pair}
use Rattle.buckets.specs.Lengths.{pairs_most}
use Rattle.cycle.specs.Tree.{layout_number, largest_tag, width, levels_most}
use Rattle.cycle.specs.declared.Figures.{Figures}
use Rattle.cycle.specs.Cycle.{first_pair, first_place}
use Rattle.cycle.specs.Inner.Held.{plan_of, plan_in, lines_held, last_of, InTree, Ready, OnPath, place_over, pair_reach, path_pair, path_pairs}
use native.Mathlib.Numerals.{add-one}
use Rattle.cycle.proofs.Basics.Ranges.{length_range, range_snoc}
use Rattle.cycle.proofs.Sequences.Paths.{path_top_low}
use Rattle.cycle.proofs.Sequences.Blocks.{block_count}
use Rattle.cycle.proofs.Trees.Readiness.{sound}
use Rattle.cycle.proofs.Reach.PathFigures.{path_here, path_inside, few_copies, power_some, place_over_lem, over_inside, block_inside}
use Rattle.cycle.proofs.Reach.PairReach.{reach_ahead}
use Rattle.cycle.proofs.index.Printer.path_pairs.Goals as goal

module _ (f : Figures) (ready : Ready f) {b i x : ℕ} (p : OnPath (plan_of f []) b i x) where
  one : layout_number f.layout ≡ 1
  unfolding plan_of
  one = p.distributed

  high : i ≤ f.copies
  unfolding plan_of
  high = p.high

  low : 1 ≤ i
  unfolding plan_of
  low = omega (arith, p.top, path_top_low f.n f.copies b)

  bounds : (f.copies ≤ pairs_most) × (f.copies + 1 ≤ f.k) × (f.k ≤ levels_most)
  bounds = few_copies f ready one

  -- the next bucket of the pair's level is ahead
  reaches :
      (j : ℕ) → 2 ≤ j → j ≤ i → place_over (plan_of f []) b j + 1 < width (plan_of f []) j →
      ((place_over (plan_of f []) b j + 1) % f.n ≡ 0 → ⊥) → x < first_place (plan_of f []) j (place_over (plan_of f []) b j + 1)
  unfolding place_over plan_of
  reaches j from to more apart =
      let t = plan_of f [] in
      let inside = path_inside p in
      rw (path_here p)
      (reach_ahead t (sound f [] ready.shaped ready.copies_fit_lem) one b i (block_count t - suc b) p.top p.high (omega arith) j from to apart more)

  -- the bucket of a level over the path
  module _ (level : ℕ) (from : 2 ≤ level) (to : level ≤ i) (r : ℕ) (power : r ≡ f.n ^ (f.copies + 1 - level)) where
    some_power : 0 < r
    some_power = power_some f ready one level (omega arith) (omega (arith, high)) r power

    over : (ls : List Line) → b / r ≡ place_over (plan_of f ls) b level
    over ls = place_over_lem f ready one level (omega arith) (omega (arith, high)) ls b r power

    inside : InTree f (f.k + 1 - level) (b / r)
    inside = rw (over []) (over_inside f ready one level (omega arith) (omega (arith, high)) [] b (block_inside f ready one b (path_inside p)))

    ahead :
        b / r + 1 < width (plan_of f []) level → ((b / r + 1) % f.n ≡ 0 → ⊥) → x < first_place (plan_of f []) level (b / r + 1)
    ahead = rw (over []) (reaches level from to)

pub overflow_add-level-end : goal.overflow_add-level-end
overflow_add-level-end c =
    let cycle = c.args.self.now.part.now.cycle.now in
    omega (arith, high cycle.f cycle.ready c.requires.on_path, (bounds cycle.f cycle.ready c.requires.on_path).0)

pub overflow_add-h : goal.overflow_add-h
overflow_add-h c =
    let cycle = c.args.self.now.part.now.cycle.now in
    omega (arith, (bounds cycle.f cycle.ready c.requires.on_path).0)

pub overflow_sub-h : goal.overflow_sub-h
overflow_sub-h c =
    let cycle = c.args.self.now.part.now.cycle.now in
    omega (arith, high cycle.f cycle.ready c.requires.on_path)

pub overflow_add-e : goal.overflow_add-e
overflow_add-e c =
    let cycle = c.args.self.now.part.now.cycle.now in
    omega (arith, (bounds cycle.f cycle.ready c.requires.on_path).2)

pub overflow_sub-e : goal.overflow_sub-e
overflow_sub-e c =
    let cycle = c.args.self.now.part.now.cycle.now in
    omega (arith, high cycle.f cycle.ready c.requires.on_path, (bounds cycle.f cycle.ready c.requires.on_path).1)

pub power-requires : goal.power-requires
power-requires c =
    let cycle = c.args.self.now.part.now.cycle.now in
    let shaped = cycle.ready.shaped in
    (shaped.n_low, shaped.n_high, omega (arith, (bounds cycle.f cycle.ready c.requires.on_path).0))

pub nonzero_div-place : goal.nonzero_div-place
nonzero_div-place c =
    let cycle = c.args.self.now.part.now.cycle.now in
    some_power cycle.f cycle.ready c.requires.on_path c.loop-level.level (omega arith) (omega arith) c.power.result c.power.ensures

pub largest_tag-requires : goal.largest_tag-requires
largest_tag-requires c =
    let cycle = c.args.self.now.part.now.cycle.now in (
      c.requires.some_data,
      inside cycle.f cycle.ready c.requires.on_path c.loop-level.level (omega arith) (omega arith) c.power.result c.power.ensures,
    )

pub pair_distance-requires : goal.pair_distance-requires
pair_distance-requires c =
    let cycle = c.args.self.now.part.now.cycle.now in
    let on = c.requires.on_path in
    let level = c.loop-level.level in (
      c.requires.some_data,
      one cycle.f cycle.ready on,
      omega arith,
      omega (arith, high cycle.f cycle.ready on),
      inside cycle.f cycle.ready on level (omega arith) (omega arith) c.power.result c.power.ensures,
      c.requires.x_in_bounds,
      ahead cycle.f cycle.ready on level (omega arith) (omega arith) c.power.result c.power.ensures,
    )

pub push-requires-in-loop-level : goal.push-requires-in-loop-level
push-requires-in-loop-level c =
    let p = c.args.self.now in
    let cycle = p.part.now.cycle.now in (
      omega arith,
      omega (
        arith,
        ap length c.loop-level.invariant.1,
        length-map (range 2 c.loop-level.level) (path_pair cycle.f p.source p.text.now p.part.now.s.number c.args.x),
        length_range 2 c.loop-level.level,
        high cycle.f cycle.ready c.requires.on_path,
        (bounds cycle.f cycle.ready c.requires.on_path).0,
      ),
    )

pub loop-level-preserved : goal.loop-level-preserved
unfolding path_pair plan_in
loop-level-preserved c =
    let p = c.args.self.now in
    let f = p.part.now.cycle.now.f in
    let ready = p.part.now.cycle.now.ready in
    let b = p.part.now.s.number in
    let x : ℕ = c.args.x in
    let level = c.loop-level.level in
    let g = path_pair f p.source p.text.now b x in
    let ls = lines_held f p.source p.text.now in
    let over_at = over f ready c.requires.on_path level (omega arith) (omega arith) c.power.result c.power.ensures in
    let same : f.k + 1 - (f.k + 1 - level) ≡ level =
    omega (arith, high f ready c.requires.on_path, (bounds f ready c.requires.on_path).1) in
    let tag_is : c.largest_tag.result ≡ largest_tag (plan_of f ls) level (place_over (plan_of f ls) b level) =
    c.largest_tag.ensures ∙ ap₂ (largest_tag (plan_of f ls)) same (over_at ls) in
    let far_is : c.pair_distance.result ≡ pair_reach (plan_of f []) f.size x level (place_over (plan_of f []) b level) =
    c.pair_distance.ensures ∙ ap (pair_reach (plan_of f []) f.size x level) (over_at []) in
    let pair_is : record { tag = Some c.largest_tag.result; distance = c.pair_distance.result } ≡ g level =
    λ k. record { tag = Some (tag_is k); distance = far_is k } in
    let first = first_pair (last_of (plan_of f ls) p.part.now.s.first) (f.size - x) in (
      omega arith,
      c.push-in-loop-level.ensures.items
          ∙ ap₂ (λ (ps : List Pair) (q : Pair). ps ++ q ∷ []) c.loop-level.invariant.1 pair_is
          ∙ ap (λ (ps : List Pair). first ∷ ps)
          (sym (ap (map g) (ap (range 2) (add-one level) ∙ range_snoc 2 level (omega arith)) ∙ map-append g (range 2 level) (level ∷ []))),
    )

pub returns : goal.returns
unfolding path_pairs
returns c =
    let p = c.args.self.now in
    let f = p.part.now.cycle.now.f in
    let s = p.part.now.s in
    let x : ℕ = c.args.x in
    let all : c.loop-level.level ≡ c.args.i + 1 = omega (arith, low f p.part.now.cycle.now.ready c.requires.on_path) in
    c.loop-level.invariant.1
    ∙ ap
    (λ z.
    first_pair (last_of (plan_in f p.source p.text.now) s.first) (f.size - x)
    ∷ map (path_pair f p.source p.text.now s.number x) (range 2 z))
    all
