-- It is an index bucket of the segment, and its pairs are the path's.
use Rattle.std.proofs.Common.{◌≡◌, ℕ, ◌+◌, ◌-◌, ◌/◌, ◌^◌, ◌<◌, List, [], refl, ◌∙◌, arith}
use Rattle.cycle.specs.declared.Figures.{Figures}
use Rattle.cycle.specs.declared.Segment.{Segment}
use Rattle.cycle.specs.declared.Source.{Source}
use mathlib.Core.Bool.{Bool}
use Rattle.cycle.specs.Inner.Held.{plan_of, place_over, PathPlace, IndexPlace, Printing}
use Rattle.cycle.proofs.Segmenting.SegmentParts.{seated, path_size}
use Rattle.cycle.proofs.Reach.PathFigures.{power_some, place_over_lem}
use Rattle.cycle.proofs.Buckets.PathBuckets.{path_one, path_low, path_bounds, path_some, path_on, path_place_lem, path_printed}
use Rattle.cycle.proofs.index.Printer.print_path_bucket.Goals as goal

-- the bucket's place, as the code has it
module _ {f : Figures} {source : Source} {text : List ℕ} {plain : Bool} {s : Segment} (w : Printing f source text plain s) {i x : ℕ}
    (p : PathPlace f s i x) (r : ℕ) (power : r ≡ f.n ^ (f.copies + 1 - i)) where
  some_power : 0 < r
  some_power = power_some f w.ready (path_one w p) i (path_low w p) (omega (arith, p.high)) r power

  over : s.number / r ≡ place_over (plan_of f []) s.number i
  over = place_over_lem f w.ready (path_one w p) i (path_low w p) (omega (arith, p.high)) [] s.number r power

  there : IndexPlace f s (f.k + 1 - i) (s.number / r) x
  there = path_place_lem w p over

pub overflow_add-h : goal.overflow_add-h
overflow_add-h c = omega (arith, (path_bounds c.args.self.now.printing c.requires.path_place).0)

pub overflow_add-e : goal.overflow_add-e
overflow_add-e c = omega (arith, (path_bounds c.args.self.now.printing c.requires.path_place).2)

pub overflow_sub-e : goal.overflow_sub-e
overflow_sub-e c = omega (arith, (path_bounds c.args.self.now.printing c.requires.path_place).1, c.requires.path_place.high)

pub power-requires : goal.power-requires
power-requires c =
    let shaped = c.args.self.now.printing.ready.shaped in
    (shaped.n_low, shaped.n_high, omega (arith, (path_bounds c.args.self.now.printing c.requires.path_place).0))

pub nonzero_div-j : goal.nonzero_div-j
nonzero_div-j c = some_power c.args.self.now.printing c.requires.path_place c.power.result c.power.ensures

pub child_count-count-requires : goal.child_count-count-requires
child_count-count-requires c =
    let at = there c.args.self.now.printing c.requires.path_place c.power.result c.power.ensures in
    (at.low, at.inside)

pub path_pairs-pairs-requires-clause-some_data : goal.path_pairs-pairs-requires-clause-some_data
path_pairs-pairs-requires-clause-some_data c = path_some c.args.self.now.printing c.requires.path_place

pub path_pairs-pairs-requires-clause-x_in_bounds : goal.path_pairs-pairs-requires-clause-x_in_bounds
path_pairs-pairs-requires-clause-x_in_bounds c = (there c.args.self.now.printing c.requires.path_place c.power.result c.power.ensures).below

pub path_pairs-pairs-requires-clause-on_path : goal.path_pairs-pairs-requires-clause-on_path
path_pairs-pairs-requires-clause-on_path c = path_on c.args.self.now.printing c.requires.path_place []

pub print_index_bucket-requires-clause-index_place : goal.print_index_bucket-requires-clause-index_place
print_index_bucket-requires-clause-index_place c = there c.args.self.now.printing c.requires.path_place c.power.result c.power.ensures

pub print_index_bucket-requires-clause-start_le_x : goal.print_index_bucket-requires-clause-start_le_x
print_index_bucket-requires-clause-start_le_x c =
    let part = c.args.self.now.part.now in
    let sits = seated part.cycle.now.f part.s part.cycle.now.ready part.placed in
    let size = path_size part.cycle.now.f part.s part.cycle.now.ready part.placed in
    (omega (arith, c.requires.path_place.here), omega (arith, c.requires.path_place, sits, size))

pub returns : goal.returns
returns c =
    path_printed c.args.self.now.printing c.requires.path_place
    (over c.args.self.now.printing c.requires.path_place c.power.result c.power.ensures)
    (c.as_slice.ensures.value ∙ c.path_pairs-pairs.ensures)
    _ _ _ _ refl c.child_count-count.ensures refl c.print_index_bucket.ensures
