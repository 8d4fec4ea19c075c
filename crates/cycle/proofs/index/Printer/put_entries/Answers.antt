-- An entry is put behind those of the earlier children, in columns that are still blank.
use Rattle.std.proofs.Common.{◌≡◌, ℕ, sym, ◌<◌, arith}
use Rattle.columns.proofs.Put.{put_nil}
use Rattle.buckets.specs.Lengths.{entries_start}
use Rattle.cycle.proofs.Trees.Readiness.{reached}
use Rattle.cycle.proofs.Trees.Children.{first_small}
use Rattle.cycle.proofs.Buckets.ChildEntries.{few_left, place_asked, tag_within, tag_stays, columns_wide, blank_there, one_entry}
use Rattle.cycle.proofs.index.Printer.put_entries.Goals as goal

pub power-span-requires : goal.power-span-requires
power-span-requires c =
    let cycle = c.args.self.now.part.now.cycle.now in
    let shaped = cycle.ready.shaped in
    (shaped.n_low, shaped.n_high, omega (arith, (reached cycle.f c.args.e c.args.j shaped c.requires.index_place.inside).height))

pub full_size-full-requires : goal.full_size-full-requires
full_size-full-requires c =
    let cycle = c.args.self.now.part.now.cycle.now in
    let shaped = cycle.ready.shaped in
    (shaped.n_low, shaped.n_high, omega (arith, (reached cycle.f c.args.e c.args.j shaped c.requires.index_place.inside).height))

pub overflow_mul-first : goal.overflow_mul-first
overflow_mul-first c =
    let cycle = c.args.self.now.part.now.cycle.now in
    let place = c.requires.index_place in
    omega (arith, first_small cycle.f cycle.ready c.args.e c.args.j place.low place.inside)

pub loop-i-init : goal.loop-i-init
loop-i-init c = sym (put_nil _ entries_start)

within : {i count children : ℕ} → count ≡ children → i < count → i < children
within e h = omega arith

pub overflow_add-first : goal.overflow_add-first
overflow_add-first c =
    let cycle = c.args.self.now.part.now.cycle.now in
    let place = c.requires.index_place in
    omega (
      arith,
      first_small cycle.f cycle.ready c.args.e c.args.j place.low place.inside,
      few_left c.args.self.now.printing place (within c.requires.count_value c.loop-i-test.true),
    )

pub tag_place-from-requires : goal.tag_place-from-requires
tag_place-from-requires c =
    let here = within c.requires.count_value c.loop-i-test.true in
    let asked = place_asked c.args.self.now.printing c.requires.index_place here c.power-span.ensures in
    record { le_d = asked.0; spans = asked.1.0; spans_in = asked.1.1 }

pub put_entry-requires : goal.put_entry-requires
put_entry-requires c =
    let printing = c.args.self.now.printing in
    let place = c.requires.index_place in
    let here = within c.requires.count_value c.loop-i-test.true in
    let power = c.power-span.ensures in
    let start = c.args.part.now in
    let i = c.loop-i.i in (
      columns_wide printing place start c.requires.part_len i c.loop-i.invariant (omega (arith, here)),
      (
        few_left printing place here,
        (
          tag_within printing place here power c.tag_place-from.ensures,
          (
            blank_there printing place start c.requires.part_len i c.loop-i.invariant here c.requires.entries_blank,
            tag_stays printing place here power c.tag_place-from.ensures,
          ),
        ),
      ),
    )

pub loop-i-preserved : goal.loop-i-preserved
loop-i-preserved c =
    let here = within c.requires.count_value c.loop-i-test.true in
    one_entry c.args.self.now.printing c.requires.index_place c.args.part.now c.requires.part_len c.loop-i.i c.loop-i.invariant here
    c.power-span.ensures c.tag_place-from.ensures c.child_distance-distance.ensures c.put_entry.ensures
