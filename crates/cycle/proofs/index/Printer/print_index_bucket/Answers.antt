-- The entries are put over the columns that the start leaves blank.
use Rattle.buckets.proofs.EntriesPut.{started_blank}
use Rattle.cycle.proofs.Segmenting.TreePlaces.{head_asked}
use Rattle.cycle.proofs.index.Printer.print_index_bucket.Goals as goal

pub head_at-requires : goal.head_at-requires
head_at-requires c =
    let part = c.args.self.now.part.now in
    let asked = head_asked part.cycle.now.f part.s part.cycle.now.ready part.placed c.args.x c.requires.start_le_x.0 c.requires.start_le_x.1 in
    (asked.1, asked.2, asked.3)

pub put_entries-requires-clause-entries_blank : goal.put_entries-requires-clause-entries_blank
put_entries-requires-clause-entries_blank c =
    started_blank c.head_at.result c.args.pairs.now c.args.count c.requires.pairs_le_pairs_most c.start_index.ensures
