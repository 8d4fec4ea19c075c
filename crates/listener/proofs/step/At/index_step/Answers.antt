-- The three distances one after the other.
use Rattle.std.proofs.Common.{◌≡◌, drop, leb, sym, ap, ◌∙◌}
use Rattle.buckets.specs.declared.Pair.{Pair}
use Rattle.buckets.specs.declared.Entry.{Entry}
use Rattle.buckets.specs.Lengths.{buckets_most}
use Rattle.buckets.specs.Bucket.{index_body}
use Rattle.buckets.specs.Inner.Held.{bucket_with}
use Rattle.buckets.proofs.ListParts.{every_drop}
use Rattle.listener.specs.Listener.{dozes, misses, index_choice, decided, tag_below}
use Rattle.listener.specs.declared.Phase.TheVariants.{Index, Either}
use Rattle.listener.proofs.Steps.Chosen.{chosen_near, index_chosen}
use Rattle.listener.proofs.step.At.index_step.Goals as goal

pub doze_by-requires-in-Some-pair_below : goal.doze_by-requires-in-Some-pair_below
doze_by-requires-in-Some-pair_below c =
    chosen_near (λ (p : Pair). tag_below p.tag c.args.self.listener.tag) (λ p. p.distance) (drop 1 c.args.pairs.now)
    (every_drop (λ (p : Pair). leb p.distance buckets_most) 1 c.args.pairs.now c.requires.pairs_near) c.in-Some-pair_below.ensures

pub returns-in-Some-pair_below : goal.returns-in-Some-pair_below
returns-in-Some-pair_below c =
    let a = c.args in
    let body = index_body a.pairs.now a.entries.now in
    let chosen_is : index_choice a.self.listener.tag a.pairs.now a.entries.now ≡ dozes c.in-Some-pair_below.later Index 0 0 =
    index_chosen a.self.listener.tag a.entries.now a.pairs.now ∙ rw (← c.in_default.ensures, ← c.in-Some-pair_below.ensures) in
    c.doze_by-in-Some-pair_below.ensures body ∙ ap (decided a.self.listener (bucket_with a.self.head body)) (sym chosen_is)

pub doze_by-requires-in-Some-entry_from : goal.doze_by-requires-in-Some-entry_from
doze_by-requires-in-Some-entry_from c =
    chosen_near (λ (e : Entry). leb c.args.self.listener.tag e.tag) (λ e. e.distance) c.args.entries.now c.requires.entries_near
    c.in-Some-entry_from.ensures

pub returns-in-Some-entry_from : goal.returns-in-Some-entry_from
returns-in-Some-entry_from c =
    let a = c.args in
    let body = index_body a.pairs.now a.entries.now in
    let chosen_is : index_choice a.self.listener.tag a.pairs.now a.entries.now ≡ dozes c.in-Some-entry_from.distance Either 0 0 =
    index_chosen a.self.listener.tag a.entries.now a.pairs.now
    ∙ rw (← c.in_default.ensures, ← c.in_default-pair_below.ensures, ← c.in-Some-entry_from.ensures) in
    c.doze_by-in-Some-entry_from.ensures body ∙ ap (decided a.self.listener (bucket_with a.self.head body)) (sym chosen_is)

pub returns-in-None : goal.returns-in-None
returns-in-None c =
    let a = c.args in
    let chosen_is : index_choice a.self.listener.tag a.pairs.now a.entries.now ≡ misses =
    index_chosen a.self.listener.tag a.entries.now a.pairs.now
    ∙ rw (← c.in_default.ensures, ← c.in_default-pair_below.ensures, ← c.in-None.ensures) in
    c.end_by.ensures ∙ ap (decided a.self.listener (bucket_with a.self.head (index_body a.pairs.now a.entries.now))) (sym chosen_is)
