use Rattle.std.proofs.Common.{◌∙◌, ap}
use Rattle.std.proofs.lemmas.List.{get_or_read}
use Rattle.class_heap.specs.declared.entry.Entry.TheVariants.{Vacant}
use Rattle.class_heap.specs.Entries.{use_in, labels_of}
use Rattle.class_heap.specs.Laws.{slab_there}
use Rattle.class_heap.proofs.Returns.{sound_written, slabs_written}
use Rattle.class_heap.proofs.heap.ClassHeap.reserve_alone.Goals as goal

pub invariant_of-self : goal.invariant_of-self
invariant_of-self c =
    let s = c.args.self.now in let there = slab_there s.entries.items c.args.at.slab c.args.at.slot c.requires.live in
    let is = get_or_read s.entries.items _ _ there c.index_mut.ensures.value Vacant in
    record { sound = sound_written s.sound c.args.at.slab c.reserve.new.self there (c.reserve.ensures.same ∙ ap use_in is) (c.reserve.ensures.labels s.passing ∙ ap (labels_of s.passing) is) }

pub returns-clause-slabs : goal.returns-clause-slabs
returns-clause-slabs c =
    let s = c.args.self.now in let there = slab_there s.entries.items c.args.at.slab c.args.at.slot c.requires.live in
    let is = get_or_read s.entries.items _ _ there c.index_mut.ensures.value Vacant in
    slabs_written s.passing s.entries.items c.args.at.slab c.reserve.new.self (c.reserve.ensures.same ∙ ap use_in is)
