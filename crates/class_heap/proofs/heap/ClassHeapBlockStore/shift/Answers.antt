use Rattle.std.proofs.Common.{◌∙◌, ap, arith, take, drop, unwrap_or, []}
use Rattle.std.specs.Prelude.{Some}
use Rattle.std.proofs.lemmas.List.{get_or_read, length-take}
use Rattle.blocks.specs.Blocks.{shifted, bytes_at}
use Rattle.class_heap.specs.declared.entry.Entry.TheVariants.{Vacant}
use Rattle.class_heap.specs.Entries.{use_in, block_in, labels_of}
use Rattle.class_heap.specs.Heap.{heap_blocks}
use Rattle.class_heap.specs.Laws.{slab_there}
use Rattle.class_heap.specs.Placing.{writes}
use Rattle.class_heap.specs.Slab.{with_slot}
use Rattle.class_heap.proofs.Returns.{sound_written, slabs_written, blocks_written}
use Rattle.class_heap.proofs.heap.ClassHeapBlockStore.shift.Goals as goal

pub invariant_of-self : goal.invariant_of-self
invariant_of-self c =
    let s = c.args.self.now in let there = slab_there s.entries.items c.args.at.slab c.args.at.slot c.requires.live in
    let is = get_or_read s.entries.items _ _ there c.index_mut.ensures.value Vacant in
    record { sound = sound_written s.sound c.args.at.slab c.shift.new.self there (c.shift.ensures.same ∙ ap use_in is) (c.shift.ensures.labels s.passing ∙ ap (labels_of s.passing) is) }

pub returns-clause-shifted : goal.returns-clause-shifted
returns-clause-shifted c =
    let s = c.args.self.now in let there = slab_there s.entries.items c.args.at.slab c.args.at.slot c.requires.live in
    let is = get_or_read s.entries.items _ _ there c.index_mut.ensures.value Vacant in
    blocks_written s.entries.items c.args.at c.shift.new.self _ c.requires.live
    (λ slot. c.shift.ensures.shifted slot ∙ ap
    (λ x. with_slot (block_in x) c.args.at.slot (Some (shifted (unwrap_or (block_in x c.args.at.slot) []) c.args.from c.args.to c.args.count)) slot) is)

pub returns-clause-slabs : goal.returns-clause-slabs
returns-clause-slabs c =
    let s = c.args.self.now in let there = slab_there s.entries.items c.args.at.slab c.args.at.slot c.requires.live in
    let is = get_or_read s.entries.items _ _ there c.index_mut.ensures.value Vacant in
    slabs_written s.passing s.entries.items c.args.at.slab c.shift.new.self (c.shift.ensures.same ∙ ap use_in is)

pub returns-clause-step : goal.returns-clause-step
returns-clause-step c =
    let bytes = bytes_at (heap_blocks c.args.self.now) c.args.at in let piece = take c.args.count (drop c.args.from bytes) in
    writes c.args.at c.args.to piece (record {
      was = c.requires.live;
      room = omega (arith, length-take c.args.count (drop c.args.from bytes), c.requires.room);
      written = returns-clause-shifted c;
      slabs = returns-clause-slabs c;
    })
