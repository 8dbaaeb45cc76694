use Rattle.std.proofs.Common.{◌∙◌, ap, refl, sym, subst, unwrap_or, []}
use Rattle.std.specs.Prelude.{Some}
use Rattle.std.proofs.lemmas.List.{get_or_read}
use Rattle.blocks.specs.Blocks.{resized}
use Rattle.blocks.specs.Slabs.{IsSlabFor}
use Rattle.class_heap.specs.declared.entry.Entry.TheVariants.{Vacant}
use Rattle.class_heap.specs.Entries.{use_in, block_in, labels_of}
use Rattle.class_heap.specs.Laws.{slab_there, slab_read}
use Rattle.class_heap.specs.Placing.{stretches}
use Rattle.class_heap.specs.Slab.{with_slot}
use Rattle.class_heap.proofs.Returns.{sound_written, slabs_written, blocks_written}
use Rattle.class_heap.proofs.heap.ClassHeapBlockStore.stretch.Goals as goal

pub stretch-requires-clause-class : goal.stretch-requires-clause-class
stretch-requires-clause-class c =
    let s = c.args.self.now in let there = slab_there s.entries.items c.args.at.slab c.args.at.slot c.requires in
    let seen = get_or_read s.entries.items _ _ there c.index.ensures Vacant in let is = get_or_read s.entries.items _ _ there c.index_mut.ensures.value Vacant in
    subst (λ e. IsSlabFor c.args.len (use_in e)) (seen ∙ sym is) (c.is_slab_for.ensures.0 c.if-not-is_slab_for.false)

pub invariant_of-self : goal.invariant_of-self
invariant_of-self c =
    let s = c.args.self.now in let there = slab_there s.entries.items c.args.at.slab c.args.at.slot c.requires in
    let is = get_or_read s.entries.items _ _ there c.index_mut.ensures.value Vacant in
    record { sound = sound_written s.sound c.args.at.slab c.stretch.new.self there (c.stretch.ensures.same ∙ ap use_in is) (c.stretch.ensures.labels s.passing ∙ ap (labels_of s.passing) is) }

pub returns-clause-rule : goal.returns-clause-rule
returns-clause-rule c =
    let s = c.args.self.now in let there = slab_there s.entries.items c.args.at.slab c.args.at.slot c.requires in
    let seen = get_or_read s.entries.items _ _ there c.index.ensures Vacant in (
      λ yes. subst (IsSlabFor c.args.len) (sym (slab_read s.passing s.entries.items c.args.at.slab))
          (subst (λ e. IsSlabFor c.args.len (use_in e)) seen (c.is_slab_for.ensures.0 c.if-not-is_slab_for.false)),
      λ fits. refl,
    )

pub returns-clause-stretched : goal.returns-clause-stretched
returns-clause-stretched c = λ yes.
    let s = c.args.self.now in let there = slab_there s.entries.items c.args.at.slab c.args.at.slot c.requires in
    let is = get_or_read s.entries.items _ _ there c.index_mut.ensures.value Vacant in
    blocks_written s.entries.items c.args.at c.stretch.new.self _ c.requires
    (λ slot. c.stretch.ensures.stretched slot ∙ ap (λ x. with_slot (block_in x) c.args.at.slot (Some (resized (unwrap_or (block_in x c.args.at.slot) []) c.args.len)) slot) is)

pub returns-clause-slabs : goal.returns-clause-slabs
returns-clause-slabs c =
    let s = c.args.self.now in let there = slab_there s.entries.items c.args.at.slab c.args.at.slot c.requires in
    let is = get_or_read s.entries.items _ _ there c.index_mut.ensures.value Vacant in
    slabs_written s.passing s.entries.items c.args.at.slab c.stretch.new.self (c.stretch.ensures.same ∙ ap use_in is)

pub returns-clause-step : goal.returns-clause-step
returns-clause-step c = stretches c.args.at c.args.len (record {
  was = c.requires;
  fits = (returns-clause-rule c).0 refl;
  stretched = returns-clause-stretched c refl;
  slabs = returns-clause-slabs c;
})
