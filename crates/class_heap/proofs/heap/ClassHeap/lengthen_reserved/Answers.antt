use Rattle.std.proofs.Common.{◌∙◌, sym, refl, subst}
use Rattle.std.specs.Prelude.{IsSome}
use Rattle.std.proofs.lemmas.List.{get_or_read}
use Rattle.class_heap.specs.declared.entry.Entry.TheVariants.{Vacant}
use Rattle.class_heap.specs.Entries.{block_in}
use Rattle.class_heap.specs.Laws.{slab_there}
use Rattle.class_heap.proofs.Lengthening.{leaving, leaving_sound, leaving_lengthens}
use Rattle.class_heap.proofs.heap.ClassHeap.lengthen_reserved.Goals as goal

pub invariant_of-self : goal.invariant_of-self
invariant_of-self c =
    let s = c.args.self.now in let m = c.vacant.new.self in let at = c.args.at in
    let there = slab_there m.entries.items at.slab at.slot (subst (λ e. IsSome (block_in e at.slot)) (sym (c.vacant.ensures.entries at.slab)) c.requires.live) in
    let took = c.replace-block.ensures.value ∙ get_or_read m.entries.items _ _ there c.index_mut.ensures.value Vacant in
    let h = leaving s m at c.in_ok-slab.slab c.args.len c.replace-block.result c.lengthen.new.self c.set.new.self c.requires.live c.requires.room c.requires.longer c.requires.large
    c.vacant.ensures.passing c.vacant.ensures.entries c.in_ok-slab.ensures.vacant took c.lengthen.ensures.lengthened c.set.ensures.bound c.set.ensures.labels in
    record { sound = leaving_sound h c.replace-block.new.dest c.set-2.new.self c.replace-block.ensures.after c.set-2.ensures.bound c.set-2.ensures.labels }

pub returns-clause-lengthened : goal.returns-clause-lengthened
returns-clause-lengthened c =
    let s = c.args.self.now in let m = c.vacant.new.self in let at = c.args.at in
    let there = slab_there m.entries.items at.slab at.slot (subst (λ e. IsSome (block_in e at.slot)) (sym (c.vacant.ensures.entries at.slab)) c.requires.live) in
    let took = c.replace-block.ensures.value ∙ get_or_read m.entries.items _ _ there c.index_mut.ensures.value Vacant in
    let h = leaving s m at c.in_ok-slab.slab c.args.len c.replace-block.result c.lengthen.new.self c.set.new.self c.requires.live c.requires.room c.requires.longer c.requires.large
    c.vacant.ensures.passing c.vacant.ensures.entries c.in_ok-slab.ensures.vacant took c.lengthen.ensures.lengthened c.set.ensures.bound c.set.ensures.labels in
    leaving_lengthens h _ c.replace-block.new.dest c.replace-block.ensures.after refl refl
