use Rattle.std.proofs.Common.{◌≡◌, ◌∙◌, ap, sym, subst, false, length}
use Rattle.std.proofs.lemmas.List.{with_items_is}
use Rattle.blocks.specs.Slabs.{ended}
use Rattle.class_heap.specs.Entries.{heap_of}
use Rattle.class_heap.proofs.Returns.{slabs_ended}
use Rattle.class_heap.proofs.heap.ClassHeapBlockStore.end_pass.Goals as goal

pub returns-clause-ended : goal.returns-clause-ended
returns-clause-ended c =
    let s = c.args.self.now in let new = c.release_all.new.entries in
    let same = c.deref_mut.ensures.value in let long = c.release_all.ensures.long ∙ ap length same in
    subst (λ xs. heap_of false xs ≡ ended (heap_of s.passing s.entries.items)) (sym (with_items_is s.entries new (long ∙ sym s.entries.ok.0)))
    (subst (λ xs. heap_of false new ≡ ended (heap_of s.passing xs)) same (slabs_ended s.passing c.deref_mut.result.now new c.release_all.ensures.long c.release_all.ensures.released))
