use Rattle.std.proofs.Common.{◌∙◌, ap, subst, sym, length, arith, true}
use Rattle.std.specs.Vec.{with_items}
use Rattle.std.proofs.lemmas.List.{with_items_is}
use Rattle.blocks.specs.Slabs.{Begun, unmarked}
use Rattle.class_heap.specs.Entries.{entry_at, heap_of, use_in}
use Rattle.class_heap.proofs.Descent.{few_numbers}
use Rattle.class_heap.proofs.Returns.{slabs_begun}
use Rattle.class_heap.proofs.heap.ClassHeapBlockStore.begin_pass.Goals as goal

pub mark_all-requires-clause-few : goal.mark_all-requires-clause-few
mark_all-requires-clause-few c =
    let s = c.args.self.now in let d = s.directory in let f = few_numbers d.bound _ d.nodes.items d.sound in let b = s.sound.bound in
    let long = c.release_all.ensures.long ∙ ap length c.deref_mut.ensures.value in
    let l = ap length (c.deref_mut-2.ensures.value ∙ with_items_is s.entries c.release_all.new.entries (long ∙ sym s.entries.ok.0)) in
    omega (arith, f, b, l, long)

pub returns-clause-begun : goal.returns-clause-begun
returns-clause-begun c =
    let s = c.args.self.now in let mid = c.release_all.new.entries in let new = c.mark_all.new.entries in
    let long = c.release_all.ensures.long ∙ ap length c.deref_mut.ensures.value in
    let first = with_items_is s.entries mid (long ∙ sym s.entries.ok.0) in let lent = c.deref_mut-2.ensures.value ∙ first in
    let longer = c.mark_all.ensures.long ∙ ap length lent in
    subst (λ xs. Begun (heap_of s.passing s.entries.items) (heap_of true xs)) (sym (with_items_is (with_items s.entries mid) new (longer ∙ (long ∙ sym s.entries.ok.0))))
    (subst (λ xs. Begun (heap_of s.passing xs) (heap_of true new)) c.deref_mut.ensures.value
    (slabs_begun s.passing c.deref_mut.result.now mid new c.release_all.ensures.long longer c.release_all.ensures.released
    (λ n. c.mark_all.ensures.same n ∙ ap (λ xs. unmarked (use_in (entry_at xs n))) lent) c.mark_all.ensures.marked))
