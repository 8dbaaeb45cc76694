use Rattle.std.proofs.Common.{◌∙◌, ◌+◌, ap, sym, arith, IsSome, subst, [], ◌∷◌, length, drop, take, get_or}
use Rattle.std.proofs.lemmas.List.{take_rest}
use Rattle.blocks.proofs.Serve.{served_next, served_then}
use Rattle.rax_packed.specs.Nodes.{Leaf, Inner, node_of, spelled}
use Rattle.rax_packed.specs.Ways.{fork_links, shortened_by}
use Rattle.rax_packed.proofs.Looks.{tree_live}
use Rattle.rax_packed.proofs.Growths.{puts_none, puts_more, swaps, put_live, live_still, first_live, undone_one}
use Rattle.rax_packed.proofs.Tallies.{many}
use Rattle.rax_packed.specs.Trees.{refs_at}
use Rattle.rax_packed.proofs.Splits.{key_goes_on, split_ready, split_done, undone_two}
use Rattle.rax_packed.proofs.Exactly.{exact_same, exact_put, exact_drop}
use Rattle.rax_packed.proofs.grow.split.Goals as goal

pub bytes-requires : goal.bytes-requires
bytes-requires g c =
    let b = g.B.BlockStore.blocks c.args.store.now in
    let b1 = g.B.BlockStore.blocks c.put_block.new.store in
    let puts = puts_more b b b1 [] c.in_ok-leaf.leaf c.as_slice.result.now (puts_none b) c.in_ok-leaf.ensures.fresh c.in_ok-leaf.ensures.placed in
    let was = tree_live _ _ b c.args.at c.requires.tree in
    subst (λ o. IsSome o) (sym (puts.kept c.args.at was)) was

pub bounds-bytes-shared : goal.bounds-bytes-shared
bounds-bytes-shared g c =
    let b = g.B.BlockStore.blocks c.args.store.now in
    let b1 = g.B.BlockStore.blocks c.put_block.new.store in
    let puts = puts_more b b b1 [] c.in_ok-leaf.leaf c.as_slice.result.now (puts_none b) c.in_ok-leaf.ensures.fresh c.in_ok-leaf.ensures.placed in
    (split_ready b b1 c.args.at c.in_ok-leaf.leaf c.args.rest.now c.args.shared c.requires.tree c.requires.short c.requires.parts puts c.bytes.result.now c.bytes.ensures).within

pub shortened-short-requires : goal.shortened-short-requires
shortened-short-requires g c =
    let b = g.B.BlockStore.blocks c.args.store.now in
    let b1 = g.B.BlockStore.blocks c.put_block.new.store in
    let puts = puts_more b b b1 [] c.in_ok-leaf.leaf c.as_slice.result.now (puts_none b) c.in_ok-leaf.ensures.fresh c.in_ok-leaf.ensures.placed in
    let ready = split_ready b b1 c.args.at c.in_ok-leaf.leaf c.args.rest.now c.args.shared c.requires.tree c.requires.short c.requires.parts puts c.bytes-2.result.now c.bytes-2.ensures in
    record { few = ready.node; from = ready.from }

pub returns-in-Err-clause-served : goal.returns-in-Err-clause-served
returns-in-Err-clause-served g c = served_next _ _ _ (served_then _ _ _ c.in_ok-leaf.ensures.served c.in-Err.ensures.served) c.give_back.ensures.step

pub returns-in-Ok-put_block-clause-added : goal.returns-in-Ok-put_block-clause-added
returns-in-Ok-put_block-clause-added g c =
    let b = g.B.BlockStore.blocks c.args.store.now in
    let b1 = g.B.BlockStore.blocks c.put_block.new.store in
    let b2 = g.B.BlockStore.blocks c.put_block-2.new.store in
    let b3 = g.B.BlockStore.blocks c.put_block-3.new.store in
    let later = g.B.BlockStore.blocks c.give_back-in-Ok-put_block.new.self in
    split_done b b1 b2 b3 later c.args.at c.in_ok-leaf.leaf c.in-Ok.moved c.in-Ok-put_block.new c.args.rest.now c.args.shared c.args.value c.requires.tree c.requires.short c.requires.owned
    c.requires.parts
    c.in_ok-leaf.ensures.fresh c.as_slice.result.now c.in_ok-leaf.ensures.placed
    (c.as_slice.ensures.value ∙ c.leaf_bytes.ensures.bytes ∙ ap (λ k. spelled (Leaf k c.args.value)) (take_rest c.args.rest.now (c.args.shared + 1)))
    c.bytes.result.now c.bytes-2.result.now c.bytes.ensures c.bytes-2.ensures c.as_slice-2.result.now (c.as_slice-2.ensures.value ∙ c.shortened-short.ensures)
    c.in-Ok.ensures.fresh c.in-Ok.ensures.placed c.as_slice-3.result.now (c.as_slice-3.ensures.value ∙ c.forked-fork.ensures.bytes)
    c.in-Ok-put_block.ensures.fresh c.in-Ok-put_block.ensures.placed c.give_back-in-Ok-put_block.ensures.ended
    (λ i. omega (arith, c.type_inv.rest i)) c.forked-fork.ensures.byte c.forked-fork.ensures.fits.0 c.forked-fork.ensures.fits.1 c.leaf_bytes.ensures.fits

pub returns-in-Ok-put_block-clause-served : goal.returns-in-Ok-put_block-clause-served
returns-in-Ok-put_block-clause-served g c =
    served_next _ _ _ (served_then _ _ _ (served_then _ _ _ c.in_ok-leaf.ensures.served c.in-Ok.ensures.served) c.in-Ok-put_block.ensures.served) c.give_back-in-Ok-put_block.ensures.step

pub returns-in-Err-put_block-clause-served : goal.returns-in-Err-put_block-clause-served
returns-in-Err-put_block-clause-served g c =
    served_next _ _ _
    (served_next _ _ _ (served_then _ _ _ (served_then _ _ _ c.in_ok-leaf.ensures.served c.in-Ok.ensures.served) c.in-Err-put_block.ensures.served)
    c.give_back-in-Err-put_block.ensures.step) c.give_back-in-Err-put_block-2.ensures.step

pub returns-in-Err-put_block-clause-err : goal.returns-in-Err-put_block-clause-err
returns-in-Err-put_block-clause-err g c =
    let b = g.B.BlockStore.blocks c.args.store.now in
    let b1 = g.B.BlockStore.blocks c.put_block.new.store in
    let b2 = g.B.BlockStore.blocks c.put_block-2.new.store in
    let b3 = g.B.BlockStore.blocks c.give_back-in-Err-put_block.new.self in
    undone_two b b1 b2 b3 (g.B.BlockStore.blocks c.give_back-in-Err-put_block-2.new.self) c.in_ok-leaf.leaf c.in-Ok.moved c.as_slice.result.now c.as_slice-2.result.now
    c.in_ok-leaf.ensures.fresh c.in_ok-leaf.ensures.placed c.in-Ok.ensures.fresh c.in-Ok.ensures.placed
    (rw c.in-Err-put_block.ensures.err_blocks at c.give_back-in-Err-put_block.ensures.ended) c.give_back-in-Err-put_block-2.ensures.ended

pub returns-in-Ok-put_block-clause-more : goal.returns-in-Ok-put_block-clause-more
returns-in-Ok-put_block-clause-more g c =
    let b = g.B.BlockStore.blocks c.args.store.now in
    let b1 = g.B.BlockStore.blocks c.put_block.new.store in
    let b2 = g.B.BlockStore.blocks c.put_block-2.new.store in
    let b3 = g.B.BlockStore.blocks c.put_block-3.new.store in
    let later = g.B.BlockStore.blocks c.give_back-in-Ok-put_block.new.self in
    let leaf = c.in_ok-leaf.leaf in
    let moved = c.in-Ok.moved in
    let new = c.in-Ok-put_block.new in
    let was = tree_live _ _ b c.args.at c.requires.tree in
    let one_put = puts_more b b b1 [] leaf c.as_slice.result.now (puts_none b) c.in_ok-leaf.ensures.fresh c.in_ok-leaf.ensures.placed in
    let two_put = puts_more b b1 b2 (leaf ∷ []) moved c.as_slice-2.result.now one_put c.in-Ok.ensures.fresh c.in-Ok.ensures.placed in
    let three_put = puts_more b b2 b3 (moved ∷ leaf ∷ []) new c.as_slice-3.result.now two_put c.in-Ok-put_block.ensures.fresh c.in-Ok-put_block.ensures.placed in
    let changed = swaps b b3 later c.args.at (new ∷ moved ∷ leaf ∷ []) three_put was c.give_back-in-Ok-put_block.ensures.ended in
    let done = split_done b b1 b2 b3 later c.args.at leaf moved new c.args.rest.now c.args.shared c.args.value c.requires.tree c.requires.short c.requires.owned c.requires.parts
    c.in_ok-leaf.ensures.fresh c.as_slice.result.now c.in_ok-leaf.ensures.placed
    (c.as_slice.ensures.value ∙ c.leaf_bytes.ensures.bytes ∙ ap (λ k. spelled (Leaf k c.args.value)) (take_rest c.args.rest.now (c.args.shared + 1)))
    c.bytes.result.now c.bytes-2.result.now c.bytes.ensures c.bytes-2.ensures c.as_slice-2.result.now (c.as_slice-2.ensures.value ∙ c.shortened-short.ensures)
    c.in-Ok.ensures.fresh c.in-Ok.ensures.placed c.as_slice-3.result.now (c.as_slice-3.ensures.value ∙ c.forked-fork.ensures.bytes)
    c.in-Ok-put_block.ensures.fresh c.in-Ok-put_block.ensures.placed c.give_back-in-Ok-put_block.ensures.ended
    (λ i. omega (arith, c.type_inv.rest i)) c.forked-fork.ensures.byte c.forked-fork.ensures.fits.0 c.forked-fork.ensures.fits.1 c.leaf_bytes.ensures.fits in
    let sum = many b later (refs_at (length c.args.rest.now) b c.args.at) (refs_at (length c.args.rest.now) later new) (c.args.at ∷ []) (new ∷ moved ∷ leaf ∷ []) c.requires.owned
    done.changes (λ r. (changed.counts (c.args.at ∷ []) (new ∷ moved ∷ leaf ∷ []) (λ q. omega arith)).balance r) in
    omega (arith, sum)

pub returns-in-Ok-put_block-clause-exact : goal.returns-in-Ok-put_block-clause-exact
returns-in-Ok-put_block-clause-exact g c =
    let b = g.B.BlockStore.blocks c.args.store.now in
    let b1 = g.B.BlockStore.blocks c.put_block.new.store in
    let b2 = g.B.BlockStore.blocks c.put_block-2.new.store in
    let b3 = g.B.BlockStore.blocks c.put_block-3.new.store in
    let one = exact_put b b b1 c.in_ok-leaf.leaf c.as_slice.result.now (Leaf (drop (c.args.shared + 1) c.args.rest.now) c.args.value) (exact_same b) c.in_ok-leaf.ensures.placed
    (c.as_slice.ensures.value ∙ c.leaf_bytes.ensures.bytes ∙ ap (λ k. spelled (Leaf k c.args.value)) (take_rest c.args.rest.now (c.args.shared + 1))) in
    let two = exact_put b b1 b2 c.in-Ok.moved c.as_slice-2.result.now (shortened_by (c.args.shared + 1) (node_of c.bytes-2.result.now)) one c.in-Ok.ensures.placed
    (c.as_slice-2.ensures.value ∙ c.shortened-short.ensures) in
    let three = exact_put b b2 b3 c.in-Ok-put_block.new c.as_slice-3.result.now
    (Inner (take c.args.shared c.args.rest.now) (fork_links (get_or c.bytes.result.now (2 + c.args.shared) 0) c.in-Ok.moved (get_or c.args.rest.now c.args.shared 0) c.in_ok-leaf.leaf))
    two c.in-Ok-put_block.ensures.placed (c.as_slice-3.ensures.value ∙ c.forked-fork.ensures.bytes) in
    exact_drop b b3 (g.B.BlockStore.blocks c.give_back-in-Ok-put_block.new.self) c.args.at three c.give_back-in-Ok-put_block.ensures.ended

pub overflow_add-shared : goal.overflow_add-shared
overflow_add-shared g c = omega (arith, c.requires.short, key_goes_on c.requires.parts)

pub overflow_add-shared-2 : goal.overflow_add-shared-2
overflow_add-shared-2 g c = omega (arith, c.requires.short, key_goes_on c.requires.parts)

pub overflow_add-node_byte : goal.overflow_add-node_byte
overflow_add-node_byte g c = omega (arith, c.requires.short, key_goes_on c.requires.parts)

pub slice_bounds-leaf_bytes-start : goal.slice_bounds-leaf_bytes-start
slice_bounds-leaf_bytes-start g c = omega (arith, key_goes_on c.requires.parts)

pub slice_bounds-leaf_bytes-end : goal.slice_bounds-leaf_bytes-end
slice_bounds-leaf_bytes-end g c = omega (arith, key_goes_on c.requires.parts)

pub bounds-rest-shared : goal.bounds-rest-shared
bounds-rest-shared g c = key_goes_on c.requires.parts

pub bytes-requires-2 : goal.bytes-requires-2
bytes-requires-2 g c =
    let b = g.B.BlockStore.blocks c.args.store.now in
    let b1 = g.B.BlockStore.blocks c.put_block.new.store in
    let puts = puts_more b b b1 [] c.in_ok-leaf.leaf c.as_slice.result.now (puts_none b) c.in_ok-leaf.ensures.fresh c.in_ok-leaf.ensures.placed in
    live_still b b1 c.args.at (c.in_ok-leaf.leaf ∷ []) puts (tree_live _ _ b c.args.at c.requires.tree)

pub give_back-requires : goal.give_back-requires
give_back-requires g c =
    let b = g.B.BlockStore.blocks c.args.store.now in
    let b1 = g.B.BlockStore.blocks c.put_block.new.store in
    let leaf = c.in_ok-leaf.leaf in
    subst (λ o. IsSome o) (sym (ap (λ n. n leaf) c.in-Err.ensures.err_blocks)) (put_live b b1 leaf c.as_slice.result.now c.in_ok-leaf.ensures.placed)

pub give_back-requires-in-Ok-put_block : goal.give_back-requires-in-Ok-put_block
give_back-requires-in-Ok-put_block g c =
    let b = g.B.BlockStore.blocks c.args.store.now in
    let b1 = g.B.BlockStore.blocks c.put_block.new.store in
    let b2 = g.B.BlockStore.blocks c.put_block-2.new.store in
    let b3 = g.B.BlockStore.blocks c.put_block-3.new.store in
    let leaf = c.in_ok-leaf.leaf in
    let moved = c.in-Ok.moved in
    let new = c.in-Ok-put_block.new in
    let one_put = puts_more b b b1 [] leaf c.as_slice.result.now (puts_none b) c.in_ok-leaf.ensures.fresh c.in_ok-leaf.ensures.placed in
    let two_put = puts_more b b1 b2 (leaf ∷ []) moved c.as_slice-2.result.now one_put c.in-Ok.ensures.fresh c.in-Ok.ensures.placed in
    let three_put = puts_more b b2 b3 (moved ∷ leaf ∷ []) new c.as_slice-3.result.now two_put c.in-Ok-put_block.ensures.fresh c.in-Ok-put_block.ensures.placed in
    live_still b b3 c.args.at (new ∷ moved ∷ leaf ∷ []) three_put (tree_live _ _ b c.args.at c.requires.tree)

pub give_back-requires-in-Err-put_block : goal.give_back-requires-in-Err-put_block
give_back-requires-in-Err-put_block g c =
    let b1 = g.B.BlockStore.blocks c.put_block.new.store in
    let b2 = g.B.BlockStore.blocks c.put_block-2.new.store in
    let moved = c.in-Ok.moved in
    subst (λ o. IsSome o) (sym (ap (λ n. n moved) c.in-Err-put_block.ensures.err_blocks)) (put_live b1 b2 moved c.as_slice-2.result.now c.in-Ok.ensures.placed)

pub give_back-requires-in-Err-put_block-2 : goal.give_back-requires-in-Err-put_block-2
give_back-requires-in-Err-put_block-2 g c =
    let b = g.B.BlockStore.blocks c.args.store.now in
    let b1 = g.B.BlockStore.blocks c.put_block.new.store in
    let b2 = g.B.BlockStore.blocks c.put_block-2.new.store in
    let b3 = g.B.BlockStore.blocks c.give_back-in-Err-put_block.new.self in
    first_live b b1 b2 b3 c.in_ok-leaf.leaf c.in-Ok.moved c.as_slice.result.now c.as_slice-2.result.now c.in_ok-leaf.ensures.placed c.in-Ok.ensures.fresh c.in-Ok.ensures.placed
    (rw c.in-Err-put_block.ensures.err_blocks at c.give_back-in-Err-put_block.ensures.ended)

pub returns-in-Err-clause-err : goal.returns-in-Err-clause-err
returns-in-Err-clause-err g c =
    let b = g.B.BlockStore.blocks c.args.store.now in
    let b1 = g.B.BlockStore.blocks c.put_block.new.store in
    let b2 = g.B.BlockStore.blocks c.put_block-2.new.store in
    undone_one b b1 b2 (g.B.BlockStore.blocks c.give_back.new.self) c.in_ok-leaf.leaf c.as_slice.result.now c.in_ok-leaf.ensures.fresh c.in_ok-leaf.ensures.placed
    c.in-Err.ensures.err_blocks c.give_back.ensures.ended
