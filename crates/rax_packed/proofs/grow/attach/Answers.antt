use Rattle.std.proofs.Common.{◌∙◌, ap, sym, arith, IsSome, subst, [], ◌∷◌, ◌-◌, length, drop, get_or}
use Rattle.std.proofs.lemmas.List.{take_rest}
use Rattle.blocks.proofs.Serve.{served_next, served_then}
use Rattle.std.specs.List.{insert}
use Rattle.rax_packed.specs.Nodes.{Leaf, Inner, node_of, spelled}
use Rattle.rax_packed.specs.Ways.{links_in, prefix_in}
use Rattle.rax_packed.proofs.Looks.{tree_live}
use Rattle.rax_packed.proofs.Growths.{puts_none, puts_more, swaps, put_live, live_still, undone_one, attach_ready, attach_done}
use Rattle.rax_packed.proofs.Tallies.{many}
use Rattle.rax_packed.specs.Trees.{refs_at}
use Rattle.rax_packed.proofs.Exactly.{exact_same, exact_put, exact_drop}
use Rattle.rax_packed.proofs.grow.attach.Goals as goal

pub bytes-requires : goal.bytes-requires
bytes-requires g c =
    let b = g.B.BlockStore.blocks c.args.store.now in
    let b1 = g.B.BlockStore.blocks c.put_block.new.store in
    let puts = puts_more b b b1 [] c.in_ok-leaf.leaf c.as_slice.result.now (puts_none b) c.in_ok-leaf.ensures.fresh c.in_ok-leaf.ensures.placed in
    let was = tree_live _ _ b c.args.at c.requires.tree in
    subst (λ o. IsSome o) (sym (puts.kept c.args.at was)) was

pub widened-wider-requires : goal.widened-wider-requires
widened-wider-requires g c =
    let b = g.B.BlockStore.blocks c.args.store.now in
    let b1 = g.B.BlockStore.blocks c.put_block.new.store in
    let puts = puts_more b b b1 [] c.in_ok-leaf.leaf c.as_slice.result.now (puts_none b) c.in_ok-leaf.ensures.fresh c.in_ok-leaf.ensures.placed in
    let ready = attach_ready b b1 c.args.at c.in_ok-leaf.leaf c.args.rest.now c.args.place c.args.from c.requires.tree c.requires.short c.requires.lacks puts c.bytes.result.now
    c.bytes.ensures (λ i. omega (arith, c.type_inv.rest i)) in
    record { inner = ready.0; place = ready.1; room = ready.2 }

pub returns-in-Ok-clause-added : goal.returns-in-Ok-clause-added
returns-in-Ok-clause-added g c =
    let b = g.B.BlockStore.blocks c.args.store.now in
    let b1 = g.B.BlockStore.blocks c.put_block.new.store in
    let b2 = g.B.BlockStore.blocks c.put_block-2.new.store in
    let later = g.B.BlockStore.blocks c.give_back.new.self in
    attach_done b b1 b2 later c.args.at c.in_ok-leaf.leaf c.in-Ok.new c.args.rest.now c.args.place c.args.from c.args.value c.requires.tree c.requires.owned c.requires.lacks
    c.in_ok-leaf.ensures.fresh c.as_slice.result.now c.in_ok-leaf.ensures.placed
    (c.as_slice.ensures.value ∙ c.leaf_bytes.ensures.bytes ∙ ap (λ k. spelled (Leaf k c.args.value)) (take_rest c.args.rest.now c.args.from))
    c.bytes.result.now c.bytes.ensures c.as_slice-2.result.now (c.as_slice-2.ensures.value ∙ c.widened-wider.ensures.bytes)
    c.in-Ok.ensures.fresh c.in-Ok.ensures.placed c.give_back.ensures.ended (λ i. omega (arith, c.type_inv.rest i)) c.widened-wider.ensures.fits c.leaf_bytes.ensures.fits

pub returns-in-Ok-clause-served : goal.returns-in-Ok-clause-served
returns-in-Ok-clause-served g c = served_next _ _ _ (served_then _ _ _ c.in_ok-leaf.ensures.served c.in-Ok.ensures.served) c.give_back.ensures.step

pub returns-in-Err-clause-served : goal.returns-in-Err-clause-served
returns-in-Err-clause-served g c = served_next _ _ _ (served_then _ _ _ c.in_ok-leaf.ensures.served c.in-Err.ensures.served) c.give_back-in-Err.ensures.step

pub returns-in-Ok-clause-more : goal.returns-in-Ok-clause-more
returns-in-Ok-clause-more g c =
    let b = g.B.BlockStore.blocks c.args.store.now in
    let b1 = g.B.BlockStore.blocks c.put_block.new.store in
    let b2 = g.B.BlockStore.blocks c.put_block-2.new.store in
    let later = g.B.BlockStore.blocks c.give_back.new.self in
    let leaf = c.in_ok-leaf.leaf in
    let new = c.in-Ok.new in
    let was = tree_live _ _ b c.args.at c.requires.tree in
    let one_put = puts_more b b b1 [] leaf c.as_slice.result.now (puts_none b) c.in_ok-leaf.ensures.fresh c.in_ok-leaf.ensures.placed in
    let two_put = puts_more b b1 b2 (leaf ∷ []) new c.as_slice-2.result.now one_put c.in-Ok.ensures.fresh c.in-Ok.ensures.placed in
    let changed = swaps b b2 later c.args.at (new ∷ leaf ∷ []) two_put was c.give_back.ensures.ended in
    let done = attach_done b b1 b2 later c.args.at leaf new c.args.rest.now c.args.place c.args.from c.args.value c.requires.tree c.requires.owned c.requires.lacks
    c.in_ok-leaf.ensures.fresh c.as_slice.result.now c.in_ok-leaf.ensures.placed
    (c.as_slice.ensures.value ∙ c.leaf_bytes.ensures.bytes ∙ ap (λ k. spelled (Leaf k c.args.value)) (take_rest c.args.rest.now c.args.from))
    c.bytes.result.now c.bytes.ensures c.as_slice-2.result.now (c.as_slice-2.ensures.value ∙ c.widened-wider.ensures.bytes)
    c.in-Ok.ensures.fresh c.in-Ok.ensures.placed c.give_back.ensures.ended (λ i. omega (arith, c.type_inv.rest i)) c.widened-wider.ensures.fits c.leaf_bytes.ensures.fits in
    let sum = many b later (refs_at (length c.args.rest.now) b c.args.at) (refs_at (length c.args.rest.now) later new) (c.args.at ∷ []) (new ∷ leaf ∷ []) c.requires.owned done.changes
    (λ r. (changed.counts (c.args.at ∷ []) (new ∷ leaf ∷ []) (λ q. omega arith)).balance r) in
    omega (arith, sum)

pub returns-in-Ok-clause-exact : goal.returns-in-Ok-clause-exact
returns-in-Ok-clause-exact g c =
    let b = g.B.BlockStore.blocks c.args.store.now in
    let b1 = g.B.BlockStore.blocks c.put_block.new.store in
    let b2 = g.B.BlockStore.blocks c.put_block-2.new.store in
    let one = exact_put b b b1 c.in_ok-leaf.leaf c.as_slice.result.now (Leaf (drop c.args.from c.args.rest.now) c.args.value) (exact_same b) c.in_ok-leaf.ensures.placed
    (c.as_slice.ensures.value ∙ c.leaf_bytes.ensures.bytes ∙ ap (λ k. spelled (Leaf k c.args.value)) (take_rest c.args.rest.now c.args.from)) in
    let seen = node_of c.bytes.result.now in
    let two = exact_put b b1 b2 c.in-Ok.new c.as_slice-2.result.now
    (Inner (prefix_in seen) (insert (links_in seen) c.args.place (record { edge = get_or c.args.rest.now (c.args.from - 1) 0; to = c.in_ok-leaf.leaf }))) one c.in-Ok.ensures.placed
    (c.as_slice-2.ensures.value ∙ c.widened-wider.ensures.bytes) in
    exact_drop b b2 (g.B.BlockStore.blocks c.give_back.new.self) c.args.at two c.give_back.ensures.ended

pub give_back-requires : goal.give_back-requires
give_back-requires g c =
    let b = g.B.BlockStore.blocks c.args.store.now in
    let b1 = g.B.BlockStore.blocks c.put_block.new.store in
    let b2 = g.B.BlockStore.blocks c.put_block-2.new.store in
    let leaf = c.in_ok-leaf.leaf in
    let new = c.in-Ok.new in
    let one_put = puts_more b b b1 [] leaf c.as_slice.result.now (puts_none b) c.in_ok-leaf.ensures.fresh c.in_ok-leaf.ensures.placed in
    let two_put = puts_more b b1 b2 (leaf ∷ []) new c.as_slice-2.result.now one_put c.in-Ok.ensures.fresh c.in-Ok.ensures.placed in
    live_still b b2 c.args.at (new ∷ leaf ∷ []) two_put (tree_live _ _ b c.args.at c.requires.tree)

pub give_back-requires-in-Err : goal.give_back-requires-in-Err
give_back-requires-in-Err g c =
    let b = g.B.BlockStore.blocks c.args.store.now in
    let b1 = g.B.BlockStore.blocks c.put_block.new.store in
    let leaf = c.in_ok-leaf.leaf in
    subst (λ o. IsSome o) (sym (ap (λ n. n leaf) c.in-Err.ensures.err_blocks)) (put_live b b1 leaf c.as_slice.result.now c.in_ok-leaf.ensures.placed)

pub returns-in-Err-clause-err : goal.returns-in-Err-clause-err
returns-in-Err-clause-err g c =
    let b = g.B.BlockStore.blocks c.args.store.now in
    let b1 = g.B.BlockStore.blocks c.put_block.new.store in
    let b2 = g.B.BlockStore.blocks c.put_block-2.new.store in
    undone_one b b1 b2 (g.B.BlockStore.blocks c.give_back-in-Err.new.self) c.in_ok-leaf.leaf c.as_slice.result.now c.in_ok-leaf.ensures.fresh c.in_ok-leaf.ensures.placed
    c.in-Err.ensures.err_blocks c.give_back-in-Err.ensures.ended
