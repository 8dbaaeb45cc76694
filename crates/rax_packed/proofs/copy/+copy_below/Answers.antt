use Rattle.std.proofs.Common.{◌≡◌, ◌∙◌, suc, ◌+◌, ◌-◌, [], ◌∷◌, length, take, sym, ap, subst, arith, unwrap_or}
use Rattle.blocks.specs.Blocks.{Blocks, Changes, no_step}
use Rattle.blocks.proofs.Serve.{served_then}
use Rattle.rax_packed.specs.Nodes.{Link, IsNode, Fits, node_of}
use Rattle.rax_packed.specs.Trees.{node_at}
use Rattle.rax_packed.specs.Ways.{links_in, prefix_in}
use Rattle.rax_packed.specs.Copies.{IsCopy}
use Rattle.rax_packed.proofs.Frames.{refs_below}
use Rattle.rax_packed.proofs.Looks.{tree_live, tree_node, node_read}
use Rattle.rax_packed.proofs.Copyings.{Copying, Ready, copying_none, base_is, copied_all, turn_falls, turn_inner, turn_to, turn_tree, turn_own, turn_ready, turn_undone, turn_link, turn_more}
use Rattle.rax_packed.proofs.copy.+copy_below.Goals as goal

pub bytes-requires : goal.bytes-requires
bytes-requires g t c = tree_live _ _ _ _ c.requires.tree

pub spread-count-requires-clause-node : goal.spread-count-requires-clause-node
spread-count-requires-clause-node g t c = tree_node _ _ _ _ c.bytes.result.now c.requires.tree c.bytes.ensures

pub copy_node-requires-clause-node : goal.copy_node-requires-clause-node
copy_node-requires-clause-node g t c =
    let b = g.B.BlockStore.blocks c.args.store.now in
    (c.args.rest, subst (IsNode c.args.rest) (sym (ap (λ o. unwrap_or o []) c.bytes.ensures)) (tree_node _ _ b c.args.at c.bytes.result.now c.requires.tree c.bytes.ensures), c.requires.short)

pub loop-place-init : goal.loop-place-init
loop-place-init g t c =
    let b = g.B.BlockStore.blocks c.args.store.now in
    let m = g.B.BlockStore.blocks c.copy_node.new.store in
    let new = c.in_ok-new.new in
    let node : node_at b c.args.at ≡ node_of c.bytes.result.now = node_read b c.args.at c.bytes.result.now c.bytes.ensures in
    let fits : Fits c.args.rest (node_at b c.args.at) = subst (Fits c.args.rest) (sym node) (tree_node _ _ b c.args.at c.bytes.result.now c.requires.tree c.bytes.ensures).fits in
    record {
      copying = subst (λ x. Copying c.spread-count.result.1 c.args.rest (node_at x c.args.at) x m new 0) (sym (base_is b m new _ c.in_ok-new.ensures.fresh c.in_ok-new.ensures.placed))
          (copying_none c.spread-count.result.1 c.args.rest (node_at b c.args.at) b m new fits c.in_ok-new.ensures.placed c.in_ok-new.ensures.changes);
      served = no_step;
    }

no_link : Link
no_link = record { edge = 0; to = record { slab = 0; slot = 0 } }

pub child_at-to-requires-clause-inner : goal.child_at-to-requires-clause-inner
child_at-to-requires-clause-inner g t c =
    let b = g.B.BlockStore.blocks c.args.store.now in
    let m = g.B.BlockStore.blocks c.loop-place.store in
    let new = c.in_ok-new.new in
    let base = base_is b (g.B.BlockStore.blocks c.copy_node.new.store) new _ c.in_ok-new.ensures.fresh c.in_ok-new.ensures.placed in
    let copying = subst (λ x. Copying c.spread-count.result.1 c.args.rest (node_at x c.args.at) x m new c.loop-place.place) base c.loop-place.invariant.copying in
    turn_inner c.args.rest c.spread-count.result.1 c.spread-count.result.0 b m c.args.at new c.loop-place.place no_link c.bytes.result.now c.requires.tree c.requires.owned c.requires.short
    c.bytes.ensures c.spread-count.ensures.below c.spread-count.ensures.count c.loop-place-test.true copying
    c.bytes-in-loop-place.result.now c.bytes-in-loop-place.ensures

pub copy_below-requires : goal.copy_below-requires
copy_below-requires g t c κs inside =
    let b = g.B.BlockStore.blocks c.args.store.now in
    let m = g.B.BlockStore.blocks c.loop-place.store in
    let new = c.in_ok-new.new in
    let base = base_is b (g.B.BlockStore.blocks c.copy_node.new.store) new _ c.in_ok-new.ensures.fresh c.in_ok-new.ensures.placed in
    let copying = subst (λ x. Copying c.spread-count.result.1 c.args.rest (node_at x c.args.at) x m new c.loop-place.place) base c.loop-place.invariant.copying in
    let falls = turn_falls c.args.rest c.spread-count.result.1 c.spread-count.result.0 b m c.args.at new c.loop-place.place no_link c.bytes.result.now c.requires.tree c.requires.owned
    c.requires.short c.bytes.ensures c.spread-count.ensures.below c.spread-count.ensures.count c.loop-place-test.true copying in
    let tree = turn_tree c.args.rest c.spread-count.result.1 c.spread-count.result.0 b m c.args.at new c.loop-place.place no_link c.bytes.result.now c.requires.tree c.requires.owned
    c.requires.short c.bytes.ensures c.spread-count.ensures.below c.spread-count.ensures.count c.loop-place-test.true copying in
    let own = turn_own c.args.rest c.spread-count.result.1 c.spread-count.result.0 b m c.args.at new c.loop-place.place no_link c.bytes.result.now c.requires.tree c.requires.owned
    c.requires.short c.bytes.ensures c.spread-count.ensures.below c.spread-count.ensures.count c.loop-place-test.true copying in
    let to = c.child_at-to.ensures no_link ∙ turn_to c.args.rest c.spread-count.result.1 c.spread-count.result.0 b m c.args.at new c.loop-place.place no_link c.bytes.result.now
    c.requires.tree c.requires.owned c.requires.short c.bytes.ensures c.spread-count.ensures.below c.spread-count.ensures.count c.loop-place-test.true copying
    c.bytes-in-loop-place.result.now c.bytes-in-loop-place.ensures in
    (omega (arith, c.decreases, falls), (inside, (rw to tree, (rw to own, omega (arith, falls, c.requires.short)))))

pub relink-requires : goal.relink-requires
relink-requires g t c =
    let b = g.B.BlockStore.blocks c.args.store.now in
    let m = g.B.BlockStore.blocks c.loop-place.store in
    let m2 = g.B.BlockStore.blocks c.copy_below.new.store in
    let new = c.in_ok-new.new in
    let base = base_is b (g.B.BlockStore.blocks c.copy_node.new.store) new _ c.in_ok-new.ensures.fresh c.in_ok-new.ensures.placed in
    let copying = subst (λ x. Copying c.spread-count.result.1 c.args.rest (node_at x c.args.at) x m new c.loop-place.place) base c.loop-place.invariant.copying in
    let to = c.child_at-to.ensures no_link ∙ turn_to c.args.rest c.spread-count.result.1 c.spread-count.result.0 b m c.args.at new c.loop-place.place no_link c.bytes.result.now
    c.requires.tree c.requires.owned c.requires.short c.bytes.ensures c.spread-count.ensures.below c.spread-count.ensures.count c.loop-place-test.true copying
    c.bytes-in-loop-place.result.now c.bytes-in-loop-place.ensures in
    let copy = subst (λ r. IsCopy c.spread-count.result.1 m m2 r c.in-Ok.copy) to c.in-Ok.ensures.copied in
    let ready = turn_link c.args.rest c.spread-count.result.1 c.spread-count.result.0 b m c.args.at new c.loop-place.place no_link c.bytes.result.now c.requires.tree c.requires.owned
    c.requires.short c.bytes.ensures c.spread-count.ensures.below c.spread-count.ensures.count c.loop-place-test.true copying m2 c.in-Ok.copy copy in
    record { live = ready.live; inner = ready.inner; place = ready.within }

pub loop-place-preserved : goal.loop-place-preserved
loop-place-preserved g t c =
    let b = g.B.BlockStore.blocks c.args.store.now in
    let m = g.B.BlockStore.blocks c.loop-place.store in
    let m2 = g.B.BlockStore.blocks c.copy_below.new.store in
    let m3 = g.B.BlockStore.blocks c.relink.new.store in
    let new = c.in_ok-new.new in
    let base = base_is b (g.B.BlockStore.blocks c.copy_node.new.store) new _ c.in_ok-new.ensures.fresh c.in_ok-new.ensures.placed in
    let copying = subst (λ x. Copying c.spread-count.result.1 c.args.rest (node_at x c.args.at) x m new c.loop-place.place) base c.loop-place.invariant.copying in
    let to = c.child_at-to.ensures no_link ∙ turn_to c.args.rest c.spread-count.result.1 c.spread-count.result.0 b m c.args.at new c.loop-place.place no_link c.bytes.result.now
    c.requires.tree c.requires.owned c.requires.short c.bytes.ensures c.spread-count.ensures.below c.spread-count.ensures.count c.loop-place-test.true copying
    c.bytes-in-loop-place.result.now c.bytes-in-loop-place.ensures in
    let copy = subst (λ r. IsCopy c.spread-count.result.1 m m2 r c.in-Ok.copy) to c.in-Ok.ensures.copied in
    let more = turn_more c.args.rest c.spread-count.result.1 c.spread-count.result.0 b m c.args.at new c.loop-place.place no_link c.bytes.result.now c.requires.tree c.requires.owned
    c.requires.short c.bytes.ensures c.spread-count.ensures.below c.spread-count.ensures.count c.loop-place-test.true copying m2 c.in-Ok.copy copy
    m3 c.relink.ensures.fits c.relink.ensures.written in
    record {
      copying = subst (λ x. Copying c.spread-count.result.1 c.args.rest (node_at x c.args.at) x m3 new (c.loop-place.place + 1)) (sym base) more;
      served = served_then _ _ _ (served_then _ _ _ c.loop-place.invariant.served c.in-Ok.ensures.served) c.relink.ensures.served;
    }

pub release_links-requires : goal.release_links-requires
release_links-requires g t c =
    let b = g.B.BlockStore.blocks c.args.store.now in
    let m = g.B.BlockStore.blocks c.loop-place.store in
    let new = c.in_ok-new.new in
    let base = base_is b (g.B.BlockStore.blocks c.copy_node.new.store) new _ c.in_ok-new.ensures.fresh c.in_ok-new.ensures.placed in
    let copying = subst (λ x. Copying c.spread-count.result.1 c.args.rest (node_at x c.args.at) x m new c.loop-place.place) base c.loop-place.invariant.copying in
    let ready = turn_ready c.args.rest c.spread-count.result.1 c.spread-count.result.0 b m c.args.at new c.loop-place.place no_link c.bytes.result.now c.requires.tree c.requires.owned
    c.requires.short c.bytes.ensures c.spread-count.ensures.below c.spread-count.ensures.count c.loop-place-test.true copying in
    let falls = turn_falls c.args.rest c.spread-count.result.1 c.spread-count.result.0 b m c.args.at new c.loop-place.place no_link c.bytes.result.now c.requires.tree c.requires.owned
    c.requires.short c.bytes.ensures c.spread-count.ensures.below c.spread-count.ensures.count c.loop-place-test.true copying in
    let now = subst (λ (x : Blocks). Ready c.spread-count.result.1 c.loop-place.place x new) (sym c.in-Err.ensures.err) ready in
    record { live = now.live; inner = now.inner; count = (let w = now.within in omega (arith, w)); trees = now.trees; owned = now.owned; short = omega (arith, falls, c.requires.short) }

pub returns-in-Err-clause-served : goal.returns-in-Err-clause-served
returns-in-Err-clause-served g t c = served_then _ _ _ (served_then _ _ _ (served_then _ _ _ c.in_ok-new.ensures.served c.loop-place.invariant.served) c.in-Err.ensures.served)
    c.release_links.ensures.served

pub returns-in-Err-clause-err : goal.returns-in-Err-clause-err
returns-in-Err-clause-err g t c =
    let b = g.B.BlockStore.blocks c.args.store.now in
    let m = g.B.BlockStore.blocks c.loop-place.store in
    let new = c.in_ok-new.new in
    let base = base_is b (g.B.BlockStore.blocks c.copy_node.new.store) new _ c.in_ok-new.ensures.fresh c.in_ok-new.ensures.placed in
    let copying = subst (λ x. Copying c.spread-count.result.1 c.args.rest (node_at x c.args.at) x m new c.loop-place.place) base c.loop-place.invariant.copying in
    let after = g.B.BlockStore.blocks c.release_links.new.store in
    turn_undone c.args.rest c.spread-count.result.1 c.spread-count.result.0 b m c.args.at new c.loop-place.place no_link c.bytes.result.now c.requires.tree c.requires.owned
    c.requires.short c.bytes.ensures c.spread-count.ensures.below c.spread-count.ensures.count c.loop-place-test.true copying
    after
    (subst (λ (x : Blocks). Changes x after (new ∷ refs_below (suc c.spread-count.result.1) x (take c.loop-place.place (links_in (node_at x new)))) []) c.in-Err.ensures.err
    c.release_links.ensures.changes)

pub returns-clause-copied : goal.returns-clause-copied
returns-clause-copied g t c =
    let b = g.B.BlockStore.blocks c.args.store.now in
    let m = g.B.BlockStore.blocks c.loop-place.store in
    let new = c.in_ok-new.new in
    let base = base_is b (g.B.BlockStore.blocks c.copy_node.new.store) new _ c.in_ok-new.ensures.fresh c.in_ok-new.ensures.placed in
    let copying = subst (λ x. Copying c.spread-count.result.1 c.args.rest (node_at x c.args.at) x m new c.loop-place.place) base c.loop-place.invariant.copying in
    let node : node_at b c.args.at ≡ node_of c.bytes.result.now = node_read b c.args.at c.bytes.result.now c.bytes.ensures in
    let count : c.spread-count.result.0 ≡ length (links_in (node_at b c.args.at)) = c.spread-count.ensures.count ∙ ap (λ q. length (links_in q)) (sym node) in
    let below : c.spread-count.result.1 ≡ c.args.rest - suc (length (prefix_in (node_at b c.args.at))) = c.spread-count.ensures.below ∙ ap (λ q. c.args.rest - suc (length (prefix_in q))) (sym node) in
    copied_all c.spread-count.result.1 c.args.rest b m c.args.at new c.loop-place.place c.requires.tree below
    (let past = c.loop-place-test.false in let within = c.loop-place.auto.place-end in omega (arith, past, within, count)) copying

pub returns-clause-served : goal.returns-clause-served
returns-clause-served g t c = served_then _ _ _ c.in_ok-new.ensures.served c.loop-place.invariant.served
