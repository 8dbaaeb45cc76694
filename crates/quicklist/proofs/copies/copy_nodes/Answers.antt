use Rattle.std.proofs.Common.{◌≡◌, ◌≤◌, ◌+◌, [], List, length, map, take, sym, subst, arith, rules}
use Rattle.std.proofs.lemmas.List.{take_all}
use Rattle.blocks.specs.Blocks.{Blocks, Changes, times, live, no_step}
use Rattle.blocks.proofs.Change.{changes_owned}
use Rattle.blocks.proofs.Serve.{served_then}
use Rattle.quicklist.specs.declared.node.Node.{Node}
use Rattle.quicklist.specs.Nodes.{Placed, refs_of}
use Rattle.quicklist.proofs.Chains.{none_placed}
use Rattle.quicklist.proofs.Moving.{piece_for, one_copied, copied_is, still_live, uncopied}
use Rattle.quicklist.proofs.Rests.{copied_count}
use Rattle.quicklist.proofs.copies.copy_nodes.Goals as goal

pub returns-in_err-copy-clause-served : goal.returns-in_err-copy-clause-served
returns-in_err-copy-clause-served g c = no_step

pub loop-k-init : goal.loop-k-init
loop-k-init g c =
    let h = c.in_ok-copy.ensures in
    let m = g.B.BlockStore.blocks c.args.store.now in
    let n : c.len.result ≡ length c.args.nodes.now.items = search rules in
    record {
      placed = subst (λ (xs : List Node). Placed m m [] xs) (sym h.items) (none_placed m);
      room = omega (arith, h.capacity, n);
      served = no_step;
    }

pub copy_node-requires : goal.copy_node-requires
copy_node-requires g c =
    let m = g.B.BlockStore.blocks c.args.store.now in
    let n : c.len-k-end.result ≡ length c.args.nodes.now.items = search rules in
    still_live m (g.B.BlockStore.blocks c.loop-k.store) c.args.nodes.now.items c.loop-k.copy.items _ c.loop-k.k c.index.result.now c.requires (omega (arith, n)) c.index.ensures
    c.loop-k.invariant.placed

pub loop-k-preserved : goal.loop-k-preserved
loop-k-preserved g c =
    let m = g.B.BlockStore.blocks c.args.store.now in
    let n = g.B.BlockStore.blocks c.copy_node.new.store in
    let len : c.len-k-end.result ≡ length c.args.nodes.now.items = search rules in
    let inv = c.loop-k.invariant in
    let h = c.in-Ok.ensures in
    let next = one_copied m (g.B.BlockStore.blocks c.loop-k.store) n c.args.nodes.now.items c.loop-k.copy.items c.loop-k.k c.index.result.now c.in-Ok.node c.requires (omega (arith, len))
    c.index.ensures
    inv.placed h.placed h.count h.container in
    record {
      placed = subst (λ (xs : List Node). Placed m n (map (piece_for m) (take (c.loop-k.k + 1) c.args.nodes.now.items)) xs) (sym c.push_back_reserved.ensures.items) next;
      room = omega (arith, inv.room, c.push_back_reserved.ensures.capacity);
      served = served_then _ _ _ inv.served h.served;
    }

pub returns-clause-copied : goal.returns-clause-copied
returns-clause-copied g c =
    let m = g.B.BlockStore.blocks c.args.store.now in
    let n = g.B.BlockStore.blocks c.loop-k.store in
    let nodes = c.args.nodes.now.items in
    let len : c.len-k-end.result ≡ length nodes = search rules in
    let all : take c.loop-k.k nodes ≡ nodes = take_all c.loop-k.k nodes (omega (arith, len)) in
    copied_is m n nodes c.loop-k.copy.items (subst (λ (xs : List Node). Placed m n (map (piece_for m) xs) c.loop-k.copy.items) all c.loop-k.invariant.placed)

pub returns-in-Err-clause-served : goal.returns-in-Err-clause-served
returns-in-Err-clause-served g c = served_then _ _ _ (served_then _ _ _ c.loop-k.invariant.served c.in-Err.ensures.served) c.end_nodes.ensures.served

pub returns-in-Err-clause-err_blocks : goal.returns-in-Err-clause-err_blocks
returns-in-Err-clause-err_blocks g c =
    let m = g.B.BlockStore.blocks c.args.store.now in
    let n = g.B.BlockStore.blocks c.end_nodes.new.store in
    let copy = c.loop-k.copy.items in
    let len : c.len-k-end.result ≡ length c.args.nodes.now.items = search rules in
    let ended = subst (λ (b : Blocks). Changes b n (refs_of (take c.loop-k.k copy)) []) c.in-Err.ensures.err_blocks c.end_nodes.ensures.changes in
    uncopied m (g.B.BlockStore.blocks c.loop-k.store) n c.args.nodes.now.items copy c.loop-k.k (omega (arith, len)) c.loop-k.invariant.placed ended

pub end_nodes-requires-clause-inside : goal.end_nodes-requires-clause-inside
end_nodes-requires-clause-inside g c =
    let n : c.len-k-end.result ≡ length c.args.nodes.now.items = search rules in
    omega (
      arith,
      copied_count (g.B.BlockStore.blocks c.args.store.now) (g.B.BlockStore.blocks c.loop-k.store) c.args.nodes.now.items c.loop-k.copy.items c.loop-k.k (omega (arith, n)) c.loop-k.invariant.placed,
    )

pub end_nodes-requires-clause-owned : goal.end_nodes-requires-clause-owned
end_nodes-requires-clause-owned g c =
    let own = changes_owned (g.B.BlockStore.blocks c.args.store.now) (g.B.BlockStore.blocks c.loop-k.store) [] (refs_of c.loop-k.copy.items) c.loop-k.invariant.placed.changes in
    λ r. subst (λ b. times r (refs_of c.loop-k.copy.items) ≤ live b r) (sym c.in-Err.ensures.err_blocks) (own r)

pub returns-clause-served : goal.returns-clause-served
returns-clause-served g c = c.loop-k.invariant.served
