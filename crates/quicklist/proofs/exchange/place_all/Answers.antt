use Rattle.std.proofs.Common.{◌≡◌, ◌+◌, ◌++◌, ◌∷◌, ◌<◌, ◌≤◌, [], ℕ, List, length, take, drop, get_or, ap, sym, subst, arith, rules, length-append, length-drop, deque_len}
use Rattle.std.proofs.lemmas.List.{length-take-le, take-append-drop, take_more, take_all}
use Rattle.blocks.specs.Blocks.{Blocks, no_step, times, live, Changes}
use Rattle.blocks.proofs.Serve.{served_then}
use Rattle.quicklist.specs.declared.node.Container.TheVariants.{Plain}
use Rattle.quicklist.specs.declared.node.Node.{Node}
use Rattle.quicklist.specs.declared.piece.Piece.{Piece}
use Rattle.quicklist.specs.Nodes.{Inserted, Placed, refs_of}
use Rattle.quicklist.proofs.Chains.{none_placed, one_placed, inserted_behind, unplaced, nodes_unplaced, placed_owned, length-placed}
use Rattle.quicklist.proofs.exchange.place_all.Goals as goal

pub loop-i-init : goal.loop-i-init
loop-i-init g c = record {
  inserted = ([], none_placed (g.B.BlockStore.blocks c.args.store.now), sym (take-append-drop c.args.k c.args.nodes.now.items));
  room = omega (arith, c.requires.room);
  served = no_step;
}

-- how many nodes there are
grown : (old now fresh : List Node) (k : ℕ) → k ≤ length old → now ≡ take k old ++ (fresh ++ drop k old) → length now ≡ length old + length fresh
grown old now fresh k h is = omega (arith, ap length is, length-append (take k old) (fresh ++ drop k old), length-append fresh (drop k old), length-take-le k old h, length-drop k old)

placed_so_far : (pieces : List Piece) (i : ℕ) → i ≤ length pieces → length (take i pieces) ≡ i
placed_so_far pieces i h = length-take-le i pieces h

-- the place behind those that were placed
behind : {m mid : Blocks} (old now : List Node) (pieces : List Piece) (k i : ℕ) → k ≤ length old → i ≤ length pieces → Inserted m mid old now k (take i pieces) → length now ≡ length old + i
behind {m = m} {mid = mid} old now pieces k i h most ins =
    omega (arith, grown old now ins.0 k h ins.2, length-placed m mid (take i pieces) ins.0 ins.1, length-take-le i pieces most)

pub insert_node-requires-clause-index : goal.insert_node-requires-clause-index
insert_node-requires-clause-index g c =
    omega (arith, behind c.args.nodes.now.items c.loop-i.nodes.items c.args.pieces.now c.args.k c.loop-i.i c.requires.index (omega arith) c.loop-i.invariant.inserted, c.requires.index)

pub insert_node-requires-clause-room : goal.insert_node-requires-clause-room
insert_node-requires-clause-room g c = omega (arith, c.loop-i.invariant.room)

pub end_nodes-requires-clause-inside : goal.end_nodes-requires-clause-inside
end_nodes-requires-clause-inside g c =
    omega (arith, behind c.args.nodes.now.items c.loop-i.nodes.items c.args.pieces.now c.args.k c.loop-i.i c.requires.index (omega arith) c.loop-i.invariant.inserted, c.requires.index)

pub end_nodes-requires-clause-owned : goal.end_nodes-requires-clause-owned
end_nodes-requires-clause-owned g c =
    let ins = c.loop-i.invariant.inserted in
    let own = placed_owned (g.B.BlockStore.blocks c.args.store.now) (g.B.BlockStore.blocks c.loop-i.store) c.args.nodes.now.items c.loop-i.nodes.items ins.0
    (take c.loop-i.i c.args.pieces.now) c.args.k c.requires.chain.owned ins.1 ins.2 in
    λ r. subst (λ m. times r (refs_of c.loop-i.nodes.items) ≤ live m r) (sym c.in-Err.ensures.err_blocks) (own r)

-- what stands behind the last piece
blank : Piece
blank = record { container = Plain; count = 0; bytes = record { ref_ptr = (0, 0); now = [] } }

pub loop-i-preserved : goal.loop-i-preserved
unfolding blank
loop-i-preserved g c =
    let m = g.B.BlockStore.blocks c.args.store.now in
    let mid = g.B.BlockStore.blocks c.loop-i.store in
    let n = g.B.BlockStore.blocks c.place_piece.new.store in
    let old = c.args.nodes.now.items in
    let pieces = c.args.pieces.now in
    let i = c.loop-i.i in
    let ins = c.loop-i.invariant.inserted in
    let h = c.in-Ok.ensures in
    let inside : i < length pieces = omega arith in
    let more = take_more pieces i blank inside in
    let long : length ins.0 ≡ i = omega (arith, length-placed m mid (take i pieces) ins.0 ins.1, length-take-le i pieces (omega arith)) in
    let placed = one_placed m mid n (take i pieces) (get_or pieces i blank) ins.0 c.in-Ok.node ins.1 (c.requires.pieces i blank inside) h.placed h.count h.container in
    let now = inserted_behind old c.loop-i.nodes.items c.insert_node.new.nodes.items ins.0 c.in-Ok.node c.args.k i c.requires.index long ins.2 c.insert_node.ensures.items in
    let was = behind old c.loop-i.nodes.items pieces c.args.k i c.requires.index (omega arith) ins in
    let len : deque_len c.insert_node.new.nodes ≡ length c.insert_node.new.nodes.items = search rules in
    let len_before : deque_len c.loop-i.nodes ≡ length c.loop-i.nodes.items = search rules in
    record {
      inserted = (ins.0 ++ c.in-Ok.node ∷ [], subst (λ ps. Placed m n ps (ins.0 ++ c.in-Ok.node ∷ [])) (sym more) placed, now);
      room = omega (
        arith,
        c.loop-i.invariant.room,
        c.insert_node.ensures.capacity,
        len,
        len_before,
        was,
        grown old c.insert_node.new.nodes.items (ins.0 ++ c.in-Ok.node ∷ []) c.args.k
            c.requires.index now,
        length-append ins.0 (c.in-Ok.node ∷ []),
        long,
      );
      served = served_then _ _ _ c.loop-i.invariant.served h.served;
    }

pub returns-clause-ok : goal.returns-clause-ok
returns-clause-ok g c =
    let pieces = c.args.pieces.now in
    let all : take c.loop-i.i pieces ≡ pieces = take_all c.loop-i.i pieces (omega arith) in
    let ins = c.loop-i.invariant.inserted in
    (ins.0, subst (λ ps. Placed (g.B.BlockStore.blocks c.args.store.now) (g.B.BlockStore.blocks c.loop-i.store) ps ins.0) all ins.1, ins.2)

pub returns-in-Err-clause-served : goal.returns-in-Err-clause-served
returns-in-Err-clause-served g c = served_then _ _ _ (served_then _ _ _ c.loop-i.invariant.served c.in-Err.ensures.served) c.end_nodes.ensures.served

pub returns-in-Err-clause-err_nodes : goal.returns-in-Err-clause-err_nodes
returns-in-Err-clause-err_nodes g c =
    let ins = c.loop-i.invariant.inserted in
    let pieces = c.args.pieces.now in
    let m = g.B.BlockStore.blocks c.args.store.now in
    let long : length ins.0 ≡ c.loop-i.i = omega (arith, length-placed m (g.B.BlockStore.blocks c.loop-i.store) (take c.loop-i.i pieces) ins.0 ins.1, length-take-le c.loop-i.i pieces (omega arith)) in
    nodes_unplaced c.args.nodes.now.items c.loop-i.nodes.items c.end_nodes.new.nodes.items ins.0 c.args.k c.loop-i.i c.requires.index long ins.2 c.end_nodes.ensures.items

pub returns-in-Err-clause-err_blocks : goal.returns-in-Err-clause-err_blocks
returns-in-Err-clause-err_blocks g c =
    let ins = c.loop-i.invariant.inserted in
    let pieces = c.args.pieces.now in
    let m = g.B.BlockStore.blocks c.args.store.now in
    let mid = g.B.BlockStore.blocks c.loop-i.store in
    let n = g.B.BlockStore.blocks c.end_nodes.new.store in
    let long : length ins.0 ≡ c.loop-i.i = omega (arith, length-placed m mid (take c.loop-i.i pieces) ins.0 ins.1, length-take-le c.loop-i.i pieces (omega arith)) in
    let ended = subst (λ (b : Blocks). Changes b n (refs_of (take c.loop-i.i (drop c.args.k c.loop-i.nodes.items))) []) c.in-Err.ensures.err_blocks c.end_nodes.ensures.changes in
    unplaced m mid n c.args.nodes.now.items c.loop-i.nodes.items (take c.loop-i.i pieces) ins.0 c.args.k c.loop-i.i c.requires.index long ins.1 ins.2 ended
