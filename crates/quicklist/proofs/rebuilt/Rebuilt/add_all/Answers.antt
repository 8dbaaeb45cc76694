use Rattle.std.proofs.Common.{◌≡◌, ◌<◌, List, length, take, subst, refl, arith, rules}
use Rattle.std.proofs.lemmas.List.{take_all}
use Rattle.blocks.specs.Blocks.{no_step}
use Rattle.blocks.proofs.Serve.{served_then}
use Rattle.quicklist.specs.declared.node.Node.{Node}
use Rattle.quicklist.specs.Nodes.{elements_of}
use Rattle.quicklist.specs.Equal.{IsRebuilt, cleared}
use Rattle.quicklist.proofs.Rebuilding.{none_rebuilt, kept_of, node_there, held_there, count_there, start_next, start_small, rebuilt_next, room_open, room_more}
use Rattle.quicklist.proofs.rebuilt.Rebuilt.add_all.Goals as goal

pub loop-k-init : goal.loop-k-init
loop-k-init g c = record {
  rebuilt = none_rebuilt (g.B.BlockStore.blocks c.args.store.now) c.args.self.now c.requires.none c.requires.none_placed c.requires.none_replaced;
  room = c.requires.room;
  start = refl;
  served = no_step;
}

pub bytes-bytes-requires : goal.bytes-bytes-requires
bytes-bytes-requires g c =
    let n : c.len-k-end.result ≡ length c.args.nodes.now.items = search rules in
    node_there (g.B.BlockStore.blocks c.args.store.now) (g.B.BlockStore.blocks c.loop-k.store) c.args.nodes.now.items c.loop-k.self.placed.items c.loop-k.k c.index-node.result.now
    c.requires.chain (omega (arith, n)) c.index-node.ensures c.loop-k.invariant.rebuilt.changes

pub left_of-requires-clause-held : goal.left_of-requires-clause-held
left_of-requires-clause-held g c =
    let n : c.len-k-end.result ≡ length c.args.nodes.now.items = search rules in
    held_there (g.B.BlockStore.blocks c.args.store.now) (g.B.BlockStore.blocks c.loop-k.store) c.args.nodes.now.items c.loop-k.self.placed.items c.loop-k.k c.index-node.result.now
    c.bytes-bytes.result.now
    c.requires.chain (omega (arith, n)) c.index-node.ensures c.loop-k.invariant.rebuilt.changes c.bytes-bytes.ensures

pub left_of-requires-clause-counted : goal.left_of-requires-clause-counted
left_of-requires-clause-counted g c =
    let n : c.len-k-end.result ≡ length c.args.nodes.now.items = search rules in
    count_there (g.B.BlockStore.blocks c.args.store.now) (g.B.BlockStore.blocks c.loop-k.store) c.args.nodes.now.items c.loop-k.self.placed.items c.loop-k.k c.index-node.result.now
    c.bytes-bytes.result.now
    c.requires.chain (omega (arith, n)) c.index-node.ensures c.loop-k.invariant.rebuilt.changes c.bytes-bytes.ensures

pub left_of-requires-clause-small : goal.left_of-requires-clause-small
left_of-requires-clause-small g c =
    let n : c.len-k-end.result ≡ length c.args.nodes.now.items = search rules in
    let most = start_small (g.B.BlockStore.blocks c.args.store.now) (g.B.BlockStore.blocks c.loop-k.store) c.args.nodes.now.items c.loop-k.self.placed.items c.loop-k.k
    c.index-node.result.now c.bytes-bytes.result.now
    c.requires.chain (omega (arith, n)) c.index-node.ensures c.loop-k.invariant.rebuilt.changes c.bytes-bytes.ensures c.loop-k.start c.loop-k.invariant.start in
    omega (arith, most, c.requires.small)

pub add-requires-clause-room : goal.add-requires-clause-room
add-requires-clause-room g c =
    let n : c.len-k-end.result ≡ length c.args.nodes.now.items = search rules in
    room_open c.loop-k.self c.loop-k.k (length c.args.nodes.now.items) c.loop-k.invariant.room (omega (arith, n))

pub add-requires-clause-left : goal.add-requires-clause-left
add-requires-clause-left g c = kept_of _ _ c.in_ok-left.left c.in_ok-left.ensures

pub returns-in_err-add-clause-served : goal.returns-in_err-add-clause-served
returns-in_err-add-clause-served g c = served_then _ _ _ c.loop-k.invariant.served c.in_err-add.ensures.served

pub overflow_add-start : goal.overflow_add-start
overflow_add-start g c =
    let n : c.len-k-end.result ≡ length c.args.nodes.now.items = search rules in
    let most = start_small (g.B.BlockStore.blocks c.args.store.now) (g.B.BlockStore.blocks c.loop-k.store) c.args.nodes.now.items c.loop-k.self.placed.items c.loop-k.k
    c.index-node.result.now c.bytes-bytes.result.now
    c.requires.chain (omega (arith, n)) c.index-node.ensures c.loop-k.invariant.rebuilt.changes c.bytes-bytes.ensures c.loop-k.start c.loop-k.invariant.start in
    omega (arith, most, c.requires.small)

pub loop-k-preserved : goal.loop-k-preserved
loop-k-preserved g c =
    let m = g.B.BlockStore.blocks c.args.store.now in
    let mid = g.B.BlockStore.blocks c.loop-k.store in
    let n = g.B.BlockStore.blocks c.add.new.store in
    let nodes = c.args.nodes.now.items in
    let placed = c.loop-k.self.placed.items in
    let k = c.loop-k.k in
    let node = c.index-node.result.now in
    let bytes = c.bytes-bytes.result.now in
    let inv = c.loop-k.invariant in
    let long : c.len-k-end.result ≡ length nodes = search rules in
    let inside : k < length nodes = omega (arith, long, c.loop-k-test.true) in
    record {
      rebuilt = rebuilt_next m mid nodes placed k node bytes c.requires.chain inside c.index-node.ensures inv.rebuilt.changes c.bytes-bytes.ensures n c.args.reach c.loop-k.start
          c.in_ok-left.left c.loop-k.self c.add.new.self
          inv.start inv.rebuilt c.in_ok-left.ensures c.in_ok-add.ensures.added;
      room = room_more mid n node c.in_ok-left.left c.loop-k.self c.add.new.self k (length nodes) inv.room c.in_ok-add.ensures.added;
      start = start_next m mid nodes placed k node bytes c.requires.chain inside c.index-node.ensures inv.rebuilt.changes c.bytes-bytes.ensures c.loop-k.start inv.start;
      served = served_then _ _ _ inv.served c.in_ok-add.ensures.served;
    }

pub returns-clause-rebuilt : goal.returns-clause-rebuilt
returns-clause-rebuilt g c =
    let m = g.B.BlockStore.blocks c.args.store.now in
    let nodes = c.args.nodes.now.items in
    let long : c.len-k-end.result ≡ length nodes = search rules in
    let all : take c.loop-k.k nodes ≡ nodes = take_all c.loop-k.k nodes (omega (arith, long, c.loop-k-test.false)) in
    subst (λ (ns : List Node). IsRebuilt m (g.B.BlockStore.blocks c.loop-k.store) ns (cleared c.args.reach 0 (elements_of m ns)) c.loop-k.self) all c.loop-k.invariant.rebuilt
