use Rattle.std.proofs.Common.{◌≡◌, ◌+◌, ◌<◌, length, get_or, ap, ◌∙◌, sym, refl, arith, rules, deque_len}
use Rattle.quicklist.specs.Nodes.{node_at, node_list}
use Rattle.quicklist.specs.Chain.{elements}
use Rattle.quicklist.proofs.Chains.{node_read}
use Rattle.quicklist.proofs.Elements.{node_is, list_at, held_at}
use Rattle.quicklist.proofs.Cursors.{offset_at, offset_back, offset_inside, place_behind, index_inside, node_behind, node_some, place_next}
use Rattle.quicklist.proofs.quick.Quick.next.Goals as goal

pub overflow_sub-left : goal.overflow_sub-left
overflow_sub-left g c =
    let inside = index_inside (g.B.BlockStore.blocks c.args.store.now) c.args.self.now c.args.cursor.index c.args.cursor.node c.requires.cursor.among c.requires.quick c.requires.cursor.place in
    omega (arith, inside, c.len.ensures, c.requires.quick.counted)

pub overflow_add-index : goal.overflow_add-index
overflow_add-index g c =
    let inside = index_inside (g.B.BlockStore.blocks c.args.store.now) c.args.self.now c.args.cursor.index c.args.cursor.node c.requires.cursor.among c.requires.quick c.requires.cursor.place in
    record { fits = omega (arith, inside, c.len.ensures, c.len.type_inv, c.requires.quick.counted, c.if-left-eq1.false) }

pub bytes-requires : goal.bytes-requires
bytes-requires g c =
    node_read (g.B.BlockStore.blocks c.args.store.now) c.args.self.now.nodes c.args.cursor.node c.index-node.result.now c.requires.cursor.place.inside
    (c.index-node.ensures ∙ ap (λ v. get_or v.nodes c.args.cursor.node c.index-node.result.now) c.self.view_is) c.requires.quick.chain

pub index-behind-requires : goal.index-behind-requires
index-behind-requires g c =
    let m = g.B.BlockStore.blocks c.args.store.now in
    let q = c.args.self.now in
    let s = c.requires.quick in
    let cursor = c.requires.cursor in
    let k = c.args.cursor.node in
    let node = c.index-node.result.now in
    let is = node_is q.nodes k node cursor.place.inside (c.index-node.ensures ∙ ap (λ v. get_or v.nodes k node) c.self.view_is) in
    let off = offset_at m q.nodes k cursor.among c.args.cursor.at node c.bytes.result.now is c.bytes.ensures cursor.offset in
    let list = list_at m q.nodes k node c.bytes.result.now is c.bytes.ensures in
    let last : cursor.among + 1 ≡ length (node_list m (node_at q.nodes k)) = c.in-None.ensures cursor.among off ∙ ap length (sym list) in
    let len : c.len.result ≡ length (elements m q) = c.len.ensures ∙ s.counted in
    let more : c.args.cursor.index + 1 < length (elements m q) = omega (arith, len, index_inside m q c.args.cursor.index k cursor.among s cursor.place, c.if-left-eq1.false) in
    let inside : k + 1 < length q.nodes = node_behind m q c.args.cursor.index k cursor.among s cursor.place last more in
    let n : deque_len c.self.inside.nodes ≡ length c.self.inside.nodes.items = search rules in
    omega (arith, inside, n, ap (λ v. length v.nodes) c.self.view_is)

pub bytes-requires-in-None : goal.bytes-requires-in-None
bytes-requires-in-None g c =
    let m = g.B.BlockStore.blocks c.args.store.now in
    let q = c.args.self.now in
    let s = c.requires.quick in
    let cursor = c.requires.cursor in
    let k = c.args.cursor.node in
    let node = c.index-node.result.now in
    let is = node_is q.nodes k node cursor.place.inside (c.index-node.ensures ∙ ap (λ v. get_or v.nodes k node) c.self.view_is) in
    let off = offset_at m q.nodes k cursor.among c.args.cursor.at node c.bytes.result.now is c.bytes.ensures cursor.offset in
    let list = list_at m q.nodes k node c.bytes.result.now is c.bytes.ensures in
    let last : cursor.among + 1 ≡ length (node_list m (node_at q.nodes k)) = c.in-None.ensures cursor.among off ∙ ap length (sym list) in
    let len : c.len.result ≡ length (elements m q) = c.len.ensures ∙ s.counted in
    let more : c.args.cursor.index + 1 < length (elements m q) = omega (arith, len, index_inside m q c.args.cursor.index k cursor.among s cursor.place, c.if-left-eq1.false) in
    let inside : k + 1 < length q.nodes = node_behind m q c.args.cursor.index k cursor.among s cursor.place last more in
    node_read m q.nodes (k + 1) c.index-behind.result.now inside (c.index-behind.ensures ∙ ap (λ v. get_or v.nodes (k + 1) c.index-behind.result.now) c.self.view_is) s.chain

pub offset_in-requires-clause-held : goal.offset_in-requires-clause-held
offset_in-requires-clause-held g c =
    let m = g.B.BlockStore.blocks c.args.store.now in
    let q = c.args.self.now in
    let s = c.requires.quick in
    let cursor = c.requires.cursor in
    let k = c.args.cursor.node in
    let node = c.index-node.result.now in
    let is = node_is q.nodes k node cursor.place.inside (c.index-node.ensures ∙ ap (λ v. get_or v.nodes k node) c.self.view_is) in
    let off = offset_at m q.nodes k cursor.among c.args.cursor.at node c.bytes.result.now is c.bytes.ensures cursor.offset in
    let list = list_at m q.nodes k node c.bytes.result.now is c.bytes.ensures in
    let last : cursor.among + 1 ≡ length (node_list m (node_at q.nodes k)) = c.in-None.ensures cursor.among off ∙ ap length (sym list) in
    let len : c.len.result ≡ length (elements m q) = c.len.ensures ∙ s.counted in
    let more : c.args.cursor.index + 1 < length (elements m q) = omega (arith, len, index_inside m q c.args.cursor.index k cursor.among s cursor.place, c.if-left-eq1.false) in
    let inside : k + 1 < length q.nodes = node_behind m q c.args.cursor.index k cursor.among s cursor.place last more in
    let node2 = c.index-behind.result.now in
    let is2 = node_is q.nodes (k + 1) node2 inside (c.index-behind.ensures ∙ ap (λ v. get_or v.nodes (k + 1) node2) c.self.view_is) in
    held_at m q.nodes (k + 1) node2 c.bytes-in-None.result.now s.chain.each inside is2 c.bytes-in-None.ensures

pub offset_in-requires-clause-inside : goal.offset_in-requires-clause-inside
offset_in-requires-clause-inside g c =
    let m = g.B.BlockStore.blocks c.args.store.now in
    let q = c.args.self.now in
    let s = c.requires.quick in
    let cursor = c.requires.cursor in
    let k = c.args.cursor.node in
    let node = c.index-node.result.now in
    let is = node_is q.nodes k node cursor.place.inside (c.index-node.ensures ∙ ap (λ v. get_or v.nodes k node) c.self.view_is) in
    let off = offset_at m q.nodes k cursor.among c.args.cursor.at node c.bytes.result.now is c.bytes.ensures cursor.offset in
    let list = list_at m q.nodes k node c.bytes.result.now is c.bytes.ensures in
    let last : cursor.among + 1 ≡ length (node_list m (node_at q.nodes k)) = c.in-None.ensures cursor.among off ∙ ap length (sym list) in
    let len : c.len.result ≡ length (elements m q) = c.len.ensures ∙ s.counted in
    let more : c.args.cursor.index + 1 < length (elements m q) = omega (arith, len, index_inside m q c.args.cursor.index k cursor.among s cursor.place, c.if-left-eq1.false) in
    let inside : k + 1 < length q.nodes = node_behind m q c.args.cursor.index k cursor.among s cursor.place last more in
    let node2 = c.index-behind.result.now in
    let is2 = node_is q.nodes (k + 1) node2 inside (c.index-behind.ensures ∙ ap (λ v. get_or v.nodes (k + 1) node2) c.self.view_is) in
    omega (arith, node_some m q (k + 1) s inside, ap length (list_at m q.nodes (k + 1) node2 c.bytes-in-None.result.now is2 c.bytes-in-None.ensures))

pub returns-in-None : goal.returns-in-None
returns-in-None g c =
    let m = g.B.BlockStore.blocks c.args.store.now in
    let q = c.args.self.now in
    let s = c.requires.quick in
    let cursor = c.requires.cursor in
    let k = c.args.cursor.node in
    let node = c.index-node.result.now in
    let is = node_is q.nodes k node cursor.place.inside (c.index-node.ensures ∙ ap (λ v. get_or v.nodes k node) c.self.view_is) in
    let off = offset_at m q.nodes k cursor.among c.args.cursor.at node c.bytes.result.now is c.bytes.ensures cursor.offset in
    let list = list_at m q.nodes k node c.bytes.result.now is c.bytes.ensures in
    let last : cursor.among + 1 ≡ length (node_list m (node_at q.nodes k)) = c.in-None.ensures cursor.among off ∙ ap length (sym list) in
    let len : c.len.result ≡ length (elements m q) = c.len.ensures ∙ s.counted in
    let more : c.args.cursor.index + 1 < length (elements m q) = omega (arith, len, index_inside m q c.args.cursor.index k cursor.among s cursor.place, c.if-left-eq1.false) in
    let inside : k + 1 < length q.nodes = node_behind m q c.args.cursor.index k cursor.among s cursor.place last more in
    let node2 = c.index-behind.result.now in
    let is2 = node_is q.nodes (k + 1) node2 inside (c.index-behind.ensures ∙ ap (λ v. get_or v.nodes (k + 1) node2) c.self.view_is) in (
      record {
        among = 0;
        place = place_next m q c.args.cursor.index k cursor.among s cursor.place last inside;
        offset = offset_back m q.nodes (k + 1) 0 c.offset_in.result node2 c.bytes-in-None.result.now is2 c.bytes-in-None.ensures c.offset_in.ensures;
      },
      refl,
    )

pub offset_behind-requires-clause-held : goal.offset_behind-requires-clause-held
offset_behind-requires-clause-held g c =
    let m = g.B.BlockStore.blocks c.args.store.now in
    let q = c.args.self.now in
    let s = c.requires.quick in
    let cursor = c.requires.cursor in
    let k = c.args.cursor.node in
    let node = c.index-node.result.now in
    let is = node_is q.nodes k node cursor.place.inside (c.index-node.ensures ∙ ap (λ v. get_or v.nodes k node) c.self.view_is) in
    held_at m q.nodes k node c.bytes.result.now s.chain.each cursor.place.inside is c.bytes.ensures

pub offset_behind-requires-clause-at : goal.offset_behind-requires-clause-at
offset_behind-requires-clause-at g c =
    let m = g.B.BlockStore.blocks c.args.store.now in
    let q = c.args.self.now in
    let s = c.requires.quick in
    let cursor = c.requires.cursor in
    let k = c.args.cursor.node in
    let node = c.index-node.result.now in
    let is = node_is q.nodes k node cursor.place.inside (c.index-node.ensures ∙ ap (λ v. get_or v.nodes k node) c.self.view_is) in
    (cursor.among, offset_at m q.nodes k cursor.among c.args.cursor.at node c.bytes.result.now is c.bytes.ensures cursor.offset)

pub returns-in-Some : goal.returns-in-Some
returns-in-Some g c =
    let m = g.B.BlockStore.blocks c.args.store.now in
    let q = c.args.self.now in
    let s = c.requires.quick in
    let cursor = c.requires.cursor in
    let k = c.args.cursor.node in
    let node = c.index-node.result.now in
    let is = node_is q.nodes k node cursor.place.inside (c.index-node.ensures ∙ ap (λ v. get_or v.nodes k node) c.self.view_is) in
    let off = offset_at m q.nodes k cursor.among c.args.cursor.at node c.bytes.result.now is c.bytes.ensures cursor.offset in
    let there = c.in-Some.ensures cursor.among off in
    let more : cursor.among + 1 < length (node_list m (node_at q.nodes k)) =
    omega (arith, offset_inside node.container c.bytes.result.now (cursor.among + 1) c.in-Some.at there, ap length (list_at m q.nodes k node c.bytes.result.now is c.bytes.ensures)) in (
      record {
        among = cursor.among + 1;
        place = place_behind m q c.args.cursor.index k cursor.among s cursor.place more;
        offset = offset_back m q.nodes k (cursor.among + 1) c.in-Some.at node c.bytes.result.now is c.bytes.ensures there;
      },
      refl,
    )
