use Rattle.std.proofs.Common.{◌≡◌, ◌-◌, ◌<◌, ℕ, length, get_or, ap, ◌∙◌, sym, subst, arith}
use Rattle.quicklist.specs.Nodes.{IsPlace, node_at, node_list, count_of}
use Rattle.quicklist.proofs.Chains.{node_read}
use Rattle.quicklist.proofs.Elements.{node_is, node_of, held_at, list_at, count_at}
use Rattle.quicklist.proofs.Cursors.{offset_at, offset_back, node_before, place_last}
use Rattle.quicklist.proofs.Rests.{place_before}
use Rattle.quicklist.proofs.quick.Quick.prev.Goals as goal

pub bytes-requires : goal.bytes-requires
bytes-requires g c =
    node_read (g.B.BlockStore.blocks c.args.store.now) c.args.self.now.nodes c.args.cursor.node c.index-node.result.now c.requires.cursor.place.inside
    (c.index-node.ensures ∙ ap (λ v. get_or v.nodes c.args.cursor.node c.index-node.result.now) c.self.view_is) c.requires.quick.chain

pub bytes-requires-in-None : goal.bytes-requires-in-None
bytes-requires-in-None g c =
    let m = g.B.BlockStore.blocks c.args.store.now in
    let q = c.args.self.now in
    let s = c.requires.quick in
    let cursor = c.requires.cursor in
    let k = c.args.cursor.node in
    let node = c.index-node.result.now in
    let is = node_is q.nodes k node cursor.place.inside (c.index-node.ensures ∙ ap (λ v. get_or v.nodes k node) c.self.view_is) in
    let off = offset_at m q.nodes k cursor.among c.args.cursor.at node c.bytes.result.now is c.bytes.ensures cursor.offset in
    let first = c.in-None.ensures cursor.among off in
    let some = node_before m q c.args.cursor.index k cursor.among s cursor.place first c.if-cursor-eq0.false in
    let inside : k - 1 < length q.nodes = omega (arith, cursor.place.inside, some) in
    node_read m q.nodes (k - 1) c.index-before.result.now inside (c.index-before.ensures ∙ ap (λ v. get_or v.nodes (k - 1) c.index-before.result.now) c.self.view_is) s.chain

pub returns-in-None : goal.returns-in-None
returns-in-None g c =
    let m = g.B.BlockStore.blocks c.args.store.now in
    let q = c.args.self.now in
    let s = c.requires.quick in
    let cursor = c.requires.cursor in
    let k = c.args.cursor.node in
    let node = c.index-node.result.now in
    let is = node_is q.nodes k node cursor.place.inside (c.index-node.ensures ∙ ap (λ v. get_or v.nodes k node) c.self.view_is) in
    let off = offset_at m q.nodes k cursor.among c.args.cursor.at node c.bytes.result.now is c.bytes.ensures cursor.offset in
    let first = c.in-None.ensures cursor.among off in
    let some = node_before m q c.args.cursor.index k cursor.among s cursor.place first c.if-cursor-eq0.false in
    let inside : k - 1 < length q.nodes = omega (arith, cursor.place.inside, some) in
    let node2 = c.index-before.result.now in
    let is2 = node_is q.nodes (k - 1) node2 inside (c.index-before.ensures ∙ ap (λ v. get_or v.nodes (k - 1) node2) c.self.view_is) in
    let list2 = list_at m q.nodes (k - 1) node2 c.bytes-in-None.result.now is2 c.bytes-in-None.ensures in
    let count = count_at m q.nodes (k - 1) node2 c.bytes-in-None.result.now s.chain.each inside is2 c.bytes-in-None.ensures in
    let last : node2.count - 1 ≡ length (node_list m (node_at q.nodes (k - 1))) - 1 = omega (arith, count, ap length list2) in (
      record {
        among = node2.count - 1;
        place = subst (λ (j : ℕ). IsPlace q.nodes (c.args.cursor.index - 1) (k - 1) j) (sym last) (place_last m q c.args.cursor.index k cursor.among s cursor.place first some);
        offset = offset_back m q.nodes (k - 1) (node2.count - 1) c.offset_in.result node2 c.bytes-in-None.result.now is2 c.bytes-in-None.ensures c.offset_in.ensures;
      },
      omega (arith, c.if-cursor-eq0.false),
    )

pub offset_before-requires-clause-held : goal.offset_before-requires-clause-held
offset_before-requires-clause-held g c =
    let m = g.B.BlockStore.blocks c.args.store.now in
    let q = c.args.self.now in
    let s = c.requires.quick in
    let cursor = c.requires.cursor in
    let k = c.args.cursor.node in
    let node = c.index-node.result.now in
    let is = node_is q.nodes k node cursor.place.inside (c.index-node.ensures ∙ ap (λ v. get_or v.nodes k node) c.self.view_is) in
    held_at m q.nodes k node c.bytes.result.now s.chain.each cursor.place.inside is c.bytes.ensures

pub offset_before-requires-clause-at : goal.offset_before-requires-clause-at
offset_before-requires-clause-at g c =
    let m = g.B.BlockStore.blocks c.args.store.now in
    let q = c.args.self.now in
    let s = c.requires.quick in
    let cursor = c.requires.cursor in
    let k = c.args.cursor.node in
    let node = c.index-node.result.now in
    let is = node_is q.nodes k node cursor.place.inside (c.index-node.ensures ∙ ap (λ v. get_or v.nodes k node) c.self.view_is) in
    (cursor.among, offset_at m q.nodes k cursor.among c.args.cursor.at node c.bytes.result.now is c.bytes.ensures cursor.offset)

pub overflow_sub-cursor : goal.overflow_sub-cursor
overflow_sub-cursor g c =
    let m = g.B.BlockStore.blocks c.args.store.now in
    let q = c.args.self.now in
    let s = c.requires.quick in
    let cursor = c.requires.cursor in
    let k = c.args.cursor.node in
    let node = c.index-node.result.now in
    let is = node_is q.nodes k node cursor.place.inside (c.index-node.ensures ∙ ap (λ v. get_or v.nodes k node) c.self.view_is) in
    let off = offset_at m q.nodes k cursor.among c.args.cursor.at node c.bytes.result.now is c.bytes.ensures cursor.offset in
    let first = c.in-None.ensures cursor.among off in
    let some = node_before m q c.args.cursor.index k cursor.among s cursor.place first c.if-cursor-eq0.false in
    omega (arith, some)

pub overflow_sub-result : goal.overflow_sub-result
overflow_sub-result g c =
    let m = g.B.BlockStore.blocks c.args.store.now in
    let q = c.args.self.now in
    let s = c.requires.quick in
    let cursor = c.requires.cursor in
    let k = c.args.cursor.node in
    let node = c.index-node.result.now in
    let is = node_is q.nodes k node cursor.place.inside (c.index-node.ensures ∙ ap (λ v. get_or v.nodes k node) c.self.view_is) in
    let off = offset_at m q.nodes k cursor.among c.args.cursor.at node c.bytes.result.now is c.bytes.ensures cursor.offset in
    let first = c.in-None.ensures cursor.among off in
    let some = node_before m q c.args.cursor.index k cursor.among s cursor.place first c.if-cursor-eq0.false in
    omega (arith, some)

pub overflow_sub-last : goal.overflow_sub-last
overflow_sub-last g c =
    let m = g.B.BlockStore.blocks c.args.store.now in
    let q = c.args.self.now in
    let s = c.requires.quick in
    let cursor = c.requires.cursor in
    let k = c.args.cursor.node in
    let node = c.index-node.result.now in
    let is = node_is q.nodes k node cursor.place.inside (c.index-node.ensures ∙ ap (λ v. get_or v.nodes k node) c.self.view_is) in
    let off = offset_at m q.nodes k cursor.among c.args.cursor.at node c.bytes.result.now is c.bytes.ensures cursor.offset in
    let first = c.in-None.ensures cursor.among off in
    let some = node_before m q c.args.cursor.index k cursor.among s cursor.place first c.if-cursor-eq0.false in
    let inside : k - 1 < length q.nodes = omega (arith, cursor.place.inside, some) in
    let node2 = c.index-before.result.now in
    let is2 = node_is q.nodes (k - 1) node2 inside (c.index-before.ensures ∙ ap (λ v. get_or v.nodes (k - 1) node2) c.self.view_is) in
    omega (arith, (node_of m q.nodes (k - 1) s.chain.each inside).some, ap count_of is2)

pub offset_in-requires-clause-held : goal.offset_in-requires-clause-held
offset_in-requires-clause-held g c =
    let m = g.B.BlockStore.blocks c.args.store.now in
    let q = c.args.self.now in
    let s = c.requires.quick in
    let cursor = c.requires.cursor in
    let k = c.args.cursor.node in
    let node = c.index-node.result.now in
    let is = node_is q.nodes k node cursor.place.inside (c.index-node.ensures ∙ ap (λ v. get_or v.nodes k node) c.self.view_is) in
    let off = offset_at m q.nodes k cursor.among c.args.cursor.at node c.bytes.result.now is c.bytes.ensures cursor.offset in
    let first = c.in-None.ensures cursor.among off in
    let some = node_before m q c.args.cursor.index k cursor.among s cursor.place first c.if-cursor-eq0.false in
    let inside : k - 1 < length q.nodes = omega (arith, cursor.place.inside, some) in
    let node2 = c.index-before.result.now in
    let is2 = node_is q.nodes (k - 1) node2 inside (c.index-before.ensures ∙ ap (λ v. get_or v.nodes (k - 1) node2) c.self.view_is) in
    held_at m q.nodes (k - 1) node2 c.bytes-in-None.result.now s.chain.each inside is2 c.bytes-in-None.ensures

pub offset_in-requires-clause-inside : goal.offset_in-requires-clause-inside
offset_in-requires-clause-inside g c =
    let m = g.B.BlockStore.blocks c.args.store.now in
    let q = c.args.self.now in
    let s = c.requires.quick in
    let cursor = c.requires.cursor in
    let k = c.args.cursor.node in
    let node = c.index-node.result.now in
    let is = node_is q.nodes k node cursor.place.inside (c.index-node.ensures ∙ ap (λ v. get_or v.nodes k node) c.self.view_is) in
    let off = offset_at m q.nodes k cursor.among c.args.cursor.at node c.bytes.result.now is c.bytes.ensures cursor.offset in
    let first = c.in-None.ensures cursor.among off in
    let some = node_before m q c.args.cursor.index k cursor.among s cursor.place first c.if-cursor-eq0.false in
    let inside : k - 1 < length q.nodes = omega (arith, cursor.place.inside, some) in
    let node2 = c.index-before.result.now in
    let is2 = node_is q.nodes (k - 1) node2 inside (c.index-before.ensures ∙ ap (λ v. get_or v.nodes (k - 1) node2) c.self.view_is) in
    omega (
      arith,
      count_at m q.nodes (k - 1) node2 c.bytes-in-None.result.now s.chain.each inside is2 c.bytes-in-None.ensures,
      (node_of m q.nodes (k - 1) s.chain.each inside).some,
      ap count_of is2,
    )

pub returns-in-Some : goal.returns-in-Some
returns-in-Some g c =
    let m = g.B.BlockStore.blocks c.args.store.now in
    let q = c.args.self.now in
    let s = c.requires.quick in
    let cursor = c.requires.cursor in
    let k = c.args.cursor.node in
    let node = c.index-node.result.now in
    let is = node_is q.nodes k node cursor.place.inside (c.index-node.ensures ∙ ap (λ v. get_or v.nodes k node) c.self.view_is) in
    let off = offset_at m q.nodes k cursor.among c.args.cursor.at node c.bytes.result.now is c.bytes.ensures cursor.offset in
    let there = c.in-Some.ensures cursor.among off in (
      record {
        among = cursor.among - 1;
        place = place_before q.nodes c.args.cursor.index k cursor.among there.0 cursor.place;
        offset = offset_back m q.nodes k (cursor.among - 1) c.in-Some.at node c.bytes.result.now is c.bytes.ensures there.1;
      },
      omega (arith, c.if-cursor-eq0.false),
    )
