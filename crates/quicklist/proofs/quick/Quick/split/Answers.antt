use Rattle.std.proofs.Common.{◌+◌, length, get_or, ap, ◌∙◌, sym, subst, arith}
use Rattle.std.specs.Prelude.{OnOk}
use Rattle.blocks.specs.Blocks.{no_step}
use Rattle.listpack.specs.Pack.{texts}
use Rattle.quicklist.specs.Nodes.{IsPacked, count_of}
use Rattle.quicklist.specs.Chain.{respelled, IsWritten, IsOverfull}
use Rattle.quicklist.proofs.Elements.{count_small, node_is, packed_node, split_whole, split_front, split_back}
use Rattle.quicklist.proofs.Rests.{packed_bytes}
use Rattle.quicklist.proofs.quick.Quick.split.Goals as goal

pub returns-in_err-alone-clause-served : goal.returns-in_err-alone-clause-served
returns-in_err-alone-clause-served g c = no_step

pub returns-in_err-left-clause-served : goal.returns-in_err-left-clause-served
returns-in_err-left-clause-served g c = no_step

pub returns-in_err-right-clause-served : goal.returns-in_err-right-clause-served
returns-in_err-right-clause-served g c = no_step

pub packed_piece-before-requires-clause-counted : goal.packed_piece-before-requires-clause-counted
packed_piece-before-requires-clause-counted g c =
    let nodes = c.args.self.now.nodes in
    let node = c.index-node.result.now in
    let is = node_is nodes c.args.k node c.requires.inside (c.index-node.ensures ∙ ap (λ v. get_or v.nodes c.args.k node) c.self.view_is) in
    let facts = packed_node (g.B.BlockStore.blocks c.args.store.now) nodes c.args.k node c.bytes-bytes.result.now c.requires.quick.chain.each c.requires.inside is c.requires.packed
    c.bytes-bytes.ensures in
    omega (
      arith,
      split_front (texts c.bytes-bytes.result.now) (texts c.in_ok-left.left.items) c.args.from node.count facts.1 (omega (arith, c.requires.order, c.requires.bound, ap (λ n. n.count) is))
          c.in_ok-left.ensures.list,
      ap (λ xs. length (texts xs)) c.deref.ensures.value,
    )

pub packed_piece-behind-requires-clause-counted : goal.packed_piece-behind-requires-clause-counted
packed_piece-behind-requires-clause-counted g c =
    let nodes = c.args.self.now.nodes in
    let node = c.index-node.result.now in
    let is = node_is nodes c.args.k node c.requires.inside (c.index-node.ensures ∙ ap (λ v. get_or v.nodes c.args.k node) c.self.view_is) in
    let facts = packed_node (g.B.BlockStore.blocks c.args.store.now) nodes c.args.k node c.bytes-bytes.result.now c.requires.quick.chain.each c.requires.inside is c.requires.packed
    c.bytes-bytes.ensures in
    omega (arith, split_back (texts c.bytes-bytes.result.now) (texts c.in_ok-right.right.items) c.args.to c.in_ok-right.ensures.list, facts.1, ap (λ xs. length (texts xs)) c.deref-2.ensures.value)

pub place_around-requires-clause-overfull : goal.place_around-requires-clause-overfull
place_around-requires-clause-overfull g c =
    let m = g.B.BlockStore.blocks c.args.store.now in
    let old = c.args.self.now in
    let k = c.args.k in
    let node = c.index-node.result.now in
    let is = node_is old.nodes k node c.requires.inside (c.index-node.ensures ∙ ap (λ v. get_or v.nodes k node) c.self.view_is) in
    let whole = split_whole m old.nodes k node c.bytes-bytes.result.now c.in_ok-left.left.items c.in_ok-right.right.items c.packed_piece-before.result c.piece_of.result
    c.packed_piece-behind.result c.args.from c.args.to c.args.element.now
    c.requires.quick.chain.each c.requires.inside is c.requires.packed c.bytes-bytes.ensures c.in_ok-left.ensures.list c.in_ok-right.ensures.list
    (c.packed_piece-before.ensures.list ∙ ap texts c.deref.ensures.value) c.piece_of.ensures.list (c.packed_piece-behind.ensures.list ∙ ap texts c.deref-2.ensures.value) in
    subst (λ xs. IsOverfull old (respelled m old k xs (k + 1)) c.args.len) (sym whole) c.requires.overfull

pub returns-clause-written : goal.returns-clause-written
returns-clause-written g c =
    let m = g.B.BlockStore.blocks c.args.store.now in
    let old = c.args.self.now in
    let k = c.args.k in
    let node = c.index-node.result.now in
    let is = node_is old.nodes k node c.requires.inside (c.index-node.ensures ∙ ap (λ v. get_or v.nodes k node) c.self.view_is) in
    let whole = split_whole m old.nodes k node c.bytes-bytes.result.now c.in_ok-left.left.items c.in_ok-right.right.items c.packed_piece-before.result c.piece_of.result
    c.packed_piece-behind.result c.args.from c.args.to c.args.element.now
    c.requires.quick.chain.each c.requires.inside is c.requires.packed c.bytes-bytes.ensures c.in_ok-left.ensures.list c.in_ok-right.ensures.list
    (c.packed_piece-before.ensures.list ∙ ap texts c.deref.ensures.value) c.piece_of.ensures.list (c.packed_piece-behind.ensures.list ∙ ap texts c.deref-2.ensures.value) in
    subst (λ xs. OnOk c.place_around.result (IsWritten m (g.B.BlockStore.blocks c.place_around.new.store) old c.place_around.new.self (respelled m old k xs (k + 1)))) whole
    c.place_around.ensures.written

pub without-requires-clause-packed : goal.without-requires-clause-packed
without-requires-clause-packed g c =
    let m = g.B.BlockStore.blocks c.args.store.now in
    let nodes = c.args.self.now.nodes in
    let node = c.index-node.result.now in
    let is = node_is nodes c.args.k node c.requires.inside (c.index-node.ensures ∙ ap (λ v. get_or v.nodes c.args.k node) c.self.view_is) in
    packed_bytes m nodes c.args.k node c.bytes-bytes.result.now c.requires.quick.chain.each c.requires.inside is c.requires.packed c.bytes-bytes.ensures

pub without-requires-clause-order : goal.without-requires-clause-order
without-requires-clause-order g c =
    let m = g.B.BlockStore.blocks c.args.store.now in
    let nodes = c.args.self.now.nodes in
    let node = c.index-node.result.now in
    let is = node_is nodes c.args.k node c.requires.inside (c.index-node.ensures ∙ ap (λ v. get_or v.nodes c.args.k node) c.self.view_is) in
    omega (arith, c.requires.order, c.requires.bound, ap count_of is)

pub without-requires-clause-inside : goal.without-requires-clause-inside
without-requires-clause-inside g c =
    let m = g.B.BlockStore.blocks c.args.store.now in
    let nodes = c.args.self.now.nodes in
    let node = c.index-node.result.now in
    let is = node_is nodes c.args.k node c.requires.inside (c.index-node.ensures ∙ ap (λ v. get_or v.nodes c.args.k node) c.self.view_is) in
    let facts = packed_node m nodes c.args.k node c.bytes-bytes.result.now c.requires.quick.chain.each c.requires.inside is c.requires.packed c.bytes-bytes.ensures in
    omega (arith, facts.1)

pub without-requires-2-clause-packed : goal.without-requires-2-clause-packed
without-requires-2-clause-packed g c =
    let m = g.B.BlockStore.blocks c.args.store.now in
    let nodes = c.args.self.now.nodes in
    let node = c.index-node.result.now in
    let is = node_is nodes c.args.k node c.requires.inside (c.index-node.ensures ∙ ap (λ v. get_or v.nodes c.args.k node) c.self.view_is) in
    packed_bytes m nodes c.args.k node c.bytes-bytes.result.now c.requires.quick.chain.each c.requires.inside is c.requires.packed c.bytes-bytes.ensures

pub without-requires-2-clause-inside : goal.without-requires-2-clause-inside
without-requires-2-clause-inside g c =
    let m = g.B.BlockStore.blocks c.args.store.now in
    let nodes = c.args.self.now.nodes in
    let node = c.index-node.result.now in
    let is = node_is nodes c.args.k node c.requires.inside (c.index-node.ensures ∙ ap (λ v. get_or v.nodes c.args.k node) c.self.view_is) in
    let facts = packed_node m nodes c.args.k node c.bytes-bytes.result.now c.requires.quick.chain.each c.requires.inside is c.requires.packed c.bytes-bytes.ensures in
    omega (arith, facts.1, c.requires.bound, ap count_of is)

pub overflow_cast-from : goal.overflow_cast-from
overflow_cast-from g c =
    let m = g.B.BlockStore.blocks c.args.store.now in
    let nodes = c.args.self.now.nodes in
    let node = c.index-node.result.now in
    let is = node_is nodes c.args.k node c.requires.inside (c.index-node.ensures ∙ ap (λ v. get_or v.nodes c.args.k node) c.self.view_is) in
    let facts = packed_node m nodes c.args.k node c.bytes-bytes.result.now c.requires.quick.chain.each c.requires.inside is c.requires.packed c.bytes-bytes.ensures in
    let packed = packed_bytes m nodes c.args.k node c.bytes-bytes.result.now c.requires.quick.chain.each c.requires.inside is c.requires.packed c.bytes-bytes.ensures in
    record { fits = omega (arith, facts.1, c.requires.order, c.requires.bound, ap count_of is, count_small c.bytes-bytes.result.now packed) }

pub packed_piece-before-requires-clause-packed : goal.packed_piece-before-requires-clause-packed
packed_piece-before-requires-clause-packed g c = subst IsPacked (sym c.deref.ensures.value) c.in_ok-left.ensures.packed

pub overflow_sub-count : goal.overflow_sub-count
overflow_sub-count g c =
    let m = g.B.BlockStore.blocks c.args.store.now in
    let nodes = c.args.self.now.nodes in
    let node = c.index-node.result.now in
    let is = node_is nodes c.args.k node c.requires.inside (c.index-node.ensures ∙ ap (λ v. get_or v.nodes c.args.k node) c.self.view_is) in
    omega (arith, c.requires.bound, ap count_of is)

pub overflow_cast-count-2 : goal.overflow_cast-count-2
overflow_cast-count-2 g c =
    let m = g.B.BlockStore.blocks c.args.store.now in
    let nodes = c.args.self.now.nodes in
    let node = c.index-node.result.now in
    let is = node_is nodes c.args.k node c.requires.inside (c.index-node.ensures ∙ ap (λ v. get_or v.nodes c.args.k node) c.self.view_is) in
    let facts = packed_node m nodes c.args.k node c.bytes-bytes.result.now c.requires.quick.chain.each c.requires.inside is c.requires.packed c.bytes-bytes.ensures in
    let packed = packed_bytes m nodes c.args.k node c.bytes-bytes.result.now c.requires.quick.chain.each c.requires.inside is c.requires.packed c.bytes-bytes.ensures in
    record { fits = omega (arith, facts.1, count_small c.bytes-bytes.result.now packed) }

pub packed_piece-behind-requires-clause-packed : goal.packed_piece-behind-requires-clause-packed
packed_piece-behind-requires-clause-packed g c = subst IsPacked (sym c.deref-2.ensures.value) c.in_ok-right.ensures.packed

pub piece_of-requires : goal.piece_of-requires
piece_of-requires g c = c.in_ok-alone.ensures

pub place_around-requires-clause-quick : goal.place_around-requires-clause-quick
place_around-requires-clause-quick g c = c.requires.quick

pub place_around-requires-clause-inside : goal.place_around-requires-clause-inside
place_around-requires-clause-inside g c = c.requires.inside

pub place_around-requires-clause-before : goal.place_around-requires-clause-before
place_around-requires-clause-before g c = c.packed_piece-before.ensures.part

pub place_around-requires-clause-middle : goal.place_around-requires-clause-middle
place_around-requires-clause-middle g c = c.piece_of.ensures.piece

pub place_around-requires-clause-behind : goal.place_around-requires-clause-behind
place_around-requires-clause-behind g c = c.packed_piece-behind.ensures.part
