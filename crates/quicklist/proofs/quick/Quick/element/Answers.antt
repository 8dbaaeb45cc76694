use Rattle.std.proofs.Common.{[], get_or, ap, ◌∙◌, sym}
use Rattle.quicklist.proofs.Chains.{node_read}
use Rattle.quicklist.proofs.Elements.{node_is, held_at, list_at, get_is}
use Rattle.quicklist.proofs.Cursors.{offset_at}
use Rattle.quicklist.proofs.quick.Quick.element.Goals as goal

pub bytes-requires : goal.bytes-requires
bytes-requires g c =
    node_read (g.B.BlockStore.blocks c.args.store.now) c.args.self.now.nodes c.args.cursor.node c.index-node.result.now c.requires.cursor.place.inside
    (c.index-node.ensures ∙ ap (λ v. get_or v.nodes c.args.cursor.node c.index-node.result.now) c.self.view_is) c.requires.quick.chain

pub returns : goal.returns
returns g c =
    let m = g.B.BlockStore.blocks c.args.store.now in
    let q = c.args.self.now in
    let s = c.requires.quick in
    let cursor = c.requires.cursor in
    let k = c.args.cursor.node in
    let node = c.index-node.result.now in
    let is = node_is q.nodes k node cursor.place.inside (c.index-node.ensures ∙ ap (λ v. get_or v.nodes k node) c.self.view_is) in
    let off = offset_at m q.nodes k cursor.among c.args.cursor.at node c.bytes.result.now is c.bytes.ensures cursor.offset in
    c.element_in.ensures cursor.among off ∙ ap (λ xs. get_or xs cursor.among []) (sym (list_at m q.nodes k node c.bytes.result.now is c.bytes.ensures))
    ∙ sym (get_is m q c.args.cursor.index k cursor.among s cursor.place)

pub element_in-requires-clause-held : goal.element_in-requires-clause-held
element_in-requires-clause-held g c =
    let m = g.B.BlockStore.blocks c.args.store.now in
    let q = c.args.self.now in
    let s = c.requires.quick in
    let cursor = c.requires.cursor in
    let k = c.args.cursor.node in
    let node = c.index-node.result.now in
    let is = node_is q.nodes k node cursor.place.inside (c.index-node.ensures ∙ ap (λ v. get_or v.nodes k node) c.self.view_is) in
    held_at m q.nodes k node c.bytes.result.now s.chain.each cursor.place.inside is c.bytes.ensures

pub element_in-requires-clause-at : goal.element_in-requires-clause-at
element_in-requires-clause-at g c =
    let m = g.B.BlockStore.blocks c.args.store.now in
    let q = c.args.self.now in
    let s = c.requires.quick in
    let cursor = c.requires.cursor in
    let k = c.args.cursor.node in
    let node = c.index-node.result.now in
    let is = node_is q.nodes k node cursor.place.inside (c.index-node.ensures ∙ ap (λ v. get_or v.nodes k node) c.self.view_is) in
    (cursor.among, offset_at m q.nodes k cursor.among c.args.cursor.at node c.bytes.result.now is c.bytes.ensures cursor.offset)
