use Rattle.std.proofs.Common.{◌≡◌, length, get_or, ap, ◌∙◌, sym, subst, refl, arith}
use Rattle.std.specs.Prelude.{sum_by}
use Rattle.quicklist.specs.Nodes.{IsPlace, count_of}
use Rattle.quicklist.specs.Chain.{Chain}
use Rattle.quicklist.proofs.Chains.{node_read}
use Rattle.quicklist.proofs.Elements.{len_is, node_is, held_at, list_at, place_room}
use Rattle.quicklist.proofs.Cursors.{offset_back}
use Rattle.quicklist.proofs.quick.Quick.seek.Goals as goal

pub find-k-requires-clause-whole : goal.find-k-requires-clause-whole
find-k-requires-clause-whole g c = subst (λ (v : Chain). v.len ≡ sum_by count_of v.nodes) (sym c.self.view_is) (len_is (g.B.BlockStore.blocks c.args.store.now) c.args.self.now c.requires)

pub bytes-requires : goal.bytes-requires
bytes-requires g c =
    let place = subst (λ (v : Chain). IsPlace v.nodes c.args.index c.find-k.result.0 c.find-k.result.1) c.self.view_is c.find-k.ensures in
    node_read (g.B.BlockStore.blocks c.args.store.now) c.args.self.now.nodes c.find-k.result.0 c.index-node.result.now place.inside
    (c.index-node.ensures ∙ ap (λ v. get_or v.nodes c.find-k.result.0 c.index-node.result.now) c.self.view_is) c.requires.chain

pub offset_in-requires-clause-held : goal.offset_in-requires-clause-held
offset_in-requires-clause-held g c =
    let m = g.B.BlockStore.blocks c.args.store.now in
    let q = c.args.self.now in
    let k = c.find-k.result.0 in
    let j = c.find-k.result.1 in
    let node = c.index-node.result.now in
    let place = subst (λ (v : Chain). IsPlace v.nodes c.args.index k j) c.self.view_is c.find-k.ensures in
    let is = node_is q.nodes k node place.inside (c.index-node.ensures ∙ ap (λ v. get_or v.nodes k node) c.self.view_is) in
    held_at m q.nodes k node c.bytes.result.now c.requires.chain.each place.inside is c.bytes.ensures

pub offset_in-requires-clause-inside : goal.offset_in-requires-clause-inside
offset_in-requires-clause-inside g c =
    let m = g.B.BlockStore.blocks c.args.store.now in
    let q = c.args.self.now in
    let k = c.find-k.result.0 in
    let j = c.find-k.result.1 in
    let node = c.index-node.result.now in
    let place = subst (λ (v : Chain). IsPlace v.nodes c.args.index k j) c.self.view_is c.find-k.ensures in
    let is = node_is q.nodes k node place.inside (c.index-node.ensures ∙ ap (λ v. get_or v.nodes k node) c.self.view_is) in
    omega (arith, (place_room m q c.args.index k j c.requires place).0, ap length (list_at m q.nodes k node c.bytes.result.now is c.bytes.ensures))

pub returns : goal.returns
returns g c =
    let m = g.B.BlockStore.blocks c.args.store.now in
    let q = c.args.self.now in
    let k = c.find-k.result.0 in
    let j = c.find-k.result.1 in
    let node = c.index-node.result.now in
    let place = subst (λ (v : Chain). IsPlace v.nodes c.args.index k j) c.self.view_is c.find-k.ensures in
    let is = node_is q.nodes k node place.inside (c.index-node.ensures ∙ ap (λ v. get_or v.nodes k node) c.self.view_is) in
    (record { among = j; place = place; offset = offset_back m q.nodes k j c.offset_in.result node c.bytes.result.now is c.bytes.ensures c.offset_in.ensures }, refl)
