use Rattle.std.proofs.Common.{◌≡◌, ◌+◌, ◌-◌, [], length, map, get_or, ap, ◌∙◌, sym, subst, arith}
use Rattle.std.specs.Prelude.{sum_by}
use Rattle.std.specs.List.{remove}
use Rattle.std.proofs.lemmas.List.{length-map}
use Rattle.std.proofs.lemmas.List.Edits.{length-remove}
use Rattle.std.proofs.lemmas.List.Elements.{All-nil}
use Rattle.object_codec.specs.declared.form.Form.{Form}
use Rattle.quicklist.specs.Nodes.{IsPiece, IsPlace, bytes_of, count_of, container_of, node_at}
use Rattle.quicklist.specs.Chain.{Chain, IsFormed, elements, IsChanged}
use Rattle.quicklist.proofs.Elements.{len_is, node_is, node_of, place_room, remove_alone, remove_node_is}
use Rattle.quicklist.proofs.Rising.{on_ok, on_ok_three, changed_by, changed_from, formed_drop}
use Rattle.quicklist.proofs.Rests.{form_of, many_packed}
use Rattle.quicklist.proofs.quick.Quick.remove.Goals as goal

pub find-k-requires-clause-whole : goal.find-k-requires-clause-whole
find-k-requires-clause-whole g c = subst (λ (v : Chain). v.len ≡ sum_by count_of v.nodes) (sym c.self.view_is) (len_is (g.B.BlockStore.blocks c.args.store.now) c.args.self.now c.requires.quick)

pub returns-then-node-eq1-clause-changed : goal.returns-then-node-eq1-clause-changed
returns-then-node-eq1-clause-changed g c =
    let m = g.B.BlockStore.blocks c.args.store.now in
    let q = c.args.self.now in
    let s = c.requires.quick in
    let k = c.find-k.result.0 in
    let j = c.find-k.result.1 in
    let node = c.index-node.result.now in
    let place = subst (λ (v : Chain). IsPlace v.nodes c.args.index k j) c.self.view_is c.find-k.ensures in
    let is = node_is q.nodes k node place.inside (c.index-node.ensures ∙ ap (λ v. get_or v.nodes k node) c.self.view_is) in
    let alone = remove_alone m q c.args.index k j s place (sym (ap (λ n. n.count) is) ∙ c.if-node-eq1.true) in
    let form = ap (λ v. v.form) c.self.view_is in
    let formed = subst (λ (f : Form). IsFormed f (map container_of q.nodes)) (sym form) s.formed in
    on_ok_three c.exchange.result
    (changed_by m (g.B.BlockStore.blocks c.exchange.new.store) q c.exchange.new.self (remove (elements m q) c.args.index) k (k + 1) (c.self.inside.len - 1) c.self.inside.form [] (sym alone)
    (omega (arith, ap (λ v. v.len) c.self.view_is, s.counted, length-remove (elements m q) c.args.index c.requires.index))
    (formed_drop c.self.inside.form (map container_of q.nodes) k (omega (arith, place.inside, length-map q.nodes container_of)) formed))
    c.exchange.ensures.ok c.exchange.ensures.len c.exchange.ensures.form

pub find-k-requires-clause-inside : goal.find-k-requires-clause-inside
find-k-requires-clause-inside g c = omega (arith, ap (λ v. v.len) c.self.view_is, c.requires.quick.counted, c.requires.index)

pub exchange-requires-clause-inside : goal.exchange-requires-clause-inside
exchange-requires-clause-inside g c =
    let place = subst (λ (v : Chain). IsPlace v.nodes c.args.index c.find-k.result.0 c.find-k.result.1) c.self.view_is c.find-k.ensures in
    omega (arith, place.inside)

pub exchange-requires-clause-chain : goal.exchange-requires-clause-chain
exchange-requires-clause-chain g c = c.requires.quick.chain

pub exchange-requires-clause-pieces : goal.exchange-requires-clause-pieces
exchange-requires-clause-pieces g c = All-nil IsPiece

pub returns-then-node-eq1-clause-form : goal.returns-then-node-eq1-clause-form
returns-then-node-eq1-clause-form g c =
    form_of c.exchange.result c.args.self.now c.exchange.new.self c.self.inside.form (ap (λ v. v.form) c.self.view_is) c.exchange.ensures.form c.exchange.ensures.err_list

pub take_out-requires-clause-quick : goal.take_out-requires-clause-quick
take_out-requires-clause-quick g c = c.requires.quick

pub take_out-requires-clause-inside : goal.take_out-requires-clause-inside
take_out-requires-clause-inside g c = (subst (λ (v : Chain). IsPlace v.nodes c.args.index c.find-k.result.0 c.find-k.result.1) c.self.view_is c.find-k.ensures).inside

pub take_out-requires-clause-packed : goal.take_out-requires-clause-packed
take_out-requires-clause-packed g c =
    let m = g.B.BlockStore.blocks c.args.store.now in
    let q = c.args.self.now in
    let s = c.requires.quick in
    let k = c.find-k.result.0 in
    let node = c.index-node.result.now in
    let place = subst (λ (v : Chain). IsPlace v.nodes c.args.index k c.find-k.result.1) c.self.view_is c.find-k.ensures in
    let is = node_is q.nodes k node place.inside (c.index-node.ensures ∙ ap (λ v. get_or v.nodes k node) c.self.view_is) in
    let there = node_at q.nodes k in
    let many : there.count ≡ 1 → ⊥ = λ one. absurd (omega (arith, one, ap count_of is, c.if-node-eq1.false)) in
    many_packed there.container (bytes_of m there) there.count (node_of m q.nodes k s.chain.each place.inside).counted many

pub take_out-requires-clause-to : goal.take_out-requires-clause-to
take_out-requires-clause-to g c =
    let m = g.B.BlockStore.blocks c.args.store.now in
    let q = c.args.self.now in
    let place = subst (λ (v : Chain). IsPlace v.nodes c.args.index c.find-k.result.0 c.find-k.result.1) c.self.view_is c.find-k.ensures in
    let room = place_room m q c.args.index c.find-k.result.0 c.find-k.result.1 c.requires.quick place in
    omega (arith, room.0)

pub take_out-requires-clause-left : goal.take_out-requires-clause-left
take_out-requires-clause-left g c =
    let m = g.B.BlockStore.blocks c.args.store.now in
    let q = c.args.self.now in
    let s = c.requires.quick in
    let k = c.find-k.result.0 in
    let node = c.index-node.result.now in
    let place = subst (λ (v : Chain). IsPlace v.nodes c.args.index k c.find-k.result.1) c.self.view_is c.find-k.ensures in
    let is = node_is q.nodes k node place.inside (c.index-node.ensures ∙ ap (λ v. get_or v.nodes k node) c.self.view_is) in
    let one = node_of m q.nodes k s.chain.each place.inside in
    omega (arith, one.counted, one.some, ap count_of is, c.if-node-eq1.false)

pub take_out-requires-clause-len : goal.take_out-requires-clause-len
take_out-requires-clause-len g c =
    let m = g.B.BlockStore.blocks c.args.store.now in
    let q = c.args.self.now in
    let s = c.requires.quick in
    let k = c.find-k.result.0 in
    let j = c.find-k.result.1 in
    let place = subst (λ (v : Chain). IsPlace v.nodes c.args.index k j) c.self.view_is c.find-k.ensures in
    omega (arith, ap (λ v. v.len) c.self.view_is, s.counted, ap length (remove_node_is m q c.args.index k j s place), length-remove (elements m q) c.args.index c.requires.index)

pub returns-clause-changed : goal.returns-clause-changed
returns-clause-changed g c =
    let m = g.B.BlockStore.blocks c.args.store.now in
    let n = g.B.BlockStore.blocks c.take_out.new.store in
    let q = c.args.self.now in
    let k = c.find-k.result.0 in
    let j = c.find-k.result.1 in
    let place = subst (λ (v : Chain). IsPlace v.nodes c.args.index k j) c.self.view_is c.find-k.ensures in
    on_ok c.take_out.result
    (λ w. subst (λ xs. IsChanged m n q c.take_out.new.self xs) (remove_node_is m q c.args.index k j c.requires.quick place) (changed_from m n q c.take_out.new.self _ w)) c.take_out.ensures.written

pub returns-clause-form : goal.returns-clause-form
returns-clause-form g c = c.take_out.ensures.form
