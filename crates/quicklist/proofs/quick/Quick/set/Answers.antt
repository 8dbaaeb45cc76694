use Rattle.std.proofs.Common.{◌≡◌, ◌+◌, ◌<◌, ℕ, List, length, set, get_or, ap, ◌∙◌, sym, subst, arith}
use Rattle.std.specs.Prelude.{OnOk, sum_by}
use Rattle.std.specs.Global.{Vec}
use Rattle.std.proofs.lemmas.List.{length-set}
use Rattle.blocks.specs.Blocks.{no_step}
use Rattle.listpack.specs.Pack.{texts}
use Rattle.quicklist.specs.Nodes.{IsPacked, IsPlace, held, pack_len, node_at, node_list, count_of, container_of}
use Rattle.quicklist.specs.Chain.{Chain, elements, respelled, IsWritten}
use Rattle.quicklist.proofs.Chains.{node_read}
use Rattle.quicklist.proofs.Elements.{len_is, node_is, node_of, held_at, count_at, list_at, replaced_list, overfull_set, set_alone, around_set, set_node_is, place_room}
use Rattle.quicklist.proofs.Rising.{at_some, at_none}
use Rattle.quicklist.proofs.Rests.{many_packed}
use Rattle.quicklist.proofs.quick.Quick.set.Goals as goal

pub find-k-requires-clause-whole : goal.find-k-requires-clause-whole
find-k-requires-clause-whole g c = subst (λ (v : Chain). v.len ≡ sum_by count_of v.nodes) (sym c.self.view_is) (len_is (g.B.BlockStore.blocks c.args.store.now) c.args.self.now c.requires.quick)

pub bytes-requires : goal.bytes-requires
bytes-requires g c =
    let place = subst (λ (v : Chain). IsPlace v.nodes c.args.index c.find-k.result.0 c.find-k.result.1) c.self.view_is c.find-k.ensures in
    node_read (g.B.BlockStore.blocks c.args.store.now) c.args.self.now.nodes c.find-k.result.0 c.index-node.result.now place.inside
    (c.index-node.ensures ∙ ap (λ v. get_or v.nodes c.find-k.result.0 c.index-node.result.now) c.self.view_is) c.requires.quick.chain

pub returns-in_err-pack-clause-served : goal.returns-in_err-pack-clause-served
returns-in_err-pack-clause-served g c = no_step

pub rewrite-requires-clause-len : goal.rewrite-requires-clause-len
rewrite-requires-clause-len g c =
    let m = g.B.BlockStore.blocks c.args.store.now in
    let q = c.args.self.now in
    let s = c.requires.quick in
    let k = c.find-k.result.0 in
    let j = c.find-k.result.1 in
    let node = c.index-node.result.now in
    let place = subst (λ (v : Chain). IsPlace v.nodes c.args.index k j) c.self.view_is c.find-k.ensures in
    let is = node_is q.nodes k node place.inside (c.index-node.ensures ∙ ap (λ v. get_or v.nodes k node) c.self.view_is) in
    let x = c.args.element.now in
    let list =
    (at_some (λ (v : Vec ℕ). IsPacked v.items × (texts v.items ≡ set (held node.container c.bytes.result.now) j x)) c.in_ok-pack.field-0 c.in-Some.pack c.in-Some.is
    c.in_ok-pack.ensures.some).1 in
    let whole = replaced_list m q c.args.index k j x node c.bytes.result.now (texts c.deref.result.now) s place is c.bytes.ensures (ap texts c.deref.ensures.value ∙ list) in
    omega (arith, ap (λ v. v.len) c.self.view_is, s.counted, ap length whole, length-set (elements m q) c.args.index x)

pub returns-in-Some-clause-written : goal.returns-in-Some-clause-written
returns-in-Some-clause-written g c =
    let m = g.B.BlockStore.blocks c.args.store.now in
    let q = c.args.self.now in
    let s = c.requires.quick in
    let k = c.find-k.result.0 in
    let j = c.find-k.result.1 in
    let node = c.index-node.result.now in
    let place = subst (λ (v : Chain). IsPlace v.nodes c.args.index k j) c.self.view_is c.find-k.ensures in
    let is = node_is q.nodes k node place.inside (c.index-node.ensures ∙ ap (λ v. get_or v.nodes k node) c.self.view_is) in
    let x = c.args.element.now in
    let list =
    (at_some (λ (v : Vec ℕ). IsPacked v.items × (texts v.items ≡ set (held node.container c.bytes.result.now) j x)) c.in_ok-pack.field-0 c.in-Some.pack c.in-Some.is
    c.in_ok-pack.ensures.some).1 in
    let whole = replaced_list m q c.args.index k j x node c.bytes.result.now (texts c.deref.result.now) s place is c.bytes.ensures (ap texts c.deref.ensures.value ∙ list) in
    subst (λ xs. OnOk c.rewrite.result (IsWritten m (g.B.BlockStore.blocks c.rewrite.new.store) q c.rewrite.new.self xs)) whole c.rewrite.ensures.written

pub place_alone-requires-clause-overfull : goal.place_alone-requires-clause-overfull
place_alone-requires-clause-overfull g c =
    let m = g.B.BlockStore.blocks c.args.store.now in
    let q = c.args.self.now in
    let s = c.requires.quick in
    let k = c.find-k.result.0 in
    let j = c.find-k.result.1 in
    let node = c.index-node.result.now in
    let place = subst (λ (v : Chain). IsPlace v.nodes c.args.index k j) c.self.view_is c.find-k.ensures in
    let is = node_is q.nodes k node place.inside (c.index-node.ensures ∙ ap (λ v. get_or v.nodes k node) c.self.view_is) in
    let x = c.args.element.now in
    let long = at_none c.in_ok-pack.field-0 c.in-None.is c.in_ok-pack.ensures.none in
    let long_node : 8192 < pack_len (set (node_list m (node_at q.nodes k)) j x) =
    subst (λ (xs : List (List ℕ)). 8192 < pack_len (set xs j x)) (sym (list_at m q.nodes k node c.bytes.result.now is c.bytes.ensures)) long in
    let len = ap (λ v. v.len) c.self.view_is in
    overfull_set m q c.args.index k j c.self.inside.len x _ s place long_node len (set_alone m q c.args.index k j x s place (sym (ap (λ n. n.count) is) ∙ c.if-node-eq1.true))

pub split-requires-clause-overfull : goal.split-requires-clause-overfull
split-requires-clause-overfull g c =
    let m = g.B.BlockStore.blocks c.args.store.now in
    let q = c.args.self.now in
    let s = c.requires.quick in
    let k = c.find-k.result.0 in
    let j = c.find-k.result.1 in
    let node = c.index-node.result.now in
    let place = subst (λ (v : Chain). IsPlace v.nodes c.args.index k j) c.self.view_is c.find-k.ensures in
    let is = node_is q.nodes k node place.inside (c.index-node.ensures ∙ ap (λ v. get_or v.nodes k node) c.self.view_is) in
    let x = c.args.element.now in
    let long = at_none c.in_ok-pack.field-0 c.in-None.is c.in_ok-pack.ensures.none in
    let long_node : 8192 < pack_len (set (node_list m (node_at q.nodes k)) j x) =
    subst (λ (xs : List (List ℕ)). 8192 < pack_len (set xs j x)) (sym (list_at m q.nodes k node c.bytes.result.now is c.bytes.ensures)) long in
    let len = ap (λ v. v.len) c.self.view_is in
    overfull_set m q c.args.index k j c.self.inside.len x _ s place long_node len
    (ap (λ xs. respelled m q k xs (k + 1)) (around_set (node_list m (node_at q.nodes k)) j x (place_room m q c.args.index k j s place).0) ∙ set_node_is m q c.args.index k j x s place)

pub returns-in-None-clause-written : goal.returns-in-None-clause-written
returns-in-None-clause-written g c =
    let m = g.B.BlockStore.blocks c.args.store.now in
    let q = c.args.self.now in
    let s = c.requires.quick in
    let k = c.find-k.result.0 in
    let j = c.find-k.result.1 in
    let node = c.index-node.result.now in
    let place = subst (λ (v : Chain). IsPlace v.nodes c.args.index k j) c.self.view_is c.find-k.ensures in
    let is = node_is q.nodes k node place.inside (c.index-node.ensures ∙ ap (λ v. get_or v.nodes k node) c.self.view_is) in
    let x = c.args.element.now in
    subst (λ xs. OnOk c.place_alone.result (IsWritten m (g.B.BlockStore.blocks c.place_alone.new.store) q c.place_alone.new.self xs))
    (set_alone m q c.args.index k j x s place (sym (ap (λ n. n.count) is) ∙ c.if-node-eq1.true)) c.place_alone.ensures.written

pub returns-in-None-2-clause-written : goal.returns-in-None-2-clause-written
returns-in-None-2-clause-written g c =
    let m = g.B.BlockStore.blocks c.args.store.now in
    let q = c.args.self.now in
    let s = c.requires.quick in
    let k = c.find-k.result.0 in
    let j = c.find-k.result.1 in
    let node = c.index-node.result.now in
    let place = subst (λ (v : Chain). IsPlace v.nodes c.args.index k j) c.self.view_is c.find-k.ensures in
    let is = node_is q.nodes k node place.inside (c.index-node.ensures ∙ ap (λ v. get_or v.nodes k node) c.self.view_is) in
    let x = c.args.element.now in
    subst (λ xs. OnOk c.split.result (IsWritten m (g.B.BlockStore.blocks c.split.new.store) q c.split.new.self xs))
    (ap (λ xs. respelled m q k xs (k + 1)) (around_set (node_list m (node_at q.nodes k)) j x (place_room m q c.args.index k j s place).0) ∙ set_node_is m q c.args.index k j x s place)
    c.split.ensures.written

pub find-k-requires-clause-inside : goal.find-k-requires-clause-inside
find-k-requires-clause-inside g c = omega (arith, ap (λ v. v.len) c.self.view_is, c.requires.quick.counted, c.requires.index)

pub replaced-requires-clause-held : goal.replaced-requires-clause-held
replaced-requires-clause-held g c =
    let m = g.B.BlockStore.blocks c.args.store.now in
    let q = c.args.self.now in
    let s = c.requires.quick in
    let k = c.find-k.result.0 in
    let j = c.find-k.result.1 in
    let node = c.index-node.result.now in
    let place = subst (λ (v : Chain). IsPlace v.nodes c.args.index k j) c.self.view_is c.find-k.ensures in
    let is = node_is q.nodes k node place.inside (c.index-node.ensures ∙ ap (λ v. get_or v.nodes k node) c.self.view_is) in
    held_at m q.nodes k node c.bytes.result.now s.chain.each place.inside is c.bytes.ensures

pub replaced-requires-clause-inside : goal.replaced-requires-clause-inside
replaced-requires-clause-inside g c =
    let m = g.B.BlockStore.blocks c.args.store.now in
    let q = c.args.self.now in
    let s = c.requires.quick in
    let k = c.find-k.result.0 in
    let j = c.find-k.result.1 in
    let node = c.index-node.result.now in
    let place = subst (λ (v : Chain). IsPlace v.nodes c.args.index k j) c.self.view_is c.find-k.ensures in
    let is = node_is q.nodes k node place.inside (c.index-node.ensures ∙ ap (λ v. get_or v.nodes k node) c.self.view_is) in
    let room = place_room m q c.args.index k j s place in
    omega (arith, room.0, ap length (list_at m q.nodes k node c.bytes.result.now is c.bytes.ensures))

pub rewrite-requires-clause-quick : goal.rewrite-requires-clause-quick
rewrite-requires-clause-quick g c = c.requires.quick

pub rewrite-requires-clause-inside : goal.rewrite-requires-clause-inside
rewrite-requires-clause-inside g c = (subst (λ (v : Chain). IsPlace v.nodes c.args.index c.find-k.result.0 c.find-k.result.1) c.self.view_is c.find-k.ensures).inside

pub rewrite-requires-clause-packed : goal.rewrite-requires-clause-packed
rewrite-requires-clause-packed g c =
    let node = c.index-node.result.now in
    let j = c.find-k.result.1 in
    let pack = at_some (λ (v : Vec ℕ). IsPacked v.items × (texts v.items ≡ set (held node.container c.bytes.result.now) j c.args.element.now)) c.in_ok-pack.field-0 c.in-Some.pack c.in-Some.is
    c.in_ok-pack.ensures.some in
    subst IsPacked (sym c.deref.ensures.value) pack.0

pub rewrite-requires-clause-count : goal.rewrite-requires-clause-count
rewrite-requires-clause-count g c =
    let m = g.B.BlockStore.blocks c.args.store.now in
    let q = c.args.self.now in
    let s = c.requires.quick in
    let k = c.find-k.result.0 in
    let j = c.find-k.result.1 in
    let node = c.index-node.result.now in
    let place = subst (λ (v : Chain). IsPlace v.nodes c.args.index k j) c.self.view_is c.find-k.ensures in
    let is = node_is q.nodes k node place.inside (c.index-node.ensures ∙ ap (λ v. get_or v.nodes k node) c.self.view_is) in
    let pack = at_some (λ (v : Vec ℕ). IsPacked v.items × (texts v.items ≡ set (held node.container c.bytes.result.now) j c.args.element.now)) c.in_ok-pack.field-0 c.in-Some.pack c.in-Some.is
    c.in_ok-pack.ensures.some in
    let count = count_at m q.nodes k node c.bytes.result.now s.chain.each place.inside is c.bytes.ensures in
    omega (arith, count, ap (λ xs. length (texts xs)) c.deref.ensures.value, ap length pack.1, length-set (held node.container c.bytes.result.now) j c.args.element.now)

pub rewrite-requires-clause-some : goal.rewrite-requires-clause-some
rewrite-requires-clause-some g c =
    let m = g.B.BlockStore.blocks c.args.store.now in
    let q = c.args.self.now in
    let s = c.requires.quick in
    let k = c.find-k.result.0 in
    let j = c.find-k.result.1 in
    let node = c.index-node.result.now in
    let place = subst (λ (v : Chain). IsPlace v.nodes c.args.index k j) c.self.view_is c.find-k.ensures in
    let is = node_is q.nodes k node place.inside (c.index-node.ensures ∙ ap (λ v. get_or v.nodes k node) c.self.view_is) in
    omega (arith, (node_of m q.nodes k s.chain.each place.inside).some, ap count_of is)

pub place_alone-requires-clause-quick : goal.place_alone-requires-clause-quick
place_alone-requires-clause-quick g c = c.requires.quick

pub place_alone-requires-clause-inside : goal.place_alone-requires-clause-inside
place_alone-requires-clause-inside g c =
    let place = subst (λ (v : Chain). IsPlace v.nodes c.args.index c.find-k.result.0 c.find-k.result.1) c.self.view_is c.find-k.ensures in
    omega (arith, place.inside)

pub split-requires-clause-quick : goal.split-requires-clause-quick
split-requires-clause-quick g c = c.requires.quick

pub split-requires-clause-inside : goal.split-requires-clause-inside
split-requires-clause-inside g c = (subst (λ (v : Chain). IsPlace v.nodes c.args.index c.find-k.result.0 c.find-k.result.1) c.self.view_is c.find-k.ensures).inside

pub split-requires-clause-packed : goal.split-requires-clause-packed
split-requires-clause-packed g c =
    let m = g.B.BlockStore.blocks c.args.store.now in
    let q = c.args.self.now in
    let s = c.requires.quick in
    let k = c.find-k.result.0 in
    let j = c.find-k.result.1 in
    let node = c.index-node.result.now in
    let place = subst (λ (v : Chain). IsPlace v.nodes c.args.index k j) c.self.view_is c.find-k.ensures in
    let is = node_is q.nodes k node place.inside (c.index-node.ensures ∙ ap (λ v. get_or v.nodes k node) c.self.view_is) in
    let count = count_at m q.nodes k node c.bytes.result.now s.chain.each place.inside is c.bytes.ensures in
    sym (ap container_of is) ∙ many_packed node.container c.bytes.result.now node.count count c.if-node-eq1.false

pub split-requires-clause-bound : goal.split-requires-clause-bound
split-requires-clause-bound g c =
    let m = g.B.BlockStore.blocks c.args.store.now in
    let q = c.args.self.now in
    let s = c.requires.quick in
    let k = c.find-k.result.0 in
    let j = c.find-k.result.1 in
    let node = c.index-node.result.now in
    let place = subst (λ (v : Chain). IsPlace v.nodes c.args.index k j) c.self.view_is c.find-k.ensures in
    let is = node_is q.nodes k node place.inside (c.index-node.ensures ∙ ap (λ v. get_or v.nodes k node) c.self.view_is) in
    let room = place_room m q c.args.index k j s place in
    omega (arith, room.0, (node_of m q.nodes k s.chain.each place.inside).counted)
