use Rattle.std.proofs.Common.{◌≡◌, ◌+◌, ◌-◌, ◌≤◌, length, get_or, ap, ◌∙◌, sym, subst, arith}
use Rattle.std.specs.Prelude.{OnOk}
use Rattle.quicklist.specs.Nodes.{bytes_of, count_of, node_at, node_list}
use Rattle.quicklist.specs.Chain.{respelled, IsChanged}
use Rattle.quicklist.proofs.Elements.{node_is, node_of}
use Rattle.quicklist.proofs.Overwriting.{none_left}
use Rattle.quicklist.proofs.Rising.{on_ok, changed_from}
use Rattle.quicklist.proofs.Rests.{many_packed}
use Rattle.quicklist.proofs.quick.Quick.remove_within.Goals as goal

pub take_out-requires-clause-packed : goal.take_out-requires-clause-packed
take_out-requires-clause-packed g c =
    let m = g.B.BlockStore.blocks c.args.store.now in
    let nodes = c.args.self.now.nodes in
    let k = c.args.k in
    let node = c.index.result.now in
    let is = node_is nodes k node c.requires.inside (c.index.ensures ∙ ap (λ v. get_or v.nodes k node) c.self.view_is) in
    let there = node_at nodes k in
    let many : there.count ≡ 1 → ⊥ = λ one. absurd (omega (arith, one, ap count_of is, c.if-j-i.true, c.requires.order)) in
    many_packed there.container (bytes_of m there) there.count (node_of m nodes k c.requires.quick.chain.each c.requires.inside).counted many

pub take_out-requires-clause-left : goal.take_out-requires-clause-left
take_out-requires-clause-left g c =
    let m = g.B.BlockStore.blocks c.args.store.now in
    let nodes = c.args.self.now.nodes in
    let node = c.index.result.now in
    let is = node_is nodes c.args.k node c.requires.inside (c.index.ensures ∙ ap (λ v. get_or v.nodes c.args.k node) c.self.view_is) in
    omega (arith, (node_of m nodes c.args.k c.requires.quick.chain.each c.requires.inside).counted, ap count_of is, c.if-j-i.true)

pub take_out-requires-clause-len : goal.take_out-requires-clause-len
take_out-requires-clause-len g c = c.requires.len

pub returns-then-j-i-clause-changed : goal.returns-then-j-i-clause-changed
returns-then-j-i-clause-changed g c =
    on_ok c.take_out.result (λ w. changed_from (g.B.BlockStore.blocks c.args.store.now) (g.B.BlockStore.blocks c.take_out.new.store) c.args.self.now c.take_out.new.self _ w) c.take_out.ensures.written

pub place_rest-requires-clause-len : goal.place_rest-requires-clause-len
place_rest-requires-clause-len g c =
    let m = g.B.BlockStore.blocks c.args.store.now in
    let q = c.args.self.now in
    let k = c.args.k in
    let node = c.index.result.now in
    let is = node_is q.nodes k node c.requires.inside (c.index.ensures ∙ ap (λ v. get_or v.nodes k node) c.self.view_is) in
    let all : length (node_list m (node_at q.nodes k)) ≤ c.args.j - c.args.i = omega (arith, (node_of m q.nodes k c.requires.quick.chain.each c.requires.inside).counted, ap count_of is, c.if-j-i.false) in
    let none = none_left (node_list m (node_at q.nodes k)) c.args.i c.args.j (omega (arith, c.requires.order)) c.requires.to all in
    c.requires.len ∙ ap (λ xs. length (respelled m q k xs (k + 1))) none

pub returns-clause-changed : goal.returns-clause-changed
returns-clause-changed g c =
    let m = g.B.BlockStore.blocks c.args.store.now in
    let n = g.B.BlockStore.blocks c.place_rest.new.store in
    let q = c.args.self.now in
    let k = c.args.k in
    let node = c.index.result.now in
    let is = node_is q.nodes k node c.requires.inside (c.index.ensures ∙ ap (λ v. get_or v.nodes k node) c.self.view_is) in
    let all : length (node_list m (node_at q.nodes k)) ≤ c.args.j - c.args.i = omega (arith, (node_of m q.nodes k c.requires.quick.chain.each c.requires.inside).counted, ap count_of is, c.if-j-i.false) in
    let none = none_left (node_list m (node_at q.nodes k)) c.args.i c.args.j (omega (arith, c.requires.order)) c.requires.to all in
    subst (λ xs. OnOk c.place_rest.result (IsChanged m n q c.place_rest.new.self (respelled m q k xs (k + 1)))) (sym none) c.place_rest.ensures.changed
