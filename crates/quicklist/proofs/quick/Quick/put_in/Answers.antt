use Rattle.std.proofs.Common.{◌+◌, get_or, ap, ◌∙◌, subst, arith}
use Rattle.std.specs.List.{insert}
use Rattle.std.proofs.lemmas.List.Edits.{length-insert}
use Rattle.quicklist.specs.declared.node.Node.{Node}
use Rattle.quicklist.specs.Nodes.{IsRemade, node_at, node_list}
use Rattle.quicklist.proofs.Elements.{node_is, node_of}
use Rattle.quicklist.proofs.Overwriting.{node_few, node_remade}
use Rattle.quicklist.proofs.quick.Quick.put_in.Goals as goal

pub overflow_add-node : goal.overflow_add-node
overflow_add-node g c =
    let m = g.B.BlockStore.blocks c.args.store.now in
    let nodes = c.args.self.now.nodes in
    let node = c.index-node.result.now in
    let is = node_is nodes c.args.k node c.requires.inside (c.index-node.ensures ∙ ap (λ v. get_or v.nodes c.args.k node) c.self.view_is) in
    let few = node_few m (node_at nodes c.args.k) (node_of m nodes c.args.k c.requires.quick.chain.each c.requires.inside) c.requires.space.packed in
    record { fits = omega (arith, few, ap (λ n. n.count) is) }

pub returns-clause-written : goal.returns-clause-written
returns-clause-written g c =
    let m = g.B.BlockStore.blocks c.args.store.now in
    let n = g.B.BlockStore.blocks c.put_entry.new.store in
    let q = c.args.self.now in
    let k = c.args.k in
    let i = c.args.i in
    let x = c.args.element.now in
    let node = c.index-node.result.now in
    let at = c.in_ok-at.at in
    let given = c.index-node.ensures ∙ ap (λ v. get_or v.nodes k node) c.self.view_is in
    let is = node_is q.nodes k node c.requires.inside given in
    let xs = node_list m (node_at q.nodes k) in
    let r = subst (λ (y : Node). IsRemade m n node (insert (node_list m y) i x) at) is c.in_ok-at.ensures.remade in
    node_remade m n q _ k (node.count + 1) node at (insert xs i x) c.requires.quick c.requires.inside given r (omega arith)
    (omega (arith, (node_of m q.nodes k c.requires.quick.chain.each c.requires.inside).counted, ap (λ n. n.count) is, length-insert xs i x c.requires.index))
    c.set_node.ensures.nodes (c.set_node.ensures.len ∙ c.requires.len)
    c.set_node.ensures.form
