use Rattle.std.proofs.Common.{◌≡◌, ◌-◌, length, get_or, ap, ◌∙◌, subst, arith}
use Rattle.std.specs.List.{remove_range}
use Rattle.quicklist.specs.declared.node.Node.{Node}
use Rattle.quicklist.specs.Nodes.{IsRemade, node_at, node_list}
use Rattle.quicklist.proofs.Elements.{node_is, node_of}
use Rattle.quicklist.proofs.Overwriting.{length_taken, node_few, node_remade}
use Rattle.quicklist.proofs.quick.Quick.take_out.Goals as goal

pub overflow_cast-j : goal.overflow_cast-j
overflow_cast-j g c =
    let m = g.B.BlockStore.blocks c.args.store.now in
    let nodes = c.args.self.now.nodes in
    let one = node_of m nodes c.args.k c.requires.quick.chain.each c.requires.inside in
    record { fits = omega (arith, node_few m (node_at nodes c.args.k) one c.requires.packed, one.counted, c.requires.left) }

pub overflow_sub-node : goal.overflow_sub-node
overflow_sub-node g c =
    let m = g.B.BlockStore.blocks c.args.store.now in
    let nodes = c.args.self.now.nodes in
    let node = c.index-node.result.now in
    let is = node_is nodes c.args.k node c.requires.inside (c.index-node.ensures ∙ ap (λ v. get_or v.nodes c.args.k node) c.self.view_is) in
    omega (arith, (node_of m nodes c.args.k c.requires.quick.chain.each c.requires.inside).counted, c.requires.left, ap (λ n. n.count) is)

pub returns-clause-written : goal.returns-clause-written
returns-clause-written g c =
    let m = g.B.BlockStore.blocks c.args.store.now in
    let n = g.B.BlockStore.blocks c.take_entries.new.store in
    let q = c.args.self.now in
    let k = c.args.k in
    let i = c.args.i in
    let j = c.args.j in
    let node = c.index-node.result.now in
    let at = c.in_ok-at.at in
    let given = c.index-node.ensures ∙ ap (λ v. get_or v.nodes k node) c.self.view_is in
    let is = node_is q.nodes k node c.requires.inside given in
    let xs = node_list m (node_at q.nodes k) in
    let count : node.count - (j - i) ≡ length (remove_range xs i j) =
    omega (arith, (node_of m q.nodes k c.requires.quick.chain.each c.requires.inside).counted, ap (λ n. n.count) is, length_taken xs i j c.requires.order c.requires.to) in
    let r = subst (λ (y : Node). IsRemade m n node (remove_range (node_list m y) i j) at) is c.in_ok-at.ensures.remade in
    node_remade m n q _ k (node.count - (j - i)) node at (remove_range xs i j) c.requires.quick c.requires.inside given r
    (omega (arith, count, length_taken xs i j c.requires.order c.requires.to, c.requires.left)) count
    c.set_node.ensures.nodes (c.set_node.ensures.len ∙ c.requires.len)
    c.set_node.ensures.form
