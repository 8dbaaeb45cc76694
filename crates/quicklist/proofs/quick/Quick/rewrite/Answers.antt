use Rattle.std.proofs.Common.{get_or, ap, ◌∙◌}
use Rattle.listpack.specs.Pack.{texts}
use Rattle.quicklist.proofs.Chains.{node_read}
use Rattle.quicklist.proofs.Overwriting.{node_remade}
use Rattle.quicklist.proofs.quick.Quick.rewrite.Goals as goal

pub put_pack-requires-clause-live : goal.put_pack-requires-clause-live
put_pack-requires-clause-live g c =
    let node = c.index.result.now in
    (node_read (g.B.BlockStore.blocks c.args.store.now) c.args.self.now.nodes c.args.k node c.requires.inside (c.index.ensures ∙ ap (λ v. get_or v.nodes c.args.k node) c.self.view_is)
    c.requires.quick.chain).live

pub returns-clause-written : goal.returns-clause-written
returns-clause-written g c =
    let m = g.B.BlockStore.blocks c.args.store.now in
    let n = g.B.BlockStore.blocks c.put_pack.new.store in
    let k = c.args.k in
    let node = c.index.result.now in
    let at = c.in_ok-at.at in
    node_remade m n c.args.self.now _ k c.args.count node at (texts c.args.bytes.now) c.requires.quick c.requires.inside (c.index.ensures ∙ ap (λ v. get_or v.nodes k node) c.self.view_is)
    c.in_ok-at.ensures.remade c.requires.some c.requires.count
    c.set_node.ensures.nodes (c.set_node.ensures.len ∙ c.requires.len)
    c.set_node.ensures.form
