use Rattle.std.proofs.Common.{refl}
use Rattle.quicklist.proofs.Chains.{node_live}
use Rattle.quicklist.proofs.Moving.{node_settled}
use Rattle.quicklist.proofs.copies.settle_node.Goals as goal

pub settle-at-requires : goal.settle-at-requires
settle-at-requires g c = node_live (g.B.BlockStore.blocks c.args.store.now) c.args.nodes.now.items c.args.k c.index-node.result.now c.requires.inside c.index-node.ensures c.requires.chain.owned

pub returns-clause-settled : goal.returns-clause-settled
returns-clause-settled g c =
    node_settled (g.B.BlockStore.blocks c.args.store.now) (g.B.BlockStore.blocks c.settle-at.new.store) c.args.nodes.now.items _ c.args.k c.index-node.result.now c.settle-at.result
    c.requires.chain c.requires.inside c.index-node.ensures
    c.settle-at.ensures.bytes c.settle-at.ensures.changes refl
