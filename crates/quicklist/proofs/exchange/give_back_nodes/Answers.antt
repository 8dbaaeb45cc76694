use Rattle.std.proofs.Common.{◌+◌, ◌<◌, [], length, arith}
use Rattle.blocks.specs.Blocks.{no_step}
use Rattle.blocks.proofs.Change.{changes_same}
use Rattle.blocks.proofs.Serve.{served_next}
use Rattle.quicklist.proofs.Chains.{next_live, one_ended, more_ended}
use Rattle.quicklist.proofs.exchange.give_back_nodes.Goals as goal

pub loop-i-init : goal.loop-i-init
loop-i-init g c = record { changes = changes_same (g.B.BlockStore.blocks c.args.store.now) [] (λ r. omega arith); served = no_step }

pub give_back-requires : goal.give_back-requires
give_back-requires g c =
    next_live (g.B.BlockStore.blocks c.args.store.now) (g.B.BlockStore.blocks c.loop-i.store) c.args.nodes.now.items c.args.k c.loop-i.i c.index.result.now
    (omega (arith, c.requires.inside)) c.index.ensures c.requires.owned c.loop-i.invariant.changes

pub loop-i-preserved : goal.loop-i-preserved
loop-i-preserved g c =
    let m = g.B.BlockStore.blocks c.args.store.now in
    let mid = g.B.BlockStore.blocks c.loop-i.store in
    let n = g.B.BlockStore.blocks c.give_back.new.self in
    let nodes = c.args.nodes.now.items in
    let i = c.loop-i.i in
    let inside : c.args.k + i < length nodes = omega (arith, c.requires.inside) in
    let was = next_live m mid nodes c.args.k i c.index.result.now inside c.index.ensures c.requires.owned c.loop-i.invariant.changes in
    record {
      changes = more_ended m mid n nodes c.args.k i c.requires.owned c.loop-i.invariant.changes
          (one_ended mid n nodes (c.args.k + i) c.index.result.now inside c.index.ensures was c.give_back.ensures.ended);
      served = served_next _ _ _ c.loop-i.invariant.served c.give_back.ensures.step;
    }
