use Rattle.std.specs.FinMap.{len}
use Rattle.zset_object.specs.Scored.{scores, tables}
use Rattle.keyspace.proofs.Settles.{never_fewer}
use Rattle.cmd_zsets.proofs.storing.FillZsetEdit.edit_zset.Goals as goal

pub returns-clause-settled : goal.returns-clause-settled
returns-clause-settled g c =
    let m = g.B.BlockStore.blocks c.args.store.now in
    let after = g.B.BlockStore.blocks c.fill_zset.new.store in
    never_fewer c.fill_zset.result (len (scores m c.args.zset.now)) (len (scores after c.fill_zset.new.zset)) (tables after c.fill_zset.new.zset) c.fill_zset.ensures.more
