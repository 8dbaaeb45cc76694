use Rattle.keyspace.specs.Commands.{visible}
use Rattle.cmd_sets.proofs.Looking.{none_counted}
use Rattle.cmd_sets.proofs.reading.scard.Goals as goal

pub returns-in-Missing : goal.returns-in-Missing
returns-in-Missing g c = record {
  gives = none_counted (visible g.B.BlockStore.blocks c.args.keyspace.now c.args.at.now) c.args.key.now c.count_reply.result (rw c.in-Missing.is at c.set_at.ensures)
      c.count_reply.ensures;
}
