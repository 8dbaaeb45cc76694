use Rattle.keyspace.specs.Commands.{visible}
use Rattle.cmd_sets.proofs.Looking.{none_has}
use Rattle.cmd_sets.proofs.reading.sismember.Goals as goal

pub returns-in-Missing : goal.returns-in-Missing
returns-in-Missing g c = record {
  gives = none_has (visible g.B.BlockStore.blocks c.args.keyspace.now c.args.at.now) c.args.key.now c.args.member.now c.number.result (rw c.in-Missing.is at c.set_at.ensures)
      c.number.ensures;
}
