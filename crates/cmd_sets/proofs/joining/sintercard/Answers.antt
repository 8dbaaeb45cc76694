use Rattle.std.proofs.Common.{sym}
use Rattle.keyspace.specs.Commands.{visible}
use Rattle.cmd_sets.proofs.Joined.{count_told, count_refused}
use Rattle.cmd_sets.proofs.joining.sintercard.Goals as goal

pub returns-then-not-are_sets : goal.returns-then-not-are_sets
returns-then-not-are_sets g c =
    record {
      gives = count_refused c.args.keyspace.now.bases.seed (visible g.B.BlockStore.blocks c.args.keyspace.now c.args.at.now) c.args.keys.now c.args.limit c.refused.result
          (sym c.if-not-are_sets.ensures) c.refused.ensures;
    }

pub returns : goal.returns
returns g c =
    record {
      gives = count_told c.args.keyspace.now.bases.seed (visible g.B.BlockStore.blocks c.args.keyspace.now c.args.at.now) c.args.keys.now c.args.limit c.in_ok-count.count
          c.count_reply.result (sym c.if-not-are_sets.ensures) c.in_ok-count.ensures c.count_reply.ensures;
    }
