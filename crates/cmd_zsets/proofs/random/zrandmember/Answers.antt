use Rattle.keyspace.specs.Commands.{visible}
use Rattle.cmd_zsets.proofs.Picking.{none_random, zset_random, other_random}
use Rattle.cmd_zsets.proofs.random.zrandmember.Goals as goal

pub random_reply-requires : goal.random_reply-requires
random_reply-requires g c = record { sound = c.new-none.ensures.sound _ }

pub returns-in-Missing : goal.returns-in-Missing
returns-in-Missing g c =
    let m = g.B.BlockStore.blocks c.args.keyspace.now.store in
    record {
      gives = none_random c.args.keyspace.now.bases.seed c.args.n c.args.with_scores (visible g.B.BlockStore.blocks c.args.keyspace.now c.args.at.now) c.args.key.now _
          c.random_reply.result (rw c.in-Missing.is at c.zset_at.ensures) (c.new-none.ensures.empty m) c.random_reply.ensures;
    }

pub returns-in-Other : goal.returns-in-Other
returns-in-Other g c =
    record {
      gives = other_random c.args.keyspace.now.bases.seed c.args.n c.args.with_scores (visible g.B.BlockStore.blocks c.args.keyspace.now c.args.at.now) c.args.key.now c.refused.result
          c.in-Other.ensures c.refused.ensures;
    }

pub returns-in-There : goal.returns-in-There
returns-in-There g c =
    let m = g.B.BlockStore.blocks c.args.keyspace.now.store in
    record {
      gives = zset_random c.args.keyspace.now.bases.seed c.args.n c.args.with_scores (visible g.B.BlockStore.blocks c.args.keyspace.now c.args.at.now) m c.args.key.now _
          c.random_reply-in-There.result c.in-There.ensures c.random_reply-in-There.ensures;
    }
