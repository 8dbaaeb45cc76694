use Rattle.keyspace.specs.Commands.{visible}
use Rattle.cmd_sets.proofs.Listed.{none_listed, set_listed, other_refused}
use Rattle.cmd_sets.proofs.listing.smembers.Goals as goal

pub members_reply-requires : goal.members_reply-requires
members_reply-requires g c = record { sound = c.new-none.ensures.sound _ }

pub returns-in-Missing : goal.returns-in-Missing
returns-in-Missing g c =
    let m = g.B.BlockStore.blocks c.args.keyspace.now.store in
    record {
      gives = none_listed c.args.keyspace.now.bases.seed (visible g.B.BlockStore.blocks c.args.keyspace.now c.args.at.now) c.args.key.now _ c.members_reply.result
          (rw c.in-Missing.is at c.set_at.ensures) (c.new-none.ensures.empty m) c.members_reply.ensures;
    }

pub returns-in-Other : goal.returns-in-Other
returns-in-Other g c =
    record {
      gives = other_refused c.args.keyspace.now.bases.seed (visible g.B.BlockStore.blocks c.args.keyspace.now c.args.at.now) c.args.key.now c.refused.result c.in-Other.ensures
          c.refused.ensures;
    }

pub returns-in-There : goal.returns-in-There
returns-in-There g c =
    let m = g.B.BlockStore.blocks c.args.keyspace.now.store in
    record {
      gives = set_listed c.args.keyspace.now.bases.seed (visible g.B.BlockStore.blocks c.args.keyspace.now c.args.at.now) m c.args.key.now _ c.members_reply-in-There.result
          c.in-There.ensures c.members_reply-in-There.ensures;
    }
