use Rattle.std.proofs.Common.{sym}
use Rattle.set_object.specs.Strings.{set_of}
use Rattle.keyspace.specs.Commands.{visible}
use Rattle.cmd_sets.proofs.Gathered.{if_as}
use Rattle.cmd_sets.proofs.Joined.{join_told, join_refused}
use Rattle.cmd_sets.proofs.Listed.{lists_set}
use Rattle.cmd_sets.proofs.joining.sjoin.Goals as goal

pub returns-then-not-are_sets : goal.returns-then-not-are_sets
returns-then-not-are_sets g c =
    record {
      gives = join_refused c.args.keyspace.now.bases.seed (visible g.B.BlockStore.blocks c.args.keyspace.now c.args.at.now) c.args.how c.args.keys.now c.refused.result
          (sym c.if-not-are_sets.ensures) c.refused.ensures;
    }

pub returns : goal.returns
returns g c =
    let names = c.in_ok-names.names.items in
    record {
      gives = join_told c.args.keyspace.now.bases.seed (visible g.B.BlockStore.blocks c.args.keyspace.now c.args.at.now) c.args.how c.args.keys.now (set_of names) c.names_reply.result
          (sym c.if-not-are_sets.ensures) c.in_ok-names.ensures.join
          (if_as c.names_reply.result (λ reply is. (names, lists_set names c.in_ok-names.ensures.once, is)) c.names_reply.ensures);
    }
