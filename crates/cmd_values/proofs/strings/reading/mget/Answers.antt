use Rattle.keyspace.specs.Commands.{seen}
use Rattle.cmd_values.proofs.StringLemmas.{values_reply}
use Rattle.cmd_values.proofs.strings.reading.mget.Goals as goal

pub into_reply-requires : goal.into_reply-requires
into_reply-requires g c = values_reply (seen c.args.at.now c.args.keyspace.now.bases (g.B.BlockStore.blocks c.args.keyspace.now.store)) c.args.keys.now _ _ _ c.new-parts.ensures
    c.in_ok-push.ensures.ok c.in_ok-push_values.ensures
