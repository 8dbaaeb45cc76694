use Rattle.std.proofs.Common.{◌∙◌}
use Rattle.cmd_hashes.specs.Found.{fields_in}
use Rattle.cmd_hashes.proofs.Looking.{values_parts, values_reply}
use Rattle.cmd_hashes.proofs.reading.values_reply.Goals as goal

pub into_reply-requires : goal.into_reply-requires
into_reply-requires g c = values_reply (fields_in (g.B.BlockStore.blocks c.args.store.now) c.args.hash) c.args.names.now _ _ _ c.new-parts.ensures c.in_ok-push.ensures.ok c.in_ok-push_values.ensures

pub returns : goal.returns
returns g c = c.into_reply.ensures ∙ values_parts (fields_in (g.B.BlockStore.blocks c.args.store.now) c.args.hash) c.args.names.now _ _ _ c.new-parts.ensures c.in_ok-push.ensures.ok
    c.in_ok-push_values.ensures
