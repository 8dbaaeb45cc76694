use Rattle.keyspace.specs.Commands.{visible}
use Rattle.cmd_hashes.proofs.Listed.{none_told, hash_told, other_told}
use Rattle.cmd_hashes.proofs.listing.tell_fields.Goals as goal

pub fields_reply-requires : goal.fields_reply-requires
fields_reply-requires g c = record { sound = c.new-none.ensures.sound _ }

pub returns-in-Missing : goal.returns-in-Missing
returns-in-Missing g c =
    none_told c.args.told (visible g.B.BlockStore.blocks c.args.keyspace.now c.args.at.now) c.args.key.now _ c.fields_reply.result (rw c.in-Missing.is at c.hash_at.ensures)
    (c.new-none.ensures.empty (g.B.BlockStore.blocks c.args.keyspace.now.store)) c.fields_reply.ensures

pub returns-in-Other : goal.returns-in-Other
returns-in-Other g c = other_told c.args.told (visible g.B.BlockStore.blocks c.args.keyspace.now c.args.at.now) c.args.key.now c.refused.result c.in-Other.ensures c.refused.ensures

pub returns-in-There : goal.returns-in-There
returns-in-There g c =
    hash_told c.args.told (visible g.B.BlockStore.blocks c.args.keyspace.now c.args.at.now) (g.B.BlockStore.blocks c.args.keyspace.now.store) c.args.key.now _ c.fields_reply-in-There.result
    c.in-There.ensures c.fields_reply-in-There.ensures
