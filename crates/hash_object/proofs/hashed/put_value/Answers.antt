use Rattle.hash_object.proofs.Tables.{value_live}
use Rattle.hash_object.proofs.hashed.put_value.Goals as goal

pub bytes-requires : goal.bytes-requires
bytes-requires g c = value_live (g.B.BlockStore.blocks c.args.store.now) c.args.table.now c.args.at
    (record { key = c.entry.result.0; hash = c.entry.ensures.hash; value = c.entry.result.1.now }) c.requires.owned c.entry.ensures.found
