use Rattle.std.proofs.Common.{sym, ◌∙◌}
use Rattle.rehash_dict.specs.MapOf.{map_of}
use Rattle.rehash_dict.proofs.MapOf.{len_map_of}
use Rattle.expiry.specs.Timed.{moments}
use Rattle.held.specs.Databases.{table_at, deadlines_at}
use Rattle.held.proofs.Maps.{len_with}
use Rattle.held.proofs.keyspace.Keyspace.count.Goals as goal

pub returns : goal.returns
returns g c =
    let m = g.B.BlockStore.blocks c.args.self.now.store in
    let keys = table_at c.args.self.now.bases c.args.db in
    c.len.ensures ∙ sym (len_map_of m (g.V.Stored.value_of m) keys (c.requires.intact.arranged.keyed c.args.db))
    ∙ sym (len_with (moments m (deadlines_at c.args.self.now.bases c.args.db)) (map_of m (g.V.Stored.value_of m) keys))
