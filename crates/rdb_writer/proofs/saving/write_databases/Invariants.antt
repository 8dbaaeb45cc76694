use Rattle.std.proofs.Common.{◌≡◌, ℕ, ◌-◌, ◌^◌, min, List}
use Rattle.rdb_parts.specs.Pens.{Adds}
use Rattle.rdb_writer.specs.Saving.{saved, keys_below, Saves}
use Rattle.rdb_writer.proofs.saving.write_databases.Given as goal

abbrev pub invariant-loop-db : goal.invariant-loop-db
invariant-loop-db g l =
    let m = g.B.BlockStore.blocks l.keyspace.store in
    record {
      word : List ℕ;
      so_far : Adds (g.F.Shelf.seen l.fn.shelf) (g.F.Shelf.seen l.shelf) l.fn.pen l.pen word;
      saves : Saves l.keyspace.bases m l.moment 0 0 0 l.db 0 0 word;
      keys : l.total ≡ min (keys_below l.db (saved l.keyspace.bases m l.moment).bases) (2 ^ 64 - 1);
    }
