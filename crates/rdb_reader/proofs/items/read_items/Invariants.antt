use Rattle.std.proofs.Common.{◌-◌, length}
use Rattle.blocks.specs.Blocks.{Served}
use Rattle.keyspace.specs.Databases.{means, SameSettings}
use Rattle.keyspace.specs.Sound.{Sound}
use Rattle.keyspace.specs.Scopes.{Within}
use Rattle.rdb_reader.specs.Forms.{AreNew}
use Rattle.rdb_reader.specs.Loads.{Holds, any_key}
use Rattle.rdb_reader.proofs.items.read_items.Given as goal

abbrev pub invariant-items : goal.invariant-items
invariant-items g l =
    let blocks = g.B.BlockStore.blocks in
    record {
      holds : Holds l.bytes l.moment (means 0 l.keyspace.bases (blocks l.keyspace.store)) l.so_far;
      sound : Sound l.keyspace.bases (blocks l.keyspace.store);
      served : Served g.B.BlockStore.step l.fn.keyspace.store l.keyspace.store;
      settings : SameSettings l.fn.keyspace.bases l.keyspace.bases;
      within : Within any_key l.fn.keyspace.bases l.keyspace.bases (blocks l.fn.keyspace.store) (blocks l.keyspace.store);
      form : AreNew l.keyspace.bases (blocks l.keyspace.store);
    }

abbrev pub decreases-items : goal.decreases-items
decreases-items g l = length l.bytes - l.so_far.at
