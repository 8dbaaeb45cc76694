use Rattle.blocks.specs.Blocks.{Served}
use Rattle.keyspace.specs.Databases.{SameSettings}
use Rattle.keyspace.specs.Sound.{Sound}
use Rattle.cmd_keys.proofs.Emptying.{AreEmptyBelow}
use Rattle.keyspace.specs.Scopes.{everything, Within}
use Rattle.cmd_keys.proofs.connection.clear_all.Given as goal

abbrev pub invariant-loop-db : goal.invariant-loop-db
invariant-loop-db g l =
    let blocks = g.B.BlockStore.blocks in
    record {
      empty : AreEmptyBelow l.keyspace.bases (blocks l.keyspace.store) l.db;
      sound : Sound l.keyspace.bases (blocks l.keyspace.store);
      served : Served g.B.BlockStore.step l.fn.keyspace.store l.keyspace.store;
      within : Within everything l.fn.keyspace.bases l.keyspace.bases (blocks l.fn.keyspace.store) (blocks l.keyspace.store);
      settings : SameSettings l.fn.keyspace.bases l.keyspace.bases;
    }
