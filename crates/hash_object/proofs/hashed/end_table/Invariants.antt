use Rattle.blocks.specs.Blocks.{Changes, Served}
use Rattle.hash_object.specs.Hashed.{blocks_of}
use Rattle.collection_walk.proofs.Ending.{refs_from}
use Rattle.hash_object.proofs.Tables.{value_block}
use Rattle.hash_object.proofs.hashed.end_table.Given as goal

abbrev pub invariant-loop-at : goal.invariant-loop-at
invariant-loop-at g l = record {
  changes : Changes (g.B.BlockStore.blocks l.initial.store) (g.B.BlockStore.blocks l.store) (blocks_of l.fn.table) (refs_from value_block l.fn.table l.at);
  served : Served g.B.BlockStore.step l.initial.store l.store;
}
