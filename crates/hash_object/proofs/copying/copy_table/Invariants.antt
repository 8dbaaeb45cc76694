use Rattle.blocks.specs.Blocks.{Served}
use Rattle.pack_pairs.specs.Pairs.{map_of_pairs}
use Rattle.hash_object.specs.Hashed.{IsHashed, no_fields}
use Rattle.hash_object.proofs.Copies.{pairs_before}
use Rattle.hash_object.proofs.copying.copy_table.Given as goal

abbrev pub invariant-loop-at : goal.invariant-loop-at
invariant-loop-at g l = record {
  hashed : IsHashed (g.B.BlockStore.blocks l.initial.store) (g.B.BlockStore.blocks l.store) (no_fields l.fn.seed) l.table
      (map_of_pairs (pairs_before (g.B.BlockStore.blocks l.initial.store) l.source l.at));
  served : Served g.B.BlockStore.step l.initial.store l.store;
}
