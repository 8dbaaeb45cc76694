use Rattle.std.specs.Prelude.{[]}
use Rattle.blocks.specs.Blocks.{Changes, Served}
use Rattle.rehash_dict.specs.MapOf.{key_refs}
use Rattle.collection_walk.proofs.Ending.{refs_from}
use Rattle.collection_walk.proofs.items.end_table.Given as goal

abbrev pub invariant-loop-at : goal.invariant-loop-at
invariant-loop-at g l = record {
  changes : Changes (g.B.BlockStore.blocks l.initial.store) (g.B.BlockStore.blocks l.store) (key_refs l.fn.table) (refs_from (λ _. []) l.fn.table l.at);
  served : Served g.B.BlockStore.step l.initial.store l.store;
}
