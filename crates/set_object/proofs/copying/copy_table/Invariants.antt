use Rattle.blocks.specs.Blocks.{Served}
use Rattle.set_object.specs.Strings.{set_of}
use Rattle.set_object.specs.Hashed.{IsHashed, no_members}
use Rattle.set_object.proofs.Copies.{keys_before}
use Rattle.set_object.proofs.copying.copy_table.Given as goal

abbrev pub invariant-loop-at : goal.invariant-loop-at
invariant-loop-at g l = record {
  hashed : IsHashed (g.B.BlockStore.blocks l.initial.store) (g.B.BlockStore.blocks l.store) (no_members l.fn.seed) l.table (set_of (keys_before (g.B.BlockStore.blocks l.initial.store) l.source l.at));
  served : Served g.B.BlockStore.step l.initial.store l.store;
}
