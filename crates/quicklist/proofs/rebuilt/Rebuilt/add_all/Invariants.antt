use Rattle.std.proofs.Common.{◌≡◌, length, take}
use Rattle.blocks.specs.Blocks.{Served}
use Rattle.quicklist.specs.Nodes.{elements_of}
use Rattle.quicklist.specs.Equal.{IsRebuilt, HasRoom, cleared}
use Rattle.quicklist.proofs.rebuilt.Rebuilt.add_all.Given as goal

abbrev pub invariant-loop-k : goal.invariant-loop-k
invariant-loop-k g l = record {
  rebuilt : IsRebuilt (g.B.BlockStore.blocks l.initial.store) (g.B.BlockStore.blocks l.store) (take l.k l.nodes.items)
      (cleared l.reach 0 (elements_of (g.B.BlockStore.blocks l.initial.store) (take l.k l.nodes.items))) l.self;
  room : HasRoom l.self l.k (length l.nodes.items);
  start : l.start ≡ length (elements_of (g.B.BlockStore.blocks l.initial.store) (take l.k l.nodes.items));
  served : Served g.B.BlockStore.step l.initial.store l.store;
}
