use Rattle.std.proofs.Common.{[], take, drop}
use Rattle.blocks.specs.Blocks.{Changes, Served}
use Rattle.quicklist.specs.Nodes.{refs_of}
use Rattle.quicklist.proofs.exchange.give_back_nodes.Given as goal

abbrev pub invariant-loop-i : goal.invariant-loop-i
invariant-loop-i g l = record {
  changes : Changes (g.B.BlockStore.blocks l.initial.store) (g.B.BlockStore.blocks l.store) (refs_of (take l.i (drop l.k l.nodes.items))) [];
  served : Served g.B.BlockStore.step l.initial.store l.store;
}
