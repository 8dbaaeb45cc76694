use Rattle.std.proofs.Common.{◌≤◌, length, map, take, deque_capacity}
use Rattle.blocks.specs.Blocks.{Served}
use Rattle.quicklist.specs.Nodes.{Placed}
use Rattle.quicklist.proofs.Moving.{piece_for}
use Rattle.quicklist.proofs.copies.copy_nodes.Given as goal

abbrev pub invariant-loop-k : goal.invariant-loop-k
invariant-loop-k g l = record {
  placed : Placed (g.B.BlockStore.blocks l.initial.store) (g.B.BlockStore.blocks l.store) (map (piece_for (g.B.BlockStore.blocks l.initial.store)) (take l.k l.nodes.items)) l.copy.items;
  room : length l.nodes.items ≤ deque_capacity l.copy;
  served : Served g.B.BlockStore.step l.initial.store l.store;
}
