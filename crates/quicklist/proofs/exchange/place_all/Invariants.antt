use Rattle.std.proofs.Common.{◌+◌, ◌≤◌, length, take, deque_len, deque_capacity}
use Rattle.blocks.specs.Blocks.{Served}
use Rattle.quicklist.specs.Nodes.{Inserted}
use Rattle.quicklist.proofs.exchange.place_all.Given as goal

abbrev pub invariant-loop-i : goal.invariant-loop-i
invariant-loop-i g l = record {
  inserted : Inserted (g.B.BlockStore.blocks l.initial.store) (g.B.BlockStore.blocks l.store) l.initial.nodes.items l.nodes.items l.k (take l.i l.pieces);
  room : deque_len l.nodes + length l.pieces ≤ deque_capacity l.nodes + l.i;
  served : Served g.B.BlockStore.step l.initial.store l.store;
}
