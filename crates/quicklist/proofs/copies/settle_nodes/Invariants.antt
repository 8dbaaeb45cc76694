use Rattle.std.proofs.Common.{◌≡◌, ◌<◌, ◌≤◌, ℕ, false}
use Rattle.blocks.specs.Slabs.{wants, Calmer}
use Rattle.quicklist.specs.Nodes.{node_at}
use Rattle.quicklist.specs.Chain.{IsSettled, IsOutside}
use Rattle.quicklist.proofs.copies.settle_nodes.Given as goal

abbrev pub invariant-loop-k : goal.invariant-loop-k
invariant-loop-k g l = record {
  settled : IsSettled (g.B.BlockStore.blocks l.initial.store) (g.B.BlockStore.blocks l.store) l.initial.nodes.items l.nodes.items (IsOutside l.start l.k);
  calm : (i : ℕ) → l.start ≤ i → i < l.k → wants (g.B.BlockStore.heap l.store) (node_at l.nodes.items i).at ≡ false;
  calmer : Calmer (g.B.BlockStore.heap l.initial.store) (g.B.BlockStore.heap l.store);
}
