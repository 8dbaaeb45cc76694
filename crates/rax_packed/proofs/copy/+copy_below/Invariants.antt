use Rattle.std.proofs.Common.{None}
use Rattle.blocks.specs.Blocks.{Served, with_block}
use Rattle.rax_packed.specs.Trees.{node_at}
use Rattle.rax_packed.proofs.Copyings.{Copying}
use Rattle.rax_packed.proofs.copy.+copy_below.Given as goal

abbrev pub decreases-copy_below : goal.decreases-copy_below
decreases-copy_below g l = l.rest

-- without the copy's node the blocks are those before it was placed
abbrev pub invariant-loop-place : goal.invariant-loop-place
invariant-loop-place g l = record {
  copying : Copying l.below l.rest (node_at (with_block (g.B.BlockStore.blocks l.initial.store) l.new None) l.at) (with_block (g.B.BlockStore.blocks l.initial.store) l.new None)
      (g.B.BlockStore.blocks l.store) l.new l.place;
  served : Served g.B.BlockStore.step l.initial.store l.store;
}
