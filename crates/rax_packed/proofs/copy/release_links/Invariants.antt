use Rattle.std.proofs.Common.{suc, take, []}
use Rattle.blocks.specs.Blocks.{Changes, Served}
use Rattle.rax_packed.specs.Trees.{node_at}
use Rattle.rax_packed.specs.Ways.{links_in}
use Rattle.rax_packed.proofs.Frames.{refs_below}
use Rattle.rax_packed.proofs.copy.release_links.Given as goal

abbrev pub invariant-loop-place : goal.invariant-loop-place
invariant-loop-place g l = record {
  changes : Changes (g.B.BlockStore.blocks l.initial.store) (g.B.BlockStore.blocks l.store)
      (refs_below (suc l.below) (g.B.BlockStore.blocks l.initial.store) (take l.place (take l.count (links_in (node_at (g.B.BlockStore.blocks l.initial.store) l.at))))) [];
  served : Served g.B.BlockStore.step l.initial.store l.store;
}
