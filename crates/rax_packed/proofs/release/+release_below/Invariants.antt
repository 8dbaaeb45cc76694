use Rattle.std.proofs.Common.{take, []}
use Rattle.blocks.specs.Blocks.{Changes, Served}
use Rattle.rax_packed.specs.Trees.{node_at}
use Rattle.rax_packed.specs.Ways.{links_in}
use Rattle.rax_packed.proofs.Frames.{refs_below}
use Rattle.rax_packed.proofs.release.+release_below.Given as goal

abbrev pub decreases-release_below : goal.decreases-release_below
decreases-release_below g l = l.rest

abbrev pub invariant-loop-place : goal.invariant-loop-place
invariant-loop-place g l = record {
  changes : Changes (g.B.BlockStore.blocks l.initial.store) (g.B.BlockStore.blocks l.store)
      (refs_below l.rest (g.B.BlockStore.blocks l.initial.store) (take l.place (links_in (node_at (g.B.BlockStore.blocks l.initial.store) l.at)))) [];
  served : Served g.B.BlockStore.step l.initial.store l.store;
}
