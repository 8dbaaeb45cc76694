use Rattle.std.proofs.Common.{◌-◌, ◌≡◌, ◌≤◌}
use Rattle.blocks.specs.Blocks.{Served}
use Rattle.pack_block.proofs.Copying.{HasPart}
use Rattle.pack_block.proofs.part.copy_part.Given as goal

abbrev pub invariant-loop-done : goal.invariant-loop-done
invariant-loop-done g l = record {
  in_range : l.done ≤ l.count;
  copied : HasPart (g.B.BlockStore.blocks l.initial.store) (g.B.BlockStore.blocks l.store) l.source l.start l.target l.to l.done;
  slabs : g.B.BlockStore.heap l.store ≡ g.B.BlockStore.heap l.initial.store;
  served : Served g.B.BlockStore.step l.initial.store l.store;
}

abbrev pub decreases-loop-done : goal.decreases-loop-done
decreases-loop-done g l = l.count - l.done
