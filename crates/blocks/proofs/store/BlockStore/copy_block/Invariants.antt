use Rattle.std.proofs.Common.{◌≡◌, ◌-◌, ◌≤◌, Some, take}
use Rattle.blocks.specs.Blocks.{with_block, overwritten, bytes_at, Served}
use Rattle.blocks.proofs.store.BlockStore.copy_block.Given as goal

abbrev pub invariant-loop-done : goal.invariant-loop-done
invariant-loop-done g l = record {
  in_range : l.done ≤ l.len;
  copied : g.Self.BlockStore.blocks l.self ≡ with_block (g.Self.BlockStore.blocks l.initial.self) l.to
      (Some (overwritten (bytes_at (g.Self.BlockStore.blocks l.initial.self) l.to) 0 (take l.done (bytes_at (g.Self.BlockStore.blocks l.initial.self) l.from))));
  slabs : g.Self.BlockStore.heap l.self ≡ g.Self.BlockStore.heap l.initial.self;
  served : Served g.Self.BlockStore.step l.initial.self l.self;
}

abbrev pub decreases-loop-done : goal.decreases-loop-done
decreases-loop-done g l = l.len - l.done
