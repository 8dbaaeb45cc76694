use Rattle.std.proofs.Common.{◌≡◌, map}
use Rattle.std.specs.List.{filter, range_with_len}
use Rattle.keyspace.specs.Shown.{class_slabs, has_slab}
use Rattle.cmd_keys.specs.Slabs.{class_used}
use Rattle.cmd_keys.proofs.slabs.classes_with_slabs.Given as goal

abbrev pub invariant-loop-class : goal.invariant-loop-class
invariant-loop-class g l = map class_used l.uses.items ≡ filter has_slab (map (class_slabs (g.B.BlockStore.heap l.keyspace.store)) (range_with_len 0 l.class))
