use Rattle.std.proofs.Common.{take}
use Rattle.std.specs.List.{flat_map}
use Rattle.stream_node.specs.Written.{Extends, pair_texts}
use Rattle.stream_node.proofs.put.put_pairs.Given as goal

abbrev pub invariant-loop-index : goal.invariant-loop-index
invariant-loop-index l = Extends l.initial.pack.items l.pack.items (flat_map (pair_texts l.same) (take l.index l.pairs))
